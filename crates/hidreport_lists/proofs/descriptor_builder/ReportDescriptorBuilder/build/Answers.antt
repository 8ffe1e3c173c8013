use Rattle.std.proofs.Common.{◌≡◌, flat_map, subst}
use Rattle.hidreport_items.specs.Answer.{Writes}
use Rattle.hidreport_items.specs.Writing.{item_bytes}
use Rattle.hidreport_lists.proofs.BuiltLemmas.{writes-items}
use Rattle.hidreport_lists.proofs.descriptor_builder.ReportDescriptorBuilder.build.Goals as goal

pub returns-clause-items : goal.returns-clause-items
returns-clause-items g c =
    let same : c.deref-2.result.now ≡ c.args.self.now = cc (c.deref-2.ensures.value, c.self.view_is) in
    writes-items c.joined_bytes.result c.args.self.now
    (subst (λ l. Writes c.joined_bytes.result (flat_map item_bytes l)) same c.joined_bytes.ensures)
