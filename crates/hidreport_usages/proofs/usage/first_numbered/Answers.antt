use Rattle.std.proofs.Common.{sym, ap₂, subst, ◌∙◌}
use Rattle.std.specs.Option.{option_or}
use Rattle.hidreport_usages.specs.Names.{numbered_text}
use Rattle.hidreport_usages.specs.Rows.{IsFirstNamed}
use Rattle.hidreport_usages.proofs.FirstLemmas.{first_of_pages}
use Rattle.hidreport_usages.proofs.usage.first_numbered.Goals as goal

-- the pages are asked in their order
pub returns : goal.returns
returns c =
    let two = c.or.ensures ∙ ap₂ option_or c.on_page-button.ensures c.on_page-instance.ensures in
    let three = c.or-2.ensures ∙ ap₂ option_or two c.on_page-code_unit.ensures in
    let four = c.or-3.ensures ∙ ap₂ option_or three c.on_page-enumerated.ensures in
    let five = c.or-4.ensures ∙ ap₂ option_or four c.on_page-vendor.ensures in
    subst (IsFirstNamed numbered_text c.args.name.now 0) (sym five)
    (first_of_pages c.args.name.now c.numbered_id.result c.numbered_id-2.result c.numbered_id-3.result c.numbered_id-4.result c.numbered_id-5.result
    c.numbered_id.ensures c.numbered_id-2.ensures c.numbered_id-3.ensures c.numbered_id-4.ensures c.numbered_id-5.ensures)
