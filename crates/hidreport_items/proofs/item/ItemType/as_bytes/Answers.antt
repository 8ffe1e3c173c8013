use Rattle.std.proofs.Common.{subst}
use Rattle.hidreport_items.specs.Answer.{Writes}
use Rattle.hidreport_items.proofs.CanonicalLemmas.{writes-canonical, writes-read_back}
use Rattle.hidreport_items.proofs.item.ItemType.as_bytes.Goals as goal

pub returns-clause-canonical : goal.returns-clause-canonical
returns-clause-canonical c = writes-canonical c.to_vec.result c.args.self.now
    (subst (λ bytes. Writes c.to_vec.result bytes) c.write_item.ensures c.to_vec.ensures)

pub returns-clause-read_back : goal.returns-clause-read_back
returns-clause-read_back c = writes-read_back c.to_vec.result c.args.self.now
    (subst (λ bytes. Writes c.to_vec.result bytes) c.write_item.ensures c.to_vec.ensures)
