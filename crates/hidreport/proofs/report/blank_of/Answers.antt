use Rattle.std.proofs.Common.{◌≡◌, length, drop, subst, sym, rules}
use Rattle.std.proofs.lemmas.List.{take_at}
use Rattle.hidreport_items.specs.Spelling.{AreBytes}
use Rattle.hidreport.proofs.report.blank_of.Goals as goal

pub returns-clause-bytes : goal.returns-clause-bytes
returns-clause-bytes c =
    let new = c.put_id.new.bytes in
    let size : length new ≡ c.in_ok-bytes.bytes.len = search rules in
    subst (λ l. AreBytes l)
    (sym (take_at new (drop (length new) c.in_ok-bytes.bytes.items) c.in_ok-bytes.bytes.len size))
    c.put_id.ensures.bytes
