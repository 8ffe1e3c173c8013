use Rattle.std.proofs.Common.{◌≢◌, ◌∙◌, length, ap, arith, sym}
use Rattle.hidreport.specs.Laws.{parse_any}
use Rattle.hidreport_example.proofs.LawLemmas.{of-any-length, read-again}
use Rattle.hidreport_example.proofs.laws.read_again.Goals as goal

pub returns : goal.returns
returns c =
    let long : length c.in_ok-rebuilt.rebuilt.items ≢ 0 = λ none.
    grind (arith, none, c.is_empty.ensures, c.if-is_empty.false) in
    read-again c.args.options c.args.bytes.now c.in_ok-rebuilt.rebuilt.items
    c.in_ok-first.first c.in_ok-again.again c.in_ok-first.ensures.kept c.in_ok-first.ensures.rebuilt
    c.in_ok-rebuilt.ensures long (of-any-length _ _ _ c.in_ok-first.ensures.exact)
    (ap (parse_any c.args.options) (sym c.deref.ensures.value)
    ∙ of-any-length _ _ _ c.in_ok-again.ensures.exact)
