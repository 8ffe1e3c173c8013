use Rattle.std.proofs.Common.{sym, ap, ◌∙◌, arith}
use Rattle.std.specs.Prelude.{decimal}
use Rattle.std.proofs.lemmas.Fmt.{parse-decimal}
use Rattle.std.proofs.lemmas.Slice.Eq.{bytes_eq-Decides}
use mathlib.Core.Bool.{false≢true}
use Rattle.hidreport_usages.proofs.FamilyLemmas.{not_both, same_ok}
use Rattle.hidreport_usages.proofs.family.number_of_decimal.Goals as goal

-- the digits of a number can be read
pub returns-in_default : goal.returns-in_default
returns-in_default c n inside e =
    not_both c.parse.result n c.in_default.field-0 (parse-decimal 16 n c.args.digits.now c.parse.result inside (omega arith) (sym e) c.parse.ensures.value.0) c.in_default.is

-- and are what it writes
pub returns-else-eq : goal.returns-else-eq
returns-else-eq c n inside e =
    let read = parse-decimal 16 n c.args.digits.now c.parse.result inside (omega arith) (sym e) c.parse.ensures.value.0 in
    let same = same_ok c.parse.result c.in-Ok.number n c.in-Ok.is read in
    let text = c.format.ensures.text ∙ ap decimal same ∙ e in
    false≢true (sym c.if-eq.false ∙ c.eq.ensures ∙ (bytes_eq-Decides c.format.result.now c.args.digits.now).1 text)
