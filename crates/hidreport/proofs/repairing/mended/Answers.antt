use Rattle.std.proofs.Common.{◌≡◌, ◌∙◌, Err, Ok, ap, arith, refl, rules, subst, sym}
use Rattle.std.proofs.lemmas.Bool.{not-true}
use Rattle.hidreport_lists.proofs.CutLemmas.{are_bytes}
use Rattle.hidreport.specs.Options.{parse_as}
use Rattle.hidreport_lists.specs.Answer.{AnswersBy}
use Rattle.hidreport.specs.Repair.{repaired, repaired_view}
use Rattle.hidreport.proofs.MendLemmas.{read-mended, refused-mended}
use Rattle.hidreport.proofs.UntouchedLemmas.{untouched-ok}
use Rattle.hidreport.proofs.repairing.mended.Goals as goal

pub returns-then-is_read : goal.returns-then-is_read
returns-then-is_read c =
    untouched-ok c.args.options c.args.bytes.now
    (parse_as c.args.options.parse c.args.bytes.now)
    (are_bytes c.args.bytes.now (λ i. omega (arith, c.type_inv.bytes i)))
    (not-true c.args.options.unsigned_maxima c.if-not-options.true) refl
    (c.is_read.ensures c.if-is_read.true)
    ∙ ap Ok (sym c.in_ok-unchanged.ensures)

pub returns-in_err-try_from_with : goal.returns-in_err-try_from_with
returns-in_err-try_from_with c =
    let m = repaired_view c.in_ok-repaired.repaired in
    let same : c.as_slice.result.now ≡ m.bytes = search rules in
    let is : c.from_residual-in_err-try_from_with.result ≡ Err c.in_err-try_from_with.field-0.0 =
    search rules in
    subst (λ r. AnswersBy repaired_view r (repaired c.args.options c.args.bytes.now)) (sym is)
    (refused-mended c.args.options c.args.bytes.now c.as_slice.result.now m
    c.in_err-try_from_with.field-0.0 c.in_ok-repaired.ensures same
    c.in_err-try_from_with.ensures.listed)

pub returns : goal.returns
returns c =
    let m = repaired_view c.in_ok-repaired.repaired in
    let same : c.as_slice.result.now ≡ m.bytes = search rules in
    read-mended c.args.options c.args.bytes.now c.as_slice.result.now m _
    c.in_ok-repaired.ensures same c.in_ok-try_from_with.ensures.listed
