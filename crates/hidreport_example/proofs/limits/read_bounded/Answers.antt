use Rattle.std.proofs.Common.{◌≡◌, ◌∙◌, true, cond, nat_lt, None, Some, ap, arith}
use Rattle.std.proofs.Common.{length, subst}
use Rattle.std.proofs.lemmas.Bool.Decides.{nat_tests}
use Rattle.hidreport.specs.Answer.{Answers}
use Rattle.hidreport.specs.Options.{parse_limited, past_longest, reading_of, unless_too_long}
use Rattle.hidreport.specs.declared.parse_options.ParseOptions.{ParseOptions}
use Rattle.hidreport_example.proofs.limits.read_bounded.Goals as goal

pub returns-clause-long : goal.returns-clause-long
returns-clause-long c = λ more.
    let options = c.bounded.result in
    let bytes = c.args.bytes.now in
    let past : nat_lt 65536 (length bytes) ≡ true = grind (arith, nat_tests, more) in
    let longest : options.longest ≡ Some 65536 =
    ap (λ (o : ParseOptions). o.longest) c.bounded.ensures in
    subst (λ answer. Answers c.try_from_with.result answer)
    (ap (λ l. unless_too_long (past_longest l (length bytes))
    (parse_limited (reading_of options) options.limit bytes)) longest
    ∙ ap (λ b. unless_too_long (cond b (Some 65536) None)
    (parse_limited (reading_of options) options.limit bytes)) past)
    c.try_from_with.ensures.exact
