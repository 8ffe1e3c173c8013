use Rattle.std.proofs.Common.{◌≡◌, ◌<◌, ◌-◌, ◌^◌, ◌&&◌, ℕ, zero, suc, Bool, true, false, cond}
use Rattle.std.proofs.Common.{length, Result, Ok, Err, IsOk, refl, ap, ◌∙◌, arith, pow_pos}
use Rattle.std.specs.Prelude.{pos, replicate}
use Rattle.std.specs.List.{list_all}
use Rattle.std.proofs.lemmas.Bool.Decides.{nat_tests}
use Rattle.hidreport.specs.Answer.{Refusal}
use Rattle.hidreport.specs.WritingValues.{fits, has_sign, value_count, value_width, where_read}
use Rattle.hidreport_fields.specs.declared.field.insert_error.InsertError.{InsertError}
use Rattle.hidreport_definitions.proofs.working.what_takes_values_is_read.Goals as goal

is-read : {A B : Type 0} (r : Result A Refusal) (answer : Result B InsertError)
    → IsOk (where_read r answer) → IsOk r
is-read (Ok x) answer ok = refl
is-read (Err refusal) answer ok = cc

then : {A E : Type 0} (c : Bool) (x : Result A E) (e : E) → IsOk (cond c x (Err e)) → IsOk x
then true x e ok = ok
then false x e ok = cc

zero-fits : (width : ℕ) (sign : Bool) → fits width sign (pos 0) ≡ true
zero-fits width false = let p : 0 < 2 ^ width = pow_pos width in grind (arith, nat_tests)
zero-fits width true = let p : 0 < 2 ^ (width - 1) = pow_pos (width - 1) in grind (arith, nat_tests)

zeros-fit : (width : ℕ) (sign : Bool) (count : ℕ)
    → list_all (fits width sign) (replicate count (pos 0)) ≡ true
zeros-fit width sign zero = refl
zeros-fit width sign (suc count) = ap (λ b. b && list_all (fits width sign) (replicate count (pos 0)))
    (zero-fits width sign) ∙ zeros-fit width sign count

as-many : (count : ℕ) → length (replicate count (pos 0)) ≡ count
as-many zero = refl
as-many (suc count) = omega (arith, as-many count)

pub returns-clause-field : goal.returns-clause-field
returns-clause-field c = λ field bytes takes. is-read _ _ (then _ _ _
    (takes (replicate (value_count field) (pos 0)) (as-many (value_count field))
    (zeros-fit (value_width field) (has_sign field) (value_count field))))

pub returns-clause-element : goal.returns-clause-element
returns-clause-element c = λ field bytes index takes.
    is-read _ _ (takes (pos 0) (zero-fits (value_width field) (has_sign field)))
