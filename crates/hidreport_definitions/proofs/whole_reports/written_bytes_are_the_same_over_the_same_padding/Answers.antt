use Rattle.std.proofs.Common.{◌≡◌, ℕ, ◌+◌, ◌/◌, ◌%◌, ◌^◌, zero, suc, List, [], ◌∷◌, refl, arith, ap, ◌∙◌, sym}
use Rattle.std.specs.Prelude.{slice_index}
use Rattle.hidreport.specs.BitValue.{bit}
use Rattle.hidreport_definitions.proofs.ByteLemmas.{one}
use Rattle.hidreport_definitions.proofs.whole_reports.written_bytes_are_the_same_over_the_same_padding.Goals as goal

-- the bits behind the first byte
bit-tail : (b : ℕ) (bs : List ℕ) (i : ℕ) → bit (b ∷ bs) (8 + i) ≡ bit bs i
bit-tail b bs i =
    let place : (8 + i) / 8 ≡ suc (i / 8) = omega arith in
    let within : (8 + i) % 8 ≡ i % 8 = omega arith in
    ap (λ n. slice_index (b ∷ bs) n / 2 ^ ((8 + i) % 8) % 2) place
    ∙ ap (λ n. slice_index bs (i / 8) / 2 ^ n % 2) within

-- 256 has the bits of 0: its one bit is no bit of a byte
same : (n : ℕ) → bit (256 ∷ []) n ≡ bit (0 ∷ []) n
same zero = refl
same (suc zero) = refl
same (suc (suc zero)) = refl
same (suc (suc (suc zero))) = refl
same (suc (suc (suc (suc zero)))) = refl
same (suc (suc (suc (suc (suc zero))))) = refl
same (suc (suc (suc (suc (suc (suc zero)))))) = refl
same (suc (suc (suc (suc (suc (suc (suc zero))))))) = refl
same (suc (suc (suc (suc (suc (suc (suc (suc n)))))))) =
    let is : suc (suc (suc (suc (suc (suc (suc (suc n))))))) ≡ 8 + n = omega arith in
    ap (bit (256 ∷ [])) is ∙ bit-tail 256 [] n ∙ sym (bit-tail 0 [] n)
    ∙ sym (ap (bit (0 ∷ [])) is)

abbrev alone : ℕ → List ℕ
alone b = b ∷ []

pub returns : goal.returns
returns c = λ law.
    let equal : alone 256 ≡ alone 0 = law.same (0 ∷ []) [] (256 ∷ []) (0 ∷ []) (one 0 (omega arith))
    refl (λ n all. same n) refl refl in cc
