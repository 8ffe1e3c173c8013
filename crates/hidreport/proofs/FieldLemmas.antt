-- The fields of an item, one after the other.
use Rattle.std.proofs.Common.{◌≡◌, ℕ, zero, suc, ◌+◌, ◌-◌, ◌<◌, min, List, [], ◌∷◌, ◌++◌, length}
use Rattle.std.proofs.Common.{Some, get_or, slice_get}
use Rattle.std.proofs.Common.{refl, sym, ap, ◌∙◌, add-one, zero-add, append_assoc, arith}
use Rattle.hidreport.specs.Fields.{each_from, usage_at}
use Rattle.hidreport_fields.specs.declared.field.usage.Usage.{Usage}

-- one more at the end
pub each_from-next : {A : Type 0} (f : ℕ → A) (c n : ℕ)
    → each_from f c (suc n) ≡ each_from f c n ++ f (c + n) ∷ []
each_from-next f c zero = ap (λ k. f k ∷ []) (let e : c ≡ c + 0 = omega arith in e)
each_from-next f c (suc n) =
    ap (λ l. f c ∷ l) (each_from-next f (c + 1) n)
    ∙ ap (λ k. f c ∷ (each_from f (c + 1) n ++ f k ∷ []))
    (let e : c + 1 + n ≡ c + suc n = omega arith in e)

-- one more behind others
pub each_from-behind : {A : Type 0} (made : ℕ → A) (before now : List A) (n : ℕ) (x : A)
    → now ≡ before ++ each_from made 0 n → x ≡ made n
    → now ++ x ∷ [] ≡ before ++ each_from made 0 (n + 1)
each_from-behind {A = A} made before now n x are is =
    ap (λ (l : List A). l ++ x ∷ []) are
    ∙ append_assoc before (each_from made 0 n) (x ∷ [])
    ∙ ap (λ y. before ++ (each_from made 0 n ++ y ∷ [])) is
    ∙ ap (λ k. before ++ (each_from made 0 n ++ made k ∷ [])) (sym (zero-add n))
    ∙ ap (λ (l : List A). before ++ l)
    (sym (each_from-next made 0 n) ∙ ap (each_from made 0) (sym (add-one n)))

-- usage c, or the last one
pub usage_at-min : (us : List Usage) (c n : ℕ) (d : Usage) → 0 < length us
    → n ≡ min c (length us - 1) → get_or us n d ≡ usage_at us c
usage_at-min [] c n d some e = absurd (omega arith)
usage_at-min (u ∷ []) c n d some e =
    let first : n ≡ 0 = omega arith in ap (λ k. get_or (u ∷ []) k d) first
usage_at-min (u ∷ v ∷ us) zero n d some e =
    let first : n ≡ 0 = omega arith in ap (λ k. get_or (u ∷ v ∷ us) k d) first
usage_at-min (u ∷ v ∷ us) (suc c) n d some e =
    let later : n ≡ suc (min c (length (v ∷ us) - 1)) = omega arith in
    let more : 0 < length (v ∷ us) = omega arith in
    ap (λ k. get_or (u ∷ v ∷ us) k d) later
    ∙ usage_at-min (v ∷ us) c (min c (length (v ∷ us) - 1)) d more refl

-- usage c, where there are more than c
pub usage_at-get : (us : List Usage) (c : ℕ) → c < length us → Some (usage_at us c) ≡ slice_get us c
usage_at-get [] c lt = absurd (omega arith)
usage_at-get (u ∷ []) zero lt = refl
usage_at-get (u ∷ []) (suc c) lt = absurd (omega arith)
usage_at-get (u ∷ v ∷ us) zero lt = refl
usage_at-get (u ∷ v ∷ us) (suc c) lt =
    let behind : c < length (v ∷ us) = omega arith in usage_at-get (v ∷ us) c behind
