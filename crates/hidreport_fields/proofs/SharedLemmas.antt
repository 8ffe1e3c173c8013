-- Shared collections are a common front, and the next ones differ.
use Rattle.std.proofs.Common.{◌≡◌, ◌≢◌, ℕ, zero, suc, Bool, true, false, cond, List, [], ◌∷◌, map, take}
use Rattle.std.proofs.Common.{Some, refl, sym, ap, ◌∙◌, slice_get}
use Rattle.std.specs.Prelude.{◌==◌}
use Rattle.std.proofs.lemmas.Bool.Decides.{Decides-eqb}
use Rattle.hidreport_fields.specs.Records.{CollectionRecord}
use Rattle.hidreport_fields.specs.SharedCollections.{shared}

abbrev ids : List CollectionRecord → List ℕ
ids cs = map (λ (c : CollectionRecord). c.id) cs

pub shared-same : (xs ys : List CollectionRecord)
    → take (shared xs ys) (ids xs) ≡ take (shared xs ys) (ids ys)
shared-same [] ys = refl
shared-same (x ∷ xs) [] = refl
shared-same (x ∷ xs) (y ∷ ys) = by (x.id == y.id) refl (shared-same xs ys) where
  by : (b : Bool) → (x.id == y.id) ≡ b
      → take (shared xs ys) (ids xs) ≡ take (shared xs ys) (ids ys)
      → take (cond b (suc (shared xs ys)) zero) (ids (x ∷ xs))
      ≡ take (cond b (suc (shared xs ys)) zero) (ids (y ∷ ys))
  by true e rest =
      let same : x.id ≡ y.id = (Decides-eqb x.id y.id).0 e in
      ap (λ n. n ∷ take (shared xs ys) (ids xs)) same ∙ ap (λ l. y.id ∷ l) rest
  by false e rest = refl

pub shared-apart : (xs ys : List CollectionRecord) (c d : CollectionRecord)
    → slice_get xs (shared xs ys) ≡ Some c → slice_get ys (shared xs ys) ≡ Some d → c.id ≢ d.id
shared-apart [] ys c d p q is = cc
shared-apart (x ∷ xs) [] c d p q is = cc
shared-apart (x ∷ xs) (y ∷ ys) c d p q is =
    by (x.id == y.id) refl p q (shared-apart xs ys c d)
  where
    by : (b : Bool) → (x.id == y.id) ≡ b
        → slice_get (x ∷ xs) (cond b (suc (shared xs ys)) zero) ≡ Some c
        → slice_get (y ∷ ys) (cond b (suc (shared xs ys)) zero) ≡ Some d
        → (slice_get xs (shared xs ys) ≡ Some c → slice_get ys (shared xs ys) ≡ Some d
        → c.id ≢ d.id) → ⊥
    by true e p q rest = rest p q is
    by false e p q rest =
        let first : x ≡ c = cc in
        let second : y ≡ d = cc in
        let same : x.id ≡ y.id =
        ap (λ (k : CollectionRecord). k.id) first ∙ is
        ∙ sym (ap (λ (k : CollectionRecord). k.id) second) in
        let yes : (x.id == y.id) ≡ true = (Decides-eqb x.id y.id).1 same in cc
