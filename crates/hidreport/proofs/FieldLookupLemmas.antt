-- A field that is found among the parts of fields.
use Rattle.std.proofs.Common.{◌≡◌, Bool, true, false, cond, List, [], ◌∷◌, map, Some, refl}
use Rattle.std.specs.Prelude.{find, option_map}

pub find-map : {A B : Type 0} (view : A → B) (p : B → Bool) (xs : List A)
    → option_map view (find (λ x. p (view x)) xs) ≡ find p (map view xs)
find-map view p [] = refl
find-map view p (x ∷ xs) = by (p (view x)) (find-map view p xs) where
  by : (b : Bool) → option_map view (find (λ y. p (view y)) xs) ≡ find p (map view xs)
      → option_map view (cond b (Some x) (find (λ y. p (view y)) xs))
      ≡ cond b (Some (view x)) (find p (map view xs))
  by true e = refl
  by false e = e
