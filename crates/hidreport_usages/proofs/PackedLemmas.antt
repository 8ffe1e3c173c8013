-- What the tests of a table say of it.
use Rattle.std.proofs.Common.{◌≡◌, ℕ, zero, suc, ◌+◌, ◌-◌, ◌<◌, ◌≤◌, true, nat_lt, nat_le, List, [], ◌∷◌, length}
use Rattle.std.proofs.Common.{drop, map, slice_index, get_or, refl, sym, ap, ◌∙◌, arith}
use Rattle.std.specs.Prelude.{IsAscii}
use Rattle.std.proofs.lemmas.Bool.{and_parts}
use Rattle.std.proofs.lemmas.Bool.Decides.{nat_tests}
use Rattle.std.proofs.lemmas.List.{drop-drop, get_or-map}
use Rattle.hidreport_usages.specs.Rows.{Row, row_at}
use Rattle.hidreport_usages.specs.Packed.{HasPieces, Rises, piece}
use Rattle.hidreport_usages.proofs.Checks.{rises_from, cut, ends_rise, are_plain}

-- numbers that rise from above n are all above n
all_above : (n : ℕ) (xs : List ℕ) → rises_from n xs ≡ true → (k : ℕ) → k < length xs → n < slice_index xs k
all_above n [] h k inside = absurd (omega arith)
all_above n (x ∷ xs) h zero inside = let parts = and_parts (nat_lt n x) (rises_from x xs) h in grind (arith, nat_tests, parts.0)
all_above n (x ∷ xs) h (suc k) inside =
    let parts = and_parts (nat_lt n x) (rises_from x xs) h in
    let rest = all_above x xs parts.1 k (omega arith) in
    grind (arith, nat_tests, parts.0, rest)

-- and each is above those before it
pub Rises-from_test : (n : ℕ) (xs : List ℕ) → rises_from n xs ≡ true → Rises xs
Rises-from_test n [] h i j below inside = absurd (omega arith)
Rises-from_test n (x ∷ xs) h zero zero below inside = absurd (omega arith)
Rises-from_test n (x ∷ xs) h zero (suc j) below inside = all_above x xs (and_parts (nat_lt n x) (rises_from x xs) h).1 j (omega arith)
Rises-from_test n (x ∷ xs) h (suc i) zero below inside = absurd (omega arith)
Rises-from_test n (x ∷ xs) h (suc i) (suc j) below inside = Rises-from_test x xs (and_parts (nat_lt n x) (rises_from x xs) h).1 i j (omega arith) (omega arith)

-- plain letters are plain at each place
pub IsAscii-from_test : (xs : List ℕ) → are_plain xs ≡ true → IsAscii xs
IsAscii-from_test [] h k = omega arith
IsAscii-from_test (x ∷ xs) h zero = let parts = and_parts (nat_lt x 128) (are_plain xs) h in grind (arith, nat_tests, parts.0)
IsAscii-from_test (x ∷ xs) h (suc k) = IsAscii-from_test xs (and_parts (nat_lt x 128) (are_plain xs) h).1 k

-- an end at least n, and at most the last
module _ (last : ℕ) where
  pub first_below_last : (n : ℕ) (ends : List ℕ) → ends_rise n ends last ≡ true → n ≤ last
  first_below_last n [] h = grind (arith, nat_tests, h)
  first_below_last n (e ∷ ends) h =
      let parts = and_parts (nat_le n e) (ends_rise e ends last) h in
      grind (arith, nat_tests, parts.0, first_below_last e ends parts.1)

  ends_within : (n : ℕ) (ends : List ℕ) → ends_rise n ends last ≡ true → (k : ℕ) → k < length ends
      → slice_index ends k ≤ last
  ends_within n [] h k inside = absurd (omega arith)
  ends_within n (e ∷ ends) h zero inside = first_below_last e ends (and_parts (nat_le n e) (ends_rise e ends last) h).1
  ends_within n (e ∷ ends) h (suc k) inside = ends_within e ends (and_parts (nat_le n e) (ends_rise e ends last) h).1 k (omega arith)

  ends_follow : (n : ℕ) (ends : List ℕ) → ends_rise n ends last ≡ true → (k : ℕ) → k + 1 < length ends
      → slice_index ends k ≤ slice_index ends (k + 1)
  ends_follow n [] h k inside = absurd (omega arith)
  ends_follow n (e ∷ []) h k inside = absurd (omega arith)
  ends_follow n (e ∷ f ∷ ends) h zero inside =
      let parts = and_parts (nat_le e f) (ends_rise f ends last) (and_parts (nat_le n e) (ends_rise e (f ∷ ends) last) h).1 in
      grind (arith, nat_tests, parts.0)
  ends_follow n (e ∷ f ∷ ends) h (suc k) inside = let s : suc k + 1 ≡ suc (k + 1) = omega arith in
      rw s (ends_follow e (f ∷ ends) (and_parts (nat_le n e) (ends_rise e (f ∷ ends) last) h).1 k (omega arith))

pub HasPieces-from_tests : (text ends : List ℕ) → are_plain text ≡ true → ends_rise 0 ends (length text) ≡ true
    → HasPieces text ends
HasPieces-from_tests text ends plain rise = record {
  plain = IsAscii-from_test text plain;
  rise = ends_follow (length text) 0 ends rise;
  within = ends_within (length text) 0 ends rise;
}

-- the pieces that are cut off one by one lie between two ends
pub cut_at : (text : List ℕ) (from : ℕ) (ends : List ℕ) → ends_rise from ends (length text) ≡ true → (k : ℕ)
    → k < length ends → get_or (cut from ends (drop from text)) k [] ≡ piece text (from ∷ ends) k
cut_at text from [] h k inside = absurd (omega arith)
cut_at text from (e ∷ ends) h zero inside = refl
cut_at text from (e ∷ ends) h (suc k) inside =
    let parts = and_parts (nat_le from e) (ends_rise e ends (length text)) h in
    let there : drop (e - from) (drop from text) ≡ drop e text = drop-drop (e - from) from text ∙ ap (λ n. drop n text) (grind (arith, nat_tests, parts.0)) in
    let s : suc k + 1 ≡ suc (k + 1) = omega arith in
    rw s (ap (λ rest. get_or (cut e ends rest) k []) there ∙ cut_at text e ends parts.1 k (omega arith))

-- so the piece at each place is that of the row there
pub named_at : (rows : List Row) (text ends : List ℕ) → cut 0 ends text ≡ map (λ row. row.1) rows
    → ends_rise 0 ends (length text) ≡ true → length ends ≡ length rows → (k : ℕ) → k < length rows
    → piece text (0 ∷ ends) k ≡ (row_at rows k).1
named_at rows text ends same rise long k inside =
    sym (cut_at text 0 ends rise k (omega (arith, long)))
    ∙ ap (λ names. get_or names k []) same
    ∙ get_or-map (λ row. row.1) rows k (0, []) [] inside
