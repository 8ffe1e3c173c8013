-- Lemmas on a text that is written piece by piece.
use Rattle.std.proofs.Common.{◌≡◌, ◌≤◌, ◌+◌, ◌-◌, ◌++◌, ℕ, List, Option, length, take, drop, sym}
use Rattle.std.proofs.Common.{subst, ◌∙◌, ap, arith, length-drop}
use Rattle.std.proofs.Math.Seq.{take-add}
use Rattle.std.proofs.lemmas.List.{drop-drop}
use Rattle.std.specs.Io.KnownBytes.{Appends}
use Rattle.std.proofs.KnownBytes.{Appends-trans}

-- how many elements stand before the rest
abbrev pub before : List ℕ → List ℕ → ℕ
before text rest = length text - length rest

module _ (text rest back : List ℕ) (count : ℕ) (fits : count ≤ length rest)
    (within : length rest ≤ length text) (cut : back ≡ drop count rest) where
  before_more : before text back ≡ before text rest + count
  before_more = rw cut (simp length-drop (omega arith))

  -- what is left after one more piece is left of the text
  pub left_more : rest ≡ drop (before text rest) text → back ≡ drop (before text back) text
  left_more left = rw before_more
      (cut ∙ ap (drop count) left ∙ drop-drop count (before text rest) text)

  -- one more piece was written
  pub written_more : (a b c : Option (List ℕ)) → rest ≡ drop (before text rest) text
      → Appends a b (take (before text rest) text) → Appends b c (take count rest)
      → Appends a c (take (before text back) text)
  written_more a b c left first second =
      let joined : take (before text rest) text ++ take count rest ≡ take (before text back) text =
      ap (λ xs. take (before text rest) text ++ take count xs) left
      ∙ sym (take-add (before text rest) count text)
      ∙ ap (λ n. take n text) (sym before_more) in
      subst (Appends a c) joined (Appends-trans a b c _ _ first second)
