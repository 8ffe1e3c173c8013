-- Lemmas on the words that a command is read from.
use Rattle.std.proofs.Common.{◌≡◌, ◌<◌, ℕ, List, [], ◌∷◌, Some, map, length, get_or, slice_get, sym}
use Rattle.std.proofs.Common.{ap, subst, ◌∙◌, arith}
use Rattle.std.specs.Prelude.{IsSomeAnd}
use Rattle.std.proofs.lemmas.List.{length-map}
use Rattle.hidreport_program.specs.Command.{HasForm}

-- words are of a form if they are as many and the first has the name's bytes
pub form_of_first : {A : Type 0} (bytes_of : A → List ℕ) (words : List A) (first : A)
    (name : List ℕ) (count : ℕ)
    → length words ≡ count → 0 < count → first ≡ get_or words 0 first → bytes_of first ≡ name
    → HasForm (map bytes_of words) name count
form_of_first bytes_of [] first name count many some is named = absurd (omega arith)
form_of_first bytes_of (word ∷ words) first name count many some is named = (
  length-map (word ∷ words) bytes_of ∙ many,
  ap (λ w. Some (bytes_of w)) (sym is)
      ∙ ap Some named,
)

-- what holds of the second word's bytes
pub second_word : {A : Type 0} (bytes_of : A → List ℕ) (words : List A) (second : A)
    (P : List ℕ → Type 0)
    → 1 < length words → second ≡ get_or words 1 second → P (bytes_of second)
    → IsSomeAnd (slice_get (map bytes_of words) 1) P
second_word bytes_of [] second P some is holds = absurd (omega arith)
second_word bytes_of (word ∷ []) second P some is holds = absurd (omega arith)
second_word bytes_of (word ∷ next ∷ words) second P some is holds = subst P (ap bytes_of is) holds
