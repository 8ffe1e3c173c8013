-- Short lists of bytes, and numbers of fields, of which laws are told.
use Rattle.std.proofs.Common.{ℕ, ◌<◌, List, [], ◌∷◌, Result, Ok}
use Rattle.std.specs.Prelude.{ℤ}
use Rattle.std.proofs.lemmas.List.Elements.{All-cons, All-nil}
use Rattle.hidreport.specs.Answer.{Refusal}
use Rattle.hidreport.specs.Spelling.{AreBytes}

pub one : (a : ℕ) → a < 256 → AreBytes (a ∷ [])
one a first = All-cons (λ n. n < 256) a [] first (All-nil (λ n. n < 256))

pub two : (a b : ℕ) → a < 256 → b < 256 → AreBytes (a ∷ b ∷ [])
two a b first second = All-cons (λ n. n < 256) a (b ∷ []) first (one b second)

pub three : (a b c : ℕ) → a < 256 → b < 256 → c < 256 → AreBytes (a ∷ b ∷ c ∷ [])
three a b c first second third = All-cons (λ n. n < 256) a (b ∷ c ∷ []) first (two b c second third)

-- what a field is read as
abbrev pub are : List ℤ → Result (List ℤ) Refusal
are numbers = Ok numbers

-- what an element is read as
abbrev pub is : ℤ → Result ℤ Refusal
is number = Ok number
