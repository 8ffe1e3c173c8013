-- Numbers of 16 bits as four hexadecimal digits.
use Rattle.std.specs.Prelude.{◌≡◌, ℕ, ◌+◌, ◌/◌, ◌%◌, ◌<◌, nat_lt, if◌then◌else◌, List, [], ◌∷◌}
use Rattle.std.specs.Prelude.{Option, MatchOption}

-- 0 to 9, then A to F
abbrev pub digit : ℕ → ℕ
digit n = if nat_lt n 10 then 48 + n else 55 + n

-- four hexadecimal digits: of 0xff00 `FF00`
abbrev pub four_digits : ℕ → List ℕ
four_digits n = digit (n / 4096) ∷ digit (n / 256 % 16) ∷ digit (n / 16 % 16) ∷ digit (n % 16) ∷ []

-- the number below 16 that the letter is the digit of, or none where it is that of none
abbrev pub IsDigitOf : ℕ → Option ℕ → Type 0
IsDigitOf letter number = MatchOption number
    ((n : ℕ) → n < 16 → digit n ≡ letter → ⊥)
    (λ n. (n < 16) × (digit n ≡ letter))

-- the number of 16 bits that the text stands for, or none where it stands for none
abbrev pub IsNumberOf : (ℕ → List ℕ) → List ℕ → Option ℕ → Type 0
IsNumberOf text_of text number = MatchOption number
    ((n : ℕ) → n < 65536 → text_of n ≡ text → ⊥)
    (λ n. (n < 65536) × (text_of n ≡ text))
