-- Names laid end to end in one text, each between two ends.
use Rattle.std.specs.Prelude.{ℕ, ◌+◌, ◌<◌, ◌≤◌, List, length, slice_index, slice_range, IsAscii}

-- the name at a place
abbrev pub piece : List ℕ → List ℕ → ℕ → List ℕ
piece text ends place = slice_range text (slice_index ends place) (slice_index ends (place + 1))

-- plain letters, and ends that rise within them
pub record HasPieces (text ends : List ℕ) : Type 0 where
  pub plain : IsAscii text
  pub rise : (k : ℕ) → k + 1 < length ends → slice_index ends k ≤ slice_index ends (k + 1)
  pub within : (k : ℕ) → k < length ends → slice_index ends k ≤ length text

-- each number is above the one before
abbrev pub Rises : List ℕ → Type 0
Rises xs = (i j : ℕ) → i < j → j < length xs → slice_index xs i < slice_index xs j
