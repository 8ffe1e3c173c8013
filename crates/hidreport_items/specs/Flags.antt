-- The flags of a data item (Section 6.2.2.5).
use Rattle.std.specs.Prelude.{ℕ, Bool, false, ◌/◌, ◌%◌, ◌^◌, ◌==◌}

-- the nine flags, each by its name where it is 1
pub record Flags : Type 0 where
  pub constant : Bool
  pub variable : Bool
  pub relative : Bool
  pub wrap : Bool
  pub nonlinear : Bool
  pub no_preferred_state : Bool
  pub null_state : Bool
  pub volatile : Bool
  pub buffered_bytes : Bool

-- bit i of the item's number, counted from the lowest
abbrev pub is_flag_set : ℕ → ℕ → Bool
is_flag_set number i = number / 2 ^ i % 2 == 1

-- the flags that a number spells; an Output or a Feature has bit 7
abbrev pub flags_of : ℕ → Flags
flags_of number = record {
  constant = is_flag_set number 0;
  variable = is_flag_set number 1;
  relative = is_flag_set number 2;
  wrap = is_flag_set number 3;
  nonlinear = is_flag_set number 4;
  no_preferred_state = is_flag_set number 5;
  null_state = is_flag_set number 6;
  volatile = is_flag_set number 7;
  buffered_bytes = is_flag_set number 8;
}

-- the eight that an Input has too: all but flag 7
abbrev pub shared_flags : Flags → Flags
shared_flags flags = record flags { volatile = false }
