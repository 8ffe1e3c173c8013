-- What has been said of the flags of an item that is being built.
use Rattle.std.specs.Prelude.{Bool, false, Option, Some, None}
use Rattle.hidreport_items.specs.Flags.{Flags}

-- of each flag, that it is on, that it is off, or nothing
pub record Said : Type 0 where
  pub constant : Option Bool
  pub variable : Option Bool
  pub relative : Option Bool
  pub wrap : Option Bool
  pub nonlinear : Option Bool
  pub no_preferred_state : Option Bool
  pub null_state : Option Bool
  pub buffered_bytes : Option Bool
  pub volatile : Option Bool

-- what nine states say, in the order of a builder's parameters
abbrev pub said_by : (constant variable relative wrap nonlinear : Option Bool)
    → (no_preferred_state null_state buffered_bytes volatile : Option Bool) → Said
said_by constant variable relative wrap nonlinear no_preferred_state null_state buffered_bytes
    volatile = record {
      constant = constant;
      variable = variable;
      relative = relative;
      wrap = wrap;
      nonlinear = nonlinear;
      no_preferred_state = no_preferred_state;
      null_state = null_state;
      buffered_bytes = buffered_bytes;
      volatile = volatile;
    }

-- nothing is said of any flag
abbrev pub nothing_said : Said
nothing_said = said_by None None None None None None None None None

-- a flag of which nothing is said is off
abbrev pub is_on : Option Bool → Bool
is_on None = false
is_on (Some on) = on

-- the flags of an item, by what is said of each
abbrev pub flags_said : Said → Flags
flags_said said = record {
  constant = is_on said.constant;
  variable = is_on said.variable;
  relative = is_on said.relative;
  wrap = is_on said.wrap;
  nonlinear = is_on said.nonlinear;
  no_preferred_state = is_on said.no_preferred_state;
  null_state = is_on said.null_state;
  volatile = is_on said.volatile;
  buffered_bytes = is_on said.buffered_bytes;
}
