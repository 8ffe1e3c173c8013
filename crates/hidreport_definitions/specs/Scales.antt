-- What values may mean, for the rows of scaling.
use Rattle.std.specs.Prelude.{ℤ, if◌then◌else◌, Option, None, Some}
use Rattle.std.specs.Ordering.{int_eq}
use Rattle.hidreport_fields.specs.declared.field.fraction.Fraction.{Fraction}

-- no value means anything
abbrev pub nothing_meant : ℤ → Option Fraction
nothing_meant v = None

-- every value means the same
abbrev pub always : Fraction → ℤ → Option Fraction
always x v = Some x

-- one value means this, every other that
abbrev pub but_at : ℤ → Fraction → Fraction → ℤ → Option Fraction
but_at place this that v = if int_eq v place then Some this else Some that
