-- Attributes, fractions and collections for the rows of lookups.
use Rattle.std.specs.Prelude.{ℕ, ℤ, List, map, Some}
use Rattle.hidreport.specs.Records.{Attributes, CollectionRecord}
use Rattle.hidreport_fields.specs.declared.field.fraction.Fraction.{Fraction}
use Rattle.hidreport_definitions.specs.Summary.{unset}
use Rattle.hidreport_definitions.specs.Tiled.{physical}

-- these logical bounds and nothing else
abbrev pub bounded : ℤ → ℤ → Attributes
bounded minimum maximum =
    record unset { logical_minimum = minimum; logical_maximum = maximum }

-- the same with these physical bounds
abbrev pub physically : ℤ → ℤ → Attributes → Attributes
physically minimum maximum shared =
    record shared { physical_minimum = Some minimum; physical_maximum = Some maximum }

-- a number above the line and one below it
abbrev pub over : ℤ → ℤ → Fraction
over above below = record { numerator = above; denominator = below }

-- collections of these numbers, outermost first
abbrev pub numbered : List ℕ → List CollectionRecord
numbered ids = map physical ids
