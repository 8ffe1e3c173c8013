-- Where the usages of an item lie (what hid-core of Linux 6.12 keeps with an item).
use Rattle.std.specs.Prelude.{ℕ, Bool, false, ◌-◌, ◌==◌, ◌&&◌, if◌then◌else◌, List, [], ◌∷◌, length, slice_get}
use Rattle.std.specs.Option.{option_map_or}
use Rattle.hidreport.specs.Groups.{GroupRecord}
use Rattle.hidreport.specs.Records.{CollectionRecord}
use Rattle.hidreport.specs.Spelling.{kind_number}
use Rattle.hidreport.specs.UsageNumber.{usage_number}
use Rattle.hidreport_fields.specs.declared.field.data_item.Direction.{Direction}
use Rattle.hidreport_linux.specs.declared.place.Place.{Place}

-- the usage of a collection: the first of its usages, 0 where it has none
abbrev pub usage_of : CollectionRecord → ℕ
usage_of collection = option_map_or usage_number (slice_get collection.usages 0) 0

-- the usage of the last collection of a kind, which is the innermost; what was said before where
-- there is none
abbrev pub innermost_or : ℕ → ℕ → List CollectionRecord → ℕ
innermost_or before kind [] = before
innermost_or before kind (c ∷ around) =
    innermost_or (if kind_number c.kind == kind then usage_of c else before) kind around

-- the usage of the innermost collection of a kind, 0 where there is none
abbrev pub innermost : ℕ → List CollectionRecord → ℕ
innermost kind around = innermost_or 0 kind around

-- a named array (4) of programmable buttons
abbrev pub is_of_macros : CollectionRecord → Bool
is_of_macros c = kind_number c.kind == 4 && usage_of c == 0xc0003

-- the innermost collection of all is one
abbrev pub has_macros : List CollectionRecord → Bool
has_macros around = option_map_or is_of_macros (slice_get around (length around - 1)) false

-- application, physical and logical collections are the kinds 1, 0 and 2
abbrev pub place_of : Direction → GroupRecord → Place
place_of direction g = record {
  direction = direction;
  is_constant = g.flags.constant;
  is_relative = g.shared.flags.relative;
  is_bit = g.extent.size == 1;
  application = innermost 1 g.shared.collections;
  physical = innermost 0 g.shared.collections;
  logical = innermost 2 g.shared.collections;
  has_macros = has_macros g.shared.collections;
}
