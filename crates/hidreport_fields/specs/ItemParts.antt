-- What fields have of their item (Sections 6.2.2.4 and 6.2.2.5).
use Rattle.std.specs.Prelude.{ℕ, Bool, if◌then◌else◌, List, Option, None, Some}
use Rattle.hidreport_items.specs.Flags.{Flags}
use Rattle.hidreport_fields.specs.Records.{CollectionRecord, Attributes}
use Rattle.hidreport_fields.specs.declared.field.measures.Measures.{Measures}
-- the three directions in which reports go (Section 6.2.2.4)
pub use Rattle.hidreport_fields.specs.declared.field.data_item.Direction.{Direction}
pub use Rattle.hidreport_fields.specs.declared.field.data_item.Direction.TheVariants.{Input}
pub use Rattle.hidreport_fields.specs.declared.field.data_item.Direction.TheVariants.{Output, Feature}

-- one field for a constant item or an array, `count` for a variable item
abbrev pub field_count : Flags → ℕ → ℕ
field_count flags count = if flags.constant then 1 else (if flags.variable then count else 1)

-- an input report's fields say nothing of volatility
abbrev pub volatile_in : Direction → Bool → Option Bool
volatile_in Input flag = None
volatile_in Output flag = Some flag
volatile_in Feature flag = Some flag

-- what a field with data has from these numbers, from its item's flags and from the collections
-- around it
abbrev pub attributes_with : Direction → Flags → Measures → List CollectionRecord → Attributes
attributes_with d flags m collections = record {
  logical_minimum = m.logical_minimum;
  logical_maximum = m.logical_maximum;
  physical_minimum = m.physical_minimum;
  physical_maximum = m.physical_maximum;
  unit = m.unit;
  unit_exponent = m.unit_exponent;
  collections = collections;
  flags = flags;
  volatile = volatile_in d flags.volatile;
}
