-- What a usage of an item asks for where it lies (hid-input of Linux 6.12).
use Rattle.std.specs.Prelude.{ℕ, ℤ, pos, int_le, int_lt, ◌-ℤ◌, Bool, true, false, ◌+◌, ◌%◌, ◌&&◌, nat_lt, nat_le}
use Rattle.std.specs.Prelude.{if◌then◌else◌, Option, Some, None, unwrap_or, Result, Ok, Err}
use Rattle.std.specs.Option.{option_map_or}
use Rattle.std.specs.Int.{w16, w32, cast_signed, cast_unsigned}
use Rattle.hidreport.specs.Groups.{GroupRecord}
use Rattle.hidreport_fields.specs.declared.field.data_item.Direction.{Direction}
use Rattle.hidreport_linux.specs.Events.{wanted}
use Rattle.hidreport_linux.specs.Places.{place_of}
use Rattle.hidreport_linux.specs.declared.axis.Measures.{Measures}
use Rattle.hidreport_linux.specs.declared.item.Item.{Item}
use Rattle.hidreport_linux.specs.declared.unmapped.Unmapped.{Unmapped}
use Rattle.hidreport_linux.specs.declared.unmapped.Unmapped.TheVariants as none
use Rattle.hidreport_linux.specs.declared.wanted.Role.{Role}
use Rattle.hidreport_linux.specs.declared.wanted.Role.TheVariants as role
use Rattle.hidreport_linux.specs.declared.wanted.Wanted.{Wanted}

-- the low 16 bits of a number, with a sign
abbrev pub low_half : ℤ → ℤ
low_half number = cast_signed w16 (cast_unsigned w32 number % 65536)

-- the bounds of a hat, of 16 bits each, are apart
abbrev pub are_apart : Measures → Bool
are_apart measures = int_lt (low_half measures.minimum) (low_half measures.maximum)

-- what a usage does beside its code: a hat of bounds that aren't apart is an axis, and so is a
-- volume that isn't relative
abbrev pub role_in : Item → Role → Role
role_in item role.Hat = if are_apart item.measures then role.Hat else role.Plain
role_in item role.Volume = if item.place.is_relative then role.Volume else role.Plain
role_in item role = role

abbrev pub is_direction : Role → Bool
is_direction role.Direction = true
is_direction _ = false

abbrev pub is_pressure : Role → Bool
is_pressure role.Pressure = true
is_pressure _ = false

-- the first direction of an item has the axes of the hat for all
abbrev pub asks_still : Item → Wanted → Result Wanted Unmapped
asks_still item wanted =
    if is_direction wanted.role && item.has_direction then Err none.OtherDirection
    else Ok (record wanted { role = role_in item wanted.role })

-- nothing where something is the matter with the descriptor
abbrev pub asks_of : Option Unmapped → Item → Wanted → Result Wanted Unmapped
asks_of (Some reason) item wanted = Err reason
asks_of None item wanted = asks_still item wanted

-- by the usage, then by the descriptor and the item
abbrev pub asks_by : Option Unmapped → Item → Result Wanted Unmapped → Result Wanted Unmapped
asks_by unmapped item (Err reason) = Err reason
asks_by unmapped item (Ok wanted) = asks_of unmapped item wanted

-- hid-core keeps so many items of a report, and 12,288 usages of an item
abbrev pub asked : Item → Option Unmapped → ℕ → Result Wanted Unmapped
asked item unmapped usage =
    if item.is_past then Err none.PastItems
    else if nat_le 12288 item.usages then Err none.PastUsages
    else asks_by unmapped item (wanted usage item.place)

-- a power of ten of four bits, or of all
abbrev pub exponent_of : ℤ → ℤ
exponent_of number =
    if int_le (pos 8) number && int_le number (pos 15) then number -ℤ pos 16 else number

-- the numbers of an item, 0 where one wasn't set
abbrev pub measures_of : GroupRecord → Measures
measures_of g = record {
  minimum = g.shared.logical_minimum;
  maximum = g.shared.logical_maximum;
  physical_minimum = unwrap_or g.shared.physical_minimum (pos 0);
  physical_maximum = unwrap_or g.shared.physical_maximum (pos 0);
  unit = unwrap_or g.shared.unit 0;
  exponent = option_map_or exponent_of g.shared.unit_exponent (pos 0);
}

-- an item before its first usage
abbrev pub item_of : Direction → GroupRecord → Bool → Item
item_of direction g is_past = record {
  place = place_of direction g;
  measures = measures_of g;
  is_past = is_past;
  usages = 0;
  has_direction = false;
}

-- behind one usage more, up to those that are kept
abbrev pub counted : Item → Item
counted item = if nat_lt item.usages 12288 then record item { usages = item.usages + 1 } else item

-- behind a usage that has its code: of directions the first alone has one, and all behind the key
-- of radios is taken for relative
abbrev pub passed : Role → Item → Item
passed role.Direction item = record item { has_direction = true }
passed role.Radio item = record item { place = record (item.place) { is_relative = true } }
passed _ item = item
