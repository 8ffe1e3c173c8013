-- What Linux's hid-core keeps while it reads a descriptor, item by item.
use Rattle.std.specs.Prelude.{ℕ, ℤ, pos, neg_ℤ, ◌-◌, ◌^◌, ◌==◌, int_le, int_lt, nat_lt, Bool, false}
use Rattle.std.specs.Prelude.{◌&&◌, if◌then◌else◌, List, [], length, Option, None, Some}
use Rattle.std.specs.Int.{w32, cast_signed, cast_unsigned}
use Rattle.std.specs.List.{slice_index_or}
use Rattle.hidreport_linux.specs.CoreLocals.{LocalsRecord, no_locals}
use Rattle.hidreport_linux.specs.CoreReports.{no_reports}
use Rattle.hidreport_linux.specs.declared.driver.Driver.{Driver}
use Rattle.hidreport_linux.specs.declared.linux_field.LinuxCollection.{LinuxCollection}
use Rattle.hidreport_linux.specs.declared.linux_field.LinuxField.{LinuxField}
use Rattle.hidreport_linux.specs.declared.linux_field.LinuxReport.{LinuxReport}
use Rattle.hidreport_linux.specs.declared.reading.core_around.CoreAround.{CoreAround}
use Rattle.hidreport_linux.specs.declared.reading.core_globals.CoreGlobals.{CoreGlobals}
use Rattle.hidreport_linux.specs.declared.reading.core_named.CoreNamed.{CoreNamed}
use Rattle.hidreport_linux.specs.declared.reading.core_reports.CoreReports.{CoreReports}
use Rattle.hidreport_linux.specs.declared.reading.placed.Doubt.{Doubt}
use Rattle.hidreport_linux.specs.declared.reading.placed.Omission.{Omission}
use Rattle.hidreport_linux.specs.declared.reading.placed.Refusal.{Refusal}

-- before the first item, or unset
abbrev pub no_globals : CoreGlobals
no_globals = record {
  minimum = pos 0;
  maximum = pos 0;
  physical_minimum = pos 0;
  physical_maximum = pos 0;
  unit = 0;
  exponent = pos 0;
  size = 0;
  count = 0;
  id = 0;
  page = 0;
}

-- a maximum, with and without a sign: it has none where the minimum has none
abbrev pub maximum_by : ℤ → ℤ → ℕ → ℤ
maximum_by minimum signed number =
    if int_lt minimum (pos 0) then signed else cast_signed w32 number

-- the maximum is below the minimum, without a sign where the minimum has none
abbrev pub are_below : CoreGlobals → Bool
are_below g =
    if int_lt g.minimum (pos 0) then int_lt g.maximum g.minimum
    else nat_lt (cast_unsigned w32 g.maximum) (cast_unsigned w32 g.minimum)

-- they are the least and the greatest number of 32 bits with a sign
abbrev pub are_widest : CoreGlobals → Bool
are_widest g =
    int_le g.minimum (neg_ℤ (pos (2 ^ 31))) && int_le (pos (2 ^ 31 - 1)) g.maximum

-- The globals, what each open Push keeps, outermost first; for each open collection what is in
-- force in it; the reports; the locals; whether an item had an id, and whether one had none; how
-- many applications there are, up to two; whether a collection makes the device one of input, and
-- which driver asks for it; what is the matter first, of each kind; whether an item without bits
-- names usages, and the first item whose multiplier overflows; the collections and the reports as
-- they came, the items with data that name usages, and what these name.
pub record ReadingRecord : Type 0 where
  pub globals : CoreGlobals
  pub pushed : List CoreGlobals
  pub around : List CoreAround
  pub reports : CoreReports
  pub locals : LocalsRecord
  pub has_ids : Bool
  pub lacks_ids : Bool
  pub applications : ℕ
  pub has_input : Bool
  pub driver : Option Driver
  pub doubt : Option Doubt
  pub refusal : Option Refusal
  pub left_out : Option Omission
  pub has_items_without_bits : Bool
  pub overflow : Option ℕ
  pub collections : List LinuxCollection
  pub order : List LinuxReport
  pub fields : List LinuxField
  pub named : List CoreNamed

-- before the first item
abbrev pub nothing_kept : ReadingRecord
nothing_kept = record {
  globals = no_globals;
  pushed = [];
  around = [];
  reports = no_reports;
  locals = no_locals;
  has_ids = false;
  lacks_ids = false;
  applications = 0;
  has_input = false;
  driver = None;
  doubt = None;
  refusal = None;
  left_out = None;
  has_items_without_bits = false;
  overflow = None;
  collections = [];
  order = [];
  fields = [];
  named = [];
}

-- in no collection
abbrev pub no_around : CoreAround
no_around = record {
  application = 0;
  physical = 0;
  logical = 0;
  has_macros = false;
  collection = 0;
}

-- inside a collection more: its number, its kind and its usage
abbrev pub with_collection : ℕ → ℕ → ℕ → CoreAround → CoreAround
with_collection number kind usage a = record {
  application = if kind == 1 then usage else a.application;
  physical = if kind == 0 then usage else a.physical;
  logical = if kind == 2 then usage else a.logical;
  has_macros = kind == 4 && usage == 0xc0003;
  collection = number;
}

-- what is in force in the collections that are open
abbrev pub around_in_force : ReadingRecord → CoreAround
around_in_force r = slice_index_or r.around (length r.around - 1) no_around

-- the application among that; 0 where there is none
abbrev pub application_in_force : ReadingRecord → ℕ
application_in_force r = (around_in_force r).application

-- the number of the collection that is open, if one is
abbrev pub open_collection : ReadingRecord → Option ℕ
open_collection r =
    if length r.around == 0 then None else Some (around_in_force r).collection
