-- Repaired descriptors, and lists of items, whose laws rows tell.
use Rattle.std.specs.Prelude.{ℕ, false, List, [], ◌∷◌}
use Rattle.hidreport_lists.specs.declared.mending.Reason.TheVariants as reason
use Rattle.hidreport.specs.Flags.{flags_of}
use Rattle.hidreport.specs.GlobalItem.TheVariants as global
use Rattle.hidreport.specs.ItemType.{ItemType}
use Rattle.hidreport.specs.ItemType.TheVariants as item
use Rattle.hidreport.specs.MainItem.TheVariants as main
use Rattle.hidreport.specs.Options.{default_options, globals_only_options}
use Rattle.hidreport.specs.Repair.{ChangeRecord, RepairedRecord}
use Rattle.hidreport.specs.declared.parser.usages_by.UsagesBy.TheVariants as usages_by
use Rattle.hidreport.specs.declared.repairing.repair_options.RepairOptions.{RepairOptions}
use Rattle.hidreport_definitions.specs.Hex.{hex}

-- the bytes of a text, with these changes named
abbrev pub repaired_to : List ℕ → List ChangeRecord → RepairedRecord
repaired_to text changes = record { bytes = hex text; changes = changes }

-- at an offset a text's bytes became those of another, for want of usages
abbrev pub padded_at : ℕ → List ℕ → List ℕ → ChangeRecord
padded_at offset stood stands =
    record { offset = offset; stood = hex stood; stands = hex stands; reason = reason.NoUsage }

-- at an offset a text's bytes were left out, as an unknown main item
abbrev pub left_out_at : ℕ → List ℕ → ChangeRecord
left_out_at offset stood =
    record { offset = offset; stood = hex stood; stands = []; reason = reason.UnknownMainItem }

-- what Linux's hid-core reads without asking
abbrev pub as_hid_core : RepairOptions
as_hid_core = record {
  parse = default_options;
  leave_out_cut_short = false;
  unsigned_maxima = false;
}

-- the same where a Push keeps globals alone
abbrev pub by_globals : RepairOptions
by_globals = record as_hid_core { parse = globals_only_options }

-- and usages are as hosts find them
abbrev pub by_hosts : RepairOptions
by_hosts = record as_hid_core {
  parse = record globals_only_options { usages = usages_by.Hosts };
}

-- an Input and an Output with the flags of a number
abbrev pub input : ℕ → ItemType
input flags = item.Main (main.Input (flags_of flags))

abbrev pub output : ℕ → ItemType
output flags = item.Main (main.Output (flags_of flags))

-- so many fields of so many bits, made by this item, before other items
abbrev pub fields_by : ℕ → ℕ → ItemType → List ItemType → List ItemType
fields_by size count maker others =
    item.Global (global.ReportSize size) ∷ item.Global (global.ReportCount count) ∷ maker ∷ others
