use Rattle.std.proofs.Common.{List, [], ◌∷◌, None, arith}
use Rattle.std.proofs.Common.{codes, refl}
use Rattle.hidreport.specs.Entry.{Entry}
use Rattle.hidreport.specs.GlobalItem.TheVariants as global
use Rattle.hidreport.specs.ItemType.TheVariants as item
use Rattle.hidreport.specs.Itemising.{Itemises}
use Rattle.hidreport.specs.Mending.{PieceRecord, holding}
use Rattle.hidreport.specs.Options.{default_options, globals_only_options}
use Rattle.hidreport.specs.RepairLaws.{KeepsBits}
use Rattle.hidreport.specs.Spelling.{item_of}
use Rattle.hidreport.specs.declared.parse_options.ParseOptions.{ParseOptions}
use Rattle.hidreport.proofs.OutlineLemmas.{same-places}
use Rattle.hidreport_definitions.specs.Hex.{hex}
use Rattle.hidreport_definitions.specs.Repairs.{as_hid_core, input, padded_at, repaired_to}
use Rattle.hidreport_definitions.proofs.ByteLemmas.{one, two}
use Rattle.hidreport_definitions.proofs.PieceLemmas.{unchanged, written_at}
use Rattle.hidreport_definitions.proofs.repairs.padding_behind_a_pop_keeps_its_bits.Goals as goal

abbrev what_is_read : List PieceRecord
what_is_read = unchanged 0 0x75 8 (item.Global (global.ReportSize 8))
    ∷ unchanged 2 0x95 1 (item.Global (global.ReportCount 1))
    ∷ holding None 4 (0xa4 ∷ []) (0xa4 ∷ []) (item.Global global.Push)
    ∷ unchanged 5 0x75 16 (item.Global (global.ReportSize 16))
    ∷ holding None 7 (0xb4 ∷ []) (0xb4 ∷ []) (item.Global global.Pop)
    ∷ unchanged 8 0x81 2 (input 2) ∷ []

abbrev what_is_written : List Entry
what_is_written = written_at 0 0x75 8 (item.Global (global.ReportSize 8))
    ∷ written_at 2 0x95 1 (item.Global (global.ReportCount 1))
    ∷ record { offset = 4; bytes = 0xa4 ∷ []; item = item.Global global.Push }
    ∷ written_at 5 0x75 16 (item.Global (global.ReportSize 16))
    ∷ record { offset = 7; bytes = 0xb4 ∷ []; item = item.Global global.Pop }
    ∷ written_at 8 0x81 3 (input 3) ∷ []

is-written : Itemises item_of (hex (codes "75 08 95 01 a4 75 10 b4 81 03")) what_is_written
is-written = record {
  some = λ e. cc;
  whole = refl;
  each = (
    (two 0x75 8 (omega arith) (omega arith), refl, refl),
    (
      (two 0x95 1 (omega arith) (omega arith), refl, refl),
      (
        (one 0xa4 (omega arith), refl, refl),
        (
          (two 0x75 16 (omega arith) (omega arith), refl, refl),
          (
            (one 0xb4 (omega arith), refl, refl),
            ((two 0x81 3 (omega arith) (omega arith), refl, refl), tt),
          ),
        ),
      ),
    ),
  );
  offsets = (refl, (refl, (refl, (refl, (refl, (refl, tt))))));
}

-- whatever a Push keeps
kept : (parse : ParseOptions) → KeepsBits (record as_hid_core { parse = parse })
    (hex (codes "75 08 95 01 a4 75 10 b4 81 02"))
    (repaired_to (codes "75 08 95 01 a4 75 10 b4 81 03")
    (padded_at 8 (codes "81 02") (codes "81 03") ∷ []))
kept parse = record {
  read = what_is_read;
  reads = refl;
  entries = what_is_written;
  written = is-written;
  places = same-places parse _ _ refl;
}

pub returns-clause-locals : goal.returns-clause-locals
returns-clause-locals c = kept default_options

pub returns-clause-globals : goal.returns-clause-globals
returns-clause-globals c = kept globals_only_options
