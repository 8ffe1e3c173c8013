-- A repaired descriptor as C gets it, and what was changed (Section 6.2.2).
use Rattle.std.specs.Prelude.{ℕ, ◌==◌, ◌%◌, nat_lt, if◌then◌else◌, List, length, map}
use Rattle.std.specs.Prelude.{Option, None, Some}
use Rattle.hidreport.specs.Repair.{ChangeRecord, RepairedRecord, repaired}
use Rattle.hidreport.specs.declared.parse_options.ParseOptions.{ParseOptions}
use Rattle.hidreport.specs.declared.repairing.repair_options.RepairOptions.{RepairOptions}
use Rattle.hidreport_lists.specs.declared.mending.Reason.{Reason}
use Rattle.hidreport_lists.specs.declared.mending.Reason.TheVariants as reason
use Rattle.hidreport_c.specs.Answer.{ListsBy, listed}
use Rattle.hidreport_c.specs.Options.{options_of}
use Rattle.hidreport_c.specs.declared.structs.HidreportAnswer.{HidreportAnswer}
use Rattle.hidreport_c.specs.declared.structs.HidreportChange.{HidreportChange}
use Rattle.hidreport_c.specs.declared.structs.HidreportOptions.{HidreportOptions}

-- what is mended where it is asked for: 1 what is cut short, 2 maxima that were meant unsigned, 3
-- both; no other number says anything
abbrev pub repair_options_of : ℕ → Option ParseOptions → Option RepairOptions
repair_options_of mends None = None
repair_options_of mends (Some parse) =
    if nat_lt mends 4
    then Some (record {
      parse = parse;
      leave_out_cut_short = mends % 2 == 1;
      unsigned_maxima = nat_lt 1 mends;
    })
    else None

-- a number for each reason of a change
abbrev pub reason_of : Reason → ℕ
reason_of reason.NoData = 0
reason_of reason.UnknownMainItem = 1
reason_of reason.EndedLocal = 2
reason_of reason.NoUsage = 3
reason_of reason.UnsignedMaximum = 4
reason_of reason.CutShort = 5

-- where it is, how many bytes stood and stand there, and why
abbrev pub change_as_c : ChangeRecord → HidreportChange
change_as_c c = record {
  offset = c.offset;
  stood = length c.stood;
  stands = length c.stands;
  reason = reason_of c.reason;
}

-- the changes as C has them
abbrev pub changes_as_c : RepairedRecord → List HidreportChange
changes_as_c r = map change_as_c r.changes

-- the caller is told of a list in what is made of these bytes, by these options and mends
abbrev pub ListsOfRepair : {A : Type 0} → (RepairedRecord → List A) → HidreportOptions → ℕ
    → List ℕ → List A → List A → HidreportAnswer → Type 0
ListsOfRepair parts options mends bytes =
    ListsBy (λ chosen. listed parts (repaired chosen bytes))
    (repair_options_of mends (options_of options))
