-- A device as Linux reads its descriptor (hid-core of Linux 6.12).
use Rattle.std.specs.Prelude.{◌≡◌, ◌≢◌, ℕ, true, false, List, [], ◌∷◌, Option, Some, None, Result}
use Rattle.std.specs.Prelude.{Ok, Err}
use Rattle.hidreport_lists.specs.Answer.{Refusal, InvalidData, Refuses}
use Rattle.hidreport_lists.specs.declared.error.ParserError.{ParserError}
use Rattle.hidreport_lists.specs.declared.error.ParserError.TheVariants as errors
use Rattle.hidreport.specs.Groups.{OutlineRecord, listed}
use Rattle.hidreport.specs.Options.{parse_as}
use Rattle.hidreport.specs.Outline.{outline_as}
use Rattle.hidreport.specs.Records.{DescriptorRecord}
use Rattle.hidreport.specs.Repair.{RepairedRecord, mending}
use Rattle.hidreport.specs.declared.parse_options.ParseOptions.{ParseOptions}
use Rattle.hidreport.specs.declared.parser.push_keeps.PushKeeps.TheVariants as push_keeps
use Rattle.hidreport.specs.declared.parser.usages_by.UsagesBy.TheVariants as usages_by
use Rattle.hidreport.specs.declared.repairing.repair_options.RepairOptions.{RepairOptions}
use Rattle.hidreport_linux.specs.CoreKept.{ReadingRecord}
use Rattle.hidreport_linux.specs.CoreReading.{linux_reading}
use Rattle.hidreport_linux.specs.CoreReasons.{refusal_text}
use Rattle.hidreport_linux.specs.declared.linux_device.LinuxRefusal.{LinuxRefusal}
use Rattle.hidreport_linux.specs.declared.linux_device.LinuxRefusal.TheVariants as linux
use Rattle.hidreport_linux.specs.declared.reading.placed.Refusal as placed

-- Linux takes the descriptor: hid-core refuses none of its items, and nothing is left open
abbrev pub IsTakenByLinux : List ℕ → Type 0
IsTakenByLinux bytes = (linux_reading bytes).refusal ≡ None

-- maxima have no sign where minima have none, a Push keeps globals alone, and usages are as hosts
-- find them
abbrev pub linux_options : Option ℕ → RepairOptions
linux_options limit = record {
  parse = record {
    push_keeps = push_keeps.Globals;
    usages = usages_by.Hosts;
    limit = limit;
    longest = None;
  };
  leave_out_cut_short = false;
  unsigned_maxima = true;
}

-- the reports of a mended descriptor; of one of which nothing is left there are none
abbrev pub parse_mended : ParseOptions → List ℕ → Result DescriptorRecord Refusal
parse_mended options [] = Ok (record { input = []; output = []; feature = [] })
parse_mended options (b ∷ bs) = parse_as options (b ∷ bs)

-- the same in groups
abbrev pub outline_mended : ParseOptions → List ℕ → Result OutlineRecord Refusal
outline_mended options [] = Ok (record { input = []; output = []; feature = [] })
outline_mended options (b ∷ bs) = outline_as options (b ∷ bs)

-- the reports of what is mended, or why it isn't
abbrev pub then_parsed : ParseOptions → Result RepairedRecord Refusal
    → Result DescriptorRecord Refusal
then_parsed options (Ok mended) = parse_mended options mended.bytes
then_parsed options (Err refusal) = Err refusal

-- the same in groups
abbrev pub then_outlined : ParseOptions → Result RepairedRecord Refusal
    → Result OutlineRecord Refusal
then_outlined options (Ok mended) = outline_mended options mended.bytes
then_outlined options (Err refusal) = Err refusal

-- unless Linux refuses the descriptor
abbrev pub unless_linux_refuses : {A : Type 0} → Option placed.Refusal → Result A Refusal
    → Result A Refusal
unless_linux_refuses None answer = answer
unless_linux_refuses (Some r) answer = Err (InvalidData r.offset (refusal_text r.reason))

-- the reports of a descriptor as Linux reads it, under a limit, if any; or its first fault
abbrev pub linux_parse : Option ℕ → List ℕ → Result DescriptorRecord Refusal
linux_parse limit bytes = unless_linux_refuses (linux_reading bytes).refusal
    (then_parsed (linux_options limit).parse (mending (linux_options limit) bytes))

-- the same in groups
abbrev pub linux_outline : Option ℕ → List ℕ → Result OutlineRecord Refusal
linux_outline limit bytes = unless_linux_refuses (linux_reading bytes).refusal
    (then_outlined (linux_options limit).parse (mending (linux_options limit) bytes))

-- what is read of the items, the mended descriptor, and its reports
pub record DeviceRecord : Type 0 where
  pub reading : ReadingRecord
  pub repaired : RepairedRecord
  pub outline : OutlineRecord

-- Linux takes the descriptor, and reads it so: mended, its reports are these
pub record IsDevice (limit : Option ℕ) (bytes : List ℕ) (device : DeviceRecord) : Type 0 where
  pub taken : IsTakenByLinux bytes
  pub reading : device.reading ≡ linux_reading bytes
  pub mended : mending (linux_options limit) bytes ≡ Ok device.repaired
  pub groups : outline_mended (linux_options limit).parse device.repaired.bytes
      ≡ Ok device.outline
  pub reports : parse_mended (linux_options limit).parse device.repaired.bytes
      ≡ Ok (listed device.outline)

-- memory is refused; or Linux takes the descriptor, and what is mended is refused
abbrev pub IsUnread : Option ℕ → List ℕ → ParserError → Type 0
IsUnread limit bytes errors.OutOfMemory = Unit {0}
IsUnread limit bytes fault = IsTakenByLinux bytes
    × Refuses fault (then_outlined (linux_options limit).parse (mending (linux_options limit) bytes))

-- a descriptor is read as Linux reads it, or refused where Linux refuses it
abbrev pub LinuxAnswers : Option ℕ → List ℕ → Result DeviceRecord LinuxRefusal → Type 0
LinuxAnswers limit bytes (Ok device) = IsDevice limit bytes device
LinuxAnswers limit bytes (Err (linux.Refused offset reason)) =
    (linux_reading bytes).refusal ≡ Some (record { offset = offset; reason = reason })
LinuxAnswers limit bytes (Err (linux.Unread fault)) = IsUnread limit bytes fault

-- Linux refuses it; or memory is refused, or a limit refuses it, if there is one
abbrev pub IsOfLinux : Option ℕ → LinuxRefusal → Type 0
IsOfLinux limit (linux.Refused offset reason) = Unit {0}
IsOfLinux limit (linux.Unread errors.OutOfMemory) = Unit {0}
IsOfLinux limit (linux.Unread (errors.BudgetExceeded offset)) = limit ≢ None
IsOfLinux limit (linux.Unread fault) = ⊥
