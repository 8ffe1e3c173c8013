-- A descriptor that Linux takes: mended, and read in groups.
use Rattle.std.proofs.Common.{◌≡◌, ◌≢◌, ◌∙◌, ℕ, List, [], ◌∷◌, None, Option, Result, Ok}
use Rattle.std.proofs.Common.{Err, ap, inl, inr, string_bytes, subst, sym}
use Rattle.hidreport_lists.specs.Answer.{InvalidData, MismatchingReportId, OutOfBounds, Refusal}
use Rattle.hidreport_lists.specs.Answer.{Refuses}
use Rattle.hidreport_lists.specs.declared.error.ParserError.{ParserError}
use Rattle.hidreport_lists.specs.declared.error.ParserError.TheVariants as errors
use Rattle.hidreport.specs.Groups.{OutlineRecord, listed}
use Rattle.hidreport.specs.Records.{DescriptorRecord}
use Rattle.hidreport.specs.Repair.{RepairedRecord, mending}
use Rattle.hidreport.specs.Taken.{IsOfLimits, IsPast, IsReadIfAny, IsReadUnlessPast}
use Rattle.hidreport.specs.declared.parse_options.ParseOptions.{ParseOptions}
use Rattle.hidreport.specs.declared.repairing.repair_options.RepairOptions.{RepairOptions}
use Rattle.hidreport_linux.specs.CoreReading.{linux_reading}
use Rattle.hidreport_linux.specs.LinuxDevice.{DeviceRecord, IsDevice, IsOfLinux, linux_options}
use Rattle.hidreport_linux.specs.LinuxDevice.{linux_outline}
use Rattle.hidreport_linux.specs.LinuxDevice.{outline_mended, parse_mended, then_outlined}
use Rattle.hidreport_linux.specs.LinuxDevice.{unless_linux_refuses}
use Rattle.hidreport_linux.specs.declared.linux_device.LinuxRefusal.TheVariants as linux

-- its groups
pub outlined : (limit : Option ℕ) (bytes : List ℕ) (options : RepairOptions)
    (mended : RepairedRecord) (slice : List ℕ) (outline : OutlineRecord)
    → (linux_reading bytes).refusal ≡ None → options ≡ linux_options limit
    → mending options bytes ≡ Ok mended → slice ≡ mended.bytes
    → outline_mended options.parse slice ≡ Ok outline → linux_outline limit bytes ≡ Ok outline
outlined limit bytes options mended slice outline none opts is same outlines =
    ap (λ o. unless_linux_refuses o (then_outlined (linux_options limit).parse
    (mending (linux_options limit) bytes))) none
    ∙ ap (λ (x : RepairOptions). then_outlined x.parse (mending x bytes)) (sym opts)
    ∙ ap (then_outlined options.parse) is
    ∙ ap (outline_mended options.parse) (sym same)
    ∙ outlines

-- all that is known of it
pub is-device : (limit : Option ℕ) (bytes : List ℕ) (options : RepairOptions) (d : DeviceRecord)
    (slice : List ℕ)
    → (linux_reading bytes).refusal ≡ None → options ≡ linux_options limit
    → d.reading ≡ linux_reading bytes → mending options bytes ≡ Ok d.repaired
    → slice ≡ d.repaired.bytes → outline_mended options.parse slice ≡ Ok d.outline
    → parse_mended options.parse slice ≡ Ok (listed d.outline) → IsDevice limit bytes d
is-device limit bytes options d slice none opts reads is same outlines lists = record {
  taken = none;
  reading = reads;
  mended = ap (λ (x : RepairOptions). mending x bytes) (sym opts) ∙ is;
  groups = ap (λ (x : RepairOptions). outline_mended x.parse d.repaired.bytes) (sym opts)
      ∙ ap (outline_mended options.parse) (sym same) ∙ outlines;
  reports = ap (λ (x : RepairOptions). parse_mended x.parse d.repaired.bytes) (sym opts)
      ∙ ap (parse_mended options.parse) (sym same) ∙ lists;
}

-- only a limit refuses what hosts take

not-past : {A : Type 0} (r : Result A Refusal) (refusal : Refusal) → IsReadUnlessPast r
    → r ≡ Err refusal → IsPast refusal
not-past (Ok x) refusal read e = cc
not-past (Err other) refusal read e =
    let same : other ≡ refusal = cc in subst IsPast same read

read-limits : (r : Result DescriptorRecord Refusal) (fault : ParserError) → IsReadUnlessPast r
    → Refuses fault r → IsOfLimits fault
read-limits r (errors.InvalidData offset message) read is =
    not-past r (InvalidData offset (string_bytes message)) read is
read-limits r errors.OutOfBounds read is = not-past r OutOfBounds read is
read-limits r errors.MismatchingReportId read is = not-past r MismatchingReportId read is
read-limits r errors.OutOfMemory read is = tt
read-limits r (errors.BudgetExceeded offset) read is = tt

if-any : (options : ParseOptions) (bytes : List ℕ) → IsReadIfAny options bytes
    → IsReadUnlessPast (parse_mended options bytes)
if-any options [] read = tt
if-any options (b ∷ bs) (inl none) = cc
if-any options (b ∷ bs) (inr read) = read

pub outline-limits : (options : ParseOptions) (bytes : List ℕ) (fault : ParserError)
    → IsReadIfAny options bytes → Refuses fault (parse_mended options bytes) → IsOfLimits fault
outline-limits options bytes fault read is =
    read-limits (parse_mended options bytes) fault (if-any options bytes read) is

pub of-linux : {A : Type 0} (limit : Option ℕ) (r : Result A ParserError) (fault : ParserError)
    → r ≡ Err fault → IsOfLimits fault
    → (limit ≡ None → (offset : ℕ) → r ≢ Err (errors.BudgetExceeded offset))
    → IsOfLinux limit (linux.Unread fault)
of-linux limit r (errors.InvalidData offset message) is of unlimited = of
of-linux limit r errors.OutOfBounds is of unlimited = of
of-linux limit r errors.MismatchingReportId is of unlimited = of
of-linux limit r errors.OutOfMemory is of unlimited = tt
of-linux limit r (errors.BudgetExceeded offset) is of unlimited =
    λ none. unlimited none offset is
