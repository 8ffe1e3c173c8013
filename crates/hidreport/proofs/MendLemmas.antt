-- A repair is what is mended, where that is read.
use Rattle.std.proofs.Common.{◌≡◌, ◌∙◌, List, ℕ, length, Option, None, Some, Result, Ok, Err, ap, refl}
use Rattle.std.proofs.Common.{subst, sym, string_bytes}
use Rattle.hidreport_lists.specs.Answer.{InvalidData, MismatchingReportId, OutOfBounds, BudgetExceeded}
use Rattle.hidreport_lists.specs.Answer.{Refusal, Refuses}
use Rattle.hidreport_lists.specs.Mending.{PieceRecord}
use Rattle.hidreport_lists.specs.declared.error.ParserError.{ParserError}
use Rattle.hidreport_lists.specs.declared.error.ParserError.TheVariants as errors
use Rattle.hidreport.specs.Options.{parse_as, past_longest, unless_too_long}
use Rattle.hidreport_fields.specs.Records.{DescriptorRecord}
use Rattle.hidreport.specs.Repair.{RepairedRecord, if_read, mending, repaired, repaired_pieces}
use Rattle.hidreport.specs.Repair.{then_joined, then_read}
use Rattle.hidreport.specs.declared.parse_options.ParseOptions.{ParseOptions}
use Rattle.hidreport.specs.declared.repairing.repair_options.RepairOptions.{RepairOptions}

read-past : (options : ParseOptions) (past : Option ℕ) (ps : Result (List PieceRecord) Refusal)
    (m : RepairedRecord) → unless_too_long past (then_joined ps) ≡ Ok m
    → unless_too_long past (then_read options ps) ≡ if_read m (parse_as options m.bytes)
read-past options (Some offset) ps m is = cc
read-past options None (Ok ps) m is =
    let same = is in
    ap (λ (r : Result RepairedRecord Refusal). then_if r) is
  where
    then_if : Result RepairedRecord Refusal → Result RepairedRecord Refusal
    then_if (Ok r) = if_read r (parse_as options r.bytes)
    then_if (Err refusal) = Err refusal
read-past options None (Err refusal) m is = cc

read-so : (options : RepairOptions) (bytes : List ℕ) (m : RepairedRecord)
    → mending options bytes ≡ Ok m
    → repaired options bytes ≡ if_read m (parse_as options.parse m.bytes)
read-so options bytes m is = read-past options.parse
    (past_longest options.parse.longest (length bytes)) (repaired_pieces options bytes) m is

pub read-mended : (options : RepairOptions) (bytes slice : List ℕ) (m : RepairedRecord)
    (d : DescriptorRecord) → mending options bytes ≡ Ok m → slice ≡ m.bytes
    → parse_as options.parse slice ≡ Ok d → repaired options bytes ≡ Ok m
read-mended options bytes slice m d is same read =
    read-so options bytes m is ∙ ap (λ l. if_read m (parse_as options.parse l)) (sym same)
    ∙ ap (if_read m) read

refuses-if : (fault : ParserError) (m : RepairedRecord) (r : Result DescriptorRecord Refusal)
    → Refuses fault r → Refuses fault (if_read m r)
refuses-if (errors.InvalidData offset message) m r is = ap (if_read m) is
refuses-if errors.OutOfBounds m r is = ap (if_read m) is
refuses-if errors.MismatchingReportId m r is = ap (if_read m) is
refuses-if errors.OutOfMemory m r is = tt
refuses-if (errors.BudgetExceeded offset) m r is = ap (if_read m) is

pub refused-mended : (options : RepairOptions) (bytes slice : List ℕ) (m : RepairedRecord)
    (fault : ParserError) → mending options bytes ≡ Ok m → slice ≡ m.bytes
    → Refuses fault (parse_as options.parse slice) → Refuses fault (repaired options bytes)
refused-mended options bytes slice m fault is same refused =
    subst (Refuses fault)
    (ap (λ l. if_read m (parse_as options.parse l)) same ∙ sym (read-so options bytes m is))
    (refuses-if fault m (parse_as options.parse slice) refused)
