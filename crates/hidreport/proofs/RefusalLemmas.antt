-- Which refusals parsing never gives.
use Rattle.std.proofs.Common.{◌≡◌, ◌≢◌, ℕ, Bool, true, false, cond, List, [], ◌∷◌, Option, None}
use Rattle.std.proofs.Common.{Some, Result, Ok, Err, ap, refl, ◌∙◌}
use Rattle.std.specs.List.{enumerate_from}
use Rattle.hidreport_items.specs.Answer.{GrammarFault}
use Rattle.hidreport_items.specs.Flags.{Flags}
use Rattle.hidreport_items.specs.Spelling.{item_of}
use Rattle.hidreport_items.specs.declared.global.GlobalItem.TheVariants as global
use Rattle.hidreport_items.specs.declared.item.ItemType.{ItemType}
use Rattle.hidreport_items.specs.declared.item.ItemType.TheVariants as item
use Rattle.hidreport_items.specs.declared.main_item.MainItem.TheVariants as main
use Rattle.hidreport_lists.specs.Answer.{Answers, Refusal, MismatchingReportId, BudgetExceeded}
use Rattle.hidreport_lists.specs.Entry.{Entry}
use Rattle.hidreport_lists.specs.Itemising.{itemise}
use Rattle.hidreport_lists.specs.Rebuilt.{items_of}
use Rattle.hidreport_lists.specs.declared.error.ParserError.{ParserError}
use Rattle.hidreport_lists.specs.declared.error.ParserError.TheVariants as errors
use Rattle.hidreport.specs.Budget.{meaning_within_by, parse_items_within}
use Rattle.hidreport.specs.Faults.{Counts, data_fault, fault, if_no_usages, item_fault}
use Rattle.hidreport.specs.Faults.{limit_fault, needed_usages_fault, usage_fault}
use Rattle.hidreport.specs.ItemState.{ItemState, first_of}
use Rattle.hidreport.specs.Kinds.{Indexed}
use Rattle.hidreport.specs.Making.{extent}
use Rattle.hidreport.specs.Meaning.{InForce, at_offset, descriptor, fault_here, first_fault}
use Rattle.hidreport.specs.Meaning.{meaning_by, parse_by, parse_items, unless_first}
use Rattle.hidreport.specs.MeaningFault.{MeaningFault, TooManyPops, TooManyEnds}
use Rattle.hidreport.specs.MeaningFault.{MissingUsageMaximum, MissingUsagePage, MissingUsages}
use Rattle.hidreport.specs.MeaningFault as meaning_fault
use Rattle.hidreport.specs.Options.{parse_limited}
use Rattle.hidreport_fields.specs.Records.{DescriptorRecord}
use Rattle.hidreport.specs.Usages.{UsageList, usages_of}
use Rattle.hidreport_fields.specs.declared.field.usage.Usage.{Usage}
use Rattle.hidreport.specs.declared.parser.extent.Extent.{Extent}
use Rattle.hidreport.proofs.UsageFaultLemmas.{usages-never}

-- a report of another id is no refusal of a descriptor

mismatch-at : (entries : List Entry) (r : Result DescriptorRecord (ℕ × MeaningFault))
    → at_offset entries r ≢ Err MismatchingReportId
mismatch-at entries (Ok d) is = cc
mismatch-at entries (Err (k, TooManyPops)) is = cc
mismatch-at entries (Err (k, TooManyEnds)) is = cc
mismatch-at entries (Err (k, MissingUsageMaximum)) is = cc
mismatch-at entries (Err (k, MissingUsagePage)) is = cc
mismatch-at entries (Err (k, MissingUsages)) is = cc
mismatch-at entries (Err (k, meaning_fault.OutOfBounds)) is = cc
mismatch-at entries (Err (k, meaning_fault.BudgetExceeded)) is = cc

mismatch-items : (reading : InForce) (r : Result (List Entry) (ℕ × GrammarFault))
    → parse_items reading r ≢ Err MismatchingReportId
mismatch-items reading (Ok entries) is =
    mismatch-at entries (meaning_by reading (items_of entries)) is
mismatch-items reading (Err bad) is = cc

mismatch-within : (reading : InForce) (limit : ℕ) (r : Result (List Entry) (ℕ × GrammarFault))
    → parse_items_within reading limit r ≢ Err MismatchingReportId
mismatch-within reading limit (Ok entries) is =
    mismatch-at entries (meaning_within_by reading limit (items_of entries)) is
mismatch-within reading limit (Err bad) is = cc

pub never-mismatch : (reading : InForce) (limit : Option ℕ) (bytes : List ℕ)
    → parse_limited reading limit bytes ≢ Err MismatchingReportId
never-mismatch reading None [] is = cc
never-mismatch reading None (b ∷ bs) is =
    mismatch-items reading (itemise item_of (b ∷ bs)) is
never-mismatch reading (Some limit) [] is = cc
never-mismatch reading (Some limit) (b ∷ bs) is =
    mismatch-within reading limit (itemise item_of (b ∷ bs)) is

pub no-mismatch : {A : Type 0} (r : Result A ParserError) (answer : Result A Refusal)
    → Answers r answer → answer ≢ Err MismatchingReportId → r ≢ Err errors.MismatchingReportId
no-mismatch (Ok x) answer a never is = cc
no-mismatch (Err (errors.InvalidData offset message)) answer a never is = cc
no-mismatch (Err errors.OutOfBounds) answer a never is = cc
no-mismatch (Err errors.MismatchingReportId) answer a never is = never a
no-mismatch (Err errors.OutOfMemory) answer a never is = cc
no-mismatch (Err (errors.BudgetExceeded offset)) answer a never is = cc

-- without a limit none is passed: no item has this fault

usages-plain : (f : ItemState) → usages_of f ≢ Err meaning_fault.BudgetExceeded
usages-plain = usages-never meaning_fault.BudgetExceeded (λ e. cc) (λ e. cc)

first-of-plain : (a b : Option MeaningFault) → a ≢ Some meaning_fault.BudgetExceeded → b ≢ Some meaning_fault.BudgetExceeded
    → first_of a b ≢ Some meaning_fault.BudgetExceeded
first-of-plain (Some f) b a_plain b_plain is = a_plain is
first-of-plain None b a_plain b_plain is = b_plain is

limit-plain : (b : Bool) → limit_fault b ≢ Some meaning_fault.BudgetExceeded
limit-plain true is = cc
limit-plain false is = cc

usage-plain : (r : Result UsageList MeaningFault) → r ≢ Err meaning_fault.BudgetExceeded
    → usage_fault r ≢ Some meaning_fault.BudgetExceeded
usage-plain (Ok us) plain is = cc
usage-plain (Err f) plain is = let same : f ≡ meaning_fault.BudgetExceeded = cc in plain (ap Err same)

none-plain : (us : List Usage) → if_no_usages us ≢ Some meaning_fault.BudgetExceeded
none-plain [] is = cc
none-plain (u ∷ us) is = cc

needed-plain : (r : Result UsageList MeaningFault) → r ≢ Err meaning_fault.BudgetExceeded
    → needed_usages_fault r ≢ Some meaning_fault.BudgetExceeded
needed-plain (Ok us) plain is = none-plain us.usages is
needed-plain (Err f) plain is = let same : f ≡ meaning_fault.BudgetExceeded = cc in plain (ap Err same)

unless-plain : (b : Bool) (o : Option MeaningFault) → o ≢ Some meaning_fault.BudgetExceeded
    → cond b None o ≢ Some meaning_fault.BudgetExceeded
unless-plain true o plain is = cc
unless-plain false o plain is = plain is

either-plain : (b : Bool) (f : MeaningFault) → f ≢ meaning_fault.BudgetExceeded
    → cond b (Some f) None ≢ Some meaning_fault.BudgetExceeded
either-plain true f plain is = let same : f ≡ meaning_fault.BudgetExceeded = cc in plain same
either-plain false f plain is = cc

data-plain : (n : Counts) (f : ItemState) (flags : Flags) (e : Option Extent)
    → data_fault n f flags e ≢ Some meaning_fault.BudgetExceeded
data-plain n f flags None is = cc
data-plain n f flags (Some e) is = first-of-plain
    (cond flags.constant None (needed_usages_fault (usages_of f))) (limit_fault _)
    (unless-plain flags.constant (needed_usages_fault (usages_of f))
    (needed-plain (usages_of f) (usages-plain f))) (limit-plain _) is

item-plain : (n : Counts) (f : ItemState) (x : ItemType) → item_fault n f x ≢ Some meaning_fault.BudgetExceeded
item-plain n f (item.Global global.Pop) is = either-plain _ TooManyPops (λ e. cc) is
item-plain n f (item.Global g) is = cc
item-plain n f (item.Main main.EndCollection) is = either-plain _ TooManyEnds (λ e. cc) is
item-plain n f (item.Main (main.Collection kind)) is = first-of-plain
    (usage_fault (usages_of f)) (limit_fault _) (usage-plain (usages_of f) (usages-plain f))
    (limit-plain _) is
item-plain n f (item.Main (main.Input flags)) is = data-plain n f flags (extent f) is
item-plain n f (item.Main (main.Output flags)) is = data-plain n f flags (extent f) is
item-plain n f (item.Main (main.Feature flags)) is = data-plain n f flags (extent f) is
item-plain n f (item.Local l) is = cc
item-plain n f item.Long is = cc
item-plain n f item.Reserved is = cc

here-plain : (o : Option MeaningFault) (j k : ℕ) (later : Option (ℕ × MeaningFault))
    → o ≢ Some meaning_fault.BudgetExceeded → later ≢ Some (k, meaning_fault.BudgetExceeded)
    → fault_here o j later ≢ Some (k, meaning_fault.BudgetExceeded)
here-plain (Some f) j k later plain rest is =
    let pair : (j, f) ≡ (k, meaning_fault.BudgetExceeded) = cc in
    plain (ap (λ (p : ℕ × MeaningFault). Some p.1) pair)
here-plain None j k later plain rest is = rest is

first-plain : (item_state : ℕ → ItemState) (items : List ItemType) (ps : List Indexed) (k : ℕ)
    → first_fault item_state items ps ≢ Some (k, meaning_fault.BudgetExceeded)
first-plain item_state items [] k is = cc
first-plain item_state items (p ∷ ps) k is =
    here-plain (fault item_state items p.0 p.1) p.0 k (first_fault item_state items ps)
    (item-plain _ (item_state p.0) p.1) (first-plain item_state items ps k) is

unless-first-plain : (o : Option (ℕ × MeaningFault)) (d : DescriptorRecord) (k : ℕ)
    → o ≢ Some (k, meaning_fault.BudgetExceeded) → unless_first o d ≢ Err (k, meaning_fault.BudgetExceeded)
unless-first-plain None d k plain is = cc
unless-first-plain (Some first) d k plain is =
    let same : first ≡ (k, meaning_fault.BudgetExceeded) = cc in plain (ap Some same)

pub meaning-plain : (reading : InForce) (items : List ItemType) (k : ℕ)
    → meaning_by reading items ≢ Err (k, meaning_fault.BudgetExceeded)
meaning-plain reading items k =
    unless-first-plain (first_fault (reading items) items (enumerate_from 0 items))
    (descriptor (reading items) items) k
    (first-plain (reading items) items (enumerate_from 0 items) k)

over-at : (entries : List Entry) (r : Result DescriptorRecord (ℕ × MeaningFault)) (offset : ℕ)
    → ((k : ℕ) → r ≢ Err (k, meaning_fault.BudgetExceeded)) → at_offset entries r ≢ Err (BudgetExceeded offset)
over-at entries (Ok d) offset plain is = cc
over-at entries (Err (k, TooManyPops)) offset plain is = cc
over-at entries (Err (k, TooManyEnds)) offset plain is = cc
over-at entries (Err (k, MissingUsageMaximum)) offset plain is = cc
over-at entries (Err (k, MissingUsagePage)) offset plain is = cc
over-at entries (Err (k, MissingUsages)) offset plain is = cc
over-at entries (Err (k, meaning_fault.OutOfBounds)) offset plain is = cc
over-at entries (Err (k, meaning_fault.BudgetExceeded)) offset plain is = plain k refl

over-items : (reading : InForce) (r : Result (List Entry) (ℕ × GrammarFault)) (offset : ℕ)
    → parse_items reading r ≢ Err (BudgetExceeded offset)
over-items reading (Ok entries) offset is =
    over-at entries (meaning_by reading (items_of entries)) offset
    (meaning-plain reading (items_of entries)) is
over-items reading (Err bad) offset is = cc

pub never-over : (reading : InForce) (bytes : List ℕ) (offset : ℕ)
    → parse_by reading bytes ≢ Err (BudgetExceeded offset)
never-over reading [] offset is = cc
never-over reading (b ∷ bs) offset is = over-items reading (itemise item_of (b ∷ bs)) offset is

pub no-budget : {A : Type 0} (r : Result A ParserError) (answer : Result A Refusal) (offset : ℕ)
    → Answers r answer → answer ≢ Err (BudgetExceeded offset)
    → r ≢ Err (errors.BudgetExceeded offset)
no-budget (Ok x) answer offset a never is = cc
no-budget (Err (errors.InvalidData at message)) answer offset a never is = cc
no-budget (Err errors.OutOfBounds) answer offset a never is = cc
no-budget (Err errors.MismatchingReportId) answer offset a never is = cc
no-budget (Err errors.OutOfMemory) answer offset a never is = cc
no-budget (Err (errors.BudgetExceeded at)) answer offset a never is =
    let same : at ≡ offset = cc in never (a ∙ ap (λ n. Err (BudgetExceeded n)) same)
