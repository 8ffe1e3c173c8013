-- Parsing as it is asked for: by a reading of Push and Pop, and under a limit, if any.
use Rattle.std.specs.Prelude.{ℕ, nat_lt, if◌then◌else◌, List, length, Option, None, Some, Result, Err}
use Rattle.hidreport_lists.specs.Answer.{BudgetExceeded, Refusal}
use Rattle.hidreport_items.specs.declared.item.ItemType.{ItemType}
use Rattle.hidreport.specs.Budget.{meaning_within_by, parse_within_by}
use Rattle.hidreport.specs.ItemState.{item_state, item_state_globals_only}
use Rattle.hidreport.specs.Meaning.{InForce, meaning_by, parse_by}
use Rattle.hidreport.specs.MeaningFault.{MeaningFault}
use Rattle.hidreport_fields.specs.Records.{DescriptorRecord}
use Rattle.hidreport.specs.declared.parse_options.ParseOptions.{ParseOptions}
use Rattle.hidreport.specs.declared.parser.push_keeps.PushKeeps.{PushKeeps}
use Rattle.hidreport.specs.declared.parser.push_keeps.PushKeeps.TheVariants as a_push_keeps
use Rattle.hidreport.specs.declared.parser.usages_by.UsagesBy.{UsagesBy}
use Rattle.hidreport.specs.declared.parser.usages_by.UsagesBy.TheVariants as usages_by

-- what is in force where a Push keeps this (Section 6.2.2.7) and usages are found so
-- (Section 6.2.2.8)
abbrev pub reading_by : PushKeeps → UsagesBy → InForce
reading_by a_push_keeps.All by = item_state by
reading_by a_push_keeps.Globals by = item_state_globals_only by

-- what is in force by these options
abbrev pub reading_of : ParseOptions → InForce
reading_of options = reading_by options.push_keeps options.usages

-- the options of the Rust crate's own call
abbrev pub default_options : ParseOptions
default_options = record {
  push_keeps = a_push_keeps.All;
  usages = usages_by.Standard;
  limit = None;
  longest = None;
}

-- the same where a Push keeps globals alone
abbrev pub globals_only_options : ParseOptions
globals_only_options = record default_options { push_keeps = a_push_keeps.Globals }

-- the reports by a reading, under a limit, if any
abbrev pub parse_limited : InForce → Option ℕ → List ℕ → Result DescriptorRecord Refusal
parse_limited reading None = parse_by reading
parse_limited reading (Some limit) = parse_within_by reading limit

-- the meaning of items by a reading, under a limit, if any
abbrev pub meaning_limited : InForce → Option ℕ → List ItemType
    → Result DescriptorRecord (ℕ × MeaningFault)
meaning_limited reading None = meaning_by reading
meaning_limited reading (Some limit) = meaning_within_by reading limit

-- the meaning of items as it is asked for
abbrev pub meaning_as : ParseOptions → List ItemType → Result DescriptorRecord (ℕ × MeaningFault)
meaning_as options = meaning_limited (reading_of options) options.limit

-- the most bytes that a descriptor may have, where it has more
abbrev pub past_longest : Option ℕ → ℕ → Option ℕ
past_longest None size = None
past_longest (Some longest) size = if nat_lt longest size then Some longest else None

-- the answer, unless the budget is exceeded here
abbrev pub unless_too_long : {A : Type 0} → Option ℕ → Result A Refusal → Result A Refusal
unless_too_long None answer = answer
unless_too_long (Some offset) answer = Err (BudgetExceeded offset)

-- the reports that the bytes of a descriptor announce, or their first fault, or the item that is
-- past the limit; of bytes that aren't too many
abbrev pub parse_as : ParseOptions → List ℕ → Result DescriptorRecord Refusal
parse_as options bytes = unless_too_long (past_longest options.longest (length bytes))
    (parse_limited (reading_of options) options.limit bytes)
