-- How C asks for a descriptor to be read (Sections 6.2.2.7 and 6.2.2.8).
use Rattle.std.specs.Prelude.{ℕ, ◌==◌, ◌^◌, ◌-◌, if◌then◌else◌, List, length, Option, None, Some}
use Rattle.std.specs.Prelude.{option_map, Result}
use Rattle.hidreport_lists.specs.Answer.{Refusal}
use Rattle.hidreport.specs.Groups.{OutlineRecord}
use Rattle.hidreport.specs.Options.{parse_as, past_longest, unless_too_long}
use Rattle.hidreport.specs.Outline.{outline_as}
use Rattle.hidreport.specs.Records.{DescriptorRecord}
use Rattle.hidreport.specs.declared.parse_options.ParseOptions.{ParseOptions}
use Rattle.hidreport.specs.declared.parser.push_keeps.PushKeeps.{PushKeeps}
use Rattle.hidreport.specs.declared.parser.push_keeps.PushKeeps.TheVariants as a_push_keeps
use Rattle.hidreport.specs.declared.parser.usages_by.UsagesBy.{UsagesBy}
use Rattle.hidreport.specs.declared.parser.usages_by.UsagesBy.TheVariants as usages_by
use Rattle.hidreport_linux.specs.LinuxDevice.{linux_outline, linux_parse}
use Rattle.hidreport_c.specs.declared.options.Reading.{Reading}
use Rattle.hidreport_c.specs.declared.options.Reading.TheVariants as reading
use Rattle.hidreport_c.specs.declared.structs.HidreportOptions.{HidreportOptions}

-- what a Push keeps: 0 globals and locals, 1 globals alone
abbrev pub push_keeps_of : ℕ → Option PushKeeps
push_keeps_of push =
    if push == 0 then Some a_push_keeps.All
    else (if push == 1 then Some a_push_keeps.Globals else None)

-- by which rule usages are found: 0 by the letter of the standard, 1 as hosts read them
abbrev pub usages_of : ℕ → Option UsagesBy
usages_of usages =
    if usages == 0 then Some usages_by.Standard
    else (if usages == 1 then Some usages_by.Hosts else None)

-- the greatest size is no limit
abbrev pub limit_of : ℕ → Option ℕ
limit_of limit = if limit == 2 ^ 64 - 1 then None else Some limit

-- with a limit a descriptor has at most so many bytes
abbrev pub longest_of : Option ℕ → Option ℕ
longest_of None = None
longest_of (Some limit) = Some 65536

-- options by a limit and what else is asked for; none where that is not known
abbrev pub with_limit : Option ℕ → Option PushKeeps → Option UsagesBy → Option ParseOptions
with_limit limit None usages = None
with_limit limit (Some keeps) None = None
with_limit limit (Some keeps) (Some usages) = Some (record {
  push_keeps = keeps;
  usages = usages;
  limit = limit;
  longest = longest_of limit;
})

-- the options as the library has them; none where `push` or `usages` is no number of them
abbrev pub options_of : HidreportOptions → Option ParseOptions
options_of options =
    with_limit (limit_of options.limit) (push_keeps_of options.push) (usages_of options.usages)

-- as Linux reads a descriptor, with a Push of globals alone
abbrev pub linux_by : ℕ → Option ℕ → Option Reading
linux_by push limit =
    if push == 1 then Some (reading.AsLinux limit (longest_of limit)) else None

-- how a descriptor is read: 2 for usages is as Linux reads all of it
abbrev pub reading_of : HidreportOptions → Option Reading
reading_of options =
    if options.usages == 2 then linux_by options.push (limit_of options.limit)
    else option_map reading.By (options_of options)

-- what Linux reads of a descriptor that isn't too long
abbrev pub as_linux : Option ℕ → Option ℕ → List ℕ → Result DescriptorRecord Refusal
as_linux limit longest bytes =
    unless_too_long (past_longest longest (length bytes)) (linux_parse limit bytes)

-- the same in groups
abbrev pub outline_by_linux : Option ℕ → Option ℕ → List ℕ → Result OutlineRecord Refusal
outline_by_linux limit longest bytes =
    unless_too_long (past_longest longest (length bytes)) (linux_outline limit bytes)

-- the reports that bytes announce, or why they are refused
abbrev pub read_by : Reading → List ℕ → Result DescriptorRecord Refusal
read_by (reading.By options) bytes = parse_as options bytes
read_by (reading.AsLinux limit longest) bytes = as_linux limit longest bytes

-- the same in groups
abbrev pub outline_by : Reading → List ℕ → Result OutlineRecord Refusal
outline_by (reading.By options) bytes = outline_as options bytes
outline_by (reading.AsLinux limit longest) bytes = outline_by_linux limit longest bytes
