-- Why hid-core refuses a descriptor, may read it otherwise, or leaves something out, in words.
use Rattle.std.specs.Prelude.{ℕ, List, codes}
use Rattle.hidreport_linux.specs.declared.reading.reasons.RefusalReason.{RefusalReason}
use Rattle.hidreport_linux.specs.declared.reading.reasons.RefusalReason.TheVariants as refusal
use Rattle.hidreport_linux.specs.declared.reading.reasons.DoubtReason.{DoubtReason}
use Rattle.hidreport_linux.specs.declared.reading.reasons.DoubtReason.TheVariants as doubt
use Rattle.hidreport_linux.specs.declared.reading.reasons.LeftOut.{LeftOut}
use Rattle.hidreport_linux.specs.declared.reading.reasons.LeftOut.TheVariants as left_out

abbrev pub refusal_text : RefusalReason → List ℕ
refusal_text refusal.NoItem = codes "no item"
refusal_text refusal.CutShort = codes "an item that is cut short"
refusal_text refusal.LongItem = codes "a long item"
refusal_text refusal.PastPushes = codes "more than four Pushes wait for a Pop"
refusal_text refusal.LonePop = codes "a Pop without a Push"
refusal_text refusal.LoneEnd = codes "an End Collection without a collection"
refusal_text refusal.PastBits = codes "a size of more than 256 bits"
refusal_text refusal.PastCount = codes "a count of more than 12288"
refusal_text refusal.NoId = codes "a report id that is none"
refusal_text refusal.UnknownGlobal = codes "a global item that is none"
refusal_text refusal.OddDelimiter = codes "a Delimiter within a set, or that ends none"
refusal_text refusal.NoneFits = codes "usages of which none fits behind the others"
refusal_text refusal.AllBits = codes "a Usage Maximum of 32 bits that are all set"
refusal_text refusal.PastUsages = codes "more than 12288 usages"
refusal_text refusal.BelowMinimum = codes "a Logical Maximum below its minimum"
refusal_text refusal.LongReport = codes "a report of more than 16383 bytes"
refusal_text refusal.OpenCollection = codes "a collection that isn't closed"
refusal_text refusal.OpenSet = codes "a set of usages that isn't closed"

abbrev pub doubt_text : DoubtReason → List ℕ
doubt_text doubt.WidePage = codes "a page of more than 16 bits"
doubt_text doubt.BelowUsageMinimum = codes "a Usage Maximum below its minimum"
doubt_text doubt.LackedPage = codes "a Usage Maximum of four bytes without a page"
doubt_text doubt.LacksId = codes "a report without an id beside others"

abbrev pub left_out_text : LeftOut → List ℕ
left_out_text left_out.Usages = codes "usages past the first 12288 of an item"
left_out_text left_out.Items = codes "items past the first 256 of a report"
