-- Why a usage has no event, in words.
use Rattle.std.specs.Prelude.{ℕ, List, codes}
use Rattle.hidreport_linux.specs.declared.unmapped.Unmapped.{Unmapped}
use Rattle.hidreport_linux.specs.declared.unmapped.Unmapped.TheVariants as none

abbrev pub reason_of : Unmapped → List ℕ
reason_of none.Constant = codes "constant"
reason_of none.Feature = codes "in a feature report"
reason_of none.Output = codes "in an output report, and no LED"
reason_of none.Refused = codes "Linux refuses the descriptor"
reason_of none.NotKnown = codes "not known, since Linux may read it otherwise"
reason_of none.NoInput = codes "no collection is an input application"
reason_of none.PastItems = codes "past the first 256 items of the report"
reason_of none.PastUsages = codes "past the first 12288 usages of the item"
reason_of none.Ignored = codes "a usage that hid-input ignores"
reason_of none.SystemControl = codes "ignored in a System Control"
reason_of none.Battery = codes "the battery's"
reason_of none.OtherDirection = codes "another direction has the hat's axes"
reason_of none.Taken = codes "a usage before it has the code"
reason_of none.PastCodes = codes "past the last code"
