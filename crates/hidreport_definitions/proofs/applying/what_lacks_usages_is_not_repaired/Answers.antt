use Rattle.std.proofs.Common.{◌≡◌, ℕ, Result, Ok, Err, length, ap, arith}
use Rattle.hidreport.specs.Answer.{Refusal}
use Rattle.hidreport.specs.Repair.{RepairedRecord}
use Rattle.hidreport_definitions.proofs.applying.what_lacks_usages_is_not_repaired.Goals as goal

abbrev changes_in : Result RepairedRecord Refusal → ℕ
changes_in (Ok r) = length r.changes
changes_in (Err refusal) = 0

pub returns : goal.returns
returns c = λ stays. let none : 1 ≡ 0 = ap changes_in stays in omega (arith, none)
