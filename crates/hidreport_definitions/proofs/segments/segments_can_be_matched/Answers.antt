use Rattle.std.proofs.Common.{◌≤◌, ℕ, zero, suc, [], ◌∷◌, List, refl, arith, count_by, take}
use Rattle.hidreport.specs.GlobalItem.TheVariants as global
use Rattle.hidreport.specs.ItemType.{ItemType}
use Rattle.hidreport.specs.ItemType.TheVariants as item
use Rattle.hidreport.specs.LocalItem.TheVariants as local
use Rattle.hidreport.specs.Kinds.{is_push, is_pop}
use Rattle.hidreport_definitions.proofs.segments.segments_can_be_matched.Goals as goal

idle : (m : ℕ) → count_by is_pop (take m []) ≤ count_by is_push (take m [])
idle zero = omega arith
idle (suc m) = omega arith

abbrev size : ItemType
size = item.Global (global.ReportSize 16)

abbrev usage : ItemType
usage = item.Local (local.UsageId 9)

plain : (m : ℕ)
    → count_by is_pop (take m (size ∷ usage ∷ [])) ≤ count_by is_push (take m (size ∷ usage ∷ []))
plain zero = omega arith
plain (suc zero) = omega arith
plain (suc (suc zero)) = omega arith
plain (suc (suc (suc m))) = omega arith

abbrev whole : List ItemType
whole = item.Global global.Push ∷ size ∷ item.Global global.Pop ∷ []

nested : (m : ℕ) → count_by is_pop (take m whole) ≤ count_by is_push (take m whole)
nested zero = omega arith
nested (suc zero) = omega arith
nested (suc (suc zero)) = omega arith
nested (suc (suc (suc zero))) = omega arith
nested (suc (suc (suc (suc m)))) = omega arith

pub returns : goal.returns
returns c = record {
  some = record { idle = refl; within = plain; closed = refl };
  none = record { idle = refl; within = idle; closed = refl };
  nested = record { idle = refl; within = nested; closed = refl };
}
