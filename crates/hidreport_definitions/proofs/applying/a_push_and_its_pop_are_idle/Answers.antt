use Rattle.std.proofs.Common.{◌≤◌, ℕ, zero, suc, [], ◌∷◌, take, count_by, arith, refl}
use Rattle.hidreport.specs.GlobalItem.TheVariants as global
use Rattle.hidreport.specs.ItemType.TheVariants as item
use Rattle.hidreport.specs.Kinds.{is_pop, is_push}
use Rattle.hidreport.specs.Laws.{Spares}
use Rattle.hidreport.specs.Segments.{IsMatched}
use Rattle.hidreport.specs.declared.parser.push_keeps.PushKeeps.{PushKeeps}
use Rattle.hidreport.specs.declared.parser.push_keeps.PushKeeps.TheVariants as a_push_keeps
use Rattle.hidreport_definitions.specs.Cut.{pushed_and_popped}
use Rattle.hidreport_definitions.proofs.applying.a_push_and_its_pop_are_idle.Goals as goal

spared : (keeps : PushKeeps) → Spares keeps []
spared a_push_keeps.All = tt
spared a_push_keeps.Globals = refl

none : IsMatched []
none = record { idle = refl; within = within; closed = refl } where
  within : (m : ℕ) → count_by is_pop (take m []) ≤ count_by is_push (take m [])
  within zero = omega arith
  within (suc m) = omega arith

pub returns : goal.returns
returns c = λ options idle. idle pushed_and_popped (item.Global (global.UsagePage 1) ∷ []) []
    (item.Global global.Pop ∷ []) refl
    none (spared options.push_keeps) refl
