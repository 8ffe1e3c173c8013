use Rattle.std.proofs.Common.{◌≡◌, length}
use Rattle.hidreport.specs.Parser.Journal.{Fits, undone_stack}
use Rattle.hidreport.specs.declared.parser.push_keeps.PushKeeps.TheVariants as a_push_keeps
use Rattle.hidreport.proofs.parser.item_state_table.ItemStateTable.pop.Given as goal

-- what was taken back so far changes nothing that is kept, and no locals that aren't
abbrev pub invariant-loop-entry : goal.invariant-loop-entry
invariant-loop-entry l =
    (undone_stack l.self-inside.push_keeps l.self-inside.usages_by l.self-inside.journal l.self-inside.globals
    l.self-inside.locals
    ≡ undone_stack l.initial.self-inside.push_keeps l.initial.self-inside.usages_by
    l.initial.self-inside.journal
    l.initial.self-inside.globals l.initial.self-inside.locals)
    × Fits l.self-inside.push_keeps l.self-inside.journal l.self-inside.locals
    × (l.self-inside.push_keeps ≡ l.initial.self-inside.push_keeps)
    × (l.self-inside.push_keeps ≡ a_push_keeps.Globals
    → l.self-inside.locals ≡ l.initial.self-inside.locals)

abbrev pub decreases-loop-entry : goal.decreases-loop-entry
decreases-loop-entry l = length l.self-inside.journal
