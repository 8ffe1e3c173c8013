use Rattle.std.proofs.Common.{◌≡◌, ◌++◌, take, string_bytes}
use Rattle.hidreport_program.specs.ItemLines.{items_text}
use Rattle.hidreport_program.proofs.program.items.add_items.Given as goal

-- the text so far has the lines so far
abbrev pub invariant-loop-entry : goal.invariant-loop-entry
invariant-loop-entry l = string_bytes l.text ≡ string_bytes l.initial.text ++ items_text
    (take l.entry-index l.items)
