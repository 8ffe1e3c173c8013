use Rattle.std.proofs.Common.{◌≡◌, ◌++◌, take, string_bytes}
use Rattle.hidreport_program.specs.Lines.{values_text}
use Rattle.hidreport_program.proofs.program.fields.add_values.Given as goal

-- the text so far has the values so far
abbrev pub invariant-loop-value : goal.invariant-loop-value
invariant-loop-value l = string_bytes l.text ≡ string_bytes l.initial.text ++ values_text
    (take l.value-index l.values)
