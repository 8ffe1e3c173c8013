use Rattle.std.proofs.Common.{◌≡◌, ◌++◌, ◌∷◌, flat_map, take, string_bytes}
use Rattle.hidreport_program.specs.Lines.{hex_digits}
use Rattle.hidreport_program.proofs.program.numbers.add_bytes.Given as goal

-- the bytes behind the first, so far
abbrev pub invariant-loop-byte : goal.invariant-loop-byte
invariant-loop-byte l = string_bytes l.text ≡ string_bytes l.initial.text ++ flat_map
    (λ c. 32 ∷ hex_digits 2 c) (take l.byte-index l.rest)
