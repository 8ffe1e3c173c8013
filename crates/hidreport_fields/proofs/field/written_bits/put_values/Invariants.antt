use Rattle.std.proofs.Common.{◌≡◌, ◌+◌, ◌*◌, length, take}
use Rattle.hidreport_fields.specs.WritingValues.{put}
use Rattle.hidreport_fields.proofs.field.written_bits.put_values.Given as goal

-- the numbers before this one are in place
abbrev pub invariant-loop-number : goal.invariant-loop-number
invariant-loop-number l = (l.place ≡ l.first + l.width * l.number-index)
    × (length l.bytes ≡ length l.initial.bytes)
    × (l.bytes ≡ put l.first l.width (take l.number-index l.numbers) l.initial.bytes)
