use Rattle.std.proofs.Common.{◌≡◌, ◌*◌, ◌<◌, ◌≤◌, ◌/◌, ◌%◌, ◌^◌, ℕ, length, slice_index}
use Rattle.hidreport_fields.proofs.field.written_bits.put_word.Given as goal

-- the bytes before `k` are those of the number
abbrev pub invariant-loop-k : goal.invariant-loop-k
invariant-loop-k l = (length l.bytes ≡ l.k-end) × (l.k-end ≤ 5)
    × ((j : ℕ) → j < l.k → slice_index l.bytes j ≡ l.number / 2 ^ (8 * j) % 256)
