use Rattle.std.proofs.Common.{◌≡◌, ◌≤◌, Ok, pos, int_lt, vec_len, vec_capacity}
use Rattle.hidreport_fields.specs.Reading.{each_value, element}
use Rattle.hidreport_fields.proofs.field.array_field.ArrayField.elements.Given as goal

-- the values so far are those of the elements before `idx`, and there is room for all
abbrev pub invariant-loop-idx : goal.invariant-loop-idx
invariant-loop-idx l =
    (each_value (element l.self.bits.start l.self.bits.end l.self.report_count
    (int_lt l.self.logical_minimum (pos 0)) l.bytes) 0 l.idx ≡ Ok l.values.items)
    × (vec_len l.values ≡ l.idx) × (l.count ≤ vec_capacity l.values)
