use Rattle.std.proofs.Common.{◌≢◌, ◌<◌, ℕ, Some, slice_get}
use Rattle.hidreport_fields.proofs.field.array_field.ArrayField.index_of.Given as goal

-- no usage before this one is the one that is looked for
abbrev pub invariant-loop-index : goal.invariant-loop-index
invariant-loop-index l = (k : ℕ) → k < l.index → slice_get l.self.usages.items k ≢ Some l.usage
