use Rattle.std.proofs.Common.{◌≡◌, ◌+◌, length}
use Rattle.hidreport_fields.specs.SharedCollections.{shared}
use Rattle.hidreport_fields.proofs.field.collection.Collection.shared.Given as goal

-- what was counted and what the rest shares is all
abbrev pub invariant-loop-left : goal.invariant-loop-left
invariant-loop-left l = record {
  all : l.count + shared l.left l.right ≡ shared l.fn.before l.fn.around;
  room : l.count + length l.left ≡ length l.fn.before;
}

abbrev pub decreases-loop-left : goal.decreases-loop-left
decreases-loop-left l = length l.left
