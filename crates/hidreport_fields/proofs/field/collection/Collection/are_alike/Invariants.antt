use Rattle.std.proofs.Common.{◌≡◌, take}
use Rattle.hidreport_fields.proofs.field.collection.Collection.are_alike.Given as goal

-- those so far are alike
abbrev pub invariant-loop-index : goal.invariant-loop-index
invariant-loop-index l = take l.index l.left ≡ take l.index l.right
