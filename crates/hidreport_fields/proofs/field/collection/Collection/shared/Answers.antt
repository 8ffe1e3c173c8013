use Rattle.std.proofs.Common.{◌≡◌, List, [], ◌∷◌, arith, length, refl}
use Rattle.hidreport_fields.specs.Records.{CollectionRecord}
use Rattle.hidreport_fields.specs.SharedCollections.{shared}
use Rattle.hidreport_fields.proofs.field.collection.Collection.shared.Goals as goal

none-in-none : (xs ys : List CollectionRecord) → length ys ≡ 0 → shared xs ys ≡ 0
none-in-none [] ys e = refl
none-in-none (x ∷ xs) [] e = refl
none-in-none (x ∷ xs) (y ∷ ys) e = omega (arith, e)

pub returns-else-not-is_empty : goal.returns-else-not-is_empty
returns-else-not-is_empty c =
    let none = none-in-none c.loop-left.left.now c.loop-left.right.now
    (grind (arith, c.is_empty-in-loop-left.ensures, c.if-not-is_empty.false)) in
    omega (arith, none, c.loop-left.invariant.all)
