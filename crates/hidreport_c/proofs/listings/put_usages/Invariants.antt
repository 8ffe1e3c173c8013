use Rattle.std.proofs.Common.{◌≡◌, length, take}
use Rattle.std.specs.Prelude.{flat_map}
use Rattle.hidreport_c.specs.Answer.{array_after}
use Rattle.hidreport_c.specs.Listings.{collection_numbers}
use Rattle.hidreport_c.proofs.listings.put_usages.Given as goal

-- the usages of the collections so far are in place, and counted
abbrev pub invariant-loop-collection : goal.invariant-loop-collection
invariant-loop-collection l =
    let sofar = flat_map collection_numbers (take l.collection-index l.collections) in
    (l.count ≡ length sofar) × (l.usages ≡ array_after sofar l.initial.usages)
