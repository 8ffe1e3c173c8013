use Rattle.std.proofs.Common.{◌≡◌, length, map, ap, ◌∙◌, arith, take, drop, ◌-◌, refl}
use Rattle.std.proofs.lemmas.List.{length-map}
use Rattle.std.specs.Prelude.{flat_map}
use Rattle.hidreport.specs.UsageNumber.{usage_number}
use Rattle.hidreport_c.proofs.ListsLemmas.{more-joined}
use Rattle.hidreport_c.proofs.ReadingLemmas.{at-least}
use Rattle.hidreport_c.proofs.ListingLemmas.{flat-all, flat-next, flat-within}
use Rattle.hidreport_c.specs.Answer.{array_after}
use Rattle.hidreport_c.specs.Listings.{collection_numbers}
use Rattle.hidreport_c.proofs.listings.put_usages.Goals as goal

pub returns-in_err-count-clause-none : goal.returns-in_err-count-clause-none
returns-in_err-count-clause-none c = λ none.
    let collections = c.args.collections.now in
    let i = c.loop-collection.collection-index in
    let own = c.collection-item.result in
    let listed = ap (map usage_number) c.usages-listed.ensures in
    let past = at-least _ _ c.in_err-count.ensures in
    omega (
      arith,
      past,
      flat-within collection_numbers collections i own c.loop-collection-test.true
          c.collection-item.is,
      c.loop-collection.invariant.0,
      ap length listed,
      length-map c.usages-listed.result.now usage_number,
    )

pub loop-collection-preserved : goal.loop-collection-preserved
loop-collection-preserved c =
    let collections = c.args.collections.now in
    let i = c.loop-collection.collection-index in
    let own = c.collection-item.result in
    let listed = ap (map usage_number) c.usages-listed.ensures in
    let count = length-map c.usages-listed.result.now usage_number in
    let size : length c.usages-listed.result.now ≡ length (collection_numbers own) =
    omega (arith, ap length listed, count) in
    let rest = take (length c.loop-collection.usages - c.min-begun.result)
    (drop c.min-begun.result c.loop-collection.usages) in
    more-joined (flat_map collection_numbers (take i collections)) (collection_numbers own)
    c.args.usages.now
    (flat-next collection_numbers collections i own c.loop-collection-test.true
    c.collection-item.is)
    c.loop-collection.invariant.0 size c.in_ok-count.ensures.1 c.loop-collection.invariant.1
    c.min-begun.ensures (c.write.ensures.written ∙ ap (λ l. array_after l rest) listed)

pub returns-clause-some : goal.returns-clause-some
returns-clause-some c =
    flat-all collection_numbers c.args.collections.now c.args.usages.now refl
    c.loop-collection-test.false c.loop-collection.invariant.0 c.loop-collection.invariant.1
