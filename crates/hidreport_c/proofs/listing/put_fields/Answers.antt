use Rattle.std.proofs.Common.{length, ap, arith, take, refl}
use Rattle.std.specs.Prelude.{flat_map}
use Rattle.hidreport.specs.Views.{field_record}
use Rattle.hidreport_fields.specs.declared.field.Field.{Field}
use Rattle.hidreport_c.proofs.ListsLemmas.{more-joined}
use Rattle.hidreport_c.proofs.ReadingLemmas.{at-least}
use Rattle.hidreport_c.proofs.ListingLemmas.{by-field, flat-all, flat-next, flat-within}
use Rattle.hidreport_c.proofs.listing.put_fields.Goals as goal

pub returns-in_err-listed-clause-none : goal.returns-in_err-listed-clause-none
returns-in_err-listed-clause-none g c = λ none.
    let own = λ (field : Field). g.L.Listing.listed (field_record field) in
    let fields = c.args.fields.now in
    let i = c.loop-field.field-index in
    omega (
      arith,
      c.in_err-listed.ensures.none refl,
      flat-within own fields i c.field-item.result c.loop-field-test.true c.field-item.is,
      ap length (by-field g.L.Listing.listed fields),
    )

pub returns-in_err-count-clause-none : goal.returns-in_err-count-clause-none
returns-in_err-count-clause-none g c = λ none.
    let own = λ (field : Field). g.L.Listing.listed (field_record field) in
    let fields = c.args.fields.now in
    let i = c.loop-field.field-index in
    let past = at-least _ _ c.in_err-count.ensures in
    omega (
      arith,
      past,
      c.in_ok-listed.ensures.some.0,
      flat-within own fields i c.field-item.result c.loop-field-test.true c.field-item.is,
      c.loop-field.invariant.0,
      ap length (by-field g.L.Listing.listed fields),
    )

pub loop-field-preserved : goal.loop-field-preserved
loop-field-preserved g c =
    let own = λ (field : Field). g.L.Listing.listed (field_record field) in
    let fields = c.args.fields.now in
    let i = c.loop-field.field-index in
    more-joined (flat_map own (take i fields)) (own c.field-item.result) c.args.array.now
    (flat-next own fields i c.field-item.result c.loop-field-test.true c.field-item.is)
    c.loop-field.invariant.0 c.in_ok-listed.ensures.some.0 c.in_ok-count.ensures.1
    c.loop-field.invariant.1 c.min-begun.ensures c.in_ok-listed.ensures.some.1

pub returns-clause-some : goal.returns-clause-some
returns-clause-some g c =
    flat-all (λ (field : Field). g.L.Listing.listed (field_record field)) c.args.fields.now c.args.array.now
    (by-field g.L.Listing.listed c.args.fields.now) c.loop-field-test.false
    c.loop-field.invariant.0 c.loop-field.invariant.1
