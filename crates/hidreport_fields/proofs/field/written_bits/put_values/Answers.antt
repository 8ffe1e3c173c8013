use Rattle.std.proofs.Common.{◌≡◌, ◌+◌, ◌*◌, [], ◌∷◌, length, take, get_or, pos, FitsSigned, arith, refl}
use Rattle.std.proofs.Common.{rules, sym, ap, ◌∙◌}
use Rattle.std.specs.Int.{w64}
use Rattle.std.proofs.lemmas.Int.{to_z-of_z}
use Rattle.std.proofs.lemmas.List.{get_or_default}
use Rattle.hidreport_fields.specs.WritingValues.{put}
use Rattle.hidreport_lists.proofs.CutLemmas.{are_bytes}
use Rattle.hidreport_fields.proofs.PutValuesLemmas.{length-put, put-more, put-none}
use Rattle.hidreport_fields.proofs.field.written_bits.put_values.Goals as goal

pub loop-number-init : goal.loop-number-init
loop-number-init c = (
  omega arith,
  refl,
  sym (put-none c.args.first c.args.width c.args.bytes.now
      (are_bytes _ (λ k. omega (arith, c.type_inv.bytes k)))),
)

pub loop-number-preserved : goal.loop-number-preserved
loop-number-preserved c =
    let i = c.loop-number.number-index in
    let first = c.args.first in
    let width = c.args.width in
    let numbers = c.args.numbers.now in
    let number = get_or numbers i (pos 0) in
    let fits : FitsSigned w64 number = search rules in
    let here : number ≡ get_or numbers i number =
    get_or_default numbers i (pos 0) number c.loop-number-test.true in
    let new : c.put_bits.new.bytes ≡ put (first + width * i) width (number ∷ [])
    (put first width (take i numbers) c.args.bytes.now) = c.put_bits.ensures
    ∙ ap (λ z. put c.loop-number.place width (z ∷ []) c.loop-number.bytes) (to_z-of_z w64 number fits)
    ∙ ap (λ n. put n width (number ∷ []) c.loop-number.bytes) c.loop-number.invariant.0
    ∙ ap (put (first + width * i) width (number ∷ [])) c.loop-number.invariant.2 in (
      omega (arith, c.loop-number.invariant.0),
      ap length new
          ∙ length-put (first + width * i) width (number ∷ [])
          (put first width (take i numbers) c.args.bytes.now)
          ∙ length-put first width (take i numbers) c.args.bytes.now,
      new ∙ put-more first width numbers c.args.bytes.now i number c.loop-number-test.true here,
    )
