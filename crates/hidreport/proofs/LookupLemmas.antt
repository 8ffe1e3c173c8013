-- Lookup of an id that at most one report has.
use Rattle.std.proofs.Common.{◌≡◌, ◌≤◌, ℕ, zero, suc, ◌+◌, Bool, true, false, cond, List, [], ◌∷◌}
use Rattle.std.proofs.Common.{Option, Some, Bor, length, ap, ◌∙◌, refl, arith}
use Rattle.std.proofs.lemmas.Option.{slice_get_read}
use Rattle.std.specs.Prelude.{count_by, find, slice_get}
use Rattle.std.specs.Slice.{IsItemAt}
use Rattle.hidreport_fields.specs.ReportIds.{same_key}
use Rattle.hidreport_fields.specs.Lookup.{IsOneWith, report_with, reports_of}
use Rattle.hidreport_fields.specs.Records.{DescriptorRecord, ReportRecord}
use Rattle.hidreport_fields.specs.Tiling.{HaveOwnIds, IsTiled}
use Rattle.hidreport_fields.specs.declared.field.data_item.Direction.{Direction}
use Rattle.hidreport_fields.specs.declared.field.data_item.Direction.TheVariants as direction
use Rattle.hidreport.proofs.TilingLemmas.{count-cons}

counted-by : (b : Bool) (n : ℕ) → b ≡ true → 1 ≤ cond b 1 0 + n
counted-by true n t = omega arith
counted-by false n t = cc

counted-more : (b : Bool) (n : ℕ) → 1 ≤ n → 1 ≤ cond b 1 0 + n
counted-more true n le = omega arith
counted-more false n le = omega (arith, le)

-- one that passes is counted
counted : (p : ReportRecord → Bool) (rs : List ReportRecord) (i : ℕ) (r : ReportRecord)
    → slice_get rs i ≡ Some r → p r ≡ true → 1 ≤ count_by p rs
counted p [] i r e t = cc
counted p (x ∷ rs) zero r e t =
    let same : x ≡ r = cc in
    let some : 1 ≤ cond (p x) 1 0 + count_by p rs =
    counted-by (p x) (count_by p rs) (ap p same ∙ t) in
    omega (arith, count-cons p x rs, some)
counted p (x ∷ rs) (suc i) r e t =
    let some : 1 ≤ cond (p x) 1 0 + count_by p rs =
    counted-more (p x) (count_by p rs) (counted p rs i r e t) in
    omega (arith, count-cons p x rs, some)

sole-by : (b : Bool) (p : ReportRecord → Bool) (x : ReportRecord) (rs : List ReportRecord)
    (r : ReportRecord) → cond b 1 0 + count_by p rs ≤ 1 → 1 ≤ count_by p rs
    → (count_by p rs ≤ 1 → find p rs ≡ Some r) → cond b (Some x) (find p rs) ≡ Some r
sole-by true p x rs r most some rest = absurd (omega (arith, most, some))
sole-by false p x rs r most some rest =
    let fewer : count_by p rs ≤ 1 = omega (arith, most) in rest fewer

-- where at most one passes, one that does is found
pub sole : (p : ReportRecord → Bool) (rs : List ReportRecord) (i : ℕ) (r : ReportRecord)
    → count_by p rs ≤ 1 → slice_get rs i ≡ Some r → p r ≡ true → find p rs ≡ Some r
sole p [] i r most e t = cc
sole p (x ∷ rs) zero r most e t =
    let same : x ≡ r = cc in
    ap (λ b. cond b (Some x) (find p rs)) (ap p same ∙ t) ∙ ap Some same
sole p (x ∷ rs) (suc i) r most e t =
    let at_most : cond (p x) 1 0 + count_by p rs ≤ 1 = omega (arith, count-cons p x rs, most) in
    sole-by (p x) p x rs r at_most (counted p rs i r e t) (λ fewer. sole p rs i r fewer e t)

-- what `get` lends stands there
pub item-there : (rs : List ReportRecord) (i : ℕ) (r : Bor ReportRecord) → IsItemAt rs i (Some r)
    → slice_get rs i ≡ Some r.now
item-there rs i r item = slice_get_read rs (length rs) i r.now refl item.3.0 item.1

-- where each report has an id of its own, one with an id is the one
pub own-found : (id : Option ℕ) (rs : List ReportRecord) (r : ReportRecord) → HaveOwnIds rs
    → IsOneWith id rs r → report_with id rs ≡ Some r
own-found id rs r own one =
    sole (λ (x : ReportRecord). same_key x.id id) rs one.index r (own.once id) one.there one.wanted

-- in each direction of a tiled descriptor
pub own-ids : (direction : Direction) (d : DescriptorRecord) → IsTiled d
    → HaveOwnIds (reports_of direction d)
own-ids direction.Input d tiled = tiled.input_ids
own-ids direction.Output d tiled = tiled.output_ids
own-ids direction.Feature d tiled = tiled.feature_ids
