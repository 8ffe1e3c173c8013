-- Fields of a report lie apart, so writing one leaves the others.
use Rattle.std.proofs.Common.{◌≡◌, ◌≢◌, ◌⊎◌, inl, inr, ℕ, zero, suc, ◌+◌, ◌*◌, ◌<◌, ◌≤◌, Bool, true}
use Rattle.std.proofs.Common.{false, nat_lt, List, [], ◌∷◌, length, Option, Some, None, refl, ap, ◌∙◌}
use Rattle.std.proofs.Common.{arith, ℤ, subst}
use Rattle.std.specs.Prelude.{slice_get}
use Rattle.std.proofs.lemmas.Bool.Decides.{nat_tests}
use Rattle.std.proofs.lemmas.Grind.{common_steps}
use Rattle.hidreport_items.specs.Spelling.{AreBytes}
use Rattle.hidreport_fields.specs.ReportIds.{id_bits}
use Rattle.hidreport_fields.specs.Reading.{values_of, with_id}
use Rattle.hidreport_fields.specs.Records.{FieldRecord}
use Rattle.hidreport_fields.specs.Records.{own_id, place_of}
use Rattle.hidreport_fields.specs.Tiling.{Covers, Each, IsOf}
use Rattle.hidreport_fields.specs.WritingValues.{put}
use Rattle.hidreport_fields.specs.WritingLaws.{LeavesOthers}
use Rattle.hidreport_fields.proofs.KeptBitsLemmas.{put-id, put-keeps, values-kept}

-- each field begins at the first bit or behind it, and has some bits
covers-from : (fields : List FieldRecord) (first end i : ℕ) (f : FieldRecord)
    → Covers first fields end → slice_get fields i ≡ Some f
    → (first ≤ (place_of f).first) × ((place_of f).first < (place_of f).end)
covers-from [] first end i f covers at = cc
covers-from (g ∷ fields) first end zero f covers at =
    let same : g ≡ f = cc in
    let a = ap (λ (h : FieldRecord). (place_of h).first) same in
    let b = ap (λ (h : FieldRecord). (place_of h).end) same in
    let c = covers.0 in let d = covers.1 in
    (omega arith, omega arith)
covers-from (g ∷ fields) first end (suc i) f covers at =
    let more = covers-from fields (place_of g).end end i f covers.2 at in
    let d = covers.1 in
    (omega (arith, more.0), more.1)

-- the one before ends where the other begins, or before
covers-order : (fields : List FieldRecord) (first end i j : ℕ) (f g : FieldRecord)
    → Covers first fields end → slice_get fields i ≡ Some f → slice_get fields j ≡ Some g → i < j
    → (place_of f).end ≤ (place_of g).first
covers-order [] first end i j f g covers at_i at_j lt = cc
covers-order (h ∷ fields) first end i zero f g covers at_i at_j lt = absurd (omega arith)
covers-order (h ∷ fields) first end zero (suc j) f g covers at_i at_j lt =
    let same : h ≡ f = cc in
    let b = ap (λ (k : FieldRecord). (place_of k).end) same in
    let more = covers-from fields (place_of h).end end j g covers.2 at_j in
    omega (arith, more.0)
covers-order (h ∷ fields) first end (suc i) (suc j) f g covers at_i at_j lt =
    covers-order fields (place_of h).end end i j f g covers.2 at_i at_j (omega arith)

-- so of two fields one ends before the other begins
two-apart : (fields : List FieldRecord) (first end i j : ℕ) (f g : FieldRecord)
    → Covers first fields end → slice_get fields i ≡ Some f → slice_get fields j ≡ Some g → i ≢ j
    → ((place_of g).end ≤ (place_of f).first) ⊎ ((place_of f).end ≤ (place_of g).first)
two-apart fields first end i j f g covers at_i at_j other = by (nat_lt i j) refl where
  by : (t : Bool) → nat_lt i j ≡ t
      → ((place_of g).end ≤ (place_of f).first) ⊎ ((place_of f).end ≤ (place_of g).first)
  by true e = inr (covers-order fields first end i j f g covers at_i at_j (grind (arith, nat_tests)))
  by false e =
      let le : j ≤ i = grind (arith, nat_tests, common_steps) in
      inl (covers-order fields first end j i g f covers at_j at_i (omega (arith, other)))

-- what holds of each holds of the one at an index
each-at : (P : FieldRecord → Type 0) (fields : List FieldRecord) (i : ℕ) (f : FieldRecord)
    → Each P fields → slice_get fields i ≡ Some f → P f
each-at P [] i f each at = cc
each-at P (g ∷ fields) zero f each at = let same : g ≡ f = cc in subst P same each.0
each-at P (g ∷ fields) (suc i) f each at = each-at P fields i f each.1 at

-- a field of a report with an id begins behind its byte
away : (id own : Option ℕ) (first : ℕ) → (own ≡ None) ⊎ (own ≡ id) → id_bits id ≤ first
    → (own ≡ None) ⊎ (8 ≤ first)
away id own first (inl none) le = inl none
away None own first (inr same) le = inl same
away (Some id) own first (inr same) le = inr le

-- numbers that were put within a field's bits leave the other fields of its report
pub leaves-others : (field : FieldRecord) (p w : ℕ) (numbers : List ℤ) (old : List ℕ) → AreBytes old
    → (place_of field).first ≤ p
    → ((place_of field).first ≤ (place_of field).end
    → p + w * length numbers ≤ (place_of field).end)
    → LeavesOthers field old (put p w numbers old)
leaves-others field p w numbers old are from upto report i j other filled at_i at_j differ =
    let covers = filled.covers in
    let mine = covers-from report.fields (id_bits report.id) report.size i field covers at_i in
    let theirs = covers-from report.fields (id_bits report.id) report.size j other covers at_j in
    let ends : p + w * length numbers ≤ (place_of field).end = upto (omega (arith, mine.1)) in
    let out = two-apart report.fields (id_bits report.id) report.size i j field other covers at_i
    at_j differ in
    let own = each-at (IsOf report.id) report.fields j other filled.own at_j in
    let behind : (own_id other ≡ None) ⊎ (8 ≤ p) = away report.id (own_id other) p own
    (omega (arith, mine.0, from)) in
    put-id (own_id other) p w numbers old (values_of other (put p w numbers old)) are behind
    ∙ ap (with_id (own_id other) old) (values-kept p (w * length numbers) other old
    (put p w numbers old) (put-keeps p w numbers old) (omega (arith, theirs.1))
    (outside (place_of other).end (place_of field).first (place_of field).end
    (place_of other).first p (w * length numbers) from ends out)) where
      outside : (other_end first end other_first p c : ℕ) → first ≤ p → p + c ≤ end
          → (other_end ≤ first) ⊎ (end ≤ other_first) → (other_end ≤ p) ⊎ (p + c ≤ other_first)
      outside other_end first end other_first p c from upto (inl le) = inl (omega arith)
      outside other_end first end other_first p c from upto (inr le) = inr (omega arith)
