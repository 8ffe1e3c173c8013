-- A field that was described, read by its description.
use Rattle.std.proofs.Common.{◌≡◌, ℕ, zero, suc, ◌+◌, ◌-◌, ◌*◌, ◌/◌, ◌<◌, ◌≤◌, Bool, true, false}
use Rattle.std.proofs.Common.{cond, nat_lt, nat_le, ◌||◌, List, [], ◌∷◌, Option, None, Some}
use Rattle.std.proofs.Common.{is_some, Result, Ok, Err, refl, ap, sym, ◌∙◌, ◌⊎◌, inl, inr, arith}
use Rattle.std.proofs.Math.Dec.{leb}
use Rattle.std.proofs.lemmas.Bool.{le-leb}
use Rattle.std.proofs.lemmas.Bool.Decides.{leb_tells}
use Rattle.std.specs.Prelude.{◌==◌, unwrap_or, if◌then◌else◌}
use Rattle.hidreport.specs.Answer.{Refusal, OutOfBounds, MismatchingReportId}
use Rattle.hidreport.specs.Reading.{ValueRecord, element, is_signed, one_value, read_bits, with_id}
use Rattle.hidreport.specs.Records.{FieldRecord, VariableRecord, ArrayRecord, ConstantRecord}
use Rattle.hidreport_c.specs.Field.{as_c}
use Rattle.hidreport_c.specs.Value.{extracted_value, only, value_at}

-- the id, by whether there is one
pub id-again : (id : Option ℕ) → (if is_some id then Some (unwrap_or id 0) else None) ≡ id
id-again None = refl
id-again (Some id) = refl

only-one : (r : Result ValueRecord Refusal) → only (one_value r) ≡ r
only-one (Ok v) = refl
only-one (Err refusal) = refl

only-test : (b : Bool) (r : Result ValueRecord Refusal)
    → only (cond b (one_value r) (Err MismatchingReportId)) ≡ cond b r (Err MismatchingReportId)
only-test true r = only-one r
only-test false r = refl

only-with_id : (id : Option ℕ) (bytes : List ℕ) (r : Result ValueRecord Refusal)
    → only (with_id id bytes (one_value r)) ≡ with_id id bytes r
only-with_id None bytes r = only-one r
only-with_id (Some id) [] r = refl
only-with_id (Some id) (b ∷ bytes) r = only-test (b == id) r

first-test : {A : Type 0} (b c : Bool) (x y : A) → b ≡ true → cond (b || c) x y ≡ x
first-test true c x y is = refl
first-test false c x y is = cc

-- a range that ends where it begins, or before, is refused
reversed : (first end : ℕ) (s : Bool) (bytes : List ℕ) → end ≤ first
    → read_bits first end s bytes ≡ Err OutOfBounds
reversed first end s bytes not_above =
    first-test (nat_le end first) _ _ _ (le-leb end first not_above)

by_order : (first end : ℕ) (s : Bool) (bytes : List ℕ) → ((leb end first ≡ true) × (end ≤ first))
    ⊎ ((leb end first ≡ false) × (first < end))
    → read_bits first (first + (end - first)) s bytes ≡ read_bits first end s bytes
by_order first end s bytes (inl (test, not_above)) =
    let none : first + (end - first) ≤ first = omega (arith, not_above) in
    reversed first (first + (end - first)) s bytes none ∙ sym (reversed first end s bytes not_above)
by_order first end s bytes (inr (test, less)) =
    let whole : first + (end - first) ≡ end = omega (arith, less) in
    ap (λ e. read_bits first e s bytes) whole

-- one element of a range is the range
pub element-of_one : (first end : ℕ) (s : Bool) (bytes : List ℕ)
    → element first end 1 s bytes 0 ≡ read_bits first end s bytes
element-of_one first end s bytes =
    let from : first + (end - first) / 1 * 0 ≡ first = omega arith in
    let to : first + (end - first) / 1 * 0 + (end - first) / 1 ≡ first + (end - first) =
    omega arith in
    ap (λ f. read_bits f (first + (end - first) / 1 * 0 + (end - first) / 1) s bytes) from
    ∙ ap (λ e. read_bits first e s bytes) to ∙ by_order first end s bytes (leb_tells end first)

past-by : {A : Type 0} (i n : ℕ) (x y : A) → n ≤ i → ((leb (suc i) n ≡ true) × (suc i ≤ n))
    ⊎ ((leb (suc i) n ≡ false) × (n < suc i)) → cond (nat_lt i n) x y ≡ y
past-by i n x y past (inl (test, below)) = absurd (omega (arith, past, below))
past-by i n x y past (inr (test, above)) = ap (λ b. cond b x y) test

-- an index that isn't below the count
past-count : {A : Type 0} (i n : ℕ) (x y : A) → n ≤ i → cond (nat_lt i n) x y ≡ y
past-count i n x y past = past-by i n x y past (leb_tells (suc i) n)

pub value_at-described : (f : FieldRecord) (bytes : List ℕ) (index : ℕ)
    → value_at (as_c f) bytes index ≡ extracted_value f bytes index
value_at-described (VariableRecord place usage shared) bytes zero =
    ap (λ id. with_id id bytes (element place.first place.end 1 (is_signed shared) bytes 0))
    (id-again place.report_id)
    ∙ ap (with_id place.report_id bytes)
    (element-of_one place.first place.end (is_signed shared) bytes)
    ∙ sym (only-with_id place.report_id bytes
    (read_bits place.first place.end (is_signed shared) bytes))
value_at-described (VariableRecord place usage shared) bytes (suc n) =
    past-count (suc n) 1 _ _ (omega arith)
value_at-described (ArrayRecord place usages is_range count shared) bytes index =
    ap (λ id. cond (nat_lt index count)
    (with_id id bytes (element place.first place.end count (is_signed shared) bytes index))
    (Err OutOfBounds)) (id-again place.report_id)
value_at-described (ConstantRecord place) bytes index = past-count index 0 _ _ (omega arith)
