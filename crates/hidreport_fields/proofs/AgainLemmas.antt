-- What was read, written again.
use Rattle.std.proofs.Common.{◌≡◌, ◌≢◌, ◌⊎◌, inl, inr, ℕ, zero, suc, ◌+◌, ◌-◌, ◌*◌, ◌/◌, ◌%◌, ◌^◌, ◌<◌}
use Rattle.std.proofs.Common.{◌≤◌, Bool, true, false, cond, ◌&&◌, ◌==◌, nat_lt, List, []}
use Rattle.std.proofs.Common.{◌∷◌, length, get_or, Option, Result, Ok, Err, IsOk, map, refl, sym}
use Rattle.std.proofs.Common.{ap, subst, ◌∙◌, arith, ℤ, pos, ◌-ℤ◌}
use Rattle.std.specs.List.{list_all}
use Rattle.std.proofs.Math.Nat.{div-add-mod, div-lt_iff_lt-mul, mod-lt, mul_comm}
use Rattle.std.proofs.lemmas.Bool.Decides.{nat_tests}
use Rattle.std.proofs.lemmas.Nat.{pow_pos}
use Rattle.hidreport_items.specs.Spelling.{AreBytes}
use Rattle.hidreport_lists.specs.Answer.{Refusal, OutOfBounds}
use Rattle.hidreport_fields.specs.BitValue.{bit, sum_of_bits, value}
use Rattle.hidreport_fields.specs.Choosing.{value_number}
use Rattle.hidreport_fields.specs.Reading.{ValueRecord, before_values, each_value, element_width}
use Rattle.hidreport_fields.specs.Reading.{is_signed, one_value, read_bits, reads, reads_element, values_of}
use Rattle.hidreport_fields.specs.Reading.{with_id}
use Rattle.hidreport_fields.specs.Records.{ArrayRecord, Attributes, ConstantRecord, FieldPlace, FieldRecord}
use Rattle.hidreport_fields.specs.Records.{VariableRecord, own_id, place_of}
use Rattle.hidreport_fields.specs.WritingValues.{Inserts, begins_in_id, bit_after, fits, has_sign, number_bit}
use Rattle.hidreport_fields.specs.WritingValues.{put, value_count, value_width, where_read, written}
use Rattle.hidreport_fields.specs.WritingValues.{written_element}
use Rattle.hidreport_fields.specs.WritingLaws.{number_in, numbers_of, reads_numbers}
use Rattle.hidreport_fields.specs.declared.field.insert_error.InsertError.{InsertError}
use Rattle.hidreport_fields.specs.declared.field.insert_error.InsertError.TheVariants as refused
use Rattle.hidreport_fields.specs.declared.field.usage.Usage.{Usage}
use Rattle.hidreport_fields.proofs.BitLemmas.{bit-small, sum-small, zero-or-one}
use Rattle.hidreport_fields.proofs.IsElementLemmas.{parts-by}
use Rattle.hidreport_fields.proofs.IsWrittenLemmas.{room-of, written-parts}
use Rattle.hidreport_fields.proofs.PutBitsLemmas.{Placed, after-bits, after-inside, after-outside, place-of}
use Rattle.hidreport_fields.proofs.ReadBackLemmas.{id-passes}
use Rattle.hidreport_fields.proofs.ValueBitsLemmas.{number-read, top-clear, top-set, value-bits}
use Rattle.hidreport_fields.proofs.WrittenBitsLemmas.{bytes-same}

-- numbers whose bits stand there already
put-own : (first w : ℕ) (numbers : List ℤ) (old : List ℕ) → AreBytes old
    → ((k i : ℕ) → k < length numbers → i < w
    → number_bit (get_or numbers k (pos 0)) i ≡ bit old (first + w * k + i))
    → put first w numbers old ≡ old
put-own first w numbers old are each =
    bytes-same (bit_after first w numbers old) (after-bits first w numbers old) old are 0
    (λ n lt. let e : 0 + n ≡ n = omega arith in
    ap (bit_after first w numbers old) e
    ∙ own n (place-of n first (first + w * length numbers))) where
      some : (w n count first : ℕ) → first ≤ n → n < first + w * count → 0 < w
      some zero n count first le lt =
          absurd (let none : zero * count ≡ 0 = omega arith in omega arith)
      some (suc w) n count first le lt = omega arith

      own : (n : ℕ) → Placed n first (first + w * length numbers)
          → bit_after first w numbers old n ≡ bit old n
      own n (inl lt) = after-outside first w numbers old n (inl lt)
      own n (inr (inr ge)) = after-outside first w numbers old n (inr ge)
      own n (inr (inl both)) =
          let wide : 0 < w = some w n (length numbers) first both.0 both.1 in
          let k = (n - first) / w in
          let i = (n - first) % w in
          let inside : i < w = mod-lt (n - first) wide in
          let offset : n - first < length numbers * w =
          subst (λ m. n - first < m) (mul_comm w (length numbers)) (omega (arith, both.0, both.1)) in
          let index : k < length numbers = (div-lt_iff_lt-mul wide).1 offset in
          let parts : w * k + i ≡ n - first = div-add-mod (n - first) w in
          let at : first + w * k + i ≡ n = omega (arith, both.0, parts) in
          after-inside first w numbers old n both.0 both.1 ∙ each k i index inside ∙ ap (bit old) at

-- a value of so many bits is one that they hold
value-fits : (bytes : List ℕ) (s w : ℕ) (signed : Bool) → 0 < w
    → fits w signed (value bytes s w signed) ≡ true
value-fits bytes s w false some =
    let lt : sum_of_bits bytes s w < 2 ^ w = sum-small bytes s w in grind (arith, nat_tests)
value-fits bytes s zero true some = absurd (omega arith)
value-fits bytes s (suc w) true some =
    fits-by (sum_of_bits bytes s w) (bit bytes (s + w)) (sum-small bytes s w)
    (zero-or-one (bit bytes (s + w)) (bit-small bytes (s + w))) where
      fits-by : (x b : ℕ) → x < 2 ^ w → (b ≡ 0) ⊎ (b ≡ 1)
          → fits (suc w) true (pos x -ℤ pos (b * 2 ^ w)) ≡ true
      fits-by x b lt (inl clear) =
          let less : suc w - 1 ≡ w = omega arith in
          ap (fits (suc w) true) (ap (λ n. pos x -ℤ pos (n * 2 ^ w)) clear ∙ top-clear x (2 ^ w))
          ∙ ap (λ n. nat_lt x (2 ^ n)) less ∙ (let t : nat_lt x (2 ^ w) ≡ true = grind (arith, nat_tests) in t)
      fits-by x b lt (inr set) =
          let less : suc w - 1 ≡ w = omega arith in
          let positive : 0 < 2 ^ w = pow_pos w in
          let below : 2 ^ w - 1 - x < 2 ^ w = omega arith in
          ap (fits (suc w) true) (ap (λ n. pos x -ℤ pos (n * 2 ^ w)) set ∙ top-set x (2 ^ w) lt)
          ∙ ap (λ n. nat_lt (2 ^ w - 1 - x) (2 ^ n)) less
          ∙ (let t : nat_lt (2 ^ w - 1 - x) (2 ^ w) ≡ true = grind (arith, nat_tests) in t)

-- bits that are read as a number: it is their value
record IsValue (first w : ℕ) (s : Bool) (old : List ℕ) (z : ℤ) : Type 0 where
  some : 0 < w
  is : z ≡ value old first w s

number-is : (r : Result ValueRecord Refusal) (z y : ℤ) → number_in r ≡ Ok z
    → ((x : ValueRecord) → r ≡ Ok x → value_number x ≡ y) → z ≡ y
number-is (Ok x) z y h each = let a : value_number x ≡ z = cc in sym a ∙ each x refl
number-is (Err e) z y h each = cc

number-ok : (r : Result ValueRecord Refusal) (z : ℤ) → number_in r ≡ Ok z → IsOk r
number-ok (Ok x) z h = refl
number-ok (Err e) z h = cc

same-value : (b : Bool) (x y : ValueRecord) → cond b (Err OutOfBounds) (Ok x) ≡ Ok y → x ≡ y
same-value true x y h = cc
same-value false x y h = cc

own-value : (first end : ℕ) (s : Bool) (old : List ℕ) (z : ℤ)
    → number_in (read_bits first end s old) ≡ Ok z → IsValue first (end - first) s old z
own-value first end s old z h =
    let room = room-of first end s old (number-ok (read_bits first end s old) z h) in
    let order = room.0 in record {
      some = omega arith;
      is = number-is (read_bits first end s old) z (value old first (end - first) s) h
          (λ x e. ap value_number (sym (same-value _ _ x e))
          ∙ number-read old first (end - first) s room.1);
    }

value-own-bits : (first w : ℕ) (s : Bool) (old : List ℕ) (z : ℤ) (i : ℕ) → IsValue first w s old z
    → i < w → number_bit z i ≡ bit old (first + i)
value-own-bits first w s old z i own lt =
    ap (λ y. number_bit y i) own.is ∙ value-bits old first w s i lt

value-own-fits : (first w : ℕ) (s : Bool) (old : List ℕ) (z : ℤ) → IsValue first w s old z
    → fits w s z ≡ true
value-own-fits first w s old z own =
    ap (fits w s) own.is ∙ value-fits old first w s own.some

-- values that are read one by one, as numbers
record EachNumber (f : ℕ → Result ValueRecord Refusal) (index more : ℕ) (numbers : List ℤ)
    : Type 0 where
  size : length numbers ≡ more
  each : (k : ℕ) → k < more → number_in (f (index + k)) ≡ Ok (get_or numbers k (pos 0))

each-number : (f : ℕ → Result ValueRecord Refusal) (index more : ℕ) (numbers : List ℤ)
    → numbers_of (each_value f index more) ≡ Ok numbers → EachNumber f index more numbers
each-number f index zero [] h = record { size = refl; each = λ k lt. absurd (omega arith) }
each-number f index zero (z ∷ numbers) h = cc
each-number f index (suc more) numbers h =
    each-join f index more (f index) (each_value f (index + 1) more) numbers refl h
    (λ rest e. each-number f (index + 1) more rest e) where
      each-join : (f : ℕ → Result ValueRecord Refusal) (index more : ℕ)
          (a : Result ValueRecord Refusal) (rest : Result (List ValueRecord) Refusal)
          (numbers : List ℤ) → f index ≡ a → numbers_of (before_values a rest) ≡ Ok numbers
          → ((tail : List ℤ) → numbers_of rest ≡ Ok tail → EachNumber f (index + 1) more tail)
          → EachNumber f index (suc more) numbers
      each-join f index more (Err e) rest numbers p h more_of = cc
      each-join f index more (Ok x) (Err e) numbers p h more_of = cc
      each-join f index more (Ok x) (Ok xs) numbers p h more_of =
          let tail = more_of (map value_number xs) refl in
          let whole : value_number x ∷ map value_number xs ≡ numbers = cc in
          subst (λ l. EachNumber f index (suc more) l) whole (record {
            size = ap suc tail.size;
            each = λ k lt. at k lt tail;
          }) where
            at : (k : ℕ) → k < suc more → EachNumber f (index + 1) more (map value_number xs)
                → number_in (f (index + k)) ≡ Ok (get_or (value_number x ∷ map value_number xs) k (pos 0))
            at zero lt tail =
                let none : index + 0 ≡ index = omega arith in
                ap (λ i. number_in (f i)) none ∙ ap number_in p
            at (suc k) lt tail =
                let next : index + suc k ≡ index + 1 + k = omega arith in
                ap (λ i. number_in (f i)) next ∙ tail.each k (omega arith)

-- numbers that each fit
all-fit : (w : ℕ) (s : Bool) (numbers : List ℤ)
    → ((k : ℕ) → k < length numbers → fits w s (get_or numbers k (pos 0)) ≡ true)
    → list_all (fits w s) numbers ≡ true
all-fit w s [] each = refl
all-fit w s (z ∷ numbers) each =
    both (fits w s z) (list_all (fits w s) numbers) (each 0 (omega arith))
    (all-fit w s numbers (λ k lt. each (suc k) (omega arith))) where
      both : (a b : Bool) → a ≡ true → b ≡ true → (a && b) ≡ true
      both true true p q = refl
      both true false p q = q
      both false b p q = p

-- numbers that were read: they fit, and writing them changes nothing
pub record OwnNumbers (field : FieldRecord) (numbers : List ℤ) (old : List ℕ) : Type 0 where
  pub read : IsOk (reads field old)
  pub fit : list_all (fits (value_width field) (has_sign field)) numbers ≡ true
  pub same : put (place_of field).first (value_width field) numbers old ≡ old

-- numbers that were read side by side: they fit, and putting them there changes nothing
pub run-own : (first w n : ℕ) (s : Bool) (numbers : List ℤ) (old : List ℕ) → AreBytes old
    → numbers_of (each_value (λ k. read_bits (first + w * k) (first + w * k + w) s old) 0 n)
    ≡ Ok numbers
    → (list_all (fits w s) numbers ≡ true) × (put first w numbers old ≡ old)
run-own first w n s numbers old are h =
    let at = λ (k : ℕ). read_bits (first + w * k) (first + w * k + w) s old in
    let all = each-number at 0 n numbers h in
    let own = λ (k : ℕ) (lt : k < length numbers).
    let none : 0 + k ≡ k = omega arith in
    let width : first + w * k + w - (first + w * k) ≡ w = omega arith in
    subst (λ v. IsValue (first + w * k) v s old (get_or numbers k (pos 0))) width
    (own-value (first + w * k) (first + w * k + w) s old (get_or numbers k (pos 0))
    (sym (ap (λ i. number_in (at i)) none) ∙ all.each k (subst (λ m. k < m) all.size lt))) in (
      all-fit w s numbers (λ k lt.
          value-own-fits (first + w * k) w s old (get_or numbers k (pos 0)) (own k lt)),
      put-own first w numbers old are (λ k i lt below.
          value-own-bits (first + w * k) w s old (get_or numbers k (pos 0)) i (own k lt) below),
    )

-- as many numbers as values were read one by one
pub each-size : (f : ℕ → Result ValueRecord Refusal) (index more : ℕ) (numbers : List ℤ)
    → numbers_of (each_value f index more) ≡ Ok numbers → length numbers ≡ more
each-size f index more numbers h = (each-number f index more numbers h).size

one-in : (r : Result ValueRecord Refusal) (numbers : List ℤ) → numbers_of (one_value r) ≡ Ok numbers
    → (z : ℤ) × ((numbers ≡ z ∷ []) × (number_in r ≡ Ok z))
one-in (Ok x) numbers h = (value_number x, (cc, refl))
one-in (Err e) numbers h = cc

-- a number alone is each of the numbers

only-fit : (w : ℕ) (s : Bool) (z : ℤ) (k : ℕ) → k < 1 → fits w s z ≡ true
    → fits w s (get_or (z ∷ []) k (pos 0)) ≡ true
only-fit w s z zero lt h = h
only-fit w s z (suc k) lt h = absurd (omega arith)

only-bit : (first w : ℕ) (z : ℤ) (old : List ℕ) (k i : ℕ) → k < 1
    → number_bit z i ≡ bit old (first + i)
    → number_bit (get_or (z ∷ []) k (pos 0)) i ≡ bit old (first + w * k + i)
only-bit first w z old zero i lt h =
    let here : first + i ≡ first + w * 0 + i = omega arith in h ∙ ap (bit old) here
only-bit first w z old (suc k) i lt h = absurd (omega arith)

values-own : (field : FieldRecord) (numbers : List ℤ) (old : List ℕ) → AreBytes old
    → numbers_of (values_of field old) ≡ Ok numbers
    → (list_all (fits (value_width field) (has_sign field)) numbers ≡ true)
    × (put (place_of field).first (value_width field) numbers old ≡ old)
values-own (VariableRecord place usage shared) numbers old are h =
    let s = is_signed shared in
    let w = place.«end» - place.first in
    let one = one-in (read_bits place.first place.«end» s old) numbers h in
    let z = one.0 in
    let own = own-value place.first place.«end» s old z one.1.1 in
    let alone : numbers ≡ z ∷ [] = one.1.0 in (
      ap (list_all (fits w s)) alone
          ∙ all-fit w s (z ∷ []) (λ k lt. only-fit w s z k lt
          (value-own-fits place.first w s old z own)),
      ap (λ l. put place.first w l old) alone
          ∙ put-own place.first w (z ∷ []) old are
          (λ k i lt below. only-bit place.first w z old k i lt
          (value-own-bits place.first w s old z i own below)),
    )
values-own (ArrayRecord place usages is_range n shared) numbers old are h =
    run-own place.first (element_width place.first place.«end» n) n (is_signed shared) numbers old are h
values-own (ConstantRecord place) numbers old are h =
    let none : [] ≡ numbers = cc in (
      sym (ap (list_all (fits 0 false)) none),
      sym (ap (λ l. put place.first 0 l old) none)
          ∙ put-own place.first 0 [] old are (λ k i lt below. absurd (omega arith)),
    )

numbers-ok : (r : Result (List ValueRecord) Refusal) (numbers : List ℤ)
    → numbers_of r ≡ Ok numbers → IsOk r
numbers-ok (Ok xs) numbers h = refl
numbers-ok (Err e) numbers h = cc

own-numbers : (field : FieldRecord) (numbers : List ℤ) (old : List ℕ) → AreBytes old
    → reads_numbers field old ≡ Ok numbers → OwnNumbers field numbers old
own-numbers field numbers old are h =
    let ok = numbers-ok (reads field old) numbers h in
    let passed = id-passes (own_id field) old (values_of field old) (values_of field old) ok in
    let own = values-own field numbers old are (sym (ap numbers_of passed) ∙ h) in
    record { read = ok; fit = own.0; same = own.1 }

not-unfit : (t b a : Bool) (r : Result (List ValueRecord) Refusal) (p : List ℕ) → a ≡ true
    → IsOk r → cond t (where_read r (cond b (Err refused.OutOfBounds)
    (cond a (Ok p) (Err refused.DoesNotFit)))) (Err refused.WrongCount)
    ≢ Err refused.DoesNotFit
not-unfit true true a (Ok xs) p e ok h = cc
not-unfit true false true (Ok xs) p e ok h = cc
not-unfit true false false (Ok xs) p e ok h = cc
not-unfit true b a (Err f) p e ok h = cc
not-unfit false b a r p e ok h = cc

-- the answer and the new bytes, where what was read is written
pub again : (field : FieldRecord) (numbers : List ℤ) (old new : List ℕ)
    (result : Result (Unit {0}) InsertError) → AreBytes old
    → Inserts result old new (written field numbers old)
    → reads_numbers field old ≡ Ok numbers
    → (new ≡ old) × (result ≢ Err refused.DoesNotFit)
again field numbers old new (Ok done) are h read =
    let own = own-numbers field numbers old are read in
    (sym (written-parts field numbers old new h).is ∙ own.same, λ e. cc)
again field numbers old new (Err e) are h read =
    let own = own-numbers field numbers old are read in (
      h.1,
      λ unfit. not-unfit (length numbers == value_count field)
          (begins_in_id (own_id field) (place_of field).first)
          (list_all (fits (value_width field) (has_sign field)) numbers) (reads field old)
          (put (place_of field).first (value_width field) numbers old) own.fit own.read
          (h.0 ∙ (let same : e ≡ refused.DoesNotFit = cc in ap (λ x. Err x) same)),
    )

element-in : (t : Bool) (id : Option ℕ) (old : List ℕ) (r : Result ValueRecord Refusal) (z : ℤ)
    → number_in (cond t (with_id id old r) (Err OutOfBounds)) ≡ Ok z
    → (IsOk (cond t (with_id id old r) (Err OutOfBounds))) × (number_in r ≡ Ok z)
element-in false id old r z h = cc
element-in true id old r z h =
    let ok = number-ok (with_id id old r) z h in
    (ok, sym (ap number_in (id-passes id old r r ok)) ∙ h)

element-not-unfit : (b a : Bool) (r : Result ValueRecord Refusal) (p : List ℕ) → a ≡ true
    → IsOk r → where_read r (cond b (Err refused.OutOfBounds)
    (cond a (Ok p) (Err refused.DoesNotFit))) ≢ Err refused.DoesNotFit
element-not-unfit true a (Ok xs) p e ok h = cc
element-not-unfit false true (Ok xs) p e ok h = cc
element-not-unfit false false (Ok xs) p e ok h = cc
element-not-unfit b a (Err f) p e ok h = cc

-- the same of one element
pub again-element : (place : FieldPlace) (usages : List Usage) (is_range : Bool) (count : ℕ)
    (shared : Attributes) (index : ℕ) (number : ℤ) (old new : List ℕ)
    (result : Result (Unit {0}) InsertError) → AreBytes old
    → Inserts result old new
    (written_element (ArrayRecord place usages is_range count shared) index number old)
    → number_in (reads_element (ArrayRecord place usages is_range count shared) old index) ≡ Ok number
    → (new ≡ old) × (result ≢ Err refused.DoesNotFit)
again-element place usages is_range count shared index number old new result are h read =
    let s = is_signed shared in
    let w = element_width place.first place.«end» count in
    let p = place.first + w * index in
    let e = element-in (nat_lt index count) place.report_id old (read_bits p (p + w) s old) number
    read in
    let width : p + w - p ≡ w = omega arith in
    let own : IsValue p w s old number =
    subst (λ v. IsValue p v s old number) width (own-value p (p + w) s old number e.1) in
    let fit : list_all (fits w s) (number ∷ []) ≡ true =
    all-fit w s (number ∷ []) (λ k lt. only-fit w s number k lt (value-own-fits p w s old number own)) in
    let same : put p w (number ∷ []) old ≡ old =
    put-own p w (number ∷ []) old are (λ k i lt below.
    only-bit p w number old k i lt (value-own-bits p w s old number i own below)) in
    by result h fit same e.0 where
      by : (result : Result (Unit {0}) InsertError)
          → Inserts result old new
          (written_element (ArrayRecord place usages is_range count shared) index number old)
          → list_all (fits (element_width place.first place.end count) (is_signed shared)) (number ∷ [])
          ≡ true
          → put (place.first + element_width place.first place.end count * index)
          (element_width place.first place.end count) (number ∷ []) old ≡ old
          → IsOk (reads_element (ArrayRecord place usages is_range count shared) old index)
          → (new ≡ old) × (result ≢ Err refused.DoesNotFit)
      by (Ok done) h fit same ok =
          let w = element_width place.first place.«end» count in
          let p = place.first + w * index in
          let t = parts-by (nat_lt index count) (begins_in_id place.report_id p)
          (list_all (fits w (is_signed shared)) (number ∷ []))
          (with_id place.report_id old (read_bits p (p + w) (is_signed shared) old))
          (put p w (number ∷ []) old) new h in
          (sym t.4 ∙ same, λ e. cc)
      by (Err e) h fit same ok =
          let w = element_width place.first place.«end» count in
          let p = place.first + w * index in (
            h.1,
            λ unfit. element-not-unfit (begins_in_id place.report_id p)
                (list_all (fits w (is_signed shared)) (number ∷ []))
                (reads_element (ArrayRecord place usages is_range count shared) old index)
                (put p w (number ∷ []) old) fit ok
                (h.0 ∙ (let eq : e ≡ refused.DoesNotFit = cc in ap (λ x. Err x) eq)),
          )
