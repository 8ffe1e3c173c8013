-- What is known where a field's values can be read, and why they can't be written.
use Rattle.std.proofs.Common.{◌≡◌, ◌≢◌, ℕ, ℤ, zero, suc, ◌+◌, ◌*◌, ◌<◌, ◌≤◌, Bool, true, false}
use Rattle.std.proofs.Common.{cond, nat_lt, List, [], ◌∷◌, length}
use Rattle.std.proofs.Common.{Option, None, Some, Result, Ok, Err, IsOk}
use Rattle.std.proofs.Common.{refl, sym, subst, ◌∙◌, arith}
use Rattle.std.proofs.lemmas.Bool.Decides.{nat_tests}
use Rattle.std.specs.Prelude.{◌==◌}
use Rattle.hidreport.specs.Answer.{Refusal, OutOfBounds, MismatchingReportId}
use Rattle.hidreport.specs.Reading.{ValueRecord, before_values, element, each_value, with_id}
use Rattle.hidreport.specs.WritingValues.{insert_refusal, where_read}
use Rattle.hidreport_fields.specs.declared.field.insert_error.InsertError.{InsertError}
use Rattle.hidreport_fields.specs.declared.field.insert_error.InsertError.TheVariants as refused
use Rattle.hidreport_fields.proofs.IsWrittenLemmas.{room-of}
use Rattle.hidreport_fields.proofs.ReadBackLemmas.{each-readable}
use Rattle.hidreport_c.proofs.ValuesLemmas.{one-more}
use Rattle.hidreport_c.specs.Insert.{Places, bytes_after, insert_status, is_signed_in, placed_at}
use Rattle.hidreport_c.specs.Insert.{status_after, width_of, written_at}
use Rattle.hidreport_c.specs.Status.{by_status, status_of}
use Rattle.hidreport_c.specs.Value.{acceptance, element_at, elements_at, id_of, value_at, values_at}
use Rattle.hidreport_c.specs.declared.structs.HidreportField.{HidreportField}

test-ok : {A : Type 0} (t : Bool) (a : Result A Refusal) (r : Refusal)
    → IsOk (cond t a (Err r)) → (t ≡ true) × (IsOk a)
test-ok true a r ok = (refl, ok)
test-ok false a r ok = cc

-- what an id lets through can be read
id-ok : {A : Type 0} (id : Option ℕ) (bytes : List ℕ) (a : Result A Refusal)
    → IsOk (with_id id bytes a) → IsOk a
id-ok None bytes a ok = ok
id-ok (Some id) [] a ok = cc
id-ok (Some id) (b ∷ bytes) a ok = (test-ok (b == id) a MismatchingReportId ok).1

-- what is known of a value that can be read
pub record Room (f : HidreportField) (bytes : List ℕ) (index : ℕ) : Type 0 where
  pub some : 0 < width_of f
  pub narrow : width_of f ≤ 32
  pub within : f.first_bit + width_of f * index + width_of f ≤ 8 * length bytes

element-room : (f : HidreportField) (bytes : List ℕ) (index : ℕ)
    → IsOk (element_at f bytes index) → Room f bytes index
element-room f bytes index ok =
    let w = width_of f in
    let p = f.first_bit + w * index in
    let room = room-of p (p + w) (is_signed_in f) bytes ok in record {
      some = omega (arith, room.0);
      narrow = omega (arith, room.1);
      within = room.2;
    }

pub value-room : (f : HidreportField) (bytes : List ℕ) (index : ℕ)
    → IsOk (value_at f bytes index) → (index < f.value_count) × (Room f bytes index)
value-room f bytes index ok =
    let parts = test-ok (nat_lt index f.value_count)
    (with_id (id_of f) bytes (element_at f bytes index)) OutOfBounds ok in (
      grind (arith, nat_tests, parts.0),
      element-room f bytes index (id-ok (id_of f) bytes (element_at f bytes index) parts.1),
    )

pub values-room : (f : HidreportField) (bytes : List ℕ) (last : ℕ) → f.value_count ≡ last + 1
    → IsOk (values_at f bytes) → Room f bytes last
values-room f bytes last counts ok =
    let all = id-ok (id_of f) bytes (elements_at f bytes) ok in
    let start : 0 + last ≡ last = omega arith in
    element-room f bytes last (subst (λ k. IsOk (element_at f bytes k)) start
    (each-readable (λ k. element_at f bytes k) 0 f.value_count last all (omega (arith, counts))))

-- so all of them end in the bytes
pub values-within : (f : HidreportField) (bytes : List ℕ) (n : ℕ) → n ≡ f.value_count
    → IsOk (values_at f bytes) → n ≢ 0 → f.first_bit + width_of f * n ≤ 8 * length bytes
values-within f bytes zero counts ok some = absurd (some refl)
values-within f bytes (suc last) counts ok some =
    let all : f.value_count ≡ last + 1 = omega (arith, counts) in
    let room = values-room f bytes last all ok in
    let whole : width_of f * suc last ≡ width_of f * last + width_of f =
    one-more (width_of f) (suc last) last (omega arith) in
    omega (arith, whole, room.within)

-- each of them has 1 to 32 bits
pub values-wide : (f : HidreportField) (bytes : List ℕ) (n : ℕ) → n ≡ f.value_count
    → IsOk (values_at f bytes) → n ≢ 0 → (0 < width_of f) × (width_of f ≤ 32)
values-wide f bytes zero counts ok some = absurd (some refl)
values-wide f bytes (suc last) counts ok some =
    let all : f.value_count ≡ last + 1 = omega (arith, counts) in
    let room = values-room f bytes last all ok in (room.some, room.narrow)

-- a value is refused for the bounds or for the id
abbrev pub IsPlain : {A : Type 0} → Result A Refusal → Type 0
IsPlain (Ok x) = Unit {0}
IsPlain (Err r) = insert_status (insert_refusal r) ≡ status_of r

test-plain : {A : Type 0} (t : Bool) (a : A) → IsPlain (cond t (Err OutOfBounds) (Ok a))
test-plain true a = refl
test-plain false a = tt

before-plain : (a : Result ValueRecord Refusal) (rest : Result (List ValueRecord) Refusal)
    → IsPlain a → IsPlain rest → IsPlain (before_values a rest)
before-plain (Err e) rest one more = one
before-plain (Ok x) (Err e) one more = more
before-plain (Ok x) (Ok xs) one more = tt

elements-plain : (first end count : ℕ) (s : Bool) (bytes : List ℕ) (index more : ℕ)
    → IsPlain (each_value (element first end count s bytes) index more)
elements-plain first end count s bytes index zero = tt
elements-plain first end count s bytes index (suc more) =
    before-plain (element first end count s bytes index)
    (each_value (element first end count s bytes) (index + 1) more)
    (test-plain _ _) (elements-plain first end count s bytes (index + 1) more)

mismatch-plain : {A : Type 0} (t : Bool) (a : Result A Refusal) → IsPlain a
    → IsPlain (cond t a (Err MismatchingReportId))
mismatch-plain true a plain = plain
mismatch-plain false a plain = refl

id-plain : {A : Type 0} (id : Option ℕ) (bytes : List ℕ) (a : Result A Refusal) → IsPlain a
    → IsPlain (with_id id bytes a)
id-plain None bytes a plain = plain
id-plain (Some id) [] a plain = refl
id-plain (Some id) (b ∷ bytes) a plain = mismatch-plain (b == id) a plain

bounds-plain : {A : Type 0} (t : Bool) (a : Result A Refusal) → IsPlain a
    → IsPlain (cond t a (Err OutOfBounds))
bounds-plain true a plain = plain
bounds-plain false a plain = refl

pub value-plain : (f : HidreportField) (bytes : List ℕ) (index : ℕ)
    → IsPlain (value_at f bytes index)
value-plain f bytes index = bounds-plain (nat_lt index f.value_count)
    (with_id (id_of f) bytes (element_at f bytes index))
    (id-plain (id_of f) bytes (element_at f bytes index) (test-plain _ _))

pub values-plain : (f : HidreportField) (bytes : List ℕ) → IsPlain (values_at f bytes)
values-plain f bytes = id-plain (id_of f) bytes (elements_at f bytes)
    (elements-plain f.first_bit f.end_bit f.value_count (is_signed_in f) bytes 0 f.value_count)

ok-by : {A : Type 0} (a : Result A Refusal) → Ok tt ≡ by_status (acceptance a) → IsOk a
ok-by (Ok x) h = refl
ok-by (Err e) h = cc

-- what is accepted can be read
pub accepted-read : (f : HidreportField) (bytes : List ℕ)
    → Ok tt ≡ by_status (acceptance (values_at f bytes)) → IsOk (values_at f bytes)
accepted-read f bytes h = ok-by (values_at f bytes) h

refused-by : {A : Type 0} (a : Result A Refusal) (x : Result (List ℕ) InsertError) (old : List ℕ)
    (status : ℕ) → IsPlain a → Err status ≡ by_status (acceptance a)
    → (status ≡ status_after (where_read a x)) × (old ≡ bytes_after (where_read a x) old)
refused-by (Ok y) x old status plain h = cc
refused-by (Err e) x old status plain h =
    let is : status ≡ status_of e = cc in (is ∙ sym plain, refl)

-- what isn't is refused with the same number
pub accepted-not : (f : HidreportField) (numbers : List ℤ) (bytes : List ℕ) (status : ℕ)
    → length numbers ≡ f.value_count → Err status ≡ by_status (acceptance (values_at f bytes))
    → Places (Err status) bytes bytes (written_at f numbers bytes)
accepted-not f numbers bytes status counts h =
    let t : (length numbers == f.value_count) ≡ true = grind (arith, nat_tests) in
    let x = placed_at f f.first_bit numbers bytes in
    subst (λ b. Places (Err status) bytes bytes
    (cond b (where_read (values_at f bytes) x) (Err refused.WrongCount))) (sym t)
    (refused-by (values_at f bytes) x bytes status (values-plain f bytes) h)
