-- All values of several fields, field by field.
use Rattle.std.proofs.Common.{◌≡◌, ℕ, ℤ, ◌+◌, ◌<◌, ◌≤◌, Bool, true, false, cond, List, [], ◌∷◌, ◌++◌}
use Rattle.std.proofs.Common.{◌^◌, length, nat_lt, subst, take, drop, map, get_or, Option, None, Some}
use Rattle.std.proofs.Common.{Result, Ok, Err, IsOk, refl, ap, sym, ◌∙◌, arith, append-nil}
use Rattle.std.proofs.Common.{append_assoc, length-append}
use Rattle.std.proofs.Common.{◌⊎◌, inl, inr}
use Rattle.std.proofs.Math.Dec.{leb}
use Rattle.std.proofs.lemmas.Bool.Decides.{leb_tells, nat_tests}
use Rattle.std.proofs.lemmas.List.Sums.{sum_by-cons}
use Rattle.std.proofs.lemmas.List.{drop_more, get_or_default, length-map, take-append-drop, take_more}
use Rattle.std.specs.Prelude.{◌==◌}
use Rattle.hidreport.specs.Answer.{Refusal, MismatchingReportId, OutOfBounds}
use Rattle.hidreport.specs.Choosing.{value_number}
use Rattle.hidreport.specs.Reader.{before_numbers}
use Rattle.hidreport.specs.Reading.{ValueRecord, with_id}
use Rattle.hidreport_c.proofs.ValuesLemmas.{elements-length, values-place}
use Rattle.hidreport_c.specs.Answer.{as_answer, counted, list_or_nothing, offset_of, refused}
use Rattle.hidreport_c.specs.Field.{nothing_measured, nothing_set}
use Rattle.hidreport_c.specs.Reading.{if_countable, numbers_in}
use Rattle.hidreport_c.specs.Status.{by_status, status_of}
use Rattle.hidreport_c.specs.Value.{acceptance, elements_at, id_of, value_numbers, values_at}
use Rattle.hidreport_c.specs.Writing.{count_at}
use Rattle.hidreport_c.specs.declared.structs.HidreportField.{HidreportField}

-- what stands for a field behind the last
abbrev no_field : HidreportField
no_field = record {
  number = 0;
  kind = 0;
  first_bit = 0;
  end_bit = 0;
  value_count = 0;
  usages = record { count = 0; first = 0; last = 0; is_range = false };
  measures = nothing_measured;
  collections = record { count = 0; innermost = 0 };
  flags = nothing_set;
  has_report_id = false;
  report_id = 0;
}

-- the field at a place
abbrev pub item : List HidreportField → ℕ → HidreportField
item fields i = get_or fields i no_field

pub item-at : (fields : List HidreportField) (i : ℕ) → i < length fields
    → item fields i ≡ get_or fields i (item fields i)
item-at fields i within = get_or_default fields i no_field (item fields i) within

before-none : (r : Result (List ℤ) Refusal) → before_numbers (Ok []) r ≡ r
before-none (Ok xs) = refl
before-none (Err e) = refl

behind-none : (r : Result (List ℤ) Refusal) → before_numbers r (Ok []) ≡ r
behind-none (Ok xs) = ap (λ (l : List ℤ). Ok l) (append-nil xs)
behind-none (Err e) = refl

before-assoc : (a b c : Result (List ℤ) Refusal)
    → before_numbers a (before_numbers b c) ≡ before_numbers (before_numbers a b) c
before-assoc (Err e) b c = refl
before-assoc (Ok x) (Err e) c = refl
before-assoc (Ok x) (Ok y) (Err e) = refl
before-assoc (Ok x) (Ok y) (Ok z) = ap (λ (l : List ℤ). Ok l) (sym (append_assoc x y z))

numbers-append : (xs ys : List HidreportField) (bytes : List ℕ)
    → numbers_in (xs ++ ys) bytes ≡ before_numbers (numbers_in xs bytes) (numbers_in ys bytes)
numbers-append [] ys bytes = sym (before-none (numbers_in ys bytes))
numbers-append (x ∷ xs) ys bytes =
    let one = value_numbers (values_at x bytes) in
    ap (before_numbers one) (numbers-append xs ys bytes)
    ∙ before-assoc one (numbers_in xs bytes) (numbers_in ys bytes)

-- the fields so far, and one more
numbers-next : (fields : List HidreportField) (i : ℕ) (f : HidreportField) (bytes : List ℕ)
    → i < length fields → f ≡ get_or fields i f
    → numbers_in (take (i + 1) fields) bytes
    ≡ before_numbers (numbers_in (take i fields) bytes) (value_numbers (values_at f bytes))
numbers-next fields i f bytes within is =
    let more = take_more fields i f within ∙ ap (λ q. take i fields ++ q ∷ []) (sym is) in
    ap (λ l. numbers_in l bytes) more ∙ numbers-append (take i fields) (f ∷ []) bytes
    ∙ ap (before_numbers (numbers_in (take i fields) bytes))
    (behind-none (value_numbers (values_at f bytes)))

-- the fields before one, it, and those behind it
numbers-around : (fields : List HidreportField) (i : ℕ) (f : HidreportField) (bytes : List ℕ)
    → i < length fields → f ≡ get_or fields i f
    → numbers_in fields bytes
    ≡ before_numbers (numbers_in (take i fields) bytes)
    (before_numbers (value_numbers (values_at f bytes)) (numbers_in (drop (i + 1) fields) bytes))
numbers-around fields i f bytes within is =
    let rest = drop_more fields i f within ∙ ap (λ q. q ∷ drop (i + 1) fields) (sym is) in
    ap (λ l. numbers_in l bytes) (sym (take-append-drop i fields))
    ∙ ap (λ l. numbers_in (take i fields ++ l) bytes) rest
    ∙ numbers-append (take i fields) (f ∷ drop (i + 1) fields) bytes

refused-by : (a : Result (List ValueRecord) Refusal) (rest : Result (List ℤ) Refusal)
    (ns : List ℤ) (status : ℕ) → Err status ≡ by_status (acceptance a)
    → Err status
    ≡ by_status (acceptance (before_numbers (Ok ns) (before_numbers (value_numbers a) rest)))
refused-by (Ok vs) rest ns status h = cc
refused-by (Err e) rest ns status h = h

-- where a field behind others that are read is refused, all are
pub field-refused : (fields : List HidreportField) (i : ℕ) (f : HidreportField) (bytes : List ℕ)
    (ns : List ℤ) (status : ℕ) → i < length fields → f ≡ get_or fields i f
    → numbers_in (take i fields) bytes ≡ Ok ns → Err status ≡ by_status (acceptance (values_at f bytes))
    → Err status ≡ by_status (acceptance (numbers_in fields bytes))
field-refused fields i f bytes ns status within is sofar refused =
    let rest = numbers_in (drop (i + 1) fields) bytes in
    refused-by (values_at f bytes) rest ns status refused
    ∙ ap (λ r. by_status (acceptance (before_numbers r
    (before_numbers (value_numbers (values_at f bytes)) rest)))) (sym sofar)
    ∙ ap (λ r. by_status (acceptance r)) (sym (numbers-around fields i f bytes within is))

accepted-by : (a : Result (List ValueRecord) Refusal) → by_status (acceptance a) ≡ Ok tt
    → (vs : List ValueRecord) × (a ≡ Ok vs)
accepted-by (Ok vs) h = (vs, refl)
accepted-by (Err e) h = cc

-- where it is read, they are so far
pub field-accepted : (fields : List HidreportField) (i : ℕ) (f : HidreportField) (bytes : List ℕ)
    (ns : List ℤ) → i < length fields → f ≡ get_or fields i f
    → numbers_in (take i fields) bytes ≡ Ok ns → by_status (acceptance (values_at f bytes)) ≡ Ok tt
    → (more : List ℤ) × (numbers_in (take (i + 1) fields) bytes ≡ Ok more)
field-accepted fields i f bytes ns within is sofar accepted =
    let own = accepted-by (values_at f bytes) accepted in (
      ns ++ map value_number own.0,
      numbers-next fields i f bytes within is
          ∙ ap (λ r. before_numbers r (value_numbers (values_at f bytes))) sofar
          ∙ ap (λ r. before_numbers (Ok ns) (value_numbers r)) own.1,
    )

-- a field among those that are read: its values, and the numbers before and behind them
pub record IsAmong (bytes : List ℕ) (f : HidreportField) (ns all : List ℤ) : Type 0 where
  pub values : List ValueRecord
  pub rest : List ℤ
  pub is : values_at f bytes ≡ Ok values
  pub read : elements_at f bytes ≡ Ok values
  pub parts : (ns ++ map value_number values) ++ rest ≡ all

by-id : (b : Bool) (a : Result (List ValueRecord) Refusal) (vs : List ValueRecord)
    → cond b a (Err MismatchingReportId) ≡ Ok vs → a ≡ Ok vs
by-id true a vs h = h
by-id false a vs h = cc

with-own : (id : Option ℕ) (bytes : List ℕ) (a : Result (List ValueRecord) Refusal)
    (vs : List ValueRecord) → with_id id bytes a ≡ Ok vs → a ≡ Ok vs
with-own None bytes a vs h = h
with-own (Some id) [] a vs h = cc
with-own (Some id) (b ∷ bytes) a vs h = by-id (b == id) a vs h

among-by : (f : HidreportField) (bytes : List ℕ) (a : Result (List ValueRecord) Refusal)
    (rest : Result (List ℤ) Refusal) (ns all : List ℤ) → values_at f bytes ≡ a
    → before_numbers (Ok ns) (before_numbers (value_numbers a) rest) ≡ Ok all
    → IsAmong bytes f ns all
among-by f bytes (Err e) rest ns all is h = cc
among-by f bytes (Ok vs) (Err e) ns all is h = cc
among-by f bytes (Ok vs) (Ok more) ns all is h =
    let whole : ns ++ (map value_number vs ++ more) ≡ all = cc in record {
      values = vs;
      rest = more;
      is = is;
      read = with-own (id_of f) bytes (elements_at f bytes) vs is;
      parts = append_assoc ns (map value_number vs) more ∙ whole;
    }

among : (fields : List HidreportField) (i : ℕ) (f : HidreportField) (bytes : List ℕ)
    (ns all : List ℤ) → i < length fields → f ≡ get_or fields i f
    → numbers_in (take i fields) bytes ≡ Ok ns → numbers_in fields bytes ≡ Ok all
    → IsAmong bytes f ns all
among fields i f bytes ns all within is sofar whole =
    let rest = numbers_in (drop (i + 1) fields) bytes in
    among-by f bytes (values_at f bytes) rest ns all refl
    (ap (λ r. before_numbers r (before_numbers (value_numbers (values_at f bytes)) rest)) (sym sofar)
    ∙ sym (numbers-around fields i f bytes within is) ∙ whole)

pub ok-among : (bytes : List ℕ) (f : HidreportField) (ns all : List ℤ) → IsAmong bytes f ns all
    → IsOk (elements_at f bytes)
ok-among bytes f ns all a = rw a.read refl

-- with it the numbers so far are no more than all
pub count-among : (bytes : List ℕ) (f : HidreportField) (ns all : List ℤ)
    → IsAmong bytes f ns all → length ns + f.value_count ≤ length all
count-among bytes f ns all a =
    let own = length-map a.values value_number
    ∙ elements-length f.first_bit f.end_bit f.value_count _ bytes 0 f.value_count a.values a.read in
    let both = length-append ns (map value_number a.values) in
    let whole = length-append (ns ++ map value_number a.values) a.rest in
    omega (arith, own, both, whole, ap length a.parts)

pub count-next : (bytes : List ℕ) (f : HidreportField) (ns all : List ℤ)
    → (a : IsAmong bytes f ns all)
    → length ns + f.value_count ≡ length (ns ++ map value_number a.values)
count-next bytes f ns all a =
    let own = length-map a.values value_number
    ∙ elements-length f.first_bit f.end_bit f.value_count _ bytes 0 f.value_count a.values a.read in
    omega (arith, own, length-append ns (map value_number a.values))

pub among-next : (fields : List HidreportField) (i : ℕ) (f : HidreportField) (bytes : List ℕ)
    (ns all : List ℤ) → i < length fields → f ≡ get_or fields i f
    → numbers_in (take i fields) bytes ≡ Ok ns → (a : IsAmong bytes f ns all)
    → numbers_in (take (i + 1) fields) bytes ≡ Ok (ns ++ map value_number a.values)
among-next fields i f bytes ns all within is sofar a =
    numbers-next fields i f bytes within is
    ∙ ap (λ r. before_numbers r (value_numbers (values_at f bytes))) sofar
    ∙ ap (λ r. before_numbers (Ok ns) (value_numbers r)) a.is

pub ok-numbers : (r : Result (List ℤ) Refusal) → IsOk r → (all : List ℤ) × (r ≡ Ok all)
ok-numbers (Ok all) ok = (all, refl)
ok-numbers (Err e) ok = cc

-- where the values of all fields can be read, those of the field at a place are among them
pub among-at : (fields : List HidreportField) (i : ℕ) (bytes : List ℕ) (ns : List ℤ)
    (ok : IsOk (numbers_in fields bytes)) → i < length fields
    → numbers_in (take i fields) bytes ≡ Ok ns
    → IsAmong bytes (item fields i) ns (ok-numbers (numbers_in fields bytes) ok).0
among-at fields i bytes ns ok within sofar =
    among fields i (item fields i) bytes ns (ok-numbers (numbers_in fields bytes) ok).0 within
    (item-at fields i within) sofar (ok-numbers (numbers_in fields bytes) ok).1

numbers-place : (fields : List HidreportField) (bytes : List ℕ) (r : Refusal)
    → numbers_in fields bytes ≡ Err r → offset_of r ≡ 0
numbers-place [] bytes r h = cc
numbers-place (f ∷ fields) bytes r h =
    place-by f bytes (values_at f bytes) (numbers_in fields bytes) r refl h
    (numbers-place fields bytes r) where
      place-by : (f : HidreportField) (bytes : List ℕ) (a : Result (List ValueRecord) Refusal)
          (rest : Result (List ℤ) Refusal) (r : Refusal) → values_at f bytes ≡ a
          → before_numbers (value_numbers a) rest ≡ Err r → (rest ≡ Err r → offset_of r ≡ 0)
          → offset_of r ≡ 0
      place-by f bytes (Err e) rest r is h more =
          let same : e ≡ r = cc in
          values-place f bytes r (is ∙ ap (λ (z : Refusal). Err z) same)
      place-by f bytes (Ok vs) (Err e) r is h more =
          let same : e ≡ r = cc in more (ap (λ (z : Refusal). Err z) same)
      place-by f bytes (Ok vs) (Ok ns) r is h more = cc

told : (a : Result (List ℤ) Refusal) (status : ℕ)
    → ((r : Refusal) → a ≡ Err r → offset_of r ≡ 0) → Err status ≡ by_status (acceptance a)
    → refused status ≡ as_answer (if_countable a)
told (Ok xs) status place h = cc
told (Err r) status place h =
    let is : status ≡ status_of r = cc in
    ap refused is
    ∙ ap (λ o. record { count = 0; offset = o; status = status_of r }) (sym (place r refl))

-- a refusal of a field's values is told as it is of the field
pub numbers-refused : (fields : List HidreportField) (bytes : List ℕ) (status : ℕ)
    → Err status ≡ by_status (acceptance (numbers_in fields bytes))
    → refused status ≡ as_answer (if_countable (numbers_in fields bytes))
numbers-refused fields bytes status h =
    told (numbers_in fields bytes) status (numbers-place fields bytes) h

-- what isn't below is at least as much
pub at-least : (a n : ℕ) → (a < n → ⊥) → n ≤ a
at-least a n h = least (leb_tells n a) where
  least : ((leb n a ≡ true) × (n ≤ a)) ⊎ ((leb n a ≡ false) × (a < n)) → n ≤ a
  least (inl (test, above)) = above
  least (inr (test, below)) = absurd (h below)

count-by : (f : HidreportField) (bytes : List ℕ) (a : Result (List ValueRecord) Refusal)
    (rest : Result (List ℤ) Refusal) (n : ℕ) (all : List ℤ) → values_at f bytes ≡ a
    → before_numbers (value_numbers a) rest ≡ Ok all
    → ((ns : List ℤ) → rest ≡ Ok ns → length ns ≡ n) → length all ≡ f.value_count + n
count-by f bytes (Err e) rest n all is h counted = cc
count-by f bytes (Ok vs) (Err e) n all is h counted = cc
count-by f bytes (Ok vs) (Ok ns) n all is h counted =
    let whole : map value_number vs ++ ns ≡ all = cc in
    let own = length-map vs value_number
    ∙ elements-length f.first_bit f.end_bit f.value_count _ bytes 0 f.value_count vs
    (with-own (id_of f) bytes (elements_at f bytes) vs is) in
    omega (arith, own, counted ns refl, length-append (map value_number vs) ns, ap length whole)

-- fields that are read have as many numbers as they have values
pub numbers-count : (fields : List HidreportField) (bytes : List ℕ) (all : List ℤ)
    → numbers_in fields bytes ≡ Ok all → length all ≡ count_at fields
numbers-count [] bytes all is = let none : [] ≡ all = cc in ap length (sym none)
numbers-count (f ∷ fields) bytes all is =
    count-by f bytes (values_at f bytes) (numbers_in fields bytes) (count_at fields) all refl is
    (numbers-count fields bytes)
    ∙ sym (sum_by-cons (λ (g : HidreportField). g.value_count) f fields)

pub count-listed : (fields : List HidreportField) (bytes : List ℕ)
    → IsOk (numbers_in fields bytes)
    → length (list_or_nothing (numbers_in fields bytes)) ≡ count_at fields
count-listed fields bytes ok =
    let all = ok-numbers (numbers_in fields bytes) ok in
    ap (λ r. length (list_or_nothing r)) all.1 ∙ numbers-count fields bytes all.0 all.1

below : (n : ℕ) → n < 2 ^ 64 → nat_lt n (2 ^ 64) ≡ true
below n h = grind (arith, nat_tests)

past : (n : ℕ) → 2 ^ 64 ≤ n → nat_lt n (2 ^ 64) ≡ false
past n h = grind (arith, nat_tests)

pub countable-by : (r : Result (List ℤ) Refusal) → IsOk r → length (list_or_nothing r) < 2 ^ 64
    → if_countable r ≡ r
countable-by (Ok all) ok h = ap (λ b. cond b (Ok all) (Err OutOfBounds)) (below (length all) h)
countable-by (Err e) ok h = cc

pub uncountable-by : (r : Result (List ℤ) Refusal) → IsOk r → 2 ^ 64 ≤ length (list_or_nothing r)
    → if_countable r ≡ Err OutOfBounds
uncountable-by (Ok all) ok h = ap (λ b. cond b (Ok all) (Err OutOfBounds)) (past (length all) h)
uncountable-by (Err e) ok h = cc

-- so their values can be counted or not as their numbers can
pub countable : (fields : List HidreportField) (bytes : List ℕ) → IsOk (numbers_in fields bytes)
    → count_at fields < 2 ^ 64 → if_countable (numbers_in fields bytes) ≡ numbers_in fields bytes
countable fields bytes ok h =
    countable-by (numbers_in fields bytes) ok (omega (arith, count-listed fields bytes ok, h))

pub uncountable : (fields : List HidreportField) (bytes : List ℕ) → IsOk (numbers_in fields bytes)
    → 2 ^ 64 ≤ count_at fields → if_countable (numbers_in fields bytes) ≡ Err OutOfBounds
uncountable fields bytes ok h =
    uncountable-by (numbers_in fields bytes) ok (omega (arith, count-listed fields bytes ok, h))

pub counted-by : (r : Result (List ℤ) Refusal) → IsOk r
    → as_answer r ≡ counted (length (list_or_nothing r))
counted-by (Ok all) ok = refl
counted-by (Err e) ok = cc

pub counted-all : (fields : List HidreportField) (bytes : List ℕ) (count : ℕ)
    → IsOk (numbers_in fields bytes) → count ≡ count_at fields → count < 2 ^ 64
    → counted count ≡ as_answer (if_countable (numbers_in fields bytes))
counted-all fields bytes count ok is h =
    ap counted (is ∙ sym (count-listed fields bytes ok))
    ∙ sym (counted-by (numbers_in fields bytes) ok)
    ∙ ap as_answer (sym (countable fields bytes ok (subst (λ n. n < 2 ^ 64) is h)))
