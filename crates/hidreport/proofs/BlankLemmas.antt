-- A report without values: its bits, and that all its fields can be written.
use Rattle.std.proofs.Common.{◌≡◌, ◌⊎◌, inl, ℕ, zero, suc, ◌+◌, ◌-◌, ◌*◌, ◌/◌, ◌%◌, ◌^◌, ◌<◌, ◌≤◌}
use Rattle.std.proofs.Common.{List, [], ◌∷◌, length, Option, None, Some, Result, Ok, Err, IsOk, ℤ}
use Rattle.std.proofs.Common.{refl, sym, ap, subst, ◌∙◌, arith}
use Rattle.std.specs.Prelude.{replicate, slice_get, slice_index}
use Rattle.std.proofs.lemmas.Grind.{common_steps}
use Rattle.std.proofs.lemmas.Nat.Bits.{same_from_bits_below}
use Rattle.hidreport_items.specs.Spelling.{AreBytes}
use Rattle.hidreport_fields.specs.BitValue.{bit}
use Rattle.hidreport.specs.Blank.{blank_bytes, with_first}
use Rattle.hidreport_fields.specs.Bits.{covered_bits}
use Rattle.hidreport_fields.specs.ReportIds.{id_bits}
use Rattle.hidreport_fields.specs.Records.{FieldRecord, ReportRecord, own_id, place_of}
use Rattle.hidreport_fields.specs.Tiling.{Covers, Each, HasNoRest, IsOf}
use Rattle.hidreport.specs.Working.{FitAll, IsNarrow, TakesAll}
use Rattle.hidreport_fields.specs.WritingLaws.{Keeps, then_written, written_all}
use Rattle.hidreport_fields.specs.WritingValues.{written}
use Rattle.hidreport_fields.specs.declared.field.insert_error.InsertError.{InsertError}
use Rattle.hidreport_fields.proofs.IsWrittenLemmas.{is-written}
use Rattle.hidreport.proofs.OwnReportsLemmas.{of-none, of-some}
use Rattle.hidreport.proofs.WholeLemmas.{written-are}
use Rattle.hidreport.proofs.WorkLemmas.{covers-up, fields-work}
use Rattle.hidreport_fields.proofs.WrittenBitsLemmas.{bit-head, bit-tail}

-- the bytes of a report with an id begin with it
abbrev pub Begins : Option ℕ → List ℕ → Type 0
Begins None bytes = Unit {0}
Begins (Some id) bytes = slice_get bytes 0 ≡ Some id

own-of : (id : Option ℕ) (b : ℕ) (bytes : List ℕ) → Begins id (b ∷ bytes) → (f : FieldRecord)
    → IsOf id f → (own_id f ≡ None) ⊎ (own_id f ≡ Some b)
own-of None b bytes begins f is = inl (of-none f None refl is)
own-of (Some n) b bytes begins f is =
    let same : n ≡ b = cc in of-some f (Some n) b (ap Some same) is

-- a byte is its bits
same-byte : (b c : ℕ) (bs cs : List ℕ) → AreBytes (b ∷ bs) → AreBytes (c ∷ cs)
    → ((i : ℕ) → i < 8 → bit (c ∷ cs) i ≡ bit (b ∷ bs) i) → c ≡ b
same-byte b c bs cs are also same = same_from_bits_below 8 c b (also 0 0 (omega arith))
    (are 0 0 (omega arith))
    (λ i lt. sym (bit-head c cs i lt) ∙ same i lt ∙ bit-head b bs i lt)

-- what is written behind the id leaves it
begins-still : (id : Option ℕ) (first count : ℕ) (old new : List ℕ) → AreBytes old → AreBytes new
    → id_bits id ≤ first → 0 < length old → Keeps first count old new → Begins id old
    → Begins id new
begins-still None first count old new are also from some kept begins = tt
begins-still (Some n) first count [] new are also from some kept begins =
    absurd (omega (arith, some))
begins-still (Some n) first count (b ∷ bs) [] are also from some kept begins =
    absurd (omega (arith, kept.size))
begins-still (Some n) first count (b ∷ bs) (c ∷ cs) are also from some kept begins =
    let same : c ≡ b = same-byte b c bs cs are also
    (λ i lt. kept.bits i (inl (omega (arith, from, lt)))) in
    ap Some same ∙ begins

then-taken : (r : Result (List ℕ) InsertError) (next : List ℕ → Result (List ℕ) InsertError)
    → IsOk r → ((new : List ℕ) → r ≡ Ok new → IsOk (next new)) → IsOk (then_written r next)
then-taken (Ok new) next ok rest = rest new refl
then-taken (Err e) next ok rest = cc

taken : (id : Option ℕ) (first end : ℕ) (fields : List FieldRecord) (numbers : List (List ℤ))
    (bytes : List ℕ) → AreBytes bytes → Begins id bytes → id_bits id ≤ first
    → end ≤ 8 * length bytes → Covers first fields end → Each HasNoRest fields
    → Each (IsOf id) fields → Each IsNarrow fields → FitAll fields numbers
    → IsOk (written_all fields numbers bytes)
taken id first end [] [] bytes are begins from within covers whole own narrow fit = refl
taken id first end [] (v ∷ numbers) bytes are begins from within covers whole own narrow fit =
    absurd fit
taken id first end (f ∷ fields) [] bytes are begins from within covers whole own narrow fit =
    absurd fit
taken id first end (f ∷ fields) (v ∷ numbers) [] are begins from within covers whole own narrow
    fit =
    let rest = covers-up (place_of f).«end» end fields covers.2 in
    absurd (omega (arith, within, covers.0, covers.1, rest))
taken id first end (f ∷ fields) (v ∷ numbers) (b ∷ bs) are begins from within covers whole own
    narrow fit =
    let work = fields-work id b bs first end (f ∷ fields) (own-of id b bs begins) from within covers
    whole own in
    then-taken (written f v (b ∷ bs)) (written_all fields numbers)
    (work.0.writes narrow.0 v fit.0 fit.1) (λ new is.
    let one = is-written f v (b ∷ bs) new are is in
    let also = written-are f v (b ∷ bs) new is in
    taken id (place_of f).«end» end fields numbers new also
    (begins-still id (place_of f).first (covered_bits f) (b ∷ bs) new are also
    (omega (arith, from, covers.0)) (omega arith) one.kept begins)
    (omega (arith, from, covers.0, covers.1)) (omega (arith, within, one.kept.size)) covers.2
    whole.1 own.1 narrow.1 fit.2)

-- the bits of a blank report

zero-at : (count i : ℕ) → slice_index (replicate count 0) i ≡ 0
zero-at zero i = refl
zero-at (suc count) zero = refl
zero-at (suc count) (suc i) = zero-at count i

no-bit : (count n : ℕ) → bit (replicate count 0) n ≡ 0
no-bit count n =
    ap (λ b. b / 2 ^ (n % 8) % 2) (zero-at count (n / 8))
    ∙ (let none : 0 / 2 ^ (n % 8) % 2 ≡ 0 = grind (arith, common_steps) in none)

pub blank-bits : (id : Option ℕ) (size n : ℕ) → id_bits id ≤ n → bit (blank_bytes id size) n ≡ 0
blank-bits id size n from = by id ((size + 7) / 8) from where
  by : (id : Option ℕ) (count : ℕ) → id_bits id ≤ n → bit (with_first id (replicate count 0)) n ≡ 0
  by None count from = no-bit count n
  by (Some id) zero from = no-bit zero n
  by (Some id) (suc count) from =
      let is : n ≡ 8 + (n - 8) = omega (arith, from) in
      ap (bit (id ∷ replicate count 0)) is ∙ bit-tail id (replicate count 0) (n - 8)
      ∙ no-bit count (n - 8)

abbrev zeros : ℕ → List ℕ
zeros count = replicate count 0

length-replicate : (count : ℕ) → length (zeros count) ≡ count
length-replicate zero = refl
length-replicate (suc count) = omega (arith, length-replicate count)

length-first : (id : Option ℕ) (bytes : List ℕ) → length (with_first id bytes) ≡ length bytes
length-first None bytes = refl
length-first (Some id) [] = refl
length-first (Some id) (b ∷ bytes) = refl

pub blank-size : (id : Option ℕ) (size : ℕ) → length (blank_bytes id size) ≡ (size + 7) / 8
blank-size id size =
    length-first id (replicate ((size + 7) / 8) 0) ∙ length-replicate ((size + 7) / 8)

pub blank-begins : (id : Option ℕ) (size : ℕ) → 0 < size → Begins id (blank_bytes id size)
blank-begins None size some = tt
blank-begins (Some id) size some = by ((size + 7) / 8) (omega (arith, some)) where
  by : (count : ℕ) → 0 < count → Begins (Some id) (with_first (Some id) (replicate count 0))
  by zero lt = absurd (omega (arith, lt))
  by (suc count) lt = refl

-- fields of a report that has some lie behind bit 0
some-bits : (first end : ℕ) (fields : List FieldRecord) → Covers first fields end
    → (fields ≡ [] → ⊥) → 0 < end
some-bits first end [] covers some = absurd (some refl)
some-bits first end (f ∷ fields) covers some =
    let rest = covers-up (place_of f).«end» end fields covers.2 in
    omega (arith, covers.1, rest)

pub takes-all : (report : ReportRecord) (bytes : List ℕ) → AreBytes bytes
    → bytes ≡ blank_bytes report.id report.size → TakesAll report bytes
takes-all report bytes are is filled narrow numbers fit =
    taken report.id (id_bits report.id) report.size report.fields numbers bytes are
    (subst (Begins report.id) (sym is) (blank-begins report.id report.size
    (some-bits (id_bits report.id) report.size report.fields filled.covers filled.some)))
    (omega arith)
    (let size : length bytes ≡ (report.size + 7) / 8 =
    ap (λ (l : List ℕ). length l) is ∙ blank-size report.id report.size in omega (arith, size))
    filled.covers filled.elements filled.own narrow fit
