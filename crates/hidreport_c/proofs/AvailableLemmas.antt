-- The values that bytes have of several fields, field by field.
use Rattle.std.proofs.Common.{◌≡◌, ℕ, ◌+◌, ◌<◌, ◌≤◌, List, [], ◌∷◌, ◌++◌, length, take, drop, get_or}
use Rattle.std.proofs.Common.{Result, Ok, Err, ap, sym, ◌∙◌, arith, length-append}
use Rattle.std.proofs.lemmas.Grind.{flat_map-append}
use Rattle.std.proofs.lemmas.List.{drop_more, take-append-drop}
use Rattle.hidreport.proofs.AvailableLemmas.{before-part, before-whole, length-alone}
use Rattle.hidreport.specs.Answer.{Refusal}
use Rattle.hidreport.specs.Reader.{numbers_before}
use Rattle.hidreport.specs.Reading.{ValueRecord}
use Rattle.hidreport_c.proofs.ListingLemmas.{flat-next}
use Rattle.hidreport_c.specs.Reading.{alone_at, alone_in, there_at, there_in}
use Rattle.hidreport_c.specs.Value.{element_at}
use Rattle.hidreport_c.specs.declared.structs.HidreportField.{HidreportField}

-- all values of the fields so far are there
abbrev pub AllThere : List HidreportField → ℕ → List ℕ → Type 0
AllThere fields i bytes =
    length (there_in (take i fields) bytes) ≡ length (alone_in (take i fields) bytes)

-- then those of the next field follow
pub there-next : (fields : List HidreportField) (i : ℕ) (f : HidreportField) (bytes : List ℕ)
    → i < length fields → f ≡ get_or fields i f → AllThere fields i bytes
    → there_in (take (i + 1) fields) bytes ≡ there_in (take i fields) bytes ++ there_at f bytes
there-next fields i f bytes within is whole =
    ap numbers_before (flat-next (λ (g : HidreportField). alone_at g bytes) fields i f within is)
    ∙ before-whole (alone_in (take i fields) bytes) (alone_at f bytes) whole

there-around : (fields : List HidreportField) (i : ℕ) (f : HidreportField) (bytes : List ℕ)
    → i < length fields → f ≡ get_or fields i f → AllThere fields i bytes
    → there_in fields bytes ≡ there_in (take i fields) bytes
    ++ numbers_before (alone_at f bytes ++ alone_in (drop (i + 1) fields) bytes)
there-around fields i f bytes within is whole =
    let rest = drop_more fields i f within ∙ ap (λ q. q ∷ drop (i + 1) fields) (sym is) in
    ap (λ l. there_in l bytes) (sym (take-append-drop i fields)
    ∙ ap (λ l. take i fields ++ l) rest)
    ∙ ap numbers_before (flat_map-append (λ (g : HidreportField). alone_at g bytes) (take i fields)
    (f ∷ drop (i + 1) fields))
    ∙ before-whole (alone_in (take i fields) bytes)
    (alone_at f bytes ++ alone_in (drop (i + 1) fields) bytes) whole

before-least : (xs ys : List (Result ValueRecord Refusal))
    → length (numbers_before xs) ≤ length (numbers_before (xs ++ ys))
before-least [] ys = omega arith
before-least (Err r ∷ xs) ys = omega arith
before-least (Ok v ∷ xs) ys = let rest = before-least xs ys in omega (arith, rest)

-- with them there are no more than in all
pub there-within : (fields : List HidreportField) (i : ℕ) (f : HidreportField) (bytes : List ℕ)
    → i < length fields → f ≡ get_or fields i f → AllThere fields i bytes
    → length (there_in (take i fields) bytes) + length (there_at f bytes)
    ≤ length (there_in fields bytes)
there-within fields i f bytes within is whole =
    let rest = alone_in (drop (i + 1) fields) bytes in
    omega (
      arith,
      ap length (there-around fields i f bytes within is whole),
      length-append (there_in (take i fields) bytes) (numbers_before (alone_at f bytes ++ rest)),
      before-least (alone_at f bytes) rest,
    )

alone-count : (f : HidreportField) (bytes : List ℕ) → length (alone_at f bytes) ≡ f.value_count
alone-count f bytes = length-alone (element_at f bytes) 0 f.value_count

-- where one of its values isn't there, none behind them is
pub there-last : (fields : List HidreportField) (i : ℕ) (f : HidreportField) (bytes : List ℕ)
    → i < length fields → f ≡ get_or fields i f → AllThere fields i bytes
    → length (there_at f bytes) < f.value_count
    → there_in fields bytes ≡ there_in (take i fields) bytes ++ there_at f bytes
there-last fields i f bytes within is whole part =
    there-around fields i f bytes within is whole
    ∙ ap (λ l. there_in (take i fields) bytes ++ l)
    (before-part (alone_at f bytes) (alone_in (drop (i + 1) fields) bytes)
    (omega (arith, part, alone-count f bytes)))

-- where all are, they are so far
pub all-there : (fields : List HidreportField) (i : ℕ) (f : HidreportField) (bytes : List ℕ)
    → i < length fields → f ≡ get_or fields i f → AllThere fields i bytes
    → length (there_at f bytes) ≡ f.value_count → AllThere fields (i + 1) bytes
all-there fields i f bytes within is whole all =
    omega (
      arith,
      ap length (there-next fields i f bytes within is whole),
      length-append (there_in (take i fields) bytes) (there_at f bytes),
      ap length (flat-next (λ (g : HidreportField). alone_at g bytes) fields i f within is),
      length-append (alone_in (take i fields) bytes) (alone_at f bytes),
      alone-count f bytes,
      whole,
      all,
    )
