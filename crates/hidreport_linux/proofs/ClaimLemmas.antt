-- A device's codes by their places: what it keeps of the codes that usages claim.
use Rattle.std.proofs.Common.{◌≡◌, ℕ, ◌+◌, ◌<◌, ◌==◌, ◌&&◌, ◌||◌, Bool, true, false, IsTrue, nat_lt, List, [], ◌∷◌, ◌++◌, length, replicate, arith, refl, sym, ap, ◌∙◌}
use Rattle.std.proofs.lemmas.Bool.Decides.{nat_tests}
use Rattle.std.proofs.lemmas.Grind.{common_steps}
use Rattle.std.proofs.lemmas.Bool.{ltb-true}
use Rattle.std.proofs.lemmas.List.{get_or-replicate, length-replicate, length-set}
use Rattle.std.proofs.Math.Bool.{or_assoc}
use Rattle.std.proofs.lemmas.List.Folds.{list_any-append}
use Rattle.std.specs.List.{list_any, slice_index_or, slice_set}
use Rattle.hidreport_linux.specs.Claims.{StandsFor, claims, code_count, first_place, has, is_claimed, is_code, place, same_code, with_claim, with_claims}
use Rattle.hidreport_linux.specs.declared.event_code.EventCode.{EventCode}
use Rattle.hidreport_linux.specs.declared.input_device.InputDevice.{InputDevice}
use Rattle.hidreport_linux.specs.declared.wanted.Wanted.{Wanted}
use Rattle.hidreport_linux.specs.Types.{type_number}
use Rattle.hidreport_linux.specs.declared.event_code.EventType.{EventType}
use Rattle.hidreport_linux.specs.declared.event_code.EventType.TheVariants.{Key, Relative, Absolute}
use Rattle.hidreport_linux.specs.declared.event_code.EventType.TheVariants.{Other, Led}

-- two codes that are there have one place only where they are the same
pub place_same : (s t : EventType) (m n : ℕ) → m < code_count s → n < code_count t
    → (first_place s + m == first_place t + n) ≡ (type_number s == type_number t && m == n)
place_same Key Key m n h k = grind (arith, nat_tests)
place_same Key Relative m n h k = grind (arith, nat_tests)
place_same Key Absolute m n h k = grind (arith, nat_tests)
place_same Key Other m n h k = grind (arith, nat_tests)
place_same Key Led m n h k = grind (arith, nat_tests)
place_same Relative Key m n h k = grind (arith, nat_tests)
place_same Relative Relative m n h k = grind (arith, nat_tests)
place_same Relative Absolute m n h k = grind (arith, nat_tests)
place_same Relative Other m n h k = grind (arith, nat_tests)
place_same Relative Led m n h k = grind (arith, nat_tests)
place_same Absolute Key m n h k = grind (arith, nat_tests)
place_same Absolute Relative m n h k = grind (arith, nat_tests)
place_same Absolute Absolute m n h k = grind (arith, nat_tests)
place_same Absolute Other m n h k = grind (arith, nat_tests)
place_same Absolute Led m n h k = grind (arith, nat_tests)
place_same Other Key m n h k = grind (arith, nat_tests)
place_same Other Relative m n h k = grind (arith, nat_tests)
place_same Other Absolute m n h k = grind (arith, nat_tests)
place_same Other Other m n h k = grind (arith, nat_tests)
place_same Other Led m n h k = grind (arith, nat_tests)
place_same Led Key m n h k = grind (arith, nat_tests)
place_same Led Relative m n h k = grind (arith, nat_tests)
place_same Led Absolute m n h k = grind (arith, nat_tests)
place_same Led Other m n h k = grind (arith, nat_tests)
place_same Led Led m n h k = grind (arith, nat_tests)

-- a code that is there has one of the 872 places
pub place_within : (t : EventType) (n : ℕ) → n < code_count t → first_place t + n < 872
place_within Key n h = omega arith
place_within Relative n h = omega arith
place_within Absolute n h = omega arith
place_within Other n h = omega arith
place_within Led n h = omega arith

-- a number that is no code of a type is none that is
other_of : (s t : EventType) (m n : ℕ) → m < code_count s → nat_lt n (code_count t) ≡ false
    → (type_number s == type_number t && m == n) ≡ false
other_of Key Key m n h k = grind (arith, nat_tests)
other_of Key Relative m n h k = refl
other_of Key Absolute m n h k = refl
other_of Key Other m n h k = refl
other_of Key Led m n h k = refl
other_of Relative Key m n h k = refl
other_of Relative Relative m n h k = grind (arith, nat_tests)
other_of Relative Absolute m n h k = refl
other_of Relative Other m n h k = refl
other_of Relative Led m n h k = refl
other_of Absolute Key m n h k = refl
other_of Absolute Relative m n h k = refl
other_of Absolute Absolute m n h k = grind (arith, nat_tests)
other_of Absolute Other m n h k = refl
other_of Absolute Led m n h k = refl
other_of Other Key m n h k = refl
other_of Other Relative m n h k = refl
other_of Other Absolute m n h k = refl
other_of Other Other m n h k = grind (arith, nat_tests)
other_of Other Led m n h k = refl
other_of Led Key m n h k = refl
other_of Led Relative m n h k = refl
other_of Led Absolute m n h k = refl
other_of Led Other m n h k = refl
other_of Led Led m n h k = grind (arith, nat_tests)

-- a list of tests that are set one by one
set_at : (xs : List Bool) (i j : ℕ) → i < length xs
    → slice_index_or (slice_set xs i true) j false ≡ (slice_index_or xs j false || j == i)
set_at xs i j h = grind (arith, common_steps, nat_tests)

or_none : (a b : Bool) → b ≡ false → a ≡ (a || b)
or_none a b h = grind (arith, common_steps)

-- behind a claim a device has the code, too
has_by : (x c : EventCode) (d : InputDevice) → length d.claimed ≡ 872 → IsTrue (is_code x)
    → (b : Bool) → is_code c ≡ b → has (with_claim c d) x ≡ (has d x || same_code x c)
has_by x c d r h true e =
    let within : place c < length d.claimed =
    rw r (place_within c.event_type c.number (ltb-true _ _ e)) in
    rw (e, h) (set_at d.claimed (place c) (place x) within
    ∙ ap (λ b. slice_index_or d.claimed (place x) false || b)
    (place_same x.event_type c.event_type x.number c.number (ltb-true _ _ h) (ltb-true _ _ e)))
has_by x c d r h false e =
    rw e (or_none (has d x) (same_code x c)
    (other_of x.event_type c.event_type x.number c.number (ltb-true _ _ h) e))

pub has_one : (x c : EventCode) (d : InputDevice) → length d.claimed ≡ 872 → IsTrue (is_code x)
    → has (with_claim c d) x ≡ (has d x || same_code x c)
has_one x c d r h = has_by x c d r h (is_code c) refl

-- and no place is lost
room_by : (c : EventCode) (d : InputDevice) → length d.claimed ≡ 872
    → (b : Bool) → is_code c ≡ b → length (with_claim c d).claimed ≡ 872
room_by c d r true e = rw e (length-set d.claimed (place c) true ∙ r)
room_by c d r false e = rw e r

pub room_one : (c : EventCode) (d : InputDevice) → length d.claimed ≡ 872
    → length (with_claim c d).claimed ≡ 872
room_one c d r = room_by c d r (is_code c) refl

pub room_all : (cs : List EventCode) (d : InputDevice) → length d.claimed ≡ 872
    → length (with_claims cs d).claimed ≡ 872
room_all [] d r = r
room_all (c ∷ cs) d r = room_all cs (with_claim c d) (room_one c d r)

-- behind several claims it has all their codes
pub has_all : (x : EventCode) (cs : List EventCode) (d : InputDevice) → length d.claimed ≡ 872
    → IsTrue (is_code x) → has (with_claims cs d) x ≡ (has d x || list_any (same_code x) cs)
has_all x [] d r h = or_none (has d x) false refl
has_all x (c ∷ cs) d r h =
    has_all x cs (with_claim c d) (room_one c d r) h
    ∙ (ap (λ b. b || list_any (same_code x) cs) (has_one x c d r h)
    ∙ or_assoc (has d x) (same_code x c) (list_any (same_code x) cs))

-- a device that stands for some usages stands for one more behind its claims
pub stands_more : (d : InputDevice) (before : List Wanted) (wanted : Wanted) → StandsFor d before
    → StandsFor (with_claims (claims wanted) d) (before ++ wanted ∷ [])
stands_more d before wanted s = record {
  room = room_all (claims wanted) d s.room;
  claimed = λ x h. has_all x (claims wanted) d s.room h
      ∙ (ap (λ b. b || list_any (same_code x) (claims wanted)) (s.claimed x h)
      ∙ (ap (λ b. is_claimed before x || b)
      (or_none (list_any (same_code x) (claims wanted)) false refl)
      ∙ sym (list_any-append (λ w. list_any (same_code x) (claims w)) before (wanted ∷ []))));
}

-- a device without claims stands for no usage
pub stands_for_none : (d : InputDevice) → d.claimed ≡ replicate 872 false → StandsFor d []
stands_for_none d e = record {
  room = ap length e ∙ length-replicate 872 false;
  claimed = λ x h. rw (h, e) (get_or-replicate 872 (place x) false false
      (place_within x.event_type x.number (ltb-true _ _ h)));
}
