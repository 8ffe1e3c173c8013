-- What a usage gets of a device, and what the device stands for behind it.
use Rattle.std.proofs.Common.{◌≡◌, Bool, true, false, List, [], ◌∷◌, ◌++◌, zero, suc, refl, ap, ◌∙◌, Result, Ok, Err, ℕ, ◌<◌, ◌≢◌, length, arith, slice_get, Some}
use Rattle.std.specs.List.{slice_set}
use Rattle.hidreport_linux.specs.Devices.{AnswersAt, StandsAt, event_of}
use Rattle.hidreport_linux.specs.Axes.{after_give, is_axis, with_axis}
use Rattle.hidreport_linux.specs.Claims.{GetsBehind, StandsFor, claims, given, given_if, has, is_code, with_claims}
use Rattle.hidreport_linux.proofs.ClaimLemmas.{stands_more}
use Rattle.hidreport_linux.specs.declared.axis.Axis.{Axis}
use Rattle.hidreport_linux.specs.declared.event_code.EventCode.{EventCode}
use Rattle.hidreport_linux.specs.declared.input_device.InputDevice.{InputDevice}
use Rattle.hidreport_linux.specs.declared.unmapped.Unmapped.{Unmapped}
use Rattle.hidreport_linux.specs.declared.wanted.Wanted.{Wanted}

-- by what the device has is by the claims of the usages that it stands for
gets_by : (d : InputDevice) (before : List Wanted) (wanted : Wanted) → StandsFor d before
    → (b : Bool) → is_code wanted.code ≡ b
    → given_if (has d wanted.code) wanted ≡ given before wanted
gets_by d before wanted s true e = ap (λ v. given_if v wanted) (s.claimed wanted.code e)
gets_by d before wanted s false e = rw e refl

-- what an axis says changes no claim
axis_by : (c : EventCode) (axis : Axis) (d : InputDevice) (before : List Wanted)
    → StandsFor d before
    → (b : Bool) → is_axis c ≡ b → StandsFor (with_axis c axis d) before
axis_by c axis d before s true e = rw e (record { room = s.room; claimed = s.claimed })
axis_by c axis d before s false e = rw e s

-- whatever the usage got
stands_behind : (result : Result Wanted Unmapped) (wanted : Wanted) (axis : Axis) (d : InputDevice)
    (before : List Wanted) → StandsFor d before
    → StandsFor (after_give result wanted axis d) (before ++ wanted ∷ [])
stands_behind (Ok given) wanted axis d before s =
    axis_by wanted.code axis (with_claims (claims wanted) d) (before ++ wanted ∷ [])
    (stands_more d before wanted s) (is_axis wanted.code) refl
stands_behind (Err reason) wanted axis d before s = stands_more d before wanted s

pub gets_behind : (result : Result Wanted Unmapped) (wanted : Wanted) (axis : Axis)
    (old new : InputDevice) → result ≡ given_if (has old wanted.code) wanted
    → new ≡ after_give result wanted axis old → (before : List Wanted) → StandsFor old before
    → GetsBehind before wanted result new
gets_behind result wanted axis old new e f before s = record {
  gets = e ∙ gets_by old before wanted s (is_code wanted.code) refl;
  stands = rw f (stands_behind result wanted axis old before s);
}

-- what stands at an index that is written, and at the others
pub set_there : {X : Type 0} (xs : List X) (i : ℕ) (y : X) → i < length xs
    → slice_get (slice_set xs i y) i ≡ Some y
set_there [] i y h = absurd (omega arith)
set_there (x ∷ xs) zero y h = refl
set_there (x ∷ xs) (suc i) y h = set_there xs i y (omega arith)

pub set_elsewhere : {X : Type 0} (xs : List X) (i k : ℕ) (y : X) → k ≢ i
    → slice_get (slice_set xs i y) k ≡ slice_get xs k
set_elsewhere [] i k y h = refl
set_elsewhere (x ∷ xs) zero zero y h = absurd (h refl)
set_elsewhere (x ∷ xs) zero (suc k) y h = refl
set_elsewhere (x ∷ xs) (suc i) zero y h = refl
set_elsewhere (x ∷ xs) (suc i) (suc k) y h = set_elsewhere xs i k y (λ e. h (ap suc e))

-- a usage of the device at an index is answered behind the usages that the device stands for
pub behind_at : (devices : List InputDevice) (i : ℕ) (old new : InputDevice) (wanted : Wanted)
    (result : Result Wanted Unmapped) → i < length devices → slice_get devices i ≡ Some old
    → ((before : List Wanted) → StandsFor old before → GetsBehind before wanted result new)
    → (before : List Wanted) → StandsAt devices i before
    → AnswersAt devices i before wanted (event_of i result)
    × StandsAt (slice_set devices i new) i (before ++ wanted ∷ [])
behind_at devices i old new wanted result h e f before s =
    let here : StandsFor old before = rw e at s in
    let g : GetsBehind before wanted result new = f before here in
    (rw e (ap (event_of i) g.gets), rw (set_there devices i new h) g.stands)
