-- What the axes of a device say behind a usage.
use Rattle.std.proofs.Common.{◌≡◌, ℕ, ◌<◌, ◌==◌, ◌&&◌, if◌then◌else◌, Bool, true, false, List, [], ◌∷◌, length, refl, ap, ◌∙◌, arith, Option, Some, None, Result, Ok, Err}
use Rattle.std.proofs.Common.{replicate}
use Rattle.std.proofs.lemmas.Bool.{ltb-true}
use Rattle.std.proofs.lemmas.List.{get_or-replicate}
use Rattle.std.proofs.lemmas.Bool.Decides.{nat_tests}
use Rattle.std.proofs.lemmas.Grind.{common_steps}
use Rattle.std.specs.List.{slice_index_or, slice_set}
use Rattle.hidreport_linux.specs.Axes.{after_give, axis_of, is_axis, same_axis, sets_axis, with_axis}
use Rattle.std.proofs.Common.{◌≢◌, ◌++◌, drop, not, slice_get, sym, take}
use Rattle.std.proofs.lemmas.Bool.{eqb-true}
use Rattle.hidreport_linux.proofs.GivenLemmas.{set_elsewhere, set_there}
use Rattle.hidreport_linux.specs.Devices.{answered_by, axis_at, axis_behind, axis_given, axis_in, event_of, sets}
use Rattle.hidreport_linux.specs.AxisNumbers.{axis_by}
use Rattle.hidreport_linux.specs.DevicesRecord.{DevicesRecord}
use Rattle.hidreport_linux.specs.declared.event.Event.{Event}
use Rattle.hidreport_linux.specs.declared.item.Item.{Item}
use Rattle.hidreport_linux.specs.declared.unmapped.Unmapped.TheVariants.{PastCodes, Taken}
use Rattle.hidreport_linux.specs.Claims.{claims, given_if, has, is_code, with_claim, with_claims}
use Rattle.hidreport_linux.specs.declared.axis.Axis.{Axis}
use Rattle.hidreport_linux.specs.declared.event_code.EventCode.{EventCode}
use Rattle.hidreport_linux.specs.declared.input_device.InputDevice.{InputDevice}
use Rattle.hidreport_linux.specs.declared.unmapped.Unmapped.{Unmapped}
use Rattle.hidreport_linux.specs.declared.wanted.Wanted.{Wanted}

right_of : (a b : Bool) → (a && b) ≡ true → b ≡ true
right_of true b h = h
right_of false b h = cc

-- a list of axes of which one is set
set_one : (xs : List (Option Axis)) (i j : ℕ) (axis : Axis) → i < length xs
    → slice_index_or (slice_set xs i (Some axis)) j None
    ≡ (if i == j then Some axis else slice_index_or xs j None)
set_one xs i j axis h = grind (arith, common_steps, nat_tests)

axis_set : (c x : EventCode) (axis : Axis) (d : InputDevice) → length d.axes ≡ 64
    → (a b : Bool) → is_axis c ≡ a → is_axis x ≡ b
    → axis_of x (with_axis c axis d) ≡ (if same_axis c x then Some axis else axis_of x d)
axis_set c x axis d r true true e f =
    let within : c.number < length d.axes = rw r (ltb-true _ _ (right_of _ _ e)) in
    rw (e, f) (set_one d.axes c.number x.number axis within)
axis_set c x axis d r true false e f = rw (e, f) refl
axis_set c x axis d r false b e f = rw e refl

-- claims change no axis
axes_by : (c : EventCode) (d : InputDevice) (b : Bool) → is_code c ≡ b
    → (with_claim c d).axes ≡ d.axes
axes_by c d true e = rw e refl
axes_by c d false e = rw e refl

axes_kept : (cs : List EventCode) (d : InputDevice) → (with_claims cs d).axes ≡ d.axes
axes_kept [] d = refl
axes_kept (c ∷ cs) d = axes_kept cs (with_claim c d) ∙ axes_by c d (is_code c) refl

axis_kept : (x : EventCode) (cs : List EventCode) (d : InputDevice)
    → axis_of x (with_claims cs d) ≡ axis_of x d
axis_kept x cs d =
    ap (λ axes. if is_axis x then slice_index_or axes x.number None else None) (axes_kept cs d)

-- behind a usage that gets its code the axis says what it was given, and all else stays
pub axis_after : (result : Result Wanted Unmapped) (wanted : Wanted) (axis : Axis) (d : InputDevice)
    → length d.axes ≡ 64 → (x : EventCode) → axis_of x (after_give result wanted axis d)
    ≡ (if sets_axis result wanted.code x then Some axis else axis_of x d)
axis_after (Ok given) wanted axis d r x =
    axis_set wanted.code x axis (with_claims (claims wanted) d)
    (ap length (axes_kept (claims wanted) d) ∙ r) (is_axis wanted.code) (is_axis x) refl refl
    ∙ ap (λ before. if same_axis wanted.code x then Some axis else before)
    (axis_kept x (claims wanted) d)
axis_after (Err reason) wanted axis d r x = axis_kept x (claims wanted) d

-- what a usage gets is what it asked for
given_by : (there claimed : Bool) (given wanted : Wanted)
    → Ok given ≡ (if not there then Err PastCodes else if claimed then Err Taken else Ok wanted)
    → given ≡ wanted
given_by true true given wanted h = cc
given_by true false given wanted h = cc
given_by false claimed given wanted h = cc

eqb-refl : (i : ℕ) → (i == i) ≡ true
eqb-refl i = grind (arith, nat_tests)

-- an event of a device sets the axis that its usage asked for
sets_of : (i : ℕ) (claimed : Bool) (wanted : Wanted) (result : Result Wanted Unmapped)
    (x : EventCode) → result ≡ given_if claimed wanted
    → sets (event_of i result) x i ≡ sets_axis result wanted.code x
sets_of i claimed wanted (Ok given) x e =
    let same : given ≡ wanted =
    given_by (is_code wanted.code) (claimed && not wanted.is_shared) given wanted e in
    rw (eqb-refl i, same) refl
sets_of i claimed wanted (Err reason) x e = refl

sets_elsewhere : (i k : ℕ) (result : Result Wanted Unmapped) (x : EventCode) → (i == k) ≡ false
    → sets (event_of i result) x k ≡ false
sets_elsewhere i k (Ok given) x e = rw e refl
sets_elsewhere i k (Err reason) x e = refl

false_at : (i k : ℕ) → k ≡ i → (i == k) ≡ false → ⊥
false_at i k p q = grind (arith, nat_tests)

-- the axes of all devices behind a usage of the one at an index
at_index : (devices : List InputDevice) (i : ℕ) (old new : InputDevice) (wanted : Wanted)
    (result : Result Wanted Unmapped) (axis : Axis) (claimed : Bool) → i < length devices
    → slice_get devices i ≡ Some old → result ≡ given_if claimed wanted
    → ((x : EventCode) → axis_of x new
    ≡ (if sets_axis result wanted.code x then Some axis else axis_of x old))
    → (x : EventCode) (k : ℕ) (b : Bool) → (i == k) ≡ b → axis_at x k (slice_set devices i new)
    ≡ (if sets (event_of i result) x k then Some axis else axis_at x k devices)
at_index devices i old new wanted result axis claimed h e g f x k true q =
    let same : k ≡ i = sym (eqb-true i k q) in
    rw (same, set_there devices i new h, e, sets_of i claimed wanted result x g) (f x)
at_index devices i old new wanted result axis claimed h e g f x k false q =
    let apart : k ≢ i = λ p. false_at i k p q in
    rw (set_elsewhere devices i k new apart, sets_elsewhere i k result x q) refl

pub axes_at : (devices : List InputDevice) (i : ℕ) (old new : InputDevice) (wanted : Wanted)
    (result : Result Wanted Unmapped) (axis : Axis) (claimed : Bool) → i < length devices
    → slice_get devices i ≡ Some old → result ≡ given_if claimed wanted
    → ((x : EventCode) → axis_of x new
    ≡ (if sets_axis result wanted.code x then Some axis else axis_of x old))
    → (x : EventCode) (k : ℕ) → axis_at x k (slice_set devices i new)
    ≡ (if sets (event_of i result) x k then Some axis else axis_at x k devices)
axes_at devices i old new wanted result axis claimed h e g f x k =
    at_index devices i old new wanted result axis claimed h e g f x k (i == k) refl

-- an event is that of what its usage asked for
abbrev pub asked_event : ℕ → Wanted → Event
asked_event i wanted = record { code = wanted.code; role = wanted.role; device = i }

event_by : (there claimed : Bool) (i : ℕ) (event : Event) (wanted : Wanted)
    → Ok event ≡ event_of i
    (if not there then Err PastCodes else if claimed then Err Taken else Ok wanted)
    → event ≡ asked_event i wanted
event_by true true i event wanted h = cc
event_by true false i event wanted h = cc
event_by false claimed i event wanted h = cc

event_is : (device : Option InputDevice) (i : ℕ) (event : Event) (wanted : Wanted)
    → Ok event ≡ answered_by device i wanted → event ≡ asked_event i wanted
event_is None i event wanted h = cc
event_is (Some device) i event wanted h =
    event_by (is_code wanted.code) (has device wanted.code && not wanted.is_shared) i event wanted h

-- so the axis that is set is the one that the event is given
pub set_behind : (result : Result Event Unmapped) (item : Item) (wanted : Wanted) (axis : Axis)
    (device : Option InputDevice) (i : ℕ) (old : DevicesRecord) (new : List InputDevice)
    → result ≡ answered_by device i wanted
    → axis ≡ axis_by wanted.code wanted.role item.place item.measures
    → ((code : EventCode) (place : ℕ) → axis_at code place new
    ≡ (if sets result code place then Some axis else axis_at code place old.devices))
    → (other : Event) → axis_at other.code other.device new ≡ axis_behind item result old other
set_behind (Ok event) item wanted axis device i old new e f each other =
    let same : event ≡ asked_event i wanted = event_is device i event wanted e in
    let is_its : axis ≡ axis_given item event =
    f ∙ ap (λ (one : Event). axis_given item one) (sym same) in
    each other.code other.device
    ∙ ap (λ a. if sets (Ok event) other.code other.device then Some a else axis_in old other) is_its
set_behind (Err reason) item wanted axis device i old new e f each other =
    each other.code other.device

-- the same where the devices before go by another name
pub set_behind_items : (result : Result Event Unmapped) (item : Item) (wanted : Wanted)
    (axis : Axis) (device : Option InputDevice) (i : ℕ) (old : DevicesRecord)
    (new items : List InputDevice)
    → items ≡ old.devices → result ≡ answered_by device i wanted
    → axis ≡ axis_by wanted.code wanted.role item.place item.measures
    → ((code : EventCode) (place : ℕ) → axis_at code place new
    ≡ (if sets result code place then Some axis else axis_at code place items))
    → (other : Event) → axis_at other.code other.device new ≡ axis_behind item result old other
set_behind_items result item wanted axis device i old new items same e f each =
    set_behind result item wanted axis device i old new e f
    (λ code place. rw (← same) (each code place))

-- a list that is written over another of its length
pub refilled : (n : ℕ) (ws xs : List InputDevice) → length ws ≡ n
    → take n (ws ++ drop (length ws) xs) ≡ ws
refilled n ws xs h = grind (arith, common_steps)

-- a device whose axes say nothing
none_by : (d : InputDevice) → d.axes ≡ replicate 64 None → (x : EventCode) (b : Bool)
    → is_axis x ≡ b → axis_of x d ≡ None
none_by d e x true f =
    rw (f, e) (get_or-replicate 64 x.number None None (ltb-true _ _ (right_of _ _ f)))
none_by d e x false f = rw f refl

pub no_axis : (d : InputDevice) → d.axes ≡ replicate 64 None → (x : EventCode) → axis_of x d ≡ None
no_axis d e x = none_by d e x (is_axis x) refl
