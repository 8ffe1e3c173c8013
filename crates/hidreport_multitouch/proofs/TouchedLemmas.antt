-- The codes of input devices.
use Rattle.std.proofs.Common.{◌≡◌, ◌<◌, ◌+◌, ◌-◌, ◌∷◌, ◌++◌, [], suc, ℕ, List, length, ap, sym, ◌∙◌}
use Rattle.std.proofs.Common.{arith, refl, replicate, Option, Result, Ok, Err}
use Rattle.std.proofs.lemmas.List.{append_assoc, length-append}
use Rattle.std.specs.Option.{option_or}
use Rattle.hidreport_linux.specs.declared.axis.Axis.{Axis}
use Rattle.hidreport_multitouch.specs.Fields.{no_codes, touched_up_to}
use Rattle.hidreport_multitouch.specs.Passing.{claimed, claimed_behind}
use Rattle.hidreport_multitouch.specs.Settled.{axis_by, own_axis_by, pointer_axis}
use Rattle.hidreport_multitouch.specs.declared.driven_devices.DrivenDevices.{DrivenDevices}
use Rattle.hidreport_multitouch.specs.declared.driven_event.DrivenEvent.{DrivenEvent}
use Rattle.hidreport_multitouch.specs.declared.driven_event.Giver.{Giver}
use Rattle.hidreport_multitouch.specs.declared.driven_event.Giver.TheVariants as by
use Rattle.hidreport_multitouch.specs.declared.driven_item.TouchItem.{TouchItem}
use Rattle.hidreport_multitouch.specs.declared.silent.Silent.{Silent}
use Rattle.hidreport_multitouch.specs.declared.touched.Touched.{Touched}

-- one more input device without codes, of those up to a current one
pub one-more : (xs : List Touched) (current : ℕ) → length xs < current
    → touched_up_to current (xs ++ no_codes ∷ []) ≡ touched_up_to current xs
one-more xs current more =
    let count : suc (current + 1 - length (xs ++ no_codes ∷ [])) ≡ current + 1 - length xs
    = ap (λ n. suc (current + 1 - n)) (length-append xs (no_codes ∷ [])) ∙ omega arith in
    append_assoc xs (no_codes ∷ []) _ ∙ ap (λ n. xs ++ replicate n no_codes) count

-- the current one is the last
pub last-one : (xs : List Touched) (current : ℕ) → length xs ≡ current
    → xs ++ no_codes ∷ [] ≡ touched_up_to current xs
last-one xs current all =
    let one : 1 ≡ current + 1 - length xs = omega arith in
    ap (λ n. xs ++ replicate n no_codes) one

-- what hid-input's devices say of an event's axis doesn't depend on the devices' names
own-axis-as-before : (giver : Giver) (old named gone : DrivenDevices) (event : DrivenEvent)
    → own_axis_by giver (record old { names = named.names; inputs = gone.inputs }) event
    ≡ own_axis_by giver (record old { inputs = gone.inputs }) event
own-axis-as-before (by.HidInput role) old named gone event = refl
own-axis-as-before (by.Multitouch is_dial) old named gone event = refl
own-axis-as-before by.Nobody old named gone event = refl

axis-as-before : (giver : Giver) (old named gone : DrivenDevices) (event : DrivenEvent)
    → axis_by giver (record old { names = named.names; inputs = gone.inputs }) event
    ≡ axis_by giver (record old { inputs = gone.inputs }) event
axis-as-before (by.HidInput role) old named gone event =
    ap (option_or (pointer_axis old event)) (own-axis-as-before event.giver old named gone event)
axis-as-before (by.Multitouch is_dial) old named gone event =
    own-axis-as-before event.giver old named gone event
axis-as-before by.Nobody old named gone event =
    own-axis-as-before event.giver old named gone event

claimed-as-before : (giver : Giver) (old named gone : DrivenDevices) (axis : Option Axis)
    (event : DrivenEvent)
    → claimed giver (record old { names = named.names; inputs = gone.inputs }) axis event
    ≡ claimed giver old axis event
claimed-as-before (by.HidInput role) old named gone axis event = refl
claimed-as-before (by.Multitouch is_dial) old named gone axis event = refl
claimed-as-before by.Nobody old named gone axis event = refl

abbrev with-inputs : DrivenDevices → DrivenDevices → DrivenDevices
with-inputs d gone = record d { inputs = gone.inputs }

-- what an event's has is registered as before the devices were named anew
pub claims-as-before : (old named gone end : DrivenDevices) (t : TouchItem)
    (result : Result DrivenEvent Silent)
    → named ≡ record old { names = named.names } → gone ≡ record named { inputs = gone.inputs }
    → end.inputs ≡ gone.inputs
    → claimed_behind gone gone t result ≡ claimed_behind old end t result
unfolding Rattle.hidreport_multitouch.specs.Settled.axis_for
claims-as-before old named gone end t (Err reason) of_old of_named inputs =
    ap (λ d. d.touched.items) of_named ∙ ap (λ d. d.touched.items) of_old
claims-as-before old named gone end t (Ok event) of_old of_named inputs =
    let same : gone ≡ record old { names = named.names; inputs = gone.inputs }
    = of_named ∙ ap (λ (d : DrivenDevices). with-inputs d gone) of_old in
    ap (λ d. claimed event.giver d (axis_by event.giver (record d { inputs = gone.inputs }) event)
    event) same
    ∙ claimed-as-before event.giver old named gone _ event
    ∙ ap (λ axis. claimed event.giver old axis event)
    (axis-as-before event.giver old named gone event)
    ∙ ap (λ i. claimed event.giver old (axis_by event.giver (record old { inputs = i }) event)
    event)
    (sym inputs)
