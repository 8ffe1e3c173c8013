-- The answers of hid-input's devices.
use Rattle.std.proofs.Common.{◌≡◌, ◌<◌, ℕ, List, Option, Result, length, ap, sym, ◌∙◌, refl, subst, slice_get}
use Rattle.std.proofs.Common.{slice_set}
use Rattle.std.proofs.Common.{arith, ◌/◌, ◌*◌, ◌+◌, ◌%◌}
use Rattle.std.proofs.lemmas.Option.{slice_get_read}
use Rattle.std.proofs.Math.ListN.{get_or}
use Rattle.hidreport_fields.specs.UsageNumber.{numbered_usage, usage_number}
use Rattle.hidreport_linux.specs.Asking.{asked}
use Rattle.hidreport_linux.specs.Devices.{answered}
use Rattle.hidreport_linux.proofs.GivenLemmas.{set_elsewhere, set_there}
use Rattle.hidreport_linux.specs.FieldDevices.{GoesOn}
use Rattle.hidreport_linux.specs.DevicesRecord.{DevicesRecord}
use Rattle.hidreport_linux.specs.declared.event.Event.{Event}
use Rattle.hidreport_linux.specs.declared.item.Item.{Item}
use Rattle.hidreport_linux.specs.declared.unmapped.Unmapped.{Unmapped}
use Rattle.hidreport_multitouch.specs.Driven.{answered_in, hid_input_answer}
use Rattle.hidreport_multitouch.specs.Passing.{GoesOnAt}
use Rattle.hidreport_multitouch.specs.declared.driven_devices.DrivenDevices.{DrivenDevices}

-- a usage has the number by which it is made
pub number-again : (n : ℕ) → usage_number (numbered_usage n) ≡ n
number-again n = let e : n / 65536 * 65536 + n % 65536 ≡ n = omega arith in e

-- the devices at a place answer
pub answered-at : (all : List DevicesRecord) (i : ℕ) (inputs : DevicesRecord) (item : Item)
    (usage number : ℕ) (result : Result Event Unmapped) → i < length all
    → inputs ≡ get_or all i inputs → number ≡ usage
    → result ≡ answered inputs (asked item inputs.unmapped number)
    → result ≡ answered_in (slice_get all i) item usage
answered-at all i inputs item usage number result there is same answer =
    answer ∙ ap (λ n. answered inputs (asked item inputs.unmapped n)) same
    ∙ ap (λ (d : Option DevicesRecord). answered_in d item usage)
    (sym (slice_get_read all (length all) i inputs refl there is))

-- who names a device anew answers as before
pub answers-as-before : (old named : DrivenDevices) (item : Item) (usage : ℕ)
    → named ≡ record old { names = named.names }
    → hid_input_answer named item usage ≡ hid_input_answer old item usage
answers-as-before old named item usage e = ap (λ (d : DrivenDevices). hid_input_answer d item usage) e

-- the devices at a place go over a usage, and no others
pub goes-on-at : (all : List DevicesRecord) (i : ℕ) (inputs new : DevicesRecord) (item : Item)
    (usage number : ℕ) (result : Result Event Unmapped) → i < length all
    → inputs ≡ get_or all i inputs → number ≡ usage → GoesOn item number result inputs new
    → GoesOnAt item usage i all (slice_set all i new)
goes-on-at all i inputs new item usage number result there is same gone = record {
  gone = rw (slice_get_read all (length all) i inputs refl there is) (rw (set_there all i new there)
      (result, subst (λ n. GoesOn item n result inputs new) same gone));
  others = λ k other. set_elsewhere all i k new other;
}
