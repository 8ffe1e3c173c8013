-- A program that sets a lamp of an input device (input_inject_event of Linux 6.12).
use Rattle.std.specs.Prelude.{ℕ, ℤ, Bool, true, false, not, ◌&&◌, nat_lt, if◌then◌else◌}
use Rattle.std.specs.Prelude.{List, [], length, Result, Ok, Err}
use Rattle.std.specs.List.{slice_index_or, slice_set}
use Rattle.hidreport_events.specs.Lamps.{behind_events}
use Rattle.hidreport_events.specs.Readers.{Outcome, ReaderRecord}
use Rattle.hidreport_events.specs.Senders.{SenderRecord, has_lamp, new_sender, sends, synced}
use Rattle.hidreport_events.specs.Senders.{without_sent}
use Rattle.hidreport_events.specs.declared.errors.EventsError.{EventsError}
use Rattle.hidreport_events.specs.declared.errors.EventsError.TheVariants as why
use Rattle.hidreport_events.specs.declared.input_event.InputEvent.{InputEvent}
use Rattle.hidreport_linux.specs.Events.{code}
use Rattle.hidreport_linux.specs.declared.event_code.EventType.TheVariants.{Led}

abbrev pub sender_at : ℕ → ReaderRecord → SenderRecord
sender_at device r = slice_index_or r.senders device new_sender

-- there is such an input device, with such a lamp
unfoldable pub has_lamp_at : ℕ → ℕ → ReaderRecord → Bool
has_lamp_at device number r =
    nat_lt device (length r.senders) && has_lamp number (sender_at device r)

-- an input device behind EV_LED with a lamp's number and a value, and SYN_REPORT
unfoldable pub behind_setting : ℕ → ℤ → SenderRecord → SenderRecord
behind_setting number value s = synced (sends (code Led number) value s)

-- the input device at an index took that
unfoldable pub with_setting : ℕ → ℕ → ℤ → ReaderRecord → ReaderRecord
with_setting device number value r =
    if nat_lt device (length r.senders) then record r {
      senders = slice_set r.senders device (behind_setting number value (sender_at device r));
      is_lost = true;
    } else record r { is_lost = true }

-- what the input device at an index has handed on
abbrev pub handed_on : ℕ → ReaderRecord → List InputEvent
handed_on device r =
    if nat_lt device (length r.senders) then (sender_at device r).sent else []

-- that is forgotten, and the lamps are as it says
unfoldable pub behind_handing : ℕ → ReaderRecord → ReaderRecord
behind_handing device r =
    if nat_lt device (length r.senders) then record r {
      senders = slice_set r.senders device (without_sent (sender_at device r));
      lamps = behind_events (sender_at device r).sent r.lamps;
      is_lost = false;
    } else record r { is_lost = false }

abbrev pub outcome_by : ℕ → ReaderRecord → Outcome
outcome_by device r = record {
  device = device;
  events = handed_on device r;
  next = behind_handing device r;
}

-- what a reader answers where a program sets a lamp
unfoldable pub sets : ℕ → ℕ → ℤ → ReaderRecord → Result Outcome EventsError
sets device number value r =
    if r.is_lost then Err why.Lost
    else if not (has_lamp_at device number r) then Err why.NoLamp
    else Ok (outcome_by device (with_setting device number value r))
