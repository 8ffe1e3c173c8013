-- The choices of an array, which come and go, and the elements of other fields (hid-core of Linux
-- 6.12; Section 6.2.2.5).
use Rattle.std.specs.Prelude.{ℕ, ℤ, pos, Bool, false, ◌+◌, ◌==◌, ◌&&◌, if◌then◌else◌, List, [], ◌∷◌}
use Rattle.std.specs.Prelude.{Option, Some, None, slice_get, unwrap_or}
use Rattle.std.specs.List.{list_any}
use Rattle.std.specs.Option.{option_map_or}
use Rattle.std.specs.Ordering.{int_eq}
use Rattle.hidreport_events.specs.Fields.{choice_of}
use Rattle.hidreport_events.specs.Senders.{SenderRecord}
use Rattle.hidreport_events.specs.Sending.{behind_value}
use Rattle.hidreport_events.specs.declared.event_field.EventField.{EventField}
use Rattle.hidreport_events.specs.declared.source.Source.{Source}

unfoldable pub is_among : ℤ → List ℤ → Bool
is_among value others = list_any (λ other. int_eq other value) others

unfoldable pub value_at : List ℤ → ℕ → ℤ
value_at values index = unwrap_or (slice_get values index) (pos 0)

-- the source of a choice, if there is one
abbrev pub source_of : Option ℕ → List Source → Option Source
source_of None sources = None
source_of (Some index) sources = slice_get sources index

unfoldable pub chosen : EventField → List Source → ℤ → Option Source
chosen f sources value = source_of (choice_of f value) sources

-- a choice comes (1) or goes (0)
abbrev pub choice_by : Option Source → EventField → ℤ → SenderRecord → SenderRecord
choice_by None f value s = s
choice_by (Some source) f value s = behind_value f source (pos 0) value s

-- a choice that isn't among others
unfoldable pub behind_choice : EventField → List Source → ℤ → List ℤ → ℤ → SenderRecord → SenderRecord
behind_choice f sources choice others value s =
    if is_among choice others then s
    else choice_by (chosen f sources choice) f value s

-- one of the choices before goes, one of now comes
abbrev pub behind_pair : EventField → List Source → List ℤ → ℤ → List ℤ → ℤ → SenderRecord
    → SenderRecord
behind_pair f sources olds old news new s =
    behind_choice f sources new olds (pos 1) (behind_choice f sources old news (pos 0) s)

-- those from an index on
abbrev pub choices_from : ℕ → EventField → List Source → List ℤ → List ℤ → List ℤ → SenderRecord
    → SenderRecord
choices_from index f sources olds news [] s = s
choices_from index f sources olds news (new ∷ rest) s =
    choices_from (index + 1) f sources olds news rest
    (behind_pair f sources olds (value_at olds index) news new s)

-- the choices of an array behind those before it
abbrev pub behind_choices : EventField → List Source → List ℤ → List ℤ → SenderRecord
    → SenderRecord
behind_choices f sources olds news s = choices_from 0 f sources olds news news s

-- which elements of a report come first: Eraser, Invert, Tip Switch, Tip Pressure, In Range
unfoldable pub rank_of : ℕ → ℕ
rank_of usage =
    if usage == 0xd0045 then 0
    else if usage == 0xd003c then 1
    else if usage == 0xd0042 then 2
    else if usage == 0xd0030 then 3
    else if usage == 0xd0032 then 4
    else 5

-- that of an array is its first choice's
unfoldable pub rank_of_first : List Source → ℕ
rank_of_first sources = option_map_or (λ source. rank_of source.usage) (slice_get sources 0) 5

-- an element whose usage has the rank
abbrev pub element_by : Option Source → ℕ → EventField → ℤ → ℤ → SenderRecord → SenderRecord
element_by None rank f before value s = s
element_by (Some source) rank f before value s =
    if rank_of source.usage == rank then behind_value f source before value s else s

unfoldable pub behind_element : ℕ → EventField → List Source → ℕ → ℤ → ℤ → SenderRecord
    → SenderRecord
behind_element rank f sources index before value s =
    element_by (slice_get sources index) rank f before value s

-- those from an index on
abbrev pub elements_from : ℕ → ℕ → EventField → List Source → List ℤ → List ℤ → SenderRecord
    → SenderRecord
elements_from index rank f sources olds [] s = s
elements_from index rank f sources olds (new ∷ news) s =
    elements_from (index + 1) rank f sources olds news
    (behind_element rank f sources index (value_at olds index) new s)

-- the elements of a field behind those before them
abbrev pub behind_elements : ℕ → EventField → List Source → List ℤ → List ℤ → SenderRecord
    → SenderRecord
behind_elements rank f sources olds news s = elements_from 0 rank f sources olds news s

-- Keyboard ErrorRollOver
abbrev pub is_error : Option Source → Bool
is_error None = false
is_error (Some source) = source.usage == 0x70001

unfoldable pub is_roll_over : EventField → List Source → ℤ → Bool
is_roll_over f sources value = is_error (chosen f sources value)

-- too many keys are down, so that the array says nothing else
unfoldable pub rolls_over : EventField → List Source → List ℤ → Bool
rolls_over f sources values = list_any (is_roll_over f sources) values
