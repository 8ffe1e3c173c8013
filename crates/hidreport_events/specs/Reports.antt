-- A report: what its fields read, what they send, and what is held behind it (hid-core of Linux
-- 6.12; Sections 5.6 and 5.8).
use Rattle.std.specs.Prelude.{ℕ, zero, suc, ℤ, pos, Bool, ◌+◌, ◌*◌, ◌==◌, ◌&&◌, ◌||◌, not, min, int_lt}
use Rattle.std.specs.Prelude.{if◌then◌else◌, List, [], ◌∷◌, ◌++◌, take, drop, Result, Ok, Err}
use Rattle.std.specs.Int.{w32, cast_signed}
use Rattle.hidreport_fields.specs.Reading.{ValueRecord, read_bits}
use Rattle.hidreport_lists.specs.Answer.{Refusal}
use Rattle.hidreport_events.specs.Choices.{behind_choices, behind_elements, rank_of_first, rolls_over}
use Rattle.hidreport_events.specs.Senders.{SenderRecord, holding, synced}
use Rattle.hidreport_events.specs.declared.event_field.EventField.{EventField}
use Rattle.hidreport_events.specs.declared.sender.Tool.{Tool}
use Rattle.hidreport_events.specs.declared.source.Source.{Source}

-- so many of a list, from one on
abbrev pub part : {A : Type 0} → ℕ → ℕ → List A → List A
part first count xs = take count (drop first xs)

abbrev pub own_sources : EventField → List Source → List Source
own_sources f sources = part f.first_source f.sources sources

abbrev pub own_values : EventField → List ℤ → List ℤ
own_values f values = part f.first_value f.count values

-- what an array says, whose rank is that of its first choice
abbrev pub behind_array : ℕ → EventField → List Source → List ℤ → List ℤ → SenderRecord
    → SenderRecord
behind_array rank f sources olds news s =
    if not (rank_of_first sources == rank) || rolls_over f sources news then s
    else behind_choices f sources olds news s

-- what of a field has a rank
unfoldable pub behind_field : ℕ → EventField → List Source → List ℤ → List ℤ → SenderRecord
    → SenderRecord
behind_field rank f sources olds news s =
    if f.is_variable then
    behind_elements rank f (own_sources f sources) (own_values f olds) (own_values f news) s
    else behind_array rank f (own_sources f sources) (own_values f olds) (own_values f news) s

abbrev pub behind_fields : ℕ → List EventField → List Source → List ℤ → List ℤ → SenderRecord
    → SenderRecord
behind_fields rank [] sources olds news s = s
behind_fields rank (f ∷ fs) sources olds news s =
    behind_fields rank fs sources olds news (behind_field rank f sources olds news s)

-- the fields of each rank, one after the other; all events of a report belong together
unfoldable pub behind_report : List EventField → List Source → List ℤ → List ℤ → SenderRecord
    → SenderRecord
behind_report fs sources olds news s =
    synced (behind_fields 5 fs sources olds news (behind_fields 4 fs sources olds news
    (behind_fields 3 fs sources olds news (behind_fields 2 fs sources olds news
    (behind_fields 1 fs sources olds news (behind_fields 0 fs sources olds news s))))))

-- with the tool that the report before it said to be near
abbrev pub behind_all : Tool → List EventField → List Source → List ℤ → List ℤ → SenderRecord
    → SenderRecord
behind_all tool fs sources olds news s = behind_report fs sources olds news (holding tool s)

abbrev pub number_of : Result ValueRecord Refusal → ℤ
number_of (Ok value) = cast_signed w32 value.word
number_of (Err fault) = pos 0

-- where an element begins
abbrev pub first_of : EventField → ℕ → ℕ
first_of f index = f.first_bit + index * f.size

-- the value of an element: of more than 32 bits the low ones, of none 0
unfoldable pub value_of : EventField → ℕ → List ℕ → ℤ
value_of f index bytes =
    number_of (read_bits (first_of f index) (first_of f index + min f.size 32)
    (int_lt f.minimum (pos 0)) bytes)

-- the values of so many elements from an index on
abbrev pub values_from : EventField → List ℕ → ℕ → ℕ → List ℤ
values_from f bytes index zero = []
values_from f bytes index (suc more) =
    value_of f index bytes ∷ values_from f bytes (index + 1) more

abbrev pub field_values : EventField → List ℕ → List ℤ
field_values f bytes = values_from f bytes 0 f.count

abbrev pub values_in : List EventField → List ℕ → List ℤ
values_in [] bytes = []
values_in (f ∷ fs) bytes = field_values f bytes ++ values_in fs bytes

-- the values of a field that are held behind a report: of an array with too many keys those before
unfoldable pub held : EventField → List Source → List ℤ → List ℤ → List ℤ
held f sources olds news =
    if not f.is_variable && rolls_over f (own_sources f sources) (own_values f news)
    then own_values f olds
    else own_values f news

abbrev pub values_behind : List EventField → List Source → List ℤ → List ℤ → List ℤ
values_behind [] sources olds news = []
values_behind (f ∷ fs) sources olds news =
    held f sources olds news ++ values_behind fs sources olds news
