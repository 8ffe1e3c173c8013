-- What a descriptor announces, in short, for the rows.
use Rattle.std.specs.Prelude.{◌≡◌, ℕ, ◌+◌, ◌*◌, ℤ, Bool, pos, true, false, List, [], ◌∷◌, ◌++◌, length}
use Rattle.std.specs.Prelude.{map, flat_map, Option, None, Some, option_map, Result, Ok, Err, codes}
use Rattle.hidreport.specs.Answer.{InvalidData, Refusal}
use Rattle.hidreport.specs.CollectionItem.{CollectionItem}
use Rattle.hidreport.specs.Faults.{Counts}
use Rattle.hidreport.specs.Flags.{Flags}
use Rattle.hidreport.specs.GlobalItem.TheVariants as global
use Rattle.hidreport.specs.ItemState.{ItemState}
use Rattle.hidreport.specs.ItemType.TheVariants as item
use Rattle.hidreport.specs.Lookup.{find_report}
use Rattle.hidreport.specs.Meaning.{parse, parse_globals_only}
use Rattle.hidreport.specs.Options.{default_options, globals_only_options, parse_as, reading_of}
use Rattle.hidreport.specs.declared.parse_options.ParseOptions.{ParseOptions}
use Rattle.hidreport.specs.declared.parser.usages_by.UsagesBy.TheVariants as usages_by
use Rattle.hidreport.specs.Reading.{ValueRecord, reads}
use Rattle.hidreport.specs.Records.{Attributes, CollectionRecord, FieldPlace, FieldRecord}
use Rattle.hidreport.specs.Records.{VariableRecord, ArrayRecord, ConstantRecord, ReportRecord}
use Rattle.hidreport.specs.Records.{DescriptorRecord}
use Rattle.hidreport.specs.Runs.{RunRecord}
use Rattle.hidreport.specs.UsageNumber.{usage_number}
use Rattle.hidreport.specs.UsageRange.{RangeRecord}
use Rattle.hidreport.specs.Choosing.{usage_chosen}
use Rattle.hidreport.specs.Usages.{make_usage, range_from}
use Rattle.hidreport_fields.specs.declared.field.usage.Usage.{Usage}
use Rattle.hidreport_definitions.specs.Hex.{hex}

-- a field: its first bit, the bit behind its last, and its usages, each as one number
pub data FieldSummary : Type 0 where
  Variable : ℕ → ℕ → ℕ → FieldSummary
  Array : ℕ → ℕ → List ℕ → FieldSummary
  Constant : ℕ → ℕ → FieldSummary

-- a report: its id, its size in bits and its fields
pub data ReportSummary : Type 0 where
  Report : Option ℕ → ℕ → List FieldSummary → ReportSummary

-- the reports of each direction
pub record DescriptorSummary : Type 0 where
  pub input : List ReportSummary
  pub output : List ReportSummary
  pub feature : List ReportSummary

abbrev pub field_summary : FieldRecord → FieldSummary
field_summary (VariableRecord place usage shared) =
    Variable place.first place.«end» (usage_number usage)
field_summary (ArrayRecord place usages is_range count shared) =
    Array place.first place.«end» (map usage_number usages)
field_summary (ConstantRecord place) = Constant place.first place.«end»

abbrev pub report_summary : ReportRecord → ReportSummary
report_summary r = Report r.id r.size (map field_summary r.fields)

abbrev pub in_short : Result DescriptorRecord Refusal → Result DescriptorSummary Refusal
in_short (Ok d) = Ok (record {
  input = map report_summary d.input;
  output = map report_summary d.output;
  feature = map report_summary d.feature;
})
in_short (Err refusal) = Err refusal

-- what the bytes of a text announce
abbrev pub announced_by : List ℕ → Result DescriptorRecord Refusal
announced_by text = parse (hex text)

-- the same in short
abbrev pub summary : List ℕ → Result DescriptorSummary Refusal
summary text = in_short (announced_by text)

-- the same in short, where a Push keeps globals alone
abbrev pub globals_summary : List ℕ → Result DescriptorSummary Refusal
globals_summary text = in_short (parse_globals_only (hex text))

-- the same in short, by these options
abbrev pub summary_as : ParseOptions → List ℕ → Result DescriptorSummary Refusal
summary_as options text = in_short (parse_as options (hex text))

-- the options of a host
abbrev pub host_options : ParseOptions
host_options = record globals_only_options { usages = usages_by.Hosts }

-- the same in short, as hosts read
abbrev pub host_summary : List ℕ → Result DescriptorSummary Refusal
host_summary = summary_as host_options

-- input reports alone
abbrev pub inputs : List ReportSummary → Result DescriptorSummary Refusal
inputs reports = Ok (record { input = reports; output = []; feature = [] })

-- variable fields side by side from a bit on, each so many bits wide, with these usages
abbrev pub side_by_side : ℕ → ℕ → List ℕ → List FieldSummary
side_by_side first width [] = []
side_by_side first width (usage ∷ usages) =
    Variable first (first + width) usage ∷ side_by_side (first + width) width usages

-- one input report without an id, of such fields alone
abbrev pub input_fields : ℕ → List ℕ → Result DescriptorSummary Refusal
input_fields width usages =
    inputs (Report None (length usages * width) (side_by_side 0 width usages) ∷ [])

-- a text with an Input item of so many such fields behind it: `75 08 95 02 81 02` for two bytes
abbrev pub with_fields : ℕ → ℕ → List ℕ → List ℕ
with_fields width count text =
    text ++ codes " 75 0" ++ (48 + width) ∷ codes " 95 0" ++ (48 + count) ∷ codes " 81 02"

-- an Input item behind a text's items that makes a field for each of these usages gives them these:
-- fields of one bit, and of eight
abbrev pub BitsHave : List ℕ → List ℕ → Type 0
BitsHave text usages = summary (with_fields 1 (length usages) text) ≡ input_fields 1 usages

abbrev pub BytesHave : List ℕ → List ℕ → Type 0
BytesHave text usages = summary (with_fields 8 (length usages) text) ≡ input_fields 8 usages

-- the same of bits, as hosts read
abbrev pub HostBitsHave : List ℕ → List ℕ → Type 0
HostBitsHave text usages =
    host_summary (with_fields 1 (length usages) text) ≡ input_fields 1 usages

-- refused at this offset: a main item has no usages
abbrev pub no_usages : {A : Type 0} → ℕ → Result A Refusal
no_usages offset = Err (InvalidData offset (codes "Missing Usages for main item"))

-- a usage has no page
abbrev pub no_page : {A : Type 0} → ℕ → Result A Refusal
no_page offset = Err (InvalidData offset (codes "Missing UsagePage in globals"))

-- a minimum has no maximum
abbrev pub no_maximum : {A : Type 0} → ℕ → Result A Refusal
no_maximum offset = Err (InvalidData offset (codes "Missing UsageMaximum in locals"))

-- a Pop has no Push
abbrev pub no_push : {A : Type 0} → ℕ → Result A Refusal
no_push offset = Err (InvalidData offset (codes "Too many Pops, not enough Pushes"))

-- one input report without an id, of so many bits and with these fields
abbrev pub one_input : ℕ → List FieldRecord → Result DescriptorRecord Refusal
one_input size fields = Ok (record {
  input = record { id = None; size = size; fields = fields } ∷ [];
  output = [];
  feature = [];
})

-- the first collection, with one usage
abbrev pub one_collection : CollectionItem → Usage → List CollectionRecord
one_collection kind usage = record { id = 0; kind = kind; usages = usage ∷ [] } ∷ []

-- accepted, and no reports
abbrev pub no_reports : Result DescriptorSummary Refusal
no_reports = Ok (record { input = []; output = []; feature = [] })

abbrev pub input_reports : Result DescriptorRecord Refusal → List ReportRecord
input_reports (Ok d) = d.input
input_reports (Err refusal) = []

abbrev pub is_range_of : FieldRecord → List Bool
is_range_of (ArrayRecord place usages is_range count shared) = is_range ∷ []
is_range_of field = []

-- of each array of the input reports whether its usages are a range, as hosts read
abbrev pub host_range : List ℕ → List Bool
host_range text =
    flat_map (λ r. flat_map is_range_of r.fields) (input_reports (parse_as host_options (hex text)))

abbrev pub feature_reports : Result DescriptorRecord Refusal → List ReportRecord
feature_reports (Ok d) = d.feature
feature_reports (Err refusal) = []

-- a field's number over the descriptor, and those of the collections that it lies in
abbrev pub own_numbers : FieldRecord → ℕ × List ℕ
own_numbers (VariableRecord place usage shared) = (place.id, map (λ c. c.id) shared.collections)
own_numbers (ArrayRecord place usages is_range count shared) =
    (place.id, map (λ c. c.id) shared.collections)
own_numbers (ConstantRecord place) = (place.id, [])

-- the same of all fields of these reports
abbrev pub all_numbers : List ReportRecord → List (ℕ × List ℕ)
all_numbers reports = flat_map (λ r. map own_numbers r.fields) reports

-- the input report that a report's bytes are of
abbrev pub report_found : List ℕ → List ℕ → Option ReportSummary
report_found text report = option_map report_summary
    (find_report (input_reports (announced_by text)) (hex report))

abbrev pub read_fields : List ReportRecord → List ℕ → List (Result (List ValueRecord) Refusal)
read_fields [] bytes = []
read_fields (r ∷ rs) bytes = map (λ f. reads f bytes) r.fields

-- what the bytes give each field of the first input report
abbrev pub readings : List ℕ → List ℕ → List (Result (List ValueRecord) Refusal)
readings text report = read_fields (input_reports (announced_by text)) (hex report)

-- values as they are kept: the word, unsigned or signed
abbrev pub unsigned_value : ℕ → ValueRecord
unsigned_value n = record { word = n; is_signed = false }

abbrev pub signed_value : ℕ → ValueRecord
signed_value n = record { word = n; is_signed = true }

-- the usage that a value chooses among eight buttons, between these bounds
abbrev pub of_eight : ℤ → ℤ → ℤ → Option Usage
of_eight minimum maximum number = usage_chosen (range_from 9 1 8) minimum maximum number

-- no flag at all, and that of a variable item alone
abbrev pub no_flags : Flags
no_flags = record {
  constant = false;
  variable = false;
  relative = false;
  wrap = false;
  nonlinear = false;
  no_preferred_state = false;
  null_state = false;
  volatile = false;
  buffered_bytes = false;
}

abbrev pub variable_flags : Flags
variable_flags = record no_flags { variable = true }

-- what a variable field has that no item sets: bounds of 0, no physical bounds, no unit, no
-- collections and no other flag
abbrev pub unset : Attributes
unset = record {
  logical_minimum = pos 0;
  logical_maximum = pos 0;
  physical_minimum = None;
  physical_maximum = None;
  unit = None;
  unit_exponent = None;
  collections = [];
  flags = variable_flags;
  volatile = None;
}

-- the same of an array
abbrev pub unset_array : Attributes
unset_array = record unset { flags = no_flags }

-- the place of a field without a report id: its number, its first bit and the bit behind its last
abbrev pub place_at : ℕ → ℕ → ℕ → FieldPlace
place_at id first last = record { id = id; report_id = None; first = first; «end» = last }

-- a field with one value from bit `first` up to `end`, at least so much
abbrev pub variable_at : ℕ → ℕ → ℤ → FieldRecord
variable_at first last least = VariableRecord (place_at 0 first last)
    (make_usage 1 0x30) (record unset { logical_minimum = least })

-- a field with so many values there
abbrev pub array_at : ℕ → ℕ → ℕ → ℤ → FieldRecord
array_at first last count least = ArrayRecord (place_at 0 first last)
    [] false count (record unset { logical_minimum = least })

-- one unsigned value there, of so many bits
abbrev pub one_run : ℕ → ℕ → RunRecord
one_run first width = record { id = None; first = first; width = width; count = 1; is_signed = false }

-- no values, read by this id, in its byte
abbrev pub no_run_of : ℕ → RunRecord
no_run_of id = record { id = Some id; first = 0; width = 8; count = 0; is_signed = false }

-- the fields of the first input report, or none
abbrev pub first_fields : List ReportRecord → List FieldRecord
first_fields [] = []
first_fields (r ∷ rs) = r.fields

-- what the first field of a report shares with its item's others; padding has nothing
abbrev pub shared_by_first : List FieldRecord → Option Attributes
shared_by_first (VariableRecord place usage shared ∷ fs) = Some shared
shared_by_first (ArrayRecord place usages is_range count shared ∷ fs) = Some shared
shared_by_first _ = None

-- the attributes of the first input field that a text's bytes announce
abbrev pub input_attributes : List ℕ → Option Attributes
input_attributes text = shared_by_first (first_fields (input_reports (announced_by text)))

-- behind a usage, a size and a count an Input item's field has these flags, and nothing else is set
abbrev pub HasFlags : List ℕ → Flags → Type 0
HasFlags maker flags = input_attributes (codes "05 01 09 30 75 08 95 01 " ++ maker)
    ≡ Some (record unset { flags = flags })

-- the same of the first feature field
abbrev pub feature_attributes : List ℕ → Option Attributes
feature_attributes text = shared_by_first (first_fields (feature_reports (announced_by text)))

-- the collections that the first input field lies in
abbrev pub collections_around : List ℕ → Option (List CollectionRecord)
collections_around text = option_map (λ (a : Attributes). a.collections) (input_attributes text)

-- the same field with a report id of its own
abbrev pub with_report_id : FieldPlace → ℕ → FieldPlace
with_report_id place id = record
    { id = place.id; report_id = Some id; first = place.first; «end» = place.«end» }

abbrev pub of_report : ℕ → FieldRecord → FieldRecord
of_report id (VariableRecord place usage shared) =
    VariableRecord (with_report_id place id) usage shared
of_report id (ArrayRecord place usages is_range count shared) =
    ArrayRecord (with_report_id place id) usages is_range count shared
of_report id (ConstantRecord place) = ConstantRecord (with_report_id place id)

-- so many fields and so many collections before an item, and nothing else
abbrev pub only_counts : ℕ → ℕ → Counts
only_counts fields collections = record
    { level = 0; depth = 0; collections = collections; fields = fields; start = 0 }

-- in force are a size of one bit and a count of one
abbrev pub one_bit : ItemState
one_bit = reading_of default_options
    (item.Global (global.ReportSize 1) ∷ item.Global (global.ReportCount 1) ∷ []) 2

-- the range of usages 4 to 7 of page 7
abbrev pub four_keys : RangeRecord
four_keys = record { first = make_usage 7 4; last = make_usage 7 7 }
