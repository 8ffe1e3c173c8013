-- Descriptors, reports and fields whose tiling rows tell.
use Rattle.std.specs.Prelude.{ℕ, Bool, true, List, [], ◌∷◌, Option, None, Some}
use Rattle.hidreport.specs.CollectionItem.TheVariants as kind
use Rattle.hidreport.specs.Records.{Attributes, CollectionRecord, FieldRecord, VariableRecord}
use Rattle.hidreport.specs.Records.{ArrayRecord, ConstantRecord, ReportRecord, DescriptorRecord}
use Rattle.hidreport.specs.Usages.{make_usage, range_from}
use Rattle.hidreport_fields.specs.declared.field.usage.Usage.{Usage}
use Rattle.hidreport_definitions.specs.Summary.{no_flags, of_report, place_at, unset}

-- what fields share that lie in the Application collection of a keyboard
abbrev pub in_keyboard : Attributes
in_keyboard = record unset {
  collections = record { id = 0; kind = kind.Application; usages = make_usage 1 6 ∷ [] } ∷ [];
}

-- report 1 of three bits and padding, and report 2 of two keys
abbrev pub two_reports : DescriptorRecord
two_reports = record {
  input =
      record {
        id = Some 1;
        size = 16;
        fields = of_report 1 (VariableRecord (place_at 0 8 11) (make_usage 1 0x30) in_keyboard)
            ∷ of_report 1 (ConstantRecord (place_at 1 11 16)) ∷ [];
      }
      ∷ record {
        id = Some 2;
        size = 24;
        fields = of_report 2 (ArrayRecord (place_at 2 8 24) (range_from 7 4 4) true 2
            (record in_keyboard { flags = no_flags }))
            ∷ [];
      }
      ∷ [];
  output = [];
  feature = [];
}

-- a report of this id, if any, this size and these fields
abbrev pub report_with : Option ℕ → ℕ → List FieldRecord → ReportRecord
report_with id size fields = record { id = id; size = size; fields = fields }

-- the reports of each direction
abbrev pub descriptor_of : List ReportRecord → List ReportRecord → List ReportRecord
    → DescriptorRecord
descriptor_of input output feature = record { input = input; output = output; feature = feature }

-- a field of one value with this number, in the bits from 8 up to 16 of the report of this id
abbrev pub byte_field : ℕ → ℕ → FieldRecord
byte_field id number =
    of_report id (VariableRecord (place_at number 8 16) (make_usage 1 0x30) unset)

-- the report of this id whose one field has this number
abbrev pub byte_report : ℕ → ℕ → ReportRecord
byte_report id number = report_with (Some id) 16 (byte_field id number ∷ [])

-- a report without an id whose one field has this number
abbrev pub report_without_id : ℕ → ReportRecord
report_without_id number =
    report_with None 8 (VariableRecord (place_at number 0 8) (make_usage 1 0x30) unset ∷ [])

-- the report of this id whose one field has this number and lies in these collections
abbrev pub report_in : ℕ → ℕ → List CollectionRecord → ReportRecord
report_in id number collections = report_with (Some id) 16
    (of_report id (VariableRecord (place_at number 8 16) (make_usage 1 0x30)
    (record unset { collections = collections })) ∷ [])

-- an array of these usages, those of a range or not, in bits of the report of this id: its first
-- bit, the bit behind its last, and how many elements it has
abbrev pub array_in : ℕ → List Usage → Bool → ℕ → ℕ → ℕ → FieldRecord
array_in id usages is_range first last count =
    of_report id (ArrayRecord (place_at 0 first last) usages is_range count unset)

-- a report with this id, if any, and no fields
abbrev pub empty_report : Option ℕ → ReportRecord
empty_report id = record { id = id; size = 0; fields = [] }

-- a Physical collection, and a Logical one, with this number
abbrev pub physical : ℕ → CollectionRecord
physical id = record { id = id; kind = kind.Physical; usages = [] }

abbrev pub logical : ℕ → CollectionRecord
logical id = record { id = id; kind = kind.Logical; usages = [] }

-- a field in these collections, outermost first
abbrev pub field_in : List CollectionRecord → FieldRecord
field_in collections = VariableRecord (place_at 0 0 8) (make_usage 1 0x30)
    (record unset { collections = collections })
