-- Fields by their numbers, which are counted over the descriptor.
use Rattle.std.specs.Prelude.{ℕ, ◌==◌, List, find, Option}
use Rattle.hidreport.specs.Records.{DescriptorRecord, FieldRecord, fields_in_all, place_of}
use Rattle.hidreport.specs.Records.{reports_in_all}

-- the first of these fields that has the number
abbrev pub numbered : ℕ → List FieldRecord → Option FieldRecord
numbered number fields = find (λ f. (place_of f).id == number) fields

-- the field of a descriptor that has it, in whichever direction
abbrev pub field_numbered : ℕ → DescriptorRecord → Option FieldRecord
field_numbered number d = numbered number (fields_in_all (reports_in_all d))
