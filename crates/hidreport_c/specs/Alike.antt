-- Whether two descriptors are the same in all parts.
use Rattle.std.specs.Prelude.{◌≡◌, ◌⊎◌, ◌↔◌, IsTrue, Bool, false, true, List, ℕ, Ok, Err, Option}
use Rattle.hidreport.specs.Records.{DescriptorRecord}
use Rattle.hidreport_c.specs.Answer.{IsRead}
use Rattle.hidreport_c.specs.declared.options.Reading.{Reading}
use Rattle.hidreport_c.specs.declared.structs.HidreportLikeness.{HidreportLikeness}
use Rattle.hidreport_c.specs.declared.structs.HidreportAnswer.{HidreportAnswer}

-- one of them isn't read, for what C is told of it
abbrev pub unlike : Bool → HidreportAnswer → HidreportLikeness
unlike is_of_other told = record {
  offset = told.offset;
  status = told.status;
  is_of_other = is_of_other;
  is_alike = false;
}

-- both are read, and whether they are the same is told
abbrev pub compared : Bool → HidreportLikeness
compared is_alike =
    record { offset = 0; status = 0; is_of_other = false; is_alike = is_alike }

-- the caller is told whether they are the same, or why the first, or else the second, isn't read
abbrev pub Likens : Option Reading → List ℕ → List ℕ → HidreportLikeness → Type 0
Likens options first second told =
    ((answer : HidreportAnswer) × IsRead (Err answer) options first × (told ≡ unlike false answer))
    ⊎ ((one : DescriptorRecord) × IsRead (Ok one) options first
    × (((answer : HidreportAnswer) × IsRead (Err answer) options second
    × (told ≡ unlike true answer))
    ⊎ ((other : DescriptorRecord) × IsRead (Ok other) options second
    × (told ≡ compared told.is_alike) × (IsTrue told.is_alike ↔ (one ≡ other)))))
