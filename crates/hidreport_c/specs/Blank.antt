-- A report without values as C has it (Section 5.6).
use Rattle.std.specs.Prelude.{ℕ, if◌then◌else◌, List, replicate, Option, None, Some}
use Rattle.hidreport.specs.Blank.{with_first}
use Rattle.hidreport_c.specs.declared.structs.HidreportReport.{HidreportReport}

-- the id that the report begins with
abbrev pub own_id_of : HidreportReport → Option ℕ
own_id_of r = if r.has_id then Some r.id else None

-- as many bytes as it has, all 0 but that of its id
abbrev pub blank_of : HidreportReport → List ℕ
blank_of r = with_first (own_id_of r) (replicate r.size_in_bytes 0)
