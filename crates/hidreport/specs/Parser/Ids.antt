-- What the parser remembers of the ids in a list of reports.
use Rattle.std.specs.Prelude.{◌≡◌, ℕ, ◌≤◌, List, length, Some}
use Rattle.hidreport.specs.Parser.Machine.{index_in}
use Rattle.hidreport_fields.specs.Records.{ReportOf}

-- no report has an id from this one on
abbrev pub AllBelow : {A : Type 0} → ℕ → List (ReportOf A) → Type 0
AllBelow bound rs = (id : ℕ) → bound ≤ id → index_in (Some id) rs ≡ length rs
