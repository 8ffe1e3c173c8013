-- The usages that have one code wherever they lie.
use Rattle.std.specs.Prelude.{ℕ, ◌==◌, if◌then◌else◌, List, [], ◌∷◌, Option, Some, None, option_map}
use Rattle.hidreport_linux.specs.declared.code_rows.CodeRow.{CodeRow}
use Rattle.hidreport_linux.specs.declared.wanted.Wanted.{Wanted}
use Rattle.hidreport_linux.specs.declared.wanted.Role.TheVariants.{Plain}

-- the first row of a usage, if there is one
abbrev pub row_in : List CodeRow → ℕ → Option CodeRow
row_in [] usage = None
row_in (row ∷ rows) usage = if row.usage == usage then Some row else row_in rows usage

-- what a row's usage asks for
abbrev pub wanted_by : CodeRow → Wanted
wanted_by row = record {
  code = record { event_type = row.event_type; number = row.number };
  is_shared = row.is_shared;
  role = Plain;
}

-- what a usage asks for by rows, if it is there
abbrev pub wanted_in : List CodeRow → ℕ → Option Wanted
wanted_in rows usage = option_map wanted_by (row_in rows usage)
