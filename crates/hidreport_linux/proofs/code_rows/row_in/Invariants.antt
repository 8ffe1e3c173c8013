use Rattle.std.proofs.Common.{◌≡◌, drop}
use Rattle.hidreport_linux.specs.Rows.{row_in}
use Rattle.hidreport_linux.proofs.code_rows.row_in.Given as goal

-- no row so far has the usage
abbrev pub invariant-loop-row : goal.invariant-loop-row
invariant-loop-row l = row_in l.rows l.usage ≡ row_in (drop l.row-index l.rows) l.usage
