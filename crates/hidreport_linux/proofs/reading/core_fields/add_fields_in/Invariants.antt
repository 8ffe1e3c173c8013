use Rattle.std.proofs.Common.{◌≡◌, ◌++◌, drop}
use Rattle.hidreport_linux.specs.FieldOrder.{fields_in}
use Rattle.hidreport_linux.proofs.reading.core_fields.add_fields_in.Given as goal

-- those of the reports so far, and of those behind them, are all
abbrev pub invariant-loop-report : goal.invariant-loop-report
invariant-loop-report l =
    l.fn.fields.items ++ fields_in l.direction l.all l.reports
    ≡ l.fields.items ++ fields_in l.direction l.all (drop l.report-index l.reports)
