use Rattle.std.proofs.Common.{◌≡◌, ◌++◌, drop}
use Rattle.hidreport_linux.specs.FieldOrder.{fields_of}
use Rattle.hidreport_linux.proofs.reading.core_fields.add_fields_of.Given as goal

-- those so far, and those behind them, are all
abbrev pub invariant-loop-field : goal.invariant-loop-field
invariant-loop-field l =
    l.fn.fields.items ++ fields_of l.report l.all
    ≡ l.fields.items ++ fields_of l.report (drop l.field-index l.all)
