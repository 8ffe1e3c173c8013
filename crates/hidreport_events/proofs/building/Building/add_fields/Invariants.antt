use Rattle.std.proofs.Common.{◌≡◌, ◌++◌, drop, map}
use Rattle.hidreport_events.specs.Built.{numbers_in, read_numbers}
use Rattle.hidreport_events.proofs.building.Building.add_fields.Given as goal

-- those so far, and those of the fields behind them, are all
abbrev pub invariant-loop-field : goal.invariant-loop-field
invariant-loop-field l =
    read_numbers l.fields
    ≡ map numbers_in l.kept.items ++ read_numbers (drop l.field-index l.fields)
