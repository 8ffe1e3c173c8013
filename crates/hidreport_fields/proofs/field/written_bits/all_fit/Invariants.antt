use Rattle.std.proofs.Common.{◌≡◌, true, take}
use Rattle.std.specs.List.{list_all}
use Rattle.hidreport_fields.specs.WritingValues.{fits}
use Rattle.hidreport_fields.proofs.field.written_bits.all_fit.Given as goal

-- the numbers before this one fit
abbrev pub invariant-loop-number : goal.invariant-loop-number
invariant-loop-number l =
    list_all (fits l.width l.is_signed) (take l.number-index l.numbers) ≡ true
