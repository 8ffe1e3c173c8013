use Rattle.std.proofs.Common.{◌≡◌, map, None, take}
use Rattle.hidreport.specs.Views.{field_record}
use Rattle.hidreport_c.specs.Numbered.{numbered}
use Rattle.hidreport_c.proofs.numbered.field_in.Given as goal

-- none of those so far has it
abbrev pub invariant-loop-field : goal.invariant-loop-field
invariant-loop-field l =
    numbered l.number (map field_record (take l.field-index l.fields)) ≡ None
