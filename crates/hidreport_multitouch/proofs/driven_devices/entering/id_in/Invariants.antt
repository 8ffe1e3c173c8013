use Rattle.std.proofs.Common.{◌≡◌, drop}
use Rattle.std.specs.List.{position_from}
use Rattle.hidreport_multitouch.specs.Fields.{is_id}
use Rattle.hidreport_multitouch.proofs.driven_devices.entering.id_in.Given as goal

-- none so far is the id
abbrev pub invariant-loop-index : goal.invariant-loop-index
invariant-loop-index l =
    position_from (is_id l.id) 0 l.ids ≡ position_from (is_id l.id) l.index (drop l.index l.ids)
