use Rattle.std.proofs.Common.{◌≡◌, flat_map, take}
use Rattle.hidreport_items.specs.Writing.{item_bytes}
use Rattle.hidreport_lists.proofs.descriptor_builder.joined_bytes.Given as goal

-- the bytes of the items so far
abbrev pub invariant-loop-item : goal.invariant-loop-item
invariant-loop-item l = l.bytes.items ≡ flat_map item_bytes (take l.item-index l.items)
