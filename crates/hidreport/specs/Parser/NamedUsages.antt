-- The usages of a collection as the parser holds them.
use Rattle.std.specs.Prelude.{List, ◌<◌, ◌^◌, flat_map, length}
use Rattle.std.specs.Arc.{arc_slice_items}
use Rattle.hidreport.specs.HostUsages.{span_usages}
use Rattle.hidreport.specs.Parser.Usages.{between}
use Rattle.hidreport_fields.specs.CollectionUsages.{collection_usages}
use Rattle.hidreport_fields.specs.declared.field.usage.Usage.{Usage}
use Rattle.hidreport.specs.declared.parser.named_usages.NamedUsages.{NamedUsages}
use Rattle.hidreport.specs.declared.parser.named_usages.NamedUsages.TheVariants as named

-- the usages, listed or not
abbrev pub named_usages : NamedUsages → List Usage
named_usages (named.Range bounds) = between bounds
named_usages (named.Spans spans) = flat_map span_usages (arc_slice_items spans)
named_usages (named.Listed usages) = collection_usages usages

-- they can be counted
abbrev pub IsCounted : NamedUsages → Type 0
IsCounted (named.Range bounds) = Unit {0}
IsCounted (named.Spans spans) = length (flat_map span_usages (arc_slice_items spans)) < 2 ^ 64
IsCounted (named.Listed usages) = Unit {0}
