-- The single usages of local items, whose page may come later.
use Rattle.std.specs.Prelude.{ℕ, ◌-◌, Bool, if◌then◌else◌, List, length, take, Option, None, Some}
use Rattle.std.specs.Prelude.{is_none, unwrap_or}
use Rattle.hidreport_items.specs.declared.local.LocalItem.{LocalItem}
use Rattle.hidreport_items.specs.declared.local.LocalItem.TheVariants as local
use Rattle.hidreport_fields.specs.UsageRange.{make_usage}
use Rattle.hidreport_fields.specs.declared.field.usage.Usage.{Usage}
use Rattle.hidreport.specs.declared.parser.local_usages.LocalUsage.{LocalUsage}

-- the single usage of a local item, if it is one
abbrev pub local_usage : LocalItem → Option LocalUsage
local_usage (local.Usage own id) = Some (record { page = Some own; id = id })
local_usage (local.UsageId id) = Some (record { page = None; id = id })
local_usage _ = None

-- it has no page of its own
abbrev pub lacks_page : LocalUsage → Bool
lacks_page u = is_none u.page

-- on this page, where it has none of its own
abbrev pub usage_under : ℕ → LocalUsage → Usage
usage_under page u = make_usage (unwrap_or u.page page) u.id

-- all but the last one, where that is so
abbrev pub without_last : {A : Type 0} → Bool → List A → List A
without_last is_so xs = if is_so then take (length xs - 1) xs else xs
