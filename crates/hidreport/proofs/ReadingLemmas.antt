-- The walk gives the meaning by each reading of Push and Pop, and of usages.
use Rattle.std.proofs.Common.{◌≡◌, List}
use Rattle.hidreport_items.specs.declared.item.ItemType.{ItemType}
use Rattle.hidreport.specs.Meaning.{meaning_by}
use Rattle.hidreport.specs.Options.{reading_of}
use Rattle.hidreport.specs.Parser.Machine.{first_state, walk}
use Rattle.hidreport.specs.declared.parse_options.ParseOptions.{ParseOptions}
use Rattle.hidreport.proofs.PushReadings.{kept_stack, reading-follows}
use Rattle.hidreport.proofs.WalkLemmas.{walk-follows}

pub walk-meaning : (options : ParseOptions) (items : List ItemType)
    → walk (first_state options) 0 items ≡ meaning_by (reading_of options) items
walk-meaning options items =
    let push_keeps = options.push_keeps in
    let by = options.usages in
    walk-follows push_keeps by (reading_of options) (kept_stack push_keeps by items) items
    (reading-follows push_keeps by items)
