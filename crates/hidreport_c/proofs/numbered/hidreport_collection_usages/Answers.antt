use Rattle.std.proofs.Common.{◌≡◌, length, map, slice_get, inl, sym, ap, ◌∙◌}
use Rattle.std.proofs.lemmas.List.{length-map}
use Rattle.hidreport.specs.UsageNumber.{usage_number}
use Rattle.hidreport_c.proofs.ListsLemmas.{lists-read, lists-unread}
use Rattle.hidreport_c.proofs.UsagesLemmas.{copied-item}
use Rattle.hidreport_c.specs.Answer.{array_after, counted}
use Rattle.hidreport_c.specs.Collection.{carried, collection_usages, collections_or_none}
use Rattle.hidreport_c.specs.Collection.{usages_or_none}
use Rattle.hidreport_c.specs.Options.{reading_of}
use Rattle.hidreport_c.proofs.numbered.hidreport_collection_usages.Goals as goal

pub returns-in-Err : goal.returns-in-Err
returns-in-Err c =
    lists-unread c.in-Err.refused (reading_of c.args.options) c.args.descriptor.now
    (collection_usages c.args.field c.args.index) c.args.usages.now c.in-Err.ensures

pub returns-in-Ok : goal.returns-in-Ok
returns-in-Ok c =
    let d = c.in-Ok.descriptor in
    let index = c.args.index in
    let collections = c.collections_of-collections.result.now in
    let listed = c.usages_of.result.now in
    let are : collections ≡ carried c.args.field d =
    c.collections_of-collections.ensures ∙ ap collections_or_none c.field_numbered.ensures in
    let usages : listed ≡ usages_or_none (slice_get (carried c.args.field d) index) =
    c.usages_of.ensures
    ∙ ap usages_or_none (copied-item collections index c.get.result c.get.ensures.lookup
    ∙ ap (λ l. slice_get l index) are) in
    let all = ap (map usage_number) usages in
    lists-read d (reading_of c.args.options) c.args.descriptor.now
    (collection_usages c.args.field index) c.args.usages.now c.write.new.array c.write.result
    c.in-Ok.ensures
    (inl (
      c.write.ensures.count
          ∙ ap counted (sym (length-map listed usage_number) ∙ ap length all),
      c.write.ensures.written ∙ ap (λ l. array_after l c.args.usages.now) all,
    ))
