-- What a repair changed, written to a caller's array.
use Rattle.std.proofs.Common.{◌≡◌, ℕ, List, length, map, Option, Some, Ok, inl}
use Rattle.std.proofs.Common.{ap, sym, ◌∙◌}
use Rattle.std.proofs.lemmas.List.{length-map}
use Rattle.std.proofs.lemmas.Simd.{map-map}
use Rattle.hidreport.specs.Repair.{change_view, repaired, repaired_view}
use Rattle.hidreport.specs.declared.repairing.change.Repaired.{Repaired}
use Rattle.hidreport.specs.declared.repairing.repair_options.RepairOptions.{RepairOptions}
use Rattle.hidreport_c.proofs.ListsLemmas.{lists-chosen}
use Rattle.hidreport_c.specs.Answer.{ListsBy, array_after, counted, listed}
use Rattle.hidreport_c.specs.Repair.{change_as_c, changes_as_c}
use Rattle.hidreport_c.specs.declared.structs.HidreportAnswer.{HidreportAnswer}
use Rattle.hidreport_c.specs.declared.structs.HidreportChange.{HidreportChange}

-- the changes of a repaired descriptor are told as they are
pub lists-changes : (chosen : Option RepairOptions) (options : RepairOptions) (bytes : List ℕ)
    (r : Repaired) (old new : List HidreportChange) (told : HidreportAnswer)
    → chosen ≡ Some options → repaired options bytes ≡ Ok (repaired_view r)
    → told ≡ counted (length r.changes.items)
    → new ≡ array_after (map (λ c. change_as_c (change_view c)) r.changes.items) old
    → ListsBy (λ o. listed changes_as_c (repaired o bytes)) chosen old new told
lists-changes chosen options bytes r old new told is read count written =
    let changes = r.changes.items in
    let seen = map change_view changes in
    let all = map-map change_as_c change_view changes in
    let many = length-map seen change_as_c ∙ length-map changes change_view in
    lists-chosen chosen options (λ o. listed changes_as_c (repaired o bytes)) old new told is
    (rw read (inl (
      count ∙ ap counted (sym many),
      written ∙ ap (λ l. array_after l old) (sym all),
    )))
