use Rattle.std.proofs.Common.{ℕ, [], ◌∷◌, None, Some, filter_map, flat_map, lit≤, refl}
use Rattle.hidreport_lists.specs.declared.mending.Reason.TheVariants as reason
use Rattle.hidreport.specs.GlobalItem.TheVariants as global
use Rattle.hidreport.specs.ItemType.TheVariants as item
use Rattle.hidreport.specs.LocalItem.TheVariants as local
use Rattle.hidreport.specs.Mending.{PieceRecord, holding, left_out}
use Rattle.hidreport.specs.Repair.{change_in, joined}
use Rattle.hidreport.specs.RepairLaws.{AreInPlace, IsRepairOf, StandsAsItStood, StoodAsOne}
use Rattle.hidreport_definitions.specs.Repairs.{input}
use Rattle.hidreport_definitions.proofs.PieceLemmas.{unchanged}
use Rattle.hidreport_definitions.proofs.repairs.a_repair_names_its_changes.Goals as goal

abbrev page : PieceRecord
page = unchanged 0 5 1 (item.Global (global.UsagePage 1))

-- an Input that became padding
abbrev padded : ℕ → PieceRecord
padded offset =
    holding (Some reason.NoUsage) offset (0x81 ∷ 2 ∷ []) (0x81 ∷ 3 ∷ []) (input 3)

-- a repair of one piece
of_one : (p : PieceRecord) → AreInPlace 0 (p ∷ []) → StandsAsItStood p → StoodAsOne p
    → IsRepairOf (flat_map (λ (q : PieceRecord). q.stood) (p ∷ []))
    (record { bytes = joined (p ∷ []); changes = filter_map change_in (p ∷ []) })
of_one p at same one = record {
  pieces = p ∷ [];
  whole = refl;
  places = at;
  written = refl;
  changes = refl;
  same = (same, tt);
  one = (one, tt);
}

pub returns-clause-none : goal.returns-clause-none
returns-clause-none c = of_one page (refl, tt) (λ e. refl) (lit≤ tt)

pub returns-clause-one : goal.returns-clause-one
returns-clause-one c = of_one (padded 0) (refl, tt) (λ e. cc) (lit≤ tt)

pub returns-clause-between : goal.returns-clause-between
returns-clause-between c = record {
  pieces = page ∷ unchanged 2 0x75 8 (item.Global (global.ReportSize 8))
      ∷ unchanged 4 0x95 1 (item.Global (global.ReportCount 1)) ∷ padded 6
      ∷ unchanged 8 9 0x30 (item.Local (local.UsageId 0x30)) ∷ unchanged 10 0x81 2 (input 2) ∷ [];
  whole = refl;
  places = (refl, (refl, (refl, (refl, (refl, (refl, tt))))));
  written = refl;
  changes = refl;
  same = (λ e. refl, (λ e. refl, (λ e. refl, (λ e. cc, (λ e. refl, (λ e. refl, tt))))));
  one = (lit≤ tt, (lit≤ tt, (lit≤ tt, (lit≤ tt, (lit≤ tt, (lit≤ tt, tt))))));
}

pub returns-clause-left_out : goal.returns-clause-left_out
returns-clause-left_out c = record {
  pieces = page ∷ left_out reason.UnknownMainItem 2 (0xd0 ∷ [])
      ∷ holding None 3 (0xa4 ∷ []) (0xa4 ∷ []) (item.Global global.Push) ∷ [];
  whole = refl;
  places = (refl, (refl, (refl, tt)));
  written = refl;
  changes = refl;
  same = (λ e. refl, (λ e. cc, (λ e. refl, tt)));
  one = (lit≤ tt, (lit≤ tt, (lit≤ tt, tt)));
}
