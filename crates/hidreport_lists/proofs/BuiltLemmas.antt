-- What a builder writes is just its items.
use Rattle.std.proofs.Common.{◌≡◌, ◌≢◌, ℕ, Bool, true, false, cond, List, [], ◌∷◌, flat_map, Result}
use Rattle.std.proofs.Common.{Ok, Err, None, Some, IfOk, refl, subst, sym}
use Rattle.std.specs.Prelude.{Vec}
use Rattle.std.specs.Global.{Global}
use Rattle.hidreport_items.specs.Answer.{Writes}
use Rattle.hidreport_items.specs.Writing.{item_bytes}
use Rattle.hidreport_items.specs.declared.error.HidError.{HidError}
use Rattle.hidreport_items.specs.declared.item.ItemType.{ItemType}
use Rattle.hidreport_lists.specs.DescriptorBuilder.{AreSpelled, WritesItems}
use Rattle.hidreport_items.proofs.CanonicalLemmas.{canonical}
use Rattle.hidreport_lists.proofs.RespellingLemmas.{AreKept, itemises-again}

-- spelled items have canonical spellings
pub spelled-kept : (xs : List ItemType) → AreSpelled xs → AreKept xs
spelled-kept [] s = tt
spelled-kept (x ∷ xs) s = (s.0, canonical x s.1.0 s.1.1 s.0, spelled-kept xs s.2)

pub writes-items : (answer : Result (Vec ℕ Global) HidError) (items : List ItemType)
    → Writes answer (flat_map item_bytes items) → AreSpelled items
    → IfOk answer (λ bytes. WritesItems items bytes.items)
writes-items (Err e) items writes spelled = tt
writes-items (Ok bytes) items writes spelled = subst (λ l. WritesItems items l) (sym writes)
    (λ some. itemises-again items (spelled-kept items spelled) some)
