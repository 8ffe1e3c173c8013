-- Bytes that are a page and a Pop, with a reserved item between them.
use Rattle.std.proofs.Common.{List, [], ◌∷◌, codes, arith, refl}
use Rattle.hidreport.specs.Entry.{Entry}
use Rattle.hidreport.specs.GlobalItem.TheVariants as global
use Rattle.hidreport.specs.ItemType.TheVariants as item
use Rattle.hidreport.specs.Itemising.{Itemises}
use Rattle.hidreport.specs.Spelling.{item_of}
use Rattle.hidreport_definitions.specs.Cut.{page_at, pop_at}
use Rattle.hidreport_definitions.specs.Hex.{hex}
use Rattle.hidreport_definitions.proofs.ByteLemmas.{one, two}

abbrev pub with_reserved : List Entry
with_reserved = page_at 0 1
    ∷ record { offset = 2; bytes = 0xc4 ∷ []; item = item.Global global.Reserved }
    ∷ pop_at 3 ∷ []

pub reserved-itemised : Itemises item_of (hex (codes "05 01 c4 b4")) with_reserved
reserved-itemised = record {
  some = λ e. cc;
  whole = refl;
  each = (
    (two 5 1 (omega arith) (omega arith), refl, refl),
    (
      (one 0xc4 (omega arith), refl, refl),
      ((one 0xb4 (omega arith), refl, refl), tt),
    ),
  );
  offsets = (refl, (refl, (refl, tt)));
}
