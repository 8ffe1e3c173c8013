-- Items without long ones: the same list is the one by what follows each header.
use Rattle.std.proofs.Common.{ℕ, List, [], ◌∷◌, sym, ◌∙◌}
use Rattle.hidreport_items.proofs.FollowingLemmas.{short-follow}
use Rattle.hidreport_items.specs.declared.item.ItemType.{ItemType}
use Rattle.hidreport_lists.specs.Entry.{Entry}
use Rattle.hidreport_lists.specs.Itemising.{Reader, Reads, AreRead, Itemises}
use Rattle.hidreport_lists.specs.WithoutLong.{ReadsShort, AreReadShort, ItemisesShort}

reads-so : (read : Reader) (bytes : List ℕ) (x : ItemType) → ReadsShort read bytes x
    → Reads read bytes x
reads-so read [] x r = absurd r
reads-so read (h ∷ bs) x r = (r.0, r.2 ∙ sym (short-follow h bs r.1), r.3)

are-read-so : (read : Reader) (entries : List Entry) → AreReadShort read entries
    → AreRead read entries
are-read-so read [] each = tt
are-read-so read (e ∷ es) each = (reads-so read e.bytes e.item each.0, are-read-so read es each.1)

pub itemises-so : (read : Reader) (bytes : List ℕ) (entries : List Entry)
    → ItemisesShort read bytes entries → Itemises read bytes entries
itemises-so read bytes entries i = record {
  some = i.some;
  whole = i.whole;
  each = are-read-so read entries i.each;
  offsets = i.offsets;
}
