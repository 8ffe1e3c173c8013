-- A descriptor written anew (Sections 6.2.2.1 and 6.2.2.2): the items that today's standard gives a
-- meaning, each in its canonical spelling.
use Rattle.std.specs.Prelude.{ℕ, ◌+◌, List, [], ◌∷◌, length, map, filter, flat_map}
use Rattle.std.specs.Prelude.{Result, Ok, Err}
use Rattle.hidreport_items.specs.Answer.{GrammarFault}
use Rattle.hidreport_items.specs.Canonical.{IsCanonical}
use Rattle.hidreport_items.specs.Kept.{is_kept}
use Rattle.hidreport_items.specs.Writing.{item_bytes}
use Rattle.hidreport_items.specs.declared.item.ItemType.{ItemType}
use Rattle.hidreport_lists.specs.Entry.{Entry}

-- what is spelled, without where and how
abbrev pub items_of : List Entry → List ItemType
items_of entries = map (λ e. e.item) entries

-- those of them that are neither long nor reserved
abbrev pub kept_entries : List Entry → List Entry
kept_entries entries = filter (λ e. is_kept e.item) entries

-- these items in the bytes that are written for them, the first at the offset
abbrev pub canonical_entries : ℕ → List ItemType → List Entry
canonical_entries offset [] = []
canonical_entries offset (x ∷ xs) =
    record { offset = offset; bytes = item_bytes x; item = x }
    ∷ canonical_entries (offset + length (item_bytes x)) xs

-- the canonical bytes of the kept items, joined
abbrev pub rebuilt_bytes : List Entry → List ℕ
rebuilt_bytes entries = flat_map item_bytes (items_of (kept_entries entries))

-- the same, or the fault of bytes that are no items
abbrev pub rebuild_answer : Result (List Entry) (ℕ × GrammarFault)
    → Result (List ℕ) (ℕ × GrammarFault)
rebuild_answer (Ok entries) = Ok (rebuilt_bytes entries)
rebuild_answer (Err fault) = Err fault

-- each item stands in its canonical spelling
abbrev pub AreCanonical : List Entry → Type 0
AreCanonical [] = Unit {0}
AreCanonical (e ∷ entries) = IsCanonical e.bytes e.item × AreCanonical entries
