-- A list of items has some text.
use Rattle.std.proofs.Common.{◌≡◌, ◌<◌, ℕ, ◌+◌, List, [], ◌∷◌, ◌++◌, length, sym, ap, ◌∙◌}
use Rattle.std.proofs.Common.{length-append, arith}
use Rattle.hidreport_items.specs.Spelling.{item_of}
use Rattle.hidreport_lists.specs.Entry.{Entry}
use Rattle.hidreport_lists.specs.Itemising.{Itemises}
use Rattle.hidreport_program.specs.ItemLines.{items_text, item_name, line_of_item}
use Rattle.hidreport_program.specs.Lines.{bytes_text, newline}
use Rattle.std.specs.Prelude.{codes, decimal}

some-line : (e : Entry) → 0 < length (line_of_item e)
some-line e =
    let name = item_name e.item ++ newline in
    let bytes = bytes_text e.bytes ++ (codes " " ++ name) in
    let whole : length (line_of_item e) ≡ length (decimal e.offset) + (1 + length bytes) =
    length-append (decimal e.offset) (codes " " ++ bytes)
    ∙ ap (λ n. length (decimal e.offset) + n) (length-append (codes " ") bytes) in
    omega (arith, whole)

pub some-items : (bytes : List ℕ) (entries : List Entry) → Itemises item_of bytes entries
    → 0 < length (items_text entries)
some-items bytes [] i = absurd (i.some (sym i.whole))
some-items bytes (e ∷ entries) i =
    let whole : length (items_text (e ∷ entries)) ≡ length (line_of_item e) + length
    (items_text entries) = length-append (line_of_item e) (items_text entries) in
    omega (arith, whole, some-line e)
