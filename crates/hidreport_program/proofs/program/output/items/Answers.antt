use Rattle.std.proofs.Common.{◌≡◌, ◌+◌, ◌∙◌, List, ap, sym, arith, length, length-append}
use Rattle.std.proofs.Common.{string_bytes, string_len, subst}
use Rattle.hidreport_items.specs.Spelling.{item_of}
use Rattle.hidreport_lists.specs.Entry.{Entry}
use Rattle.hidreport_lists.specs.Itemising.{Itemises}
use Rattle.hidreport_program.specs.ItemLines.{items_text}
use Rattle.hidreport_program.proofs.SomeTextLemmas.{some-items}
use Rattle.hidreport_program.proofs.program.output.items.Goals as goal

pub returns-in_ok-add_items-in-Ok-clause-some : goal.returns-in_ok-add_items-in-Ok-clause-some
returns-in_ok-add_items-in-Ok-clause-some c =
    let lines = items_text c.as_slice.result.now in
    let some = some-items c.args.descriptor.now c.as_slice.result.now
    (subst (λ (l : List Entry). Itemises item_of c.args.descriptor.now l) (sym c.as_slice.ensures)
    c.in-Ok.ensures.items) in
    let text : length (string_bytes c.add_items.new.text) ≡ length (string_bytes c.new-text.result)
    + length lines =
    ap length c.in_ok-add_items-in-Ok.ensures
    ∙ length-append (string_bytes c.new-text.result) lines in
    let size : string_len c.add_items.new.text ≡ length (string_bytes c.add_items.new.text) =
    grind (arith) in
    omega (arith, size, text, some)
