use Rattle.std.proofs.Common.{rules, ℕ, ◌≡◌, int_lt, false, List, Option, None, Some, length}
use Rattle.std.proofs.Common.{slice_get, ◌-ℤ◌, nat_abs, Bor, refl, ap, sym, subst, ◌∙◌}
use Rattle.std.proofs.lemmas.Option.{slice_get_past, slice_get_read}
use Rattle.std.specs.Option.{option_copied}
use Rattle.std.specs.Slice.{IsItemAt}
use Rattle.hidreport_fields.specs.Choosing.{value_number}
use Rattle.hidreport_fields.specs.declared.field.usage.Usage.{Usage}
use Rattle.hidreport_fields.proofs.field.array_field.ArrayField.usage_of.Goals as goal

-- what `get` lends, copied
copied-item : (us : List Usage) (i : ℕ) (r : Option (Bor Usage)) → IsItemAt us i r
    → option_copied r ≡ slice_get us i
copied-item us i None item = sym (slice_get_past us i item.3)
copied-item us i (Some b) item = sym (slice_get_read us (length us) i b.now refl item.3.0 item.1)

pub returns : goal.returns
returns c =
    let number = value_number c.args.value in
    let f = c.args.self.now in
    let below : int_lt number f.logical_minimum ≡ false = search rules in
    let above : int_lt f.logical_maximum number ≡ false = search rules in
    let item : IsItemAt f.usages.items c.unsigned_abs-index.result c.get.result =
    subst (λ (us : List Usage). IsItemAt us c.unsigned_abs-index.result c.get.result)
    c.deref.ensures.value c.get.ensures.lookup in
    let found : c.copied.result ≡ slice_get f.usages.items c.unsigned_abs-index.result =
    c.copied.ensures ∙ copied-item f.usages.items c.unsigned_abs-index.result c.get.result item in
    let index : c.unsigned_abs-index.result ≡ nat_abs (number -ℤ f.logical_minimum) =
    search rules in
    rw (below, above) (found ∙ ap (slice_get f.usages.items) index)
