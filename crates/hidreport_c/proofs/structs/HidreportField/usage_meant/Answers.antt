use Rattle.std.proofs.Common.{rules, ◌≡◌, int_lt, false, true, slice_get, ◌-ℤ◌, nat_abs, ap, ◌∙◌}
use Rattle.std.specs.Prelude.{◌==◌}
use Rattle.hidreport_c.proofs.UsagesLemmas.{copied-item}
use Rattle.hidreport_c.proofs.structs.HidreportField.usage_meant.Goals as goal

pub returns : goal.returns
returns c =
    let value = c.args.value in
    let f = c.args.self.now in
    let array : (f.kind == 1) ≡ true = search rules in
    let below : int_lt value f.measures.logical_minimum ≡ false = search rules in
    let above : int_lt f.measures.logical_maximum value ≡ false = search rules in
    let found : c.copied.result ≡ slice_get c.args.usages.now c.unsigned_abs-index.result =
    c.copied.ensures
    ∙ copied-item c.args.usages.now c.unsigned_abs-index.result c.get.result c.get.ensures.lookup in
    let index : c.unsigned_abs-index.result ≡ nat_abs (value -ℤ f.measures.logical_minimum) =
    search rules in
    rw (array, below, above) (found ∙ ap (slice_get c.args.usages.now) index)
