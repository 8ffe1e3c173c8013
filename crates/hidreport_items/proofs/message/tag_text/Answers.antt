use Rattle.std.proofs.Common.{◌++◌, ◌∙◌, ap, codes, false}
use Rattle.std.specs.Fmt.{digits}
use Rattle.std.proofs.lemmas.Result.{IfOk-weaker}
use Rattle.hidreport_items.proofs.TextLemmas.{padded_to_six}
use Rattle.hidreport_items.proofs.message.tag_text.Goals as goal

pub returns : goal.returns
returns c =
    let h = rw (c.laid_out.ensures, c.in_radix.ensures) at c.format.ensures.ok in
    IfOk-weaker c.format.result _ _
    (λ t e. e ∙ ap (λ l. codes "Invalid item tag 0b" ++ l)
    (padded_to_six (digits 2 false c.args.tag))) h
