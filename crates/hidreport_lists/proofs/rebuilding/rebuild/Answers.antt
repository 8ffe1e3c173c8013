use Rattle.std.proofs.Common.{◌∙◌, ap}
use Rattle.std.proofs.lemmas.Result.{err_from_is_err_and}
use Rattle.hidreport_items.specs.Spelling.{item_of}
use Rattle.hidreport_lists.specs.Itemising.{itemise}
use Rattle.hidreport_lists.specs.Rebuilt.{rebuilt_bytes}
use Rattle.hidreport_lists.proofs.RespellingLemmas.{rebuilt-alike, refuses-rebuilding}
use Rattle.hidreport_lists.proofs.RespellingLemmas.{written-again}
use Rattle.hidreport_lists.proofs.RespellingLemmas.{written-canonical, written-itself}
use Rattle.hidreport_lists.proofs.rebuilding.rebuild.Goals as goal

pub returns-in_err-items-clause-exact : goal.returns-in_err-items-clause-exact
returns-in_err-items-clause-exact c =
    let p = err_from_is_err_and c.from_residual.result c.from_residual.ensures.1 in
    rw (p.1, p.2) (refuses-rebuilding c.in_err-items.field-0.0 (itemise item_of c.args.bytes.now)
    c.in_err-items.ensures.exact)

pub returns-in_err-items-clause-alike : goal.returns-in_err-items-clause-alike
returns-in_err-items-clause-alike c = rebuilt-alike c.args.bytes.now

pub returns-in_err-rebuilt-clause-alike : goal.returns-in_err-rebuilt-clause-alike
returns-in_err-rebuilt-clause-alike c = rebuilt-alike c.args.bytes.now

pub returns-clause-canonical : goal.returns-clause-canonical
returns-clause-canonical c = λ entries i.
    written-canonical c.args.bytes.now _ _ entries c.in_ok-items.ensures.items
    (c.in_ok-rebuilt.ensures ∙ ap rebuilt_bytes c.as_slice.ensures) i

pub returns-clause-again : goal.returns-clause-again
returns-clause-again c = λ entries i some.
    written-again c.args.bytes.now _ _ entries c.in_ok-items.ensures.items
    (c.in_ok-rebuilt.ensures ∙ ap rebuilt_bytes c.as_slice.ensures) i some

pub returns-clause-itself : goal.returns-clause-itself
returns-clause-itself c = λ some.
    written-itself c.args.bytes.now _ _ c.in_ok-items.ensures.items
    (c.in_ok-rebuilt.ensures ∙ ap rebuilt_bytes c.as_slice.ensures) some

pub returns-clause-alike : goal.returns-clause-alike
returns-clause-alike c = rebuilt-alike c.args.bytes.now
