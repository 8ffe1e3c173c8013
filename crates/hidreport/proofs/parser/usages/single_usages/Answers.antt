use Rattle.std.proofs.Common.{◌≡◌, ◌<◌, ◌∙◌, List, ap, subst, sym}
use Rattle.std.specs.Prelude.{count_by}
use Rattle.hidreport.specs.ItemState.{local_items}
use Rattle.hidreport.specs.Parser.Locals.{lacks_page}
use Rattle.hidreport.specs.Usages.{as_single}
use Rattle.hidreport.specs.declared.parser.local_usages.LocalUsage.{LocalUsage}
use Rattle.hidreport.proofs.LocalsLemmas.{single-lacks, single-on, single-own}
use Rattle.hidreport.proofs.parser.usages.single_usages.Goals as goal

pub returns-in-Some-clause-found : goal.returns-in-Some-clause-found
returns-in-Some-clause-found c =
    let held = c.as_slice.ensures ∙ c.usages-usages.ensures in
    rw (c.in-Some.is, held) (ap as_single (single-on c.in-Some.page (local_items c.args.locals.now)))

pub returns-in-None-clause-found : goal.returns-in-None-clause-found
returns-in-None-clause-found c =
    let held = c.as_slice-in-None.ensures ∙ c.usages-usages.ensures in
    let none : count_by lacks_page c.usages-usages.result.now ≡ 0 = c.have_pages.ensures.own
    c.if-have_pages.true in
    rw (c.in-None.is, held) (ap as_single (single-own c.from.result (local_items c.args.locals.now)
    (ap (count_by lacks_page) (sym c.usages-usages.ensures) ∙ none)))

pub returns-in-None-2-clause-found : goal.returns-in-None-2-clause-found
returns-in-None-2-clause-found c =
    let some : 0 < count_by lacks_page c.usages-usages.result.now = c.have_pages.ensures.lacks
    c.if-have_pages.false in
    rw c.in-None.is (ap as_single (single-lacks (local_items c.args.locals.now)
    (subst (λ (us : List LocalUsage). 0 < count_by lacks_page us) c.usages-usages.ensures some)))
