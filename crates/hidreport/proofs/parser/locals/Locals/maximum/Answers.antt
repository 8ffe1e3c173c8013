use Rattle.std.proofs.Common.{◌∙◌, ap}
use Rattle.hidreport.specs.Usages.{maximum_of}
use Rattle.hidreport.proofs.LocalsLemmas.{last_of, last_local-in}
use Rattle.hidreport.proofs.parser.locals.Locals.maximum.Goals as goal

pub returns : goal.returns
returns c =
    c.copied.ensures ∙ c.last.ensures.value
    ∙ ap last_of (c.deref.ensures.value ∙ c.self.invariant.2)
    ∙ last_local-in maximum_of c.self.view_is
