use Rattle.std.proofs.Common.{◌∙◌, ap}
use Rattle.hidreport.specs.Usages.{minimum_of}
use Rattle.hidreport.proofs.LocalsLemmas.{last_of, last_local-in}
use Rattle.hidreport.proofs.parser.locals.Locals.minimum.Goals as goal

pub returns : goal.returns
returns c =
    c.copied.ensures ∙ c.last.ensures.value
    ∙ ap last_of (c.deref.ensures.value ∙ c.self.invariant.1)
    ∙ last_local-in minimum_of c.self.view_is
