use Rattle.std.proofs.Common.{◌≡◌, ◌∙◌, ◌++◌, ◌∷◌, [], option_to_list, ap}
use Rattle.std.specs.Prelude.{is_some}
use Rattle.hidreport.specs.Parser.Locals.{local_usage}
use Rattle.hidreport.specs.Usages.{maximum_of, minimum_of}
use Rattle.hidreport.proofs.LocalsLemmas.{kind-popped}
use Rattle.hidreport.proofs.parser.locals.Locals.pop.Goals as goal

pub invariant_of-self-2 : goal.invariant_of-self-2
invariant_of-self-2 c =
    let s = c.self.inside in
    let x = c.in-Some.local in
    let old = s.items.items in
    let new = c.pop.new.self.items in
    let less : old ≡ new ++ x ∷ [] =
    c.pop.ensures.items ∙ ap (λ o. new ++ option_to_list o) c.in-Some.is in (
      kind-popped local_usage old new x s.usages c.pop_if.new.self c.is_some.result less
          c.self.invariant.0 (c.is_some.ensures ∙ ap is_some c.local_usage.ensures)
          c.pop_if.ensures,
      kind-popped minimum_of old new x s.minima.items c.pop_if-2.new.list.items c.is_some-2.result
          less c.self.invariant.1 (c.is_some-2.ensures ∙ ap is_some c.minimum_of.ensures)
          c.pop_if-2.ensures,
      kind-popped maximum_of old new x s.maxima.items c.pop_if-3.new.list.items c.is_some-3.result
          less c.self.invariant.2 (c.is_some-3.ensures ∙ ap is_some c.maximum_of.ensures)
          c.pop_if-3.ensures,
    )
