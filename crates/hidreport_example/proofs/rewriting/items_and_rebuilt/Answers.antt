use Rattle.hidreport_example.proofs.rewriting.items_and_rebuilt.Goals as goal

pub returns-clause-alike : goal.returns-clause-alike
returns-clause-alike c = λ other others are.
    c.in_ok-rebuilt.ensures.alike other c.in_ok-items.items others c.in_ok-items.ensures.items are
