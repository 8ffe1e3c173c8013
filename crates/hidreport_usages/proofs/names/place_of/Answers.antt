use Rattle.hidreport_usages.proofs.LookupLemmas.{place_found}
use Rattle.hidreport_usages.proofs.names.place_of.Goals as goal

pub returns : goal.returns
returns g c =
    rw (c.ok.ensures.value) (place_found g.T.NameTable.rows c.args.number c.binary_search.result
    (rw (← c.numbers.ensures.all) c.numbers.ensures.rising) (rw (← c.numbers.ensures.all) c.binary_search.ensures.position))
