use Rattle.std.proofs.Common.{◌∙◌, sym}
use Rattle.hidreport.specs.Meaning.{parse}
use Rattle.hidreport_example.proofs.LawLemmas.{one}
use Rattle.hidreport_example.proofs.laws.read_by_both.Goals as goal

pub returns : goal.returns
returns c = λ plain.
    one (parse c.args.bytes.now) c.in_ok-locals.locals c.in_ok-globals.globals
    c.in_ok-locals.ensures.exact
    (sym (c.in_ok-globals.ensures.agree plain.entries plain.items plain.none) ∙ c.in_ok-globals.ensures.exact)
