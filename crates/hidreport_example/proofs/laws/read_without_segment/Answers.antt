use Rattle.hidreport_example.proofs.LawLemmas.{of-any-length, without-segment}
use Rattle.hidreport_example.proofs.laws.read_without_segment.Goals as goal

pub returns : goal.returns
returns c = λ lacks.
    without-segment c.args.options c.args.bytes.now c.args.without.now c.in_ok-first.first
    c.in_ok-second.second c.in_ok-first.ensures.struck lacks
    (of-any-length _ _ _ c.in_ok-first.ensures.exact)
    (of-any-length _ _ _ c.in_ok-second.ensures.exact)
