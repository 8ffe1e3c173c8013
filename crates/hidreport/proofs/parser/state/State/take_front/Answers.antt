use Rattle.std.proofs.Common.{rules}
use Rattle.hidreport.proofs.FrontStepLemmas.{has-taken}
use Rattle.hidreport.proofs.parser.state.State.take_front.Goals as goal

pub returns-clause-taken : goal.returns-clause-taken
returns-clause-taken c = has-taken c.args.self.now c.take_parts.new.self c.in-Ok.parts c.args.bytes.now
    c.in-Ok.ensures.parts (c.in_ok-take_parts.ensures.taken (search rules))
