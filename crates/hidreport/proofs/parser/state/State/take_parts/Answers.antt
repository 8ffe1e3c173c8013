use Rattle.hidreport_items.proofs.ReadingLemmas.{item_of-global, item_of-local}
use Rattle.hidreport.proofs.parser.state.State.take_parts.Goals as goal

pub returns-in-1-clause-taken : goal.returns-in-1-clause-taken
returns-in-1-clause-taken c = rw (item_of-global c.args.header c.args.data_bytes.now c.in-1.is)
    c.take_global_parts.ensures.taken

pub returns-in-2-clause-taken : goal.returns-in-2-clause-taken
returns-in-2-clause-taken c = rw (item_of-local c.args.header c.args.data_bytes.now c.in-2.is)
    c.take_local_parts.ensures.taken
