use Rattle.std.proofs.lemmas.Bool.{lt-ltb}
use Rattle.hidreport_linux.specs.Names.{key_text}
use Rattle.hidreport_linux.proofs.event_code.key_text.Goals as goal

pub returns-then-number-lt256 : goal.returns-then-number-lt256
unfolding key_text
returns-then-number-lt256 c = rw (lt-ltb c.args.number 256 c.if-number-lt256.true) c.text_at.ensures
