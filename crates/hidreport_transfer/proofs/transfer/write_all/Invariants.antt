use Rattle.std.proofs.Common.{◌≡◌, ◌<◌, ◌≤◌, ◌-◌, false, length, take, drop}
use Rattle.std.specs.Io.KnownBytes.{Appends}
use Rattle.hidreport_transfer.proofs.transfer.write_all.Given as goal

-- A front of the text is written and the rest is left. Before the first write the sink is as it
-- was, and after a write it has not failed.
abbrev pub invariant-loop-rest : goal.invariant-loop-rest
invariant-loop-rest g l = record {
  within : length l.rest ≤ length l.text;
  left : l.rest ≡ drop (length l.text - length l.rest) l.text;
  written : Appends (g.K.Sink.taken l.initial.sink) (g.K.Sink.taken l.sink)
      (take (length l.text - length l.rest) l.text);
  untouched : length l.text ≡ 0 → l.sink ≡ l.initial.sink;
  sound : length l.rest < length l.text → g.K.Sink.has_failed l.sink ≡ false;
}

abbrev pub decreases-loop-rest : goal.decreases-loop-rest
decreases-loop-rest g l = length l.rest
