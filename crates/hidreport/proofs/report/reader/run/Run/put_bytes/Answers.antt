use Rattle.std.proofs.Common.{◌≡◌, ◌∙◌, ◌+◌, ◌*◌, ◌/◌, ◌<◌, FitsSigned, ap, arith, length, pos, sym, rules}
use Rattle.std.specs.Int.{w64}
use Rattle.std.specs.Prelude.{slice_index, slice_set}
use Rattle.std.proofs.lemmas.Int.{to_z-of_z}
use Rattle.hidreport_lists.proofs.CutLemmas.{are_bytes}
use Rattle.hidreport.specs.Runs.{number_at}
use Rattle.hidreport.proofs.FilledLemmas.{byte-value, put-next}
use Rattle.hidreport.proofs.RunReadLemmas.{inside-parts}
use Rattle.hidreport.proofs.report.reader.run.Run.put_bytes.Goals as goal

pub loop-index-preserved : goal.loop-index-preserved
loop-index-preserved c =
    let run = c.args.self.now in
    let bytes = c.args.bytes.now in
    let index = c.loop-index.index in
    let before : index < c.args.room = c.loop-index-test.true in
    let inside = inside-parts run (8 * length bytes) c.requires.there (omega (arith, c.requires.few, before)) in
    let within = inside.within in
    let wide : run.width * run.count ≡ 8 * run.count = ap (λ w. w * run.count) c.requires.width in
    let lt : run.first / 8 + index < length bytes = omega (arith, within, wide, c.requires.few, before) in
    let byte : c.from.result ≡ pos (slice_index bytes (run.first / 8 + index)) = search rules in
    let fits : FitsSigned w64 c.from.result = search rules in
    let is : c.from.result ≡ number_at run bytes index =
    byte ∙ sym (byte-value run bytes (are_bytes _ (λ i. omega (arith, c.type_inv.bytes i))) index
    c.requires.width c.requires.plain c.requires.aligned lt) in
    ap (slice_set c.loop-index.values (c.args.place + index)) (to_z-of_z w64 c.from.result fits ∙ is)
    ∙ ap (λ l. slice_set l (c.args.place + index) (number_at run bytes index)) c.loop-index.invariant
    ∙ sym (put-next run bytes index c.args.place c.args.values.now)
