use Rattle.std.proofs.Common.{◌≡◌, ◌++◌, drop, ap, rules, ◌∙◌}
use Rattle.std.specs.Prelude.{replicate}
use Rattle.hidreport.specs.Blank.{with_first}
use Rattle.hidreport_c.proofs.BlankLemmas.{blank-written}
use Rattle.hidreport_c.specs.Blank.{own_id_of}
use Rattle.hidreport_c.proofs.blank.hidreport_blank.Goals as goal

pub returns-clause-written : goal.returns-clause-written
returns-clause-written c =
    let old = c.args.bytes.now in
    let m = c.min-count.result in
    let id = own_id_of c.args.report.now in
    let zeros : c.fill.new.self ≡ replicate m 0 = search rules in
    ap (λ l. l ++ drop m old) (c.put_id.ensures ∙ ap (with_first id) zeros)
    ∙ blank-written id c.args.report.now.size_in_bytes m old
    c.min-count.ensures
