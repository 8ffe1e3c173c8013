use Rattle.std.proofs.Common.{◌≡◌, ◌∙◌, ◌==◌, Err, List, Ok, false, length, rules, subst, sym, true, ap, ℕ}
use Rattle.std.specs.List.{list_any}
use Rattle.hidreport.specs.Tiling.{Each}
use Rattle.hidreport_c.proofs.WritingLemmas.{placed-by-fit, read-written}
use Rattle.hidreport_c.proofs.WritingLemmas.{room-narrow, unread-refused}
use Rattle.hidreport_c.specs.Insert.{Places}
use Rattle.hidreport_c.specs.Reading.{numbers_in}
use Rattle.hidreport_c.specs.Status.{by_status}
use Rattle.hidreport_c.specs.Value.{acceptance}
use Rattle.hidreport_c.specs.Writing.{HasRoomAt, all_fit_at, begins_in_own_id_at, count_at, put_all_at}
use Rattle.hidreport_c.specs.Writing.{report_written_at}
use Rattle.hidreport_c.proofs.writing.write_all.Goals as goal

pub returns-in_err-check_room-clause-answer : goal.returns-in_err-check_room-clause-answer
returns-in_err-check_room-clause-answer c =
    let fields = c.args.fields.now in
    let values = c.args.values.now in
    let bytes = c.args.report.now in
    let status = c.in_err-check_room.field-0.0 in
    let counted : (length values == count_at fields) ≡ true = search rules in
    let refused : Err status ≡ by_status (acceptance (numbers_in fields bytes)) = search rules in
    let told : c.from_residual.result ≡ Err status = search rules in
    subst (λ r. Places r bytes bytes (report_written_at fields values bytes)) (sym told)
    (unread-refused fields values bytes status counted refused)

pub all_hold-requires-clause-narrow : goal.all_hold-requires-clause-narrow
all_hold-requires-clause-narrow c =
    let room : Each (HasRoomAt (length c.args.report.now)) c.args.fields.now = search rules in
    room-narrow (length c.args.report.now) c.args.fields.now room

pub returns-clause-answer : goal.returns-clause-answer
returns-clause-answer c =
    let fields = c.args.fields.now in
    let values = c.args.values.now in
    let bytes = c.args.report.now in
    let counted : (length values == count_at fields) ≡ true = search rules in
    let read : Ok tt ≡ by_status (acceptance (numbers_in fields bytes)) = search rules in
    let away : list_any begins_in_own_id_at fields ≡ false = search rules in
    let fit : all_fit_at fields values ≡ true = search rules in
    let put : c.put_all.new.report ≡ put_all_at fields values bytes = search rules in
    read-written fields values bytes counted read
    ∙ placed-by-fit fields values bytes true away fit ∙ ap (λ (l : List ℕ). Ok l) (sym put)
