-- What keeps the open Pushes and collections of a reading.
use Rattle.std.proofs.Common.{◌≡◌, ℕ, Bool, true, false, cond, not}
use Rattle.std.proofs.Common.{◌&&◌, nat_lt}
use Rattle.std.proofs.Common.{Option, None, Some, refl, ◌∙◌}
use Rattle.std.specs.Prelude.{◌==◌, is_some}
use Rattle.hidreport_fields.specs.declared.field.data_item.Direction.{Direction}
use Rattle.std.specs.Prelude.{◌%◌}
use Rattle.hidreport_linux.specs.CoreFields.{if_field, with_field, with_order}
use Rattle.hidreport_linux.specs.CoreReports.{report_at}
use Rattle.hidreport_linux.specs.CoreUsages.{have}
use Rattle.hidreport_linux.specs.CoreReading.{behind_elements, is_input, with_globals}
use Rattle.hidreport_linux.specs.CoreLocals.{cuts_usages}
use Rattle.hidreport_linux.specs.declared.reading.reasons.DoubtReason.TheVariants as doubt
use Rattle.hidreport_linux.specs.declared.reading.reasons.LeftOut.TheVariants as left
use Rattle.hidreport_linux.specs.CoreKept.{ReadingRecord}
use Rattle.hidreport_linux.specs.CoreLocals.{local_doubt}
use Rattle.hidreport_linux.specs.CoreReading.{behind_data, behind_id, behind_local_item}
use Rattle.hidreport_linux.specs.CoreReading.{behind_page, behind_parts, if_both_ids, if_contact}
use Rattle.hidreport_linux.specs.CoreReading.{if_cut, if_elements, if_past_items}
use Rattle.hidreport_linux.specs.CoreReading.{with_cut}
use Rattle.hidreport_linux.specs.CoreReading.{with_doubt, with_doubt_of, with_id, with_report}
use Rattle.hidreport_linux.specs.declared.reading.core_item.CoreItem.{CoreItem}
use Rattle.hidreport_linux.specs.declared.reading.reasons.DoubtReason.{DoubtReason}
use Rattle.hidreport_linux.specs.declared.reading.reasons.LeftOut.{LeftOut}

pub record Keeps (r s : ReadingRecord) : Type 0 where
  pub pushed : s.pushed ≡ r.pushed
  pub around : s.around ≡ r.around

keeps-itself : (r : ReadingRecord) → Keeps r r
keeps-itself r = record { pushed = refl; around = refl }

keeps-both : (r s t : ReadingRecord) → Keeps r s → Keeps s t → Keeps r t
keeps-both r s t first second =
    record { pushed = second.pushed ∙ first.pushed; around = second.around ∙ first.around }

keeps-choice : (b : Bool) (r s t : ReadingRecord) → Keeps r s → Keeps r t → Keeps r (cond b s t)
keeps-choice true r s t first second = first
keeps-choice false r s t first second = second

keeps-doubt : (offset : ℕ) (reason : DoubtReason) (r : ReadingRecord)
    → Keeps r (with_doubt offset reason r)
keeps-doubt offset reason r =
    keeps-choice (is_some r.doubt) r r _ (keeps-itself r) (record { pushed = refl; around = refl })

keeps-doubt_of : (offset : ℕ) (o : Option DoubtReason) (r : ReadingRecord)
    → Keeps r (with_doubt_of offset o r)
keeps-doubt_of offset None r = keeps-itself r
keeps-doubt_of offset (Some reason) r = keeps-doubt offset reason r

keeps-cut : (offset : ℕ) (what : LeftOut) (r : ReadingRecord) → Keeps r (with_cut offset what r)
keeps-cut offset what r =
    keeps-choice (is_some r.left_out) r r _ (keeps-itself r) (record { pushed = refl; around = refl })

keeps-if_cut : (offset : ℕ) (x : CoreItem) (r : ReadingRecord) → Keeps r (if_cut offset x r)
keeps-if_cut offset x r = keeps-choice (cuts_usages x r.locals) r (with_cut offset left.Usages r) r
    (keeps-cut offset left.Usages r) (keeps-itself r)

pub keeps-page : (offset page : ℕ) (r : ReadingRecord) → Keeps r (behind_page offset page r)
keeps-page offset page r = keeps-choice (nat_lt 65535 page) r (with_doubt offset doubt.WidePage r)
    (with_globals (record (r.globals) { page = page }) r) (keeps-doubt offset doubt.WidePage r)
    (record { pushed = refl; around = refl })

pub keeps-local : (offset : ℕ) (x : CoreItem) (r : ReadingRecord)
    → Keeps r (behind_local_item offset x r)
keeps-local offset x r =
    let s = with_doubt_of offset (local_doubt x r.locals) r in
    let both = keeps-both r s (if_cut offset x s)
    (keeps-doubt_of offset (local_doubt x r.locals) r) (keeps-if_cut offset x s) in
    record { pushed = both.pushed; around = both.around }

keeps-order : (d : Direction) (r : ReadingRecord) → Keeps r (with_order d r)
keeps-order d r =
    keeps-choice (report_at d r.globals.id r.reports).is_there r r _ (keeps-itself r)
    (record { pushed = refl; around = refl })

keeps-past : (offset : ℕ) (d : Direction) (r : ReadingRecord) → Keeps r (if_past_items offset d r)
keeps-past offset d r = keeps-choice (nat_lt 256 (report_at d r.globals.id r.reports).items) r
    (with_cut offset left.Items r) r (keeps-cut offset left.Items r) (keeps-itself r)

keeps-contact : (d : Direction) (flags : ℕ) (r : ReadingRecord) → Keeps r (if_contact d flags r)
keeps-contact d flags r =
    keeps-choice ((is_input d && flags % 2 == 0) && have r.globals.page 0xd0051 r.locals.usages)
    r _ r (record { pushed = refl; around = refl }) (keeps-itself r)

keeps-elements : (offset : ℕ) (d : Direction) (r : ReadingRecord) → Keeps r (if_elements offset d r)
keeps-elements offset d r =
    keeps-choice (not (r.locals.usages.count == 0) && nat_lt 0 r.globals.count) r
    (behind_elements offset d r) r (record { pushed = refl; around = refl }) (keeps-itself r)

keeps-field : (offset : ℕ) (d : Direction) (flags : ℕ) (r : ReadingRecord)
    → Keeps r (if_field offset d flags r)
keeps-field offset d flags r =
    keeps-choice (r.locals.usages.count == 0) r r (with_field offset d flags r) (keeps-itself r) (record { pushed = refl; around = refl })

keeps-id : (offset : ℕ) (r : ReadingRecord) → Keeps r (behind_id offset r)
keeps-id offset r =
    let s = with_id r in
    keeps-both r s (if_both_ids offset s) (record { pushed = refl; around = refl })
    (keeps-choice (s.has_ids && s.lacks_ids) s (with_doubt offset doubt.LacksId s) s
    (keeps-doubt offset doubt.LacksId s) (keeps-itself s))

pub keeps-data : (offset : ℕ) (d : Direction) (flags : ℕ) (r : ReadingRecord)
    → Keeps r (behind_data offset d flags r)
keeps-data offset d flags r =
    let a = with_order d r in
    let b = with_report d a in
    let c = if_past_items offset d b in
    let e = if_contact d flags c in
    let f = if_elements offset d e in
    let g = if_field offset d flags f in
    let all = keeps-both r a (behind_parts offset d flags r) (keeps-order d r)
    (keeps-both a b (behind_parts offset d flags r) (record { pushed = refl; around = refl })
    (keeps-both b c (behind_parts offset d flags r) (keeps-past offset d b)
    (keeps-both c e (behind_parts offset d flags r) (keeps-contact d flags c)
    (keeps-both e f (behind_parts offset d flags r) (keeps-elements offset d e)
    (keeps-both f g (behind_parts offset d flags r) (keeps-field offset d flags f)
    (keeps-id offset g)))))) in
    record { pushed = all.pushed; around = all.around }
