use Rattle.std.proofs.Common.{◌≡◌, ◌∙◌, List, [], ◌∷◌, ℤ, Ok, Result, ap, refl, subst}
use Rattle.hidreport.specs.Answer.{Refusal}
use Rattle.hidreport.specs.Reader.{ReadsInto, filled, report_numbers}
use Rattle.hidreport.specs.ReportWriting.{IsReportWritten}
use Rattle.hidreport_example.proofs.whole_reports.written_then_read.Goals as goal

-- numbers in place of themselves
filled-same : (numbers : List ℤ) → filled numbers numbers ≡ numbers
filled-same [] = refl
filled-same (z ∷ numbers) = ap (λ l. z ∷ l) (filled-same numbers)

pub returns-in-Ok : goal.returns-in-Ok
returns-in-Ok c = record {
  same = λ report full stand.
      let values = c.args.values.now in
      let new = c.write.new.bytes in
      let written : IsReportWritten report.fields values c.args.bytes.now new =
      c.in_ok-write.ensures.laws report.fields stand in
      let read : ReadsInto (Ok c.in-Ok.count) values c.read.new.values
      (report_numbers report.fields new) = c.in-Ok.ensures.fields report.fields stand in
      (subst (λ (a : Result (List ℤ) Refusal). ReadsInto (Ok c.in-Ok.count) values c.read.new.values a)
      (written.read report full refl) read).1 ∙ filled-same values;
}
