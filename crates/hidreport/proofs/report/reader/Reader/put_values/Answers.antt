use Rattle.std.proofs.Common.{◌≡◌, ◌∙◌, List, Err, Ok, ap, length, rules, sym, ℕ}
use Rattle.hidreport.specs.Runs.{HasAllValues, count_in, runs_placed, runs_put, runs_written}
use Rattle.hidreport_fields.specs.Tiling.{Each}
use Rattle.hidreport.proofs.RunWriteLemmas.{written-open}
use Rattle.hidreport.proofs.report.reader.Reader.put_values.Goals as goal

pub returns-in_err-check_values-clause-answer : goal.returns-in_err-check_values-clause-answer
returns-in_err-check_values-clause-answer c =
    let runs = c.args.self.now in
    let values = c.args.values.now in
    let bytes = c.args.bytes.now in
    let size : length values ≡ count_in runs = search rules in
    let has : Each (HasAllValues bytes) runs = search rules in
    let placed : runs_placed runs values bytes ≡ Err c.in_err-check_values.field-0.0 = search rules in
    let refused : runs_written runs values bytes ≡ Err c.in_err-check_values.field-0.0 =
    written-open runs values bytes _ size has placed in
    search rules

pub returns-clause-answer : goal.returns-clause-answer
returns-clause-answer c =
    let runs = c.args.self.now in
    let values = c.args.values.now in
    let bytes = c.args.bytes.now in
    let size : length values ≡ count_in runs = search rules in
    let has : Each (HasAllValues bytes) runs = search rules in
    let placed : runs_placed runs values bytes ≡ Ok (runs_put runs values bytes) = search rules in
    let put : c.put_numbers.new.bytes ≡ runs_put runs values bytes = search rules in
    written-open runs values bytes _ size has (placed ∙ ap (λ (l : List ℕ). Ok l) (sym put))
