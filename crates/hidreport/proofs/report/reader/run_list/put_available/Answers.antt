use Rattle.std.proofs.Common.{◌≡◌, ◌∙◌, ◌+◌, ◌<◌, List, ℤ, ap, sym, arith, take, length}
use Rattle.hidreport.specs.Reader.{each_alone, filled, numbers_before}
use Rattle.hidreport.specs.Runs.{count_in, run_value, runs_alone, set_from}
use Rattle.hidreport.proofs.RunListLemmas.{available-length, available-stops, count-room}
use Rattle.hidreport.proofs.RunListLemmas.{count-taken, put-available-next}
use Rattle.hidreport.proofs.report.reader.run_list.put_available.Goals as goal
use Rattle.hidreport.proofs.report.reader.run_list.put_available.Goals.{Then-count}

pub overflow_add-place : goal.overflow_add-place
overflow_add-place c =
    let room = count-room c.args.runs.now c.loop-run.run-index c.run-item.result
    c.loop-run-test.true c.run-item.is in
    let most = c.put_available-count.ensures.most in
    record { fits = omega (arith, room, most, c.loop-run.invariant.0, c.requires.counted) }

-- the values end in this run
stops : (c : Then-count)
    → numbers_before (runs_alone c.args.runs.now c.args.bytes.now)
    ≡ numbers_before (runs_alone (take (c.loop-run.run-index + 1) c.args.runs.now) c.args.bytes.now)
stops c =
    let run = c.run-item.result in
    let bytes = c.args.bytes.now in
    let part : length (numbers_before (each_alone (run_value run bytes) 0 run.count)) < run.count =
    omega (arith, c.if-count.true, c.count.ensures, c.put_available-count.ensures.count) in
    available-stops c.args.runs.now c.loop-run.run-index run bytes c.loop-run-test.true
    c.run-item.is (c.loop-run.invariant.1 ∙ c.loop-run.invariant.0) part

pub returns-then-count-clause-values : goal.returns-then-count-clause-values
returns-then-count-clause-values c =
    let runs = c.args.runs.now in
    let bytes = c.args.bytes.now in
    let i = c.loop-run.run-index in
    let run = c.run-item.result in
    let whole = c.loop-run.invariant.1 ∙ c.loop-run.invariant.0 in
    c.put_available-count.ensures.values
    ∙ ap (set_from c.loop-run.place (numbers_before (each_alone (run_value run bytes) 0 run.count)))
    c.loop-run.invariant.2
    ∙ put-available-next runs i run bytes c.loop-run.place c.args.values.now c.loop-run-test.true
    c.run-item.is whole (sym c.loop-run.invariant.1)
    ∙ ap (λ (l : List ℤ). filled l c.args.values.now)
    (sym (stops (goal.at.returns-then-count-clause-values c).Then-count))

pub returns-then-count-clause-count : goal.returns-then-count-clause-count
returns-then-count-clause-count c =
    let runs = c.args.runs.now in
    let i = c.loop-run.run-index in
    let run = c.run-item.result in
    let whole = c.loop-run.invariant.1 ∙ c.loop-run.invariant.0 in
    ap (λ n. n + c.put_available-count.result) c.loop-run.invariant.0
    ∙ ap (λ n. count_in (take i runs) + n) c.put_available-count.ensures.count
    ∙ sym (available-length runs i run c.args.bytes.now c.loop-run-test.true c.run-item.is whole)
    ∙ sym (ap length (stops (goal.at.returns-then-count-clause-count c).Then-count))

pub loop-run-preserved : goal.loop-run-preserved
loop-run-preserved c =
    let runs = c.args.runs.now in
    let i = c.loop-run.run-index in
    let run = c.run-item.result in
    let whole = c.loop-run.invariant.1 ∙ c.loop-run.invariant.0 in
    let most = c.put_available-count.ensures.most in
    let all : c.put_available-count.result ≡ run.count =
    omega (arith, c.if-count.false, c.count.ensures, most) in (
      ap (λ n. n + c.put_available-count.result) c.loop-run.invariant.0
          ∙ ap (λ n. count_in (take i runs) + n) all
          ∙ sym (count-taken runs i run c.loop-run-test.true c.run-item.is),
      available-length runs i run c.args.bytes.now c.loop-run-test.true c.run-item.is whole
          ∙ ap (λ n. count_in (take i runs) + n) (sym c.put_available-count.ensures.count)
          ∙ ap (λ n. n + c.put_available-count.result) (sym c.loop-run.invariant.0),
      c.put_available-count.ensures.values
          ∙ ap (set_from c.loop-run.place
          (numbers_before (each_alone (run_value run c.args.bytes.now) 0 run.count))) c.loop-run.invariant.2
          ∙ put-available-next runs i run c.args.bytes.now c.loop-run.place c.args.values.now
          c.loop-run-test.true c.run-item.is whole (sym c.loop-run.invariant.1),
    )
