use Rattle.std.proofs.Common.{◌≡◌, [], ◌∷◌, Option, rules, subst}
use Rattle.hidreport.specs.Runs.{Joins}
use Rattle.hidreport_c.proofs.PreparedLemmas.{so-far-behind, so-far-first, so-far-joined}
use Rattle.hidreport_c.specs.Prepared.{IsSoFar, as_run, run_of_field}
use Rattle.hidreport_c.specs.declared.structs.HidreportRun.{HidreportRun}
use Rattle.hidreport_c.proofs.prepared.add_field.Goals as goal

pub returns-in_default-last : goal.returns-in_default-last
returns-in_default-last c = λ fields i old within is s.
    let runs = c.args.runs.now in
    let done = c.args.done in
    let own : run_of_field c.args.field.now ≡ as_run c.in-Some.run' ∷ [] = search rules in
    so-far-first fields i c.args.field.now c.in-Some.run' old runs done within is own
    (subst (λ (l : Option HidreportRun). IsSoFar fields i l old runs done) c.in_default-last.is s)

pub returns-in-Some-joined : goal.returns-in-Some-joined
returns-in-Some-joined c = λ fields i old within is s.
    let runs = c.args.runs.now in
    let done = c.args.done in
    let front = c.in-Some-last.front in
    let joined = c.in-Some-joined.joined in
    let own : run_of_field c.args.field.now ≡ as_run c.in-Some.run' ∷ [] = search rules in
    let joins : Joins (as_run front) (as_run c.in-Some.run') (as_run joined) = search rules in
    so-far-joined fields i c.args.field.now front c.in-Some.run' joined old runs done within is own
    joins (subst (λ (l : Option HidreportRun). IsSoFar fields i l old runs done) c.in-Some-last.is s)

pub returns-in-None : goal.returns-in-None
returns-in-None c = λ fields i old within is s.
    let runs = c.args.runs.now in
    let done = c.args.done in
    let front = c.in-Some-last.front in
    let own : run_of_field c.args.field.now ≡ as_run c.in-Some.run' ∷ [] = search rules in
    let held = subst (λ (l : Option HidreportRun). IsSoFar fields i l old runs done) c.in-Some-last.is s
    in so-far-behind fields i c.args.field.now front c.in-Some.run' old runs c.put_run.new.runs done
    within is own held (c.put_run.ensures held.made old held.count held.written)
