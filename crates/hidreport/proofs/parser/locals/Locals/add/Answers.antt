use Rattle.std.proofs.Common.{◌≡◌, ◌∙◌, ◌∷◌, ◌++◌, [], option_to_list, append-nil, ap, sym}
use Rattle.hidreport.specs.Parser.Locals.{local_usage}
use Rattle.hidreport.specs.Usages.{maximum_of, minimum_of}
use Rattle.hidreport.specs.declared.parser.locals.Locals.TheInside.{Inside}
use Rattle.hidreport.proofs.LocalsLemmas.{kind-added}
use Rattle.hidreport.proofs.parser.locals.Locals.add.Goals as goal
use Rattle.hidreport.proofs.parser.locals.Locals.add.Goals.{in-Some+in_ok-push, in_default}
use Rattle.hidreport.proofs.parser.locals.Locals.add.Goals.{in-Some-minimum_of+in_ok-push-2}
use Rattle.hidreport.proofs.parser.locals.Locals.add.Goals.{in_default-minimum_of}
use Rattle.hidreport.proofs.parser.locals.Locals.add.Goals.{in-Some-maximum_of+in_ok-push-3}
use Rattle.hidreport.proofs.parser.locals.Locals.add.Goals.{in_default-maximum_of}

-- what is held in two that are the same
parts : (s t : Inside) → s ≡ t → (s.items.items ≡ t.items.items) × (s.usages ≡ t.usages)
    × (s.minima.items ≡ t.minima.items) × (s.maxima.items ≡ t.maxima.items)
parts s t e = (
  ap (λ (s : Inside). s.items.items) e,
  ap (λ (s : Inside). s.usages) e,
  ap (λ (s : Inside). s.minima.items) e,
  ap (λ (s : Inside). s.maxima.items) e,
)

pub invariant_of-self-2 : goal.invariant_of-self-2
invariant_of-self-2 c =
    let local = c.args.local in
    let x = local.item in
    let s0 = c.self.inside in
    let s1 = c.match-local_usage.self-inside in
    let s2 = c.match-minimum_of.self-inside in
    let s3 = c.match-maximum_of.self-inside in
    let one : (s1.items.items ≡ s0.items.items) × (s1.usages ≡ s0.usages ++ option_to_list (local_usage x))
    × (s1.minima.items ≡ s0.minima.items) × (s1.maxima.items ≡ s0.maxima.items) =
    elim c.match-local_usage.branch [
      | in-Some+in_ok-push w ↦ let p = parts _ _ w.self-inside-is in (
        p.0 ∙ c.in_ok-reserve.ensures.items,
        p.1 ∙ w.in_ok-push.ensures.ok
            ∙ ap (λ o. s0.usages ++ option_to_list o) (sym w.in-Some.is ∙ c.local_usage.ensures),
        p.2,
        p.3,
      )
      | in_default w ↦ let p = parts _ _ w.self-inside-is in (
        p.0 ∙ c.in_ok-reserve.ensures.items,
        p.1 ∙ sym (append-nil s0.usages)
            ∙ ap (λ o. s0.usages ++ option_to_list o) (sym w.in_default.is ∙ c.local_usage.ensures),
        p.2,
        p.3,
      )
    ] in
    let two : (s2.items.items ≡ s1.items.items) × (s2.usages ≡ s1.usages)
    × (s2.minima.items ≡ s1.minima.items ++ option_to_list (minimum_of x)) × (s2.maxima.items ≡ s1.maxima.items) =
    elim c.match-minimum_of.branch [
      | in-Some-minimum_of+in_ok-push-2 w ↦ let p = parts _ _ w.self-inside-is in (
        p.0,
        p.1,
        p.2 ∙ w.in_ok-push-2.ensures.items
            ∙ ap (λ o. s1.minima.items ++ option_to_list o) (sym w.in-Some-minimum_of.is ∙ c.minimum_of.ensures),
        p.3,
      )
      | in_default-minimum_of w ↦ let p = parts _ _ w.self-inside-is in (
        p.0,
        p.1,
        p.2 ∙ sym (append-nil s1.minima.items)
            ∙ ap (λ o. s1.minima.items ++ option_to_list o) (sym w.in_default-minimum_of.is ∙ c.minimum_of.ensures),
        p.3,
      )
    ] in
    let three : (s3.items.items ≡ s2.items.items) × (s3.usages ≡ s2.usages)
    × (s3.minima.items ≡ s2.minima.items) × (s3.maxima.items ≡ s2.maxima.items ++ option_to_list (maximum_of x)) =
    elim c.match-maximum_of.branch [
      | in-Some-maximum_of+in_ok-push-3 w ↦ let p = parts _ _ w.self-inside-is in (
        p.0,
        p.1,
        p.2,
        p.3 ∙ w.in_ok-push-3.ensures.items
            ∙ ap (λ o. s2.maxima.items ++ option_to_list o) (sym w.in-Some-maximum_of.is ∙ c.maximum_of.ensures),
      )
      | in_default-maximum_of w ↦ let p = parts _ _ w.self-inside-is in (
        p.0,
        p.1,
        p.2,
        p.3 ∙ sym (append-nil s2.maxima.items)
            ∙ ap (λ o. s2.maxima.items ++ option_to_list o) (sym w.in_default-maximum_of.is ∙ c.maximum_of.ensures),
      )
    ] in
    let more = c.push_reserved.ensures.items
    ∙ ap (λ l. l ++ local ∷ []) (three.0 ∙ two.0 ∙ one.0) in
    let old = s0.items.items in
    let new = c.push_reserved.new.self.items in (
      kind-added local_usage old new local s0.usages s3.usages more c.self.invariant.0
          (three.1 ∙ two.1 ∙ one.1),
      kind-added minimum_of old new local s0.minima.items s3.minima.items more c.self.invariant.1
          (three.2 ∙ two.2 ∙ ap (λ l. l ++ option_to_list (minimum_of x)) one.2),
      kind-added maximum_of old new local s0.maxima.items s3.maxima.items more c.self.invariant.2
          (three.3 ∙ ap (λ l. l ++ option_to_list (maximum_of x)) (two.3 ∙ one.3)),
    )
