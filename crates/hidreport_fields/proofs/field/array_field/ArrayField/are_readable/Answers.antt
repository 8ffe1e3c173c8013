use Rattle.std.proofs.Common.{◌≡◌, ℕ, ◌+◌, ◌-◌, ◌*◌, ◌≤◌, ◌∙◌, sym, subst}
use Rattle.std.proofs.Common.{length, arith}
use Rattle.hidreport_fields.proofs.ElementLemmas.{elements-readable-by, elements-refused-by}
use Rattle.hidreport_fields.proofs.ElementLemmas.{readable-bits}
use Rattle.hidreport_fields.proofs.field.array_field.ArrayField.are_readable.Goals as goal

pub returns-clause-readable : goal.returns-clause-readable
returns-clause-readable c = λ t.
    let last : c.args.self.now.report_count ≡ c.from-count.result - 1 + 1 = omega arith in
    elements-readable-by _ _ _ _ _ _ _ _ _ last c.requires.width c.element_first-last.ensures.first
    (sym c.are_readable.ensures ∙ t)

pub returns-clause-outside : goal.returns-clause-outside
returns-clause-outside c = λ t.
    let last : c.args.self.now.report_count ≡ c.from-count.result - 1 + 1 = omega arith in
    elements-refused-by _ _ _ _ _ _ _ _ _ last c.requires.width c.element_first-last.ensures.first
    (sym c.are_readable.ensures ∙ t)

pub returns-clause-inside : goal.returns-clause-inside
returns-clause-inside c = λ t some.
    let f = c.args.self.now in
    let last : f.report_count ≡ c.from-count.result - 1 + 1 = omega arith in
    let bits = readable-bits c.element_first-last.result c.args.width c.args.bytes.now
    (sym c.are_readable.ensures ∙ t) in (
      bits.0,
      bits.1,
      whole f.bits.start c.args.width f.report_count (c.from-count.result - 1)
          c.element_first-last.result (8 * length c.args.bytes.now) last
          c.element_first-last.ensures.first bits.2,
    ) where
      whole : (first w count last p room : ℕ) → count ≡ last + 1 → p ≡ first + w * last
          → p + w ≤ room → first + w * count ≤ room
      whole first w count last p room e ep le =
          let parts : w * (last + 1) ≡ w * last + w = omega arith in
          subst (λ n. first + w * n ≤ room) (sym e) (omega arith)
