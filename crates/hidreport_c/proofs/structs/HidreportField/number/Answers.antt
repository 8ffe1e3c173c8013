use Rattle.std.proofs.Common.{◌≡◌, ◌+◌, ◌*◌, ◌∙◌, ℤ, FitsSigned, pos, int_lt, rules, subst, sym, w64}
use Rattle.std.proofs.lemmas.Int.{to_z-of_z}
use Rattle.hidreport_fields.specs.BitValue.{value}
use Rattle.hidreport_c.proofs.NumberLemmas.{field-bits, field-number}
use Rattle.hidreport_c.specs.Value.{IsNumberOf, element_at}
use Rattle.hidreport_c.proofs.structs.HidreportField.number.Goals as goal

pub number_at-requires-clause-some : goal.number_at-requires-clause-some
number_at-requires-clause-some c =
    (field-bits c.args.self.now c.args.width c.args.index c.args.report.now c.requires.width
    c.requires.there c.requires.read).some

pub number_at-requires-clause-narrow : goal.number_at-requires-clause-narrow
number_at-requires-clause-narrow c =
    (field-bits c.args.self.now c.args.width c.args.index c.args.report.now c.requires.width
    c.requires.there c.requires.read).narrow

pub number_at-requires-clause-within : goal.number_at-requires-clause-within
number_at-requires-clause-within c =
    (field-bits c.args.self.now c.args.width c.args.index c.args.report.now c.requires.width
    c.requires.there c.requires.read).within

pub returns : goal.returns
returns c =
    let f = c.args.self.now in
    let bytes = c.args.report.now in
    let first = f.first_bit + c.args.width * c.args.index in
    let has = field-bits f c.args.width c.args.index bytes c.requires.width c.requires.there
    c.requires.read in
    let is : c.number_at.result
    ≡ value bytes first c.args.width (int_lt f.measures.logical_minimum (pos 0)) = search rules in
    let fits : FitsSigned w64 c.number_at.result = search rules in
    subst (λ (n : ℤ). IsNumberOf (element_at f bytes c.args.index) n)
    (sym (to_z-of_z w64 c.number_at.result fits ∙ is))
    (field-number f c.args.width c.args.index bytes c.requires.width has)
