use Rattle.std.proofs.Common.{[], ◌∷◌, subst}
use Rattle.std.specs.Int.{w64}
use Rattle.std.proofs.lemmas.Int.{to_z-of_z}
use Rattle.hidreport_fields.specs.Views.{variable_record}
use Rattle.hidreport_fields.specs.WritingValues.{Inserts, written}
use Rattle.hidreport_fields.proofs.InsertLemmas.{again-of, laws-of}
use Rattle.hidreport_fields.proofs.field.variable_field.VariableField.insert.Goals as goal
use Rattle.hidreport_fields.proofs.field.variable_field.VariableField.insert.Goals.{After-put_value}

inserts : (c : After-put_value)
    → Inserts c.put_value.result c.args.bytes.now c.put_value.new.bytes
    (written (variable_record c.args.self.now) (c.args.value ∷ []) c.args.bytes.now)
inserts c =
    subst (λ z. Inserts c.put_value.result c.args.bytes.now c.put_value.new.bytes
    (written (variable_record c.args.self.now) (z ∷ []) c.args.bytes.now))
    (to_z-of_z w64 c.args.value c.ranges.value) c.put_value.ensures.answer

pub returns-clause-laws : goal.returns-clause-laws
returns-clause-laws c =
    laws-of (variable_record c.args.self.now) (c.args.value ∷ []) c.args.bytes.now
    c.put_value.new.bytes c.put_value.result (λ other. c.put_value.ensures.bytes)
    (inserts (goal.at.returns-clause-laws c).After-put_value)

pub returns-clause-again : goal.returns-clause-again
returns-clause-again c =
    again-of (variable_record c.args.self.now) (c.args.value ∷ []) c.args.bytes.now
    c.put_value.new.bytes c.put_value.result (λ other. c.put_value.ensures.bytes)
    (inserts (goal.at.returns-clause-again c).After-put_value)
