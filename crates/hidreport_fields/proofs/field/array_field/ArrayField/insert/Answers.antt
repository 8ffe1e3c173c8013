use Rattle.hidreport_fields.specs.Views.{array_record}
use Rattle.hidreport_fields.proofs.InsertLemmas.{again-of, laws-of}
use Rattle.hidreport_fields.proofs.field.array_field.ArrayField.insert.Goals as goal

pub returns-clause-laws : goal.returns-clause-laws
returns-clause-laws c =
    laws-of (array_record c.args.self.now) c.args.values.now c.args.bytes.now
    c.put_elements.new.bytes c.put_elements.result c.put_elements.ensures.bytes
    c.put_elements.ensures.answer

pub returns-clause-again : goal.returns-clause-again
returns-clause-again c =
    again-of (array_record c.args.self.now) c.args.values.now c.args.bytes.now
    c.put_elements.new.bytes c.put_elements.result c.put_elements.ensures.bytes
    c.put_elements.ensures.answer
