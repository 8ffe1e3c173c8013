use Rattle.hidreport_fields.specs.Views.{variable_record}
use Rattle.hidreport_fields.proofs.FixedBitsLemmas.{fixes}
use Rattle.hidreport_fields.proofs.field.variable_field.VariableField.extract.Goals as goal

pub returns-clause-fixed : goal.returns-clause-fixed
returns-clause-fixed c = fixes (variable_record c.args.self.now) c.args.bytes.now
