use Rattle.hidreport_fields.specs.Views.{array_record}
use Rattle.hidreport_fields.proofs.FixedBitsLemmas.{fixes}
use Rattle.hidreport_fields.proofs.field.array_field.ArrayField.extract.Goals as goal

pub returns-clause-fixed : goal.returns-clause-fixed
returns-clause-fixed c = fixes (array_record c.args.self.now) c.args.bytes.now
