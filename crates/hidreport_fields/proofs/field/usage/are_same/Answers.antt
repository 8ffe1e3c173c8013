use Rattle.std.proofs.lemmas.Slice.Eq.{slice_eq-Decides}
use Rattle.hidreport_fields.proofs.AlikeLemmas.{usage-decides}
use Rattle.hidreport_fields.proofs.field.usage.are_same.Goals as goal

pub returns : goal.returns
returns c = slice_eq-Decides usage-decides _ _ _ c.eq.ensures
