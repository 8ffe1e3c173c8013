use Rattle.std.proofs.Common.{subst}
use Rattle.std.specs.Int.{w64}
use Rattle.std.proofs.lemmas.Int.{to_z-of_z}
use Rattle.hidreport_fields.specs.Views.{array_attributes, array_place, array_record}
use Rattle.hidreport_fields.specs.WritingValues.{Inserts, written_element}
use Rattle.hidreport_fields.proofs.InsertLemmas.{element-again-of, element-laws-of}
use Rattle.hidreport_fields.proofs.field.array_field.ArrayField.insert_one.Goals as goal
use Rattle.hidreport_fields.proofs.field.array_field.ArrayField.insert_one.Goals.{After-put_element}

inserts : (c : After-put_element)
    → Inserts c.put_element.result c.args.bytes.now c.put_element.new.bytes
    (written_element (array_record c.args.self.now) c.args.index c.args.value c.args.bytes.now)
inserts c =
    subst (λ z. Inserts c.put_element.result c.args.bytes.now c.put_element.new.bytes
    (written_element (array_record c.args.self.now) c.args.index z c.args.bytes.now))
    (to_z-of_z w64 c.args.value c.ranges.value) c.put_element.ensures.answer

pub returns-clause-laws : goal.returns-clause-laws
returns-clause-laws c =
    element-laws-of _ _ _ _ _ _ _ _ _ _ c.put_element.ensures.bytes
    (inserts (goal.at.returns-clause-laws c).After-put_element)

pub returns-clause-again : goal.returns-clause-again
returns-clause-again c =
    let f = c.args.self.now in
    element-again-of (array_place f) f.usages.items f.is_usage_range f.report_count
    (array_attributes f) c.args.index _ _ _ _ c.put_element.ensures.bytes
    (inserts (goal.at.returns-clause-again c).After-put_element)
