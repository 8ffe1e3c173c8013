use Rattle.std.proofs.Common.{◌≡◌, List, [], ◌∷◌, Option, None, Some, ap, arith, unwrap_or}
use Rattle.std.proofs.Common.{length, sym}
use Rattle.hidreport.specs.Fields.{fields_made}
use Rattle.hidreport.specs.Kinds.{data_of}
use Rattle.hidreport_fields.specs.declared.field.data_item.Direction.{Direction}
use Rattle.hidreport_fields.specs.declared.field.data_item.Direction.TheVariants.{Input, Output}
use Rattle.hidreport.specs.Places.{bits_of}
use Rattle.hidreport_definitions.specs.Repairs.{input}
use Rattle.hidreport_definitions.proofs.repairs.other_items_move_fields.Goals as goal

abbrev alone : Option Direction → List (Option Direction)
alone d = d ∷ []

abbrev three : Option Direction → List (Option Direction)
three d = None ∷ None ∷ d ∷ []

pub returns-clause-direction : goal.returns-clause-direction
returns-clause-direction c = λ same.
    let directions : three (Some Input) ≡ three (Some Output) = same.directions in cc

pub returns-clause-size : goal.returns-clause-size
returns-clause-size c = λ same. omega (arith, ap bits_of (same.extents 2))

pub returns-clause-count : goal.returns-clause-count
returns-clause-count c = λ same. omega (arith, ap bits_of (same.extents 2))

pub returns-clause-report : goal.returns-clause-report
returns-clause-report c = λ same.
    omega (arith, ap (λ id. unwrap_or id 0) (same.reports Input 3))

pub returns-clause-later : goal.returns-clause-later
returns-clause-later c = λ same. omega (arith, same.starts Input 5)

pub returns-clause-as_many_bits : goal.returns-clause-as_many_bits
returns-clause-as_many_bits c = λ same. omega (arith, ap (fields_made (data_of (input 2))) (same.extents 2))

pub returns-clause-no_fields : goal.returns-clause-no_fields
returns-clause-no_fields c = λ same.
    let directions : alone (Some Input) ≡ alone (Some Output) = same.directions in cc

pub returns-clause-fewer : goal.returns-clause-fewer
returns-clause-fewer c = λ same.
    let count : 1 ≡ 0 = ap (λ (l : List (Option Direction)). length l) same.directions in
    omega (arith, count)

pub returns-clause-begins : goal.returns-clause-begins
returns-clause-begins c = λ others same. sym (same.starts Input 3)
