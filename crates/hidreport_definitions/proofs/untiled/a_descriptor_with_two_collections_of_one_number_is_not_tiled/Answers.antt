use Rattle.std.proofs.Common.{◌≡◌, ℕ, [], ◌∷◌, ap, refl}
use Rattle.hidreport.specs.CollectionItem.TheVariants as kind
use Rattle.hidreport.specs.Records.{CollectionRecord, fields_in_all}
use Rattle.hidreport.specs.Tiling.{HaveOwnCollections}
use Rattle.hidreport_definitions.specs.Tiled.{logical, physical, report_in}
use Rattle.hidreport_definitions.proofs.untiled.a_descriptor_with_two_collections_of_one_number_is_not_tiled.Goals as goal

-- whatever the number of the second report is
apart : (number : ℕ) → HaveOwnCollections (fields_in_all (report_in 1 0 (physical 0 ∷ [])
    ∷ report_in number 1 (logical 0 ∷ []) ∷ [])) → ⊥
apart number own = let same : (physical 0 ∷ []) ≡ (logical 0 ∷ []) =
    own 0 1 0 0 _ _ _ _ refl refl refl refl refl in
    let one : physical 0 ≡ logical 0 = cc in
    let kinds : kind.Physical ≡ kind.Logical = ap (λ (c : CollectionRecord). c.kind) one in cc

pub returns-clause-one_direction : goal.returns-clause-one_direction
returns-clause-one_direction c = λ tiled. apart 2 tiled.collections

pub returns-clause-input_output : goal.returns-clause-input_output
returns-clause-input_output c = λ tiled. apart 1 tiled.collections

pub returns-clause-input_feature : goal.returns-clause-input_feature
returns-clause-input_feature c = λ tiled. apart 1 tiled.collections

pub returns-clause-output_feature : goal.returns-clause-output_feature
returns-clause-output_feature c = λ tiled. apart 1 tiled.collections
