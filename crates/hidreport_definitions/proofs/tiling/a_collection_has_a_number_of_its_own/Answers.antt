use Rattle.std.proofs.Common.{◌≡◌, [], ◌∷◌, ap, arith, refl}
use Rattle.hidreport.specs.CollectionItem.TheVariants as kind
use Rattle.hidreport.specs.Records.{CollectionRecord, ConstantRecord}
use Rattle.hidreport.proofs.OwnCollectionsLemmas.{own-collections}
use Rattle.hidreport_definitions.specs.Summary.{place_at}
use Rattle.hidreport_definitions.specs.Tiled.{field_in, logical, physical}
use Rattle.hidreport_definitions.proofs.tiling.a_collection_has_a_number_of_its_own.Goals as goal

pub returns-clause-shared : goal.returns-clause-shared
returns-clause-shared c = own-collections ((physical 0 ∷ []) ∷ [])
    (field_in (physical 0 ∷ []) ∷ field_in (physical 0 ∷ []) ∷ [])
    ((refl, tt), ((refl, tt), tt))

pub returns-clause-apart : goal.returns-clause-apart
returns-clause-apart c = own-collections ((physical 0 ∷ []) ∷ (logical 1 ∷ []) ∷ [])
    (field_in (physical 0 ∷ []) ∷ field_in (logical 1 ∷ []) ∷ [])
    ((refl, tt), ((refl, tt), tt))

pub returns-clause-nested : goal.returns-clause-nested
returns-clause-nested c = own-collections
    ((physical 0 ∷ []) ∷ (physical 0 ∷ logical 1 ∷ []) ∷ (physical 0 ∷ logical 2 ∷ []) ∷ [])
    (field_in (physical 0 ∷ logical 1 ∷ []) ∷ field_in (physical 0 ∷ logical 2 ∷ []) ∷ [])
    ((refl, (refl, tt)), ((refl, (refl, tt)), tt))

pub returns-clause-padding : goal.returns-clause-padding
returns-clause-padding c = own-collections [] (ConstantRecord (place_at 0 0 8) ∷ []) (tt, tt)

pub returns-clause-two_kinds : goal.returns-clause-two_kinds
returns-clause-two_kinds c = λ own.
    let same : (physical 0 ∷ []) ≡ (logical 0 ∷ []) =
    own 0 1 0 0 _ _ _ _ refl refl refl refl refl in
    let one : physical 0 ≡ logical 0 = cc in
    let kinds : kind.Physical ≡ kind.Logical = ap (λ (c : CollectionRecord). c.kind) one in cc

pub returns-clause-two_in_one_field : goal.returns-clause-two_in_one_field
returns-clause-two_in_one_field c = λ own.
    let same : (physical 0 ∷ []) ≡ (physical 0 ∷ physical 0 ∷ []) =
    own 0 0 0 1 _ _ _ _ refl refl refl refl refl in cc

pub returns-clause-two_depths : goal.returns-clause-two_depths
returns-clause-two_depths c = λ own.
    let same : (physical 0 ∷ []) ≡ (logical 1 ∷ physical 0 ∷ []) =
    own 0 1 0 1 _ _ _ _ refl refl refl refl refl in cc

pub returns-clause-two_places : goal.returns-clause-two_places
returns-clause-two_places c = λ own.
    let same : (physical 0 ∷ logical 2 ∷ []) ≡ (physical 1 ∷ logical 2 ∷ []) =
    own 0 1 1 1 _ _ _ _ refl refl refl refl refl in
    let one : physical 0 ≡ physical 1 = cc in
    omega (arith, ap (λ (c : CollectionRecord). c.id) one)
