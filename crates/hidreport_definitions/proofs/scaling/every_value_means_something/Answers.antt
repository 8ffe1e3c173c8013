use Rattle.std.proofs.Common.{◌≡◌, Bool, false, true, arith, pos}
use Rattle.std.proofs.lemmas.Int.{ints}
use Rattle.hidreport_definitions.proofs.scaling.every_value_means_something.Goals as goal

abbrev is : Bool → Bool
is answer = answer

pub returns : goal.returns
returns c = λ scale.
    let some : is false ≡ is true = scale.some (omega (arith, ints)) (pos 0) in cc
