use Rattle.std.proofs.Common.{◌≡◌, Bool, false, true}
use Rattle.hidreport_definitions.proofs.spelling.a_long_header_is_not_short.Goals as goal

abbrev is : Bool → Bool
is answer = answer

pub returns : goal.returns
returns c = λ law. let short : is true ≡ is false = law.1 in cc
