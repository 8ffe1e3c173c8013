use Rattle.std.proofs.Common.{◌≡◌, Bool, List, [], ◌∷◌, Result, Ok, Err, ap, false, refl, true, ℕ}
use Rattle.hidreport.specs.MeaningFault.{MeaningFault}
use Rattle.hidreport.specs.Usages.{UsageList}
use Rattle.hidreport_fields.specs.declared.field.usage.Usage.{Usage}
use Rattle.hidreport_definitions.proofs.host_laws.both_rules_read_the_same.Goals as goal

abbrev number : ℕ → ℕ
number n = n

abbrev is : Bool → Bool
is answer = answer

-- the page of the first usage
abbrev first_page : List Usage → ℕ
first_page [] = 0
first_page (u ∷ us) = u.usage_page

abbrev page_of : Result UsageList MeaningFault → ℕ
page_of (Ok us) = first_page us.usages
page_of (Err fault) = 0

-- whether the usages are a range
abbrev range_of : Result UsageList MeaningFault → Bool
range_of (Ok us) = us.is_range
range_of (Err fault) = false

pub returns : goal.returns
returns c = record {
  two = refl;
  range = refl;
  wider = λ alike. let same : number 9 ≡ number 1 = ap page_of alike in cc;
  both = λ alike. let same : is true ≡ is false = ap range_of alike in cc;
}
