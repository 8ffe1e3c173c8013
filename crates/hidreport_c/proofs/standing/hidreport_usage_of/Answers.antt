use Rattle.std.proofs.Common.{◌≡◌, ℕ, Bool, List, map, option_map, ap, sym, w64, ◌∙◌}
use Rattle.std.proofs.lemmas.Int.{to_z-of_z}
use Rattle.hidreport.specs.Choosing.{usage_chosen}
use Rattle.hidreport.specs.Records.{ArrayRecord, Attributes, FieldPlace}
use Rattle.hidreport.specs.UsageNumber.{usage_number}
use Rattle.hidreport_fields.specs.declared.field.usage.Usage.{Usage}
use Rattle.hidreport_c.proofs.UsagesLemmas.{meant-chosen}
use Rattle.hidreport_c.specs.Field.{as_c}
use Rattle.hidreport_c.specs.Usages.{usage_as_c, usage_meant}
use Rattle.hidreport_c.proofs.standing.hidreport_usage_of.Goals as goal
use Rattle.hidreport_c.proofs.standing.hidreport_usage_of.Goals.{After-usage_meant}

-- the usage that is meant is the one that the field chooses
chosen : (c : After-usage_meant) (place : FieldPlace) (listed : List Usage) (is_range : Bool)
    (count : ℕ) (shared : Attributes)
    → c.args.field.now ≡ as_c (ArrayRecord place listed is_range count shared)
    → c.args.usages.now ≡ map usage_number listed
    → c.usage_meant.result ≡ option_map usage_number
    (usage_chosen listed shared.logical_minimum shared.logical_maximum c.args.value)
chosen c place listed is_range count shared is all =
    c.usage_meant.ensures
    ∙ ap (usage_meant c.args.field.now c.args.usages.now)
    (to_z-of_z w64 c.args.value (record { sfits = c.ranges.value.sfits }))
    ∙ meant-chosen place listed is_range count shared c.args.field.now c.args.usages.now
    c.args.value is all

pub returns-in-Some-clause-chosen : goal.returns-in-Some-clause-chosen
returns-in-Some-clause-chosen c = λ place listed is_range count shared is all.
    ap usage_as_c (sym c.in-Some.is
    ∙ chosen (goal.at.returns-in-Some-clause-chosen c).After-usage_meant place listed is_range
    count shared is all)

pub returns-in-None-clause-chosen : goal.returns-in-None-clause-chosen
returns-in-None-clause-chosen c = λ place listed is_range count shared is all.
    ap usage_as_c (sym c.in-None.is
    ∙ chosen (goal.at.returns-in-None-clause-chosen c).After-usage_meant place listed is_range
    count shared is all)
