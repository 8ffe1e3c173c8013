use Rattle.std.proofs.Common.{refl}
use Rattle.hidreport_definitions.proofs.usages.the_maximum_is_asked_for_before_the_page.Goals as
    goal

pub returns : goal.returns
returns c = record { both = refl; page = refl }
