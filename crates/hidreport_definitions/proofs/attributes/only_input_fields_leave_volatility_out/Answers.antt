use Rattle.std.proofs.Common.{refl}
use Rattle.hidreport_definitions.proofs.attributes.only_input_fields_leave_volatility_out.Goals as
    goal

pub returns : goal.returns
returns c = refl
