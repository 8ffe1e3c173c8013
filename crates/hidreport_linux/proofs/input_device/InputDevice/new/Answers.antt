use Rattle.std.proofs.Common.{false, None, refl, replicate}
use Rattle.hidreport_linux.proofs.AxisLemmas.{no_axis}
use Rattle.hidreport_linux.proofs.ClaimLemmas.{stands_for_none}
use Rattle.hidreport_linux.proofs.input_device.InputDevice.new.Goals as goal

pub returns-clause-empty : goal.returns-clause-empty
returns-clause-empty c = stands_for_none _ refl

pub returns-clause-axes : goal.returns-clause-axes
returns-clause-axes c =
    no_axis (record {
      application = c.args.application;
      claimed = replicate 872 false;
      axes = replicate 64 None;
    }) refl
