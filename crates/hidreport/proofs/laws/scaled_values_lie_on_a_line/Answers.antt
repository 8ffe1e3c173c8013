use Rattle.std.specs.Prelude.{negsuc, pos, unwrap_or}
use Rattle.hidreport_fields.proofs.ScalingLemmas.{line-is-scale, physical-is-scale}
use Rattle.hidreport.proofs.laws.scaled_values_lie_on_a_line.Goals as goal

pub returns : goal.returns
returns c = record {
  physical = λ a. physical-is-scale (unwrap_or a.physical_minimum (pos 0))
      (unwrap_or a.physical_maximum (pos 0)) a;
  normal = λ a. line-is-scale a.logical_minimum a.logical_maximum (negsuc 0) (pos 1);
}
