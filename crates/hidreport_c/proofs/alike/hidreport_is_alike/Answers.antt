use Rattle.std.proofs.Common.{inr, refl}
use Rattle.hidreport_c.proofs.alike.hidreport_is_alike.Goals as goal

pub returns-in-Ok-read : goal.returns-in-Ok-read
returns-in-Ok-read c = inr (
  c.in-Ok.first,
  c.in-Ok.ensures,
  inr (c.in-Ok-read.second, c.in-Ok-read.ensures, refl, c.is_alike.ensures),
)
