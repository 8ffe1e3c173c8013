use Rattle.std.proofs.Common.{refl}
use Rattle.hidreport_types.proofs.WriteLemmas.{again, plainly, then}
use Rattle.hidreport_types.proofs.unit.UnitDisplay.fmt.Goals as goal

pub returns-clause-styled : goal.returns-clause-styled
returns-clause-styled g c =
    let r = c.fmt-6.result in
    let units = then r c.in_ok-fmt.ensures.styled (then r c.in_ok-fmt-2.ensures.styled
    (then r c.in_ok-fmt-3.ensures.styled (then r c.in_ok-fmt-4.ensures.styled
    (then r c.in_ok-fmt-5.ensures.styled c.fmt-6.ensures.styled)))) in
    again r (rw (
      c.length.ensures,
      c.mass.ensures,
      c.time.ensures,
      c.temperature.ensures,
      c.current.ensures,
      c.luminosity.ensures,
    ) refl) units
