use Rattle.std.proofs.Common.{zero, suc, [], ◌∷◌, refl, arith}
use Rattle.hidreport.specs.Spelling.{AreBytes}
use Rattle.hidreport_definitions.proofs.canonical.a_header_alone_is_canonical.Goals as goal

small : AreBytes (0xc0 ∷ [])
small zero d k = omega arith
small (suc i) d k = absurd (omega (arith, k))

pub returns : goal.returns
returns c = record {
  spells = (small, refl, refl);
  bare = λ e. refl;
  has_data = λ e. cc;
  shortest = λ other spells more. omega (arith, more);
  smallest = λ other spells same. omega arith;
}
