use Rattle.std.proofs.Common.{◌≡◌, arith, true}
use Rattle.hidreport_fields.specs.Views.{field_record}
use Rattle.hidreport_fields.proofs.AlikeLemmas.{same-here, same-so-far}
use Rattle.hidreport_fields.proofs.field.are_alike.Goals as goal

pub returns-then-not-is_alike : goal.returns-then-not-is_alike
returns-then-not-is_alike c = (
  λ no. (cc),
  λ all.
      let is_alike : c.is_alike.result ≡ true = c.is_alike.ensures.1 (same-here field_record _ _ _ _ _
      c.index-left-index.is c.index-right-index.is (omega arith) (omega arith) all) in
      cc,
)

pub loop-index-preserved : goal.loop-index-preserved
loop-index-preserved c =
    same-so-far field_record _ _ _ _ _ c.index-left-index.is c.index-right-index.is (omega arith)
    (omega arith) c.loop-index.invariant (c.is_alike.ensures.0 c.if-not-is_alike.false)
