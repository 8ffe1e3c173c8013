use Rattle.std.proofs.Common.{◌≡◌, ℕ, inl, inr, arith}
use Rattle.hidreport_definitions.proofs.PaddingLemmas.{beside-both}
use Rattle.hidreport_definitions.proofs.writing_whole.bits_around_several_fields_are_kept.Goals as
    goal

abbrev number : ℕ → ℕ
number n = n

pub returns-clause-before : goal.returns-clause-before
returns-clause-before c = λ law. let same : number 0 ≡ number 1 =
    law.kept 0 (beside-both 0 _ _ (inl (omega arith)) (inl (omega arith))) in cc

pub returns-clause-between : goal.returns-clause-between
returns-clause-between c = λ law. let same : number 0 ≡ number 1 =
    law.kept 8 (beside-both 8 _ _ (inr (omega arith)) (inl (omega arith))) in cc

pub returns-clause-behind : goal.returns-clause-behind
returns-clause-behind c = λ law. let same : number 0 ≡ number 1 =
    law.kept 12 (beside-both 12 _ _ (inr (omega arith)) (inr (omega arith))) in cc
