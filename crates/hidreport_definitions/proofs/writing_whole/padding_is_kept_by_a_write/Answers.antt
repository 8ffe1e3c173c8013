use Rattle.std.proofs.Common.{◌≡◌, ℕ}
use Rattle.std.proofs.lemmas.List.Elements.{All-nil}
use Rattle.hidreport_definitions.proofs.writing_whole.padding_is_kept_by_a_write.Goals as goal

abbrev number : ℕ → ℕ
number n = n

pub returns-clause-size : goal.returns-clause-size
returns-clause-size c = λ law. let more : number 2 ≡ number 1 = law.size in cc

pub returns-clause-bits : goal.returns-clause-bits
returns-clause-bits c = λ law. let other : number 0 ≡ number 1 = law.kept 0 (All-nil _) in cc
