use Rattle.std.proofs.Common.{[], ◌∷◌, refl}
use Rattle.hidreport_definitions.proofs.AgreeLemmas.{agrees}
use Rattle.hidreport_definitions.proofs.bits.bytes_agree_on_a_range_of_bits.Goals as goal

pub returns-clause-bit_before : goal.returns-clause-bit_before
returns-clause-bit_before c = agrees 4 8 (0x5a ∷ 0x3c ∷ []) (0x52 ∷ 0x3c ∷ []) refl

pub returns-clause-bit_behind : goal.returns-clause-bit_behind
returns-clause-bit_behind c = agrees 4 8 (0x5a ∷ 0x3c ∷ []) (0x5a ∷ 0x2c ∷ []) refl

pub returns-clause-all_others : goal.returns-clause-all_others
returns-clause-all_others c = agrees 4 8 (0x5a ∷ 0x3c ∷ []) (0x55 ∷ 0xcc ∷ 0x01 ∷ []) refl
