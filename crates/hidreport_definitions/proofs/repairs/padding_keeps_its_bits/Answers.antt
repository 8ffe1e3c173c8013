use Rattle.std.proofs.Common.{ℕ, List, [], ◌∷◌, refl, arith}
use Rattle.hidreport.specs.Options.{default_options}
use Rattle.hidreport.specs.GlobalItem.TheVariants as global
use Rattle.hidreport.specs.ItemType.{ItemType}
use Rattle.hidreport.specs.ItemType.TheVariants as item
use Rattle.hidreport.specs.LocalItem.TheVariants as local
use Rattle.hidreport.proofs.OutlineLemmas.{same-places}
use Rattle.hidreport_definitions.specs.Repairs.{input}
use Rattle.hidreport_definitions.proofs.ByteLemmas.{two}
use Rattle.hidreport_definitions.proofs.PieceLemmas.{unchanged, written_at}
use Rattle.hidreport_definitions.proofs.repairs.padding_keeps_its_bits.Goals as goal

-- the items, each put down in a way, where the first Input item has these flags
abbrev items : {A : Type 0} → (ℕ → ℕ → ℕ → ItemType → A) → ℕ → List A
items put flags = put 0 5 1 (item.Global (global.UsagePage 1))
    ∷ put 2 0x75 8 (item.Global (global.ReportSize 8))
    ∷ put 4 0x95 1 (item.Global (global.ReportCount 1))
    ∷ put 6 0x81 flags (input flags)
    ∷ put 8 9 0x30 (item.Local (local.UsageId 0x30))
    ∷ put 10 0x81 2 (input 2) ∷ []

pub returns : goal.returns
returns c = record {
  read = items unchanged 2;
  reads = refl;
  entries = items written_at 3;
  written = record {
    some = λ e. cc;
    whole = refl;
    each = (
      (two 5 1 (omega arith) (omega arith), refl, refl),
      (
        (two 0x75 8 (omega arith) (omega arith), refl, refl),
        (
          (two 0x95 1 (omega arith) (omega arith), refl, refl),
          (
            (two 0x81 3 (omega arith) (omega arith), refl, refl),
            (
              (two 9 0x30 (omega arith) (omega arith), refl, refl),
              ((two 0x81 2 (omega arith) (omega arith), refl, refl), tt),
            ),
          ),
        ),
      ),
    );
    offsets = (refl, (refl, (refl, (refl, (refl, (refl, tt))))));
  };
  places = same-places default_options _ _ refl;
}
