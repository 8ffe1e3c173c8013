use Rattle.std.proofs.Common.{List, [], ◌∷◌, arith, refl}
use Rattle.hidreport.specs.Entry.{Entry}
use Rattle.hidreport.specs.GlobalItem.TheVariants as global
use Rattle.hidreport.specs.ItemType.TheVariants as item
use Rattle.hidreport_definitions.proofs.ByteLemmas.{three}
use Rattle.hidreport_definitions.proofs.applying.a_repair_is_read_alike_once_rebuilt.Goals as goal

abbrev entries : List Entry
entries = record {
  offset = 0;
  bytes = 6 ∷ 1 ∷ 0 ∷ [];
  item = item.Global (global.UsagePage 1);
} ∷ []

pub returns : goal.returns
returns c = λ options d alike read. alike entries d
    (record {
      some = λ e. cc;
      whole = refl;
      each = ((three 6 1 0 (omega arith) (omega arith) (omega arith), refl, refl), tt);
      offsets = (refl, tt);
    }) (λ e. cc) read
