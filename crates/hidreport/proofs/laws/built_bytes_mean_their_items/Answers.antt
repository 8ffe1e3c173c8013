use Rattle.hidreport.proofs.KeptItemsLemmas.{parse-built}
use Rattle.hidreport.proofs.laws.built_bytes_mean_their_items.Goals as goal

pub returns : goal.returns
returns c = λ options items spelled some. parse-built options items spelled some
