use Rattle.hidreport.proofs.HostAgreeLemmas.{range-agrees, singles-agree}
use Rattle.hidreport.proofs.laws.hosts_agree_with_the_standard.Goals as goal

pub returns : goal.returns
returns c = record { singles = singles-agree; range = range-agrees }
