use Rattle.hidreport_usages.proofs.PageTable.{numbers, rising}
use Rattle.hidreport_usages.proofs.tables.PageNamesNameTable.numbers.Goals as goal

pub returns-clause-all : goal.returns-clause-all
returns-clause-all c = numbers

pub returns-clause-rising : goal.returns-clause-rising
returns-clause-rising c = rising
