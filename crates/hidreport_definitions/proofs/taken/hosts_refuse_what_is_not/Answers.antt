use Rattle.std.proofs.Common.{codes, refl}
use Rattle.hidreport_definitions.specs.Hex.{hex}
use Rattle.hidreport_definitions.specs.Repairs.{as_hid_core, by_hosts}
use Rattle.hidreport_definitions.proofs.TakenLemmas.{cut-not, standard-not, taken-not}
use Rattle.hidreport_definitions.proofs.taken.hosts_refuse_what_is_not.Goals as goal

pub returns-clause-pop : goal.returns-clause-pop
returns-clause-pop c = λ law. taken-not by_hosts (hex (codes "a4 b4 b4")) _ refl refl law

pub returns-clause-end : goal.returns-clause-end
returns-clause-end c = λ law. taken-not by_hosts (hex (codes "a1 00 c0 c0")) _ refl refl law

pub returns-clause-bits : goal.returns-clause-bits
returns-clause-bits c = λ law. taken-not by_hosts (hex (codes "76 01 01")) _ refl refl law

pub returns-clause-elements : goal.returns-clause-elements
returns-clause-elements c = λ law. taken-not by_hosts (hex (codes "96 01 30")) _ refl refl law

pub returns-clause-cut : goal.returns-clause-cut
returns-clause-cut c = λ law. cut-not by_hosts (hex (codes "75")) _ refl law

pub returns-clause-standard : goal.returns-clause-standard
returns-clause-standard c = λ law. standard-not as_hid_core (hex (codes "a4 b4")) refl law

pub returns-clause-most : goal.returns-clause-most
returns-clause-most c = λ options bytes law. law.short
