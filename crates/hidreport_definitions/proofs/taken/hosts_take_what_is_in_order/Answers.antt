use Rattle.std.proofs.Common.{arith, refl}
use Rattle.hidreport_definitions.proofs.taken.hosts_take_what_is_in_order.Goals as goal

pub returns-clause-pop : goal.returns-clause-pop
returns-clause-pop c = record {
  hosts = refl;
  short = omega arith;
  read = _;
  reads = refl;
  taken = refl;
}

pub returns-clause-end : goal.returns-clause-end
returns-clause-end c = record {
  hosts = refl;
  short = omega arith;
  read = _;
  reads = refl;
  taken = refl;
}

pub returns-clause-zero : goal.returns-clause-zero
returns-clause-zero c = record {
  hosts = refl;
  short = omega arith;
  read = _;
  reads = refl;
  taken = refl;
}

pub returns-clause-unknown : goal.returns-clause-unknown
returns-clause-unknown c = record {
  hosts = refl;
  short = omega arith;
  read = _;
  reads = refl;
  taken = refl;
}

pub returns-clause-bits : goal.returns-clause-bits
returns-clause-bits c = record {
  hosts = refl;
  short = omega arith;
  read = _;
  reads = refl;
  taken = refl;
}

pub returns-clause-elements : goal.returns-clause-elements
returns-clause-elements c = record {
  hosts = refl;
  short = omega arith;
  read = _;
  reads = refl;
  taken = refl;
}
