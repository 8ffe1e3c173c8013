use Rattle.hidreport_fields.proofs.SignLemmas.{excess-most, excess-set}
use Rattle.hidreport_fields.proofs.field.bit_number.excess.Goals as goal

pub returns-clause-set : goal.returns-clause-set
returns-clause-set c =
    excess-set c.args.width c.args.sum c.requires.some c.requires.narrow c.requires.small

pub returns-clause-most : goal.returns-clause-most
returns-clause-most c =
    excess-most c.args.width c.args.sum c.requires.some c.requires.narrow c.requires.small
