use Rattle.std.proofs.Common.{◌≡◌, List, subst, sym, arith, None}
use Rattle.std.proofs.lemmas.Grind.{common_steps}
use Rattle.hidreport_types.specs.declared.units.Units.{Units}
use Rattle.hidreport_types.specs.UnitTable.{MakeUp, units_of, if_any}
use Rattle.hidreport_types.proofs.UnitLemmas.{make-up, make-up-none}
use Rattle.hidreport_types.proofs.unit.Unit.units.Goals as goal

pub returns-then-is_empty-clause-law : goal.returns-then-is_empty-clause-law
returns-then-is_empty-clause-law c =
    let none : None ≡ if_any (units_of c.args.self.now) =
    grind (arith, common_steps, c.in_ok-units.ensures) in
    make-up-none c.args.self.now none

pub returns-clause-law : goal.returns-clause-law
returns-clause-law c =
    let P : List Units → Type 0 = λ units. MakeUp units c.args.self.now in
    subst P (sym c.in_ok-units.ensures) (make-up c.args.self.now)
