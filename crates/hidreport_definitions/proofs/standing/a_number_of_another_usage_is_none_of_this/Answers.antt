use Rattle.std.proofs.Common.{ℕ, Option, None, Some, ap, arith}
use Rattle.hidreport_fields.specs.declared.field.usage.Usage.{Usage}
use Rattle.hidreport_definitions.proofs.standing.a_number_of_another_usage_is_none_of_this.Goals as goal

abbrev id_in : Option Usage → ℕ
id_in None = 0
id_in (Some u) = u.usage_id

pub returns-clause-another : goal.returns-clause-another
returns-clause-another c = λ law. omega (arith, ap id_in law.0)

pub returns-clause-outside : goal.returns-clause-outside
returns-clause-outside c = λ law. omega (arith, ap id_in law.0)
