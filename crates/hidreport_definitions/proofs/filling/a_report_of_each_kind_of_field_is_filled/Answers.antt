use Rattle.std.proofs.Common.{inl, inr, refl, arith}
use Rattle.hidreport_definitions.proofs.filling.a_report_of_each_kind_of_field_is_filled.Goals as
    goal

pub returns-clause-with_id : goal.returns-clause-with_id
returns-clause-with_id c = record {
  some = λ e. cc;
  covers = (
    refl,
    omega arith,
    (refl, omega arith, (refl, omega arith, (refl, omega arith, refl))),
  );
  elements = (tt, (tt, (refl, (refl, tt))));
  own = (inr refl, (inl refl, (inr refl, (inr refl, tt))));
  ranges = (tt, (tt, (record { page = 7; low = 4; count = 4; is = refl }, (tt, tt))));
}
