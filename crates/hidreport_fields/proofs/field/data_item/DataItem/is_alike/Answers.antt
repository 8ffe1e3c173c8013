use Rattle.std.proofs.Common.{◌≡◌, ◌∙◌, sym, false, true}
use Rattle.hidreport_fields.proofs.FlagLemmas.{equal-flags, equal-options, flags-equal, options-equal}
use Rattle.hidreport_fields.proofs.field.data_item.DataItem.is_alike.Goals as goal

pub returns-else-eq : goal.returns-else-eq
returns-else-eq c = (
  λ is. let no : false ≡ true = sym c.if-eq.false ∙ is in cc,
  λ same. c.eq.ensures ∙ flags-equal c.args.self.now.flags c.args.other.now.flags same.0,
)

pub returns-then-eq : goal.returns-then-eq
returns-then-eq c =
    let own = c.volatile.result in
    let others = c.volatile-then-eq.result in (
      λ is. (
        equal-flags c.args.self.now.flags c.args.other.now.flags
            (sym c.eq.ensures ∙ c.if-eq.true),
        sym c.volatile.ensures ∙ equal-options own others (sym c.eq-then-eq.ensures ∙ is)
            ∙ c.volatile-then-eq.ensures,
      ),
      λ same. c.eq-then-eq.ensures
          ∙ options-equal own others
          (c.volatile.ensures ∙ same.1 ∙ sym c.volatile-then-eq.ensures),
    )
