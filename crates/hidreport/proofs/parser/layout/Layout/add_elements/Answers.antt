use Rattle.std.proofs.Common.{◌≡◌, ◌≤◌, ◌<◌, ◌++◌, ◌∙◌, ℕ, List, map, ap, sym, append-nil, arith, rules}
use Rattle.std.proofs.lemmas.List.{map-append}
use Rattle.std.proofs.Common.{[], ◌∷◌, Vec, Global}
use Rattle.hidreport.specs.Fields.{each_from}
use Rattle.hidreport.specs.Parser.Layout.{variable_of, variable_with}
use Rattle.hidreport.specs.Parser.Usages.{usage_list}
use Rattle.hidreport_fields.specs.Views.{field_record}
use Rattle.hidreport_fields.specs.declared.field.Field.{Field}
use Rattle.hidreport_fields.specs.declared.field.usage.Usage.{Usage}
use Rattle.hidreport.proofs.FieldLemmas.{each_from-behind}
use Rattle.hidreport.proofs.GroupLemmas.{made-variable}
use Rattle.hidreport.proofs.HostUsageLemmas.{found-listed}
use Rattle.hidreport.proofs.parser.layout.Layout.add_elements.Goals as goal

pub loop-c-init : goal.loop-c-init
loop-c-init c = (
  sym (append-nil (map field_record c.reserve.new.self.items)),
  omega arith,
  c.in_ok-reserve.ensures.ok,
)

pub usage_of-usage-requires-clause-listed : goal.usage_of-usage-requires-clause-listed
usage_of-usage-requires-clause-listed c =
    let enough : c.args.self.now.count ≤ c.max.result = search rules in
    let lt : c.loop-c.c < c.max.result = omega (arith, enough, c.loop-c-test.true) in
    found-listed (λ (v : Vec Usage Global). v.items) _ c.max.result c.loop-c.c
    (usage_list c.args.usages.now).usages lt c.requires.usages c.in_ok-found.ensures

pub loop-c-preserved : goal.loop-c-preserved
loop-c-preserved c =
    let l = c.args.self.now in
    let of = variable_of l (usage_list c.args.usages.now) in
    let made = made-variable l c.usage_of-usage.result c.loop-c.c _ _ _
    c.make_variable-field.ensures c.place_of.ensures
    (c.in_ok-collections-2.ensures.cases ∙ c.in_ok-collections.ensures) in (
      ap (map field_record) c.push_reserved.ensures.items
          ∙ map-append field_record c.loop-c.fields.items (c.make_variable-field.result ∷ [])
          ∙ each_from-behind of _ _ c.loop-c.c _ c.loop-c.invariant.0
          (made ∙ ap (λ (u : Usage). variable_with l u c.loop-c.c) c.usage_of-usage.ensures),
      omega (arith, c.push_reserved.ensures.len, c.loop-c.invariant.1),
      omega (arith, c.push_reserved.ensures.capacity, c.loop-c.invariant.2),
    )

pub returns : goal.returns
returns c =
    let made = variable_of c.args.self.now (usage_list c.args.usages.now) in
    let all : c.loop-c.c ≡ c.args.self.now.count =
    omega (arith, c.loop-c-test.false, c.loop-c.auto.c-end) in
    c.loop-c.invariant.0
    ∙ ap (λ (fs : List Field). map field_record fs ++ each_from made 0 c.loop-c.c)
    c.in_ok-reserve.ensures.items
    ∙ ap (λ (n : ℕ). map field_record c.args.fields.now.items ++ each_from made 0 n) all
