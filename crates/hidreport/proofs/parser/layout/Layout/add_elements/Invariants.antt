use Rattle.std.proofs.Common.{◌≡◌, ◌≤◌, ◌+◌, ◌++◌, map, vec_len, vec_capacity}
use Rattle.hidreport.specs.Fields.{each_from}
use Rattle.hidreport.specs.Parser.Layout.{variable_of}
use Rattle.hidreport.specs.Parser.Usages.{usage_list}
use Rattle.hidreport_fields.specs.Views.{field_record}
use Rattle.hidreport.proofs.parser.layout.Layout.add_elements.Given as goal

-- the fields so far, behind those that were there, and room for all
abbrev pub invariant-loop-c : goal.invariant-loop-c
invariant-loop-c l =
    (map field_record l.fields.items
    ≡ map field_record l.initial.fields.items ++ each_from
    (variable_of l.fn.self (usage_list l.fn.usages)) 0 l.c)
    × (vec_len l.fields ≡ vec_len l.initial.fields + l.c) ×
    (vec_len l.initial.fields + l.fn.self.count ≤ vec_capacity l.fields)
