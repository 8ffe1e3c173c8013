use Rattle.std.proofs.Common.{◌≡◌, rules, arith, string_bytes}
use Rattle.std.specs.Prelude.{codes}
use Rattle.hidreport_program.specs.Command.{IsLimit}
use Rattle.hidreport_program.proofs.WordLemmas.{form_of_first, second_word}
use Rattle.hidreport_program.proofs.program.commands.command_of.Goals as goal

pub returns-in-len2-clause-asked : goal.returns-in-len2-clause-asked
returns-in-len2-clause-asked c =
    let named : string_bytes c.name-item.result ≡ codes "items" = search rules in
    form_of_first string_bytes c.args.words.now c.name-item.result _ 2 (omega arith) (omega arith)
    c.name-item.is named

pub returns-in-len3-clause-asked : goal.returns-in-len3-clause-asked
returns-in-len3-clause-asked c =
    let named : string_bytes c.name-item-then-words-lt4.result ≡ codes "values" = search rules in
    form_of_first string_bytes c.args.words.now c.name-item-then-words-lt4.result _ 3 (omega arith)
    (omega arith) c.name-item-then-words-lt4.is named

pub returns-in-len3-2-clause-asked : goal.returns-in-len3-2-clause-asked
returns-in-len3-2-clause-asked c =
    let named : string_bytes c.name-item-then-words-lt4-2.result ≡ codes "values-globals" =
    search rules in
    form_of_first string_bytes c.args.words.now c.name-item-then-words-lt4-2.result _ 3
    (omega arith) (omega arith) c.name-item-then-words-lt4-2.is named

pub returns-in-len2-2-clause-asked : goal.returns-in-len2-2-clause-asked
returns-in-len2-2-clause-asked c =
    let named : string_bytes c.name-item-then-words-lt3.result ≡ codes "rebuild" = search rules in
    form_of_first string_bytes c.args.words.now c.name-item-then-words-lt3.result _ 2 (omega arith)
    (omega arith) c.name-item-then-words-lt3.is named

pub returns-in_ok-limit_of-in-len4-clause-asked : goal.returns-in_ok-limit_of-in-len4-clause-asked
returns-in_ok-limit_of-in-len4-clause-asked c =
    let named : string_bytes c.name-item-then-words-lt5.result ≡ codes "values-within" =
    search rules in
    let limit : IsLimit (string_bytes c.limit-item.result) c.in_ok-limit_of-in-len4.field-0 =
    search rules in (
      form_of_first string_bytes c.args.words.now c.name-item-then-words-lt5.result _ 4
          (omega arith) (omega arith) c.name-item-then-words-lt5.is named,
      second_word string_bytes c.args.words.now c.limit-item.result
          (λ w. IsLimit w c.in_ok-limit_of-in-len4.field-0) (omega arith) c.limit-item.is limit,
    )

pub returns-in_ok-limit_of-in-len4-2-clause-asked :
    goal.returns-in_ok-limit_of-in-len4-2-clause-asked
returns-in_ok-limit_of-in-len4-2-clause-asked c =
    let named : string_bytes c.name-item-then-words-lt5-2.result ≡ codes "values-globals-within" =
    search rules in
    let limit : IsLimit (string_bytes c.limit-item-then-words-lt5.result)
    c.in_ok-limit_of-in-len4-2.field-0 =
    search rules in (
      form_of_first string_bytes c.args.words.now c.name-item-then-words-lt5-2.result _ 4
          (omega arith) (omega arith) c.name-item-then-words-lt5-2.is named,
      second_word string_bytes c.args.words.now c.limit-item-then-words-lt5.result
          (λ w. IsLimit w c.in_ok-limit_of-in-len4-2.field-0)
          (omega arith) c.limit-item-then-words-lt5.is limit,
    )
