-- Where all values are there, those before the first that isn't are all of them.
use Rattle.std.proofs.Common.{◌≡◌, ℕ, zero, suc, ◌+◌, Bool, true, false, cond, ◌==◌, not, List, [], ◌∷◌}
use Rattle.std.proofs.Common.{◌++◌, Option, None, Some, Result, Ok, Err, refl, ap, ◌∙◌, ℤ, map, arith}
use Rattle.std.specs.List.{list_any}
use Rattle.std.proofs.lemmas.Grind.{common_steps}
use Rattle.hidreport_lists.specs.Answer.{Refusal, MismatchingReportId}
use Rattle.hidreport_fields.specs.Choosing.{value_number}
use Rattle.hidreport.specs.Reader.{before_numbers, begins_otherwise, each_alone, numbers_before}
use Rattle.hidreport_fields.specs.Reading.{ValueRecord, before_values, each_value, with_id}
use Rattle.hidreport.specs.Runs.{RunRecord, run_reads, run_value, runs_alone, runs_available, runs_read}
use Rattle.hidreport_fields.specs.WritingLaws.{numbers_of}

-- numbers that were read, and those behind them
pub record Both (a b : Result (List ℤ) Refusal) (numbers : List ℤ) : Type 0 where
  pub front : List ℤ
  pub rest : List ℤ
  pub first : a ≡ Ok front
  pub second : b ≡ Ok rest
  pub is : front ++ rest ≡ numbers

pub both : (a b : Result (List ℤ) Refusal) (numbers : List ℤ) → before_numbers a b ≡ Ok numbers
    → Both a b numbers
both (Err e) b numbers h = cc
both (Ok xs) (Err e) numbers h = cc
both (Ok xs) (Ok ys) numbers h =
    record { front = xs; rest = ys; first = refl; second = refl; is = cc }

-- values that were read one by one are there, each by itself
each-there : (f : ℕ → Result ValueRecord Refusal) (index more : ℕ) (values : List ValueRecord)
    → each_value f index more ≡ Ok values
    → each_alone f index more ≡ map (λ (v : ValueRecord). Ok v) values
each-there f index zero values h = let none : [] ≡ values = cc in ap (map (λ (v : ValueRecord). Ok v)) none
each-there f index (suc more) values h =
    join (f index) (each_value f (index + 1) more) (each_alone f (index + 1) more) values h
    (λ rest e. each-there f (index + 1) more rest e) where
      join : (a : Result ValueRecord Refusal) (b : Result (List ValueRecord) Refusal)
          (c : List (Result ValueRecord Refusal)) (values : List ValueRecord)
          → before_values a b ≡ Ok values
          → ((rest : List ValueRecord) → b ≡ Ok rest → c ≡ map (λ (v : ValueRecord). Ok v) rest)
          → a ∷ c ≡ map (λ (v : ValueRecord). Ok v) values
      join (Err e) b c values h more = cc
      join (Ok v) (Err e) c values h more = cc
      join (Ok v) (Ok vs) c values h more =
          let same : v ∷ vs ≡ values = cc in
          ap (λ l. Ok v ∷ l) (more vs refl) ∙ ap (map (λ (x : ValueRecord). Ok x)) same

-- numbers of values that are there, before others
before-there : (values : List ValueRecord) (rest : List (Result ValueRecord Refusal))
    → numbers_before (map (λ (v : ValueRecord). Ok v) values ++ rest)
    ≡ map value_number values ++ numbers_before rest
before-there [] rest = refl
before-there (v ∷ values) rest = ap (λ l. value_number v ∷ l) (before-there values rest)

-- an id that lets numbers through
pub passes : (id : Option ℕ) (bytes : List ℕ) (answer : Result (List ValueRecord) Refusal)
    (numbers : List ℤ) → numbers_of (with_id id bytes answer) ≡ Ok numbers
    → (begins_otherwise bytes id ≡ false) × (numbers_of answer ≡ Ok numbers)
passes None bytes answer numbers h = (refl, h)
passes (Some id) [] answer numbers h = cc
passes (Some id) (b ∷ bytes) answer numbers h = by (b == id) h where
  by : (t : Bool) → numbers_of (cond t answer (Err MismatchingReportId)) ≡ Ok numbers
      → (not t ≡ false) × (numbers_of answer ≡ Ok numbers)
  by true h = (refl, h)
  by false h = cc

-- the values of numbers that were read
record Values (answer : Result (List ValueRecord) Refusal) (numbers : List ℤ) : Type 0 where
  values : List ValueRecord
  given : answer ≡ Ok values
  is : map value_number values ≡ numbers

values-of : (answer : Result (List ValueRecord) Refusal) (numbers : List ℤ)
    → numbers_of answer ≡ Ok numbers → Values answer numbers
values-of (Err e) numbers h = cc
values-of (Ok xs) numbers h = record { values = xs; given = refl; is = cc }

-- so what is there is all that is read
whole : (runs : List RunRecord) (bytes : List ℕ) (numbers : List ℤ)
    → runs_read runs bytes ≡ Ok numbers
    → (list_any (λ (run : RunRecord). begins_otherwise bytes run.id) runs ≡ false)
    × (numbers_before (runs_alone runs bytes) ≡ numbers)
whole [] bytes numbers h = (refl, cc)
whole (run ∷ runs) bytes numbers h =
    let parts = both (run_reads run bytes) (runs_read runs bytes) numbers h in
    let own = passes run.id bytes (each_value (run_value run bytes) 0 run.count) parts.front
    parts.first in
    let here = values-of (each_value (run_value run bytes) 0 run.count) parts.front own.1 in
    let alone = each-there (run_value run bytes) 0 run.count here.values here.given in
    let more = whole runs bytes parts.rest parts.second in
    let none = own.0 in
    let others = more.0 in (
      grind (arith, common_steps, none, others),
      ap (λ l. numbers_before (l ++ runs_alone runs bytes)) alone
          ∙ before-there here.values (runs_alone runs bytes)
          ∙ ap (λ l. l ++ numbers_before (runs_alone runs bytes)) here.is
          ∙ ap (λ l. parts.front ++ l) more.1 ∙ parts.is,
    )

pub whole-available : (runs : List RunRecord) (bytes : List ℕ) (numbers : List ℤ)
    → runs_read runs bytes ≡ Ok numbers → runs_available runs bytes ≡ Ok numbers
whole-available runs bytes numbers h =
    let w = whole runs bytes numbers h in
    ap (λ b. cond b (Err MismatchingReportId) (Ok (numbers_before (runs_alone runs bytes)))) w.0
    ∙ ap (λ (l : List ℤ). Ok l) w.1
