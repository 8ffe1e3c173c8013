use Rattle.std.proofs.Common.{◌≡◌, ◌↔◌, ℕ, List, [], ◌∷◌, Result, Ok, Err, IfOk}
use Rattle.hidreport.specs.Answer.{AnswersBy}
use Rattle.hidreport.specs.Bits.{AgreeOn, FixesBits, covered_bits}
use Rattle.hidreport.specs.ParserError.{ParserError}
use Rattle.hidreport.specs.Reading.{ValueRecord, reads}
use Rattle.hidreport.specs.Records.{FieldRecord, place_of}
use Rattle.hidreport.specs.Views.{variable_record}
use Rattle.hidreport_example.proofs.fields.value_of.Goals as goal

fixed : (r : Result ValueRecord ParserError) (field : FieldRecord) (bytes other : List ℕ)
    (values : List ValueRecord) → AnswersBy (λ value. value ∷ []) r (reads field bytes)
    → FixesBits field bytes → IfOk r (λ value. reads field other ≡ Ok values
    → ((value ∷ []) ≡ values) ↔ AgreeOn (place_of field).first (covered_bits field) bytes other)
fixed (Ok value) field bytes other values answer law = λ read.
    law other (value ∷ []) values answer read
fixed (Err error) field bytes other values answer law = tt

pub returns-clause-fixed : goal.returns-clause-fixed
returns-clause-fixed c = λ other values.
    fixed c.extract.result (variable_record c.args.field.now) c.args.bytes.now other values c.extract.ensures.answer
    c.extract.ensures.fixed
