-- Reports that their fields fill, of which laws are told.
use Rattle.std.proofs.Common.{◌≢◌, ℕ, [], ◌∷◌, Option, inr, refl, arith}
use Rattle.hidreport.specs.Places.{id_bits}
use Rattle.hidreport.specs.Records.{FieldRecord}
use Rattle.hidreport.specs.Tiling.{Covers, Each, HasNoRest, HasRange, IsFilled, IsOf}
use Rattle.hidreport_definitions.specs.Tiled.{byte_report, report_with}

pub byte-filled : (id : ℕ) → IsFilled (byte_report id 0)
byte-filled id = record {
  some = λ e. cc;
  covers = (refl, omega arith, refl);
  elements = (tt, tt);
  own = (inr refl, tt);
  ranges = (tt, tt);
}

-- two fields fill a report
pub two-filled : (id : Option ℕ) (size : ℕ) (f g : FieldRecord)
    → Covers (id_bits id) (f ∷ g ∷ []) size → Each HasNoRest (f ∷ g ∷ [])
    → Each (IsOf id) (f ∷ g ∷ []) → Each HasRange (f ∷ g ∷ [])
    → IsFilled (report_with id size (f ∷ g ∷ []))
two-filled id size f g covers elements own ranges =
    record {
      some = λ e. cc;
      covers = covers;
      elements = elements;
      own = own;
      ranges = ranges;
    }

pub zero-one : ◌≢◌ {A = ℕ} 0 1
zero-one e = omega (arith, e)

pub one-zero : ◌≢◌ {A = ℕ} 1 0
one-zero e = omega (arith, e)
