-- The open collections as the parser holds them.
use Rattle.std.specs.Prelude.{ℕ, List}
use Rattle.hidreport_fields.specs.Records.{CollectionRecord}

-- those that are open, outermost first, and how many were opened
pub record Opened : Type 0 where
  pub list : List CollectionRecord
  pub count : ℕ
