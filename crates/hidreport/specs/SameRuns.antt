-- Runs that read and write the same, however they are parted (Section 5.8).
use Rattle.std.specs.Prelude.{◌≡◌, ℕ, ℤ, Bool, List}
use Rattle.std.specs.List.{list_any}
use Rattle.hidreport_items.specs.Spelling.{AreBytes}
use Rattle.hidreport.specs.Reader.{begins_otherwise}
use Rattle.hidreport.specs.Runs.{RunRecord, count_in, run_in_id, runs_alone, runs_fit, runs_put}
use Rattle.hidreport.specs.Runs.{runs_read}

-- one of the runs is read by another id than the one that bytes begin with
abbrev pub of_another : List ℕ → RunRecord → Bool
of_another bytes run = begins_otherwise bytes run.id

-- what reading and writing ask of runs is the same of both
pub record SameRuns (xs ys : List RunRecord) : Type 0 where
  pub reads : (bytes : List ℕ) → runs_read xs bytes ≡ runs_read ys bytes
  pub alone : (bytes : List ℕ) → runs_alone xs bytes ≡ runs_alone ys bytes
  pub ids : (bytes : List ℕ) → list_any (of_another bytes) xs ≡ list_any (of_another bytes) ys
  pub count : count_in xs ≡ count_in ys
  pub in_id : list_any run_in_id xs ≡ list_any run_in_id ys
  pub fits : (numbers : List ℤ) → runs_fit xs numbers ≡ runs_fit ys numbers
  pub puts : (numbers : List ℤ) (bytes : List ℕ) → AreBytes bytes
      → runs_put xs numbers bytes ≡ runs_put ys numbers bytes
