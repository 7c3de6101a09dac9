-- The closing of a list as code makes it, and what it leaves. Assumes nothing.
use Rattle.std.specs.Prelude.{◌≡◌, List, ℕ, ℤ, length}
use Rattle.rules.specs.declared.CloseReport.{CloseReport}
use Rattle.rules.specs.Meaning.{Values, clauses}
use Rattle.rules.specs.Closing.{closing}
use Rattle.rules.specs.Rounds.{rounds}
use Rattle.rules.specs.Run.{blank}
use Rattle.rules.specs.Close.{close_report, close_values}
use Rattle.board.specs.declared.close.Closing.{Closing}
use Rattle.board.specs.Closings.{closed_of, rounds_of}

-- what the end of a closing says, by the values that it left
pub record Told (end : Closing) (before : Values) (result : CloseReport) (after : Values) : Type 0 where
  pub result_is : result ≡ close_report (closed_of end before) (rounds_of end)
  pub after_is : after ≡ close_values (length before) (closed_of end before)

-- what it leaves
pub record CloseDone (es : List ℤ) (vars : ℕ) (result : CloseReport) (after : List ℕ) : Type 0 where
  pub result_is : result ≡ close_report (closing (clauses es) (blank vars)) (rounds (clauses es) (blank vars))
  pub values_are : after ≡ close_values vars (closing (clauses es) (blank vars))
