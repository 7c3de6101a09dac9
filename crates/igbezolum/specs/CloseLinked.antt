-- docs/RULES.md, "What follows at once", in the struct that C and Rust get: the answer by its number and its place. Assumes nothing.
use Rattle.std.specs.Prelude.{◌≡◌, List, ℕ}
use Rattle.rules.specs.declared.CloseReport.{CloseReport}
use Rattle.rules.specs.Close.{CloseGiven, close_number, close_place, close_report_of, close_values_after}
use Rattle.igbezolum.specs.declared.close.IgbClosing.{IgbClosing}

abbrev pub close_numbers : CloseReport → IgbClosing
close_numbers r =
    record { answer = close_number r.answer; place = close_place r.answer; rounds = r.rounds; set = r.set }

-- what is promised, in numbers
pub record ClosesIn (g : CloseGiven) (result : IgbClosing) (after : List ℕ) : Type 0 where
  pub result_is : result ≡ close_numbers (close_report_of g)
  pub values_are : after ≡ close_values_after g
