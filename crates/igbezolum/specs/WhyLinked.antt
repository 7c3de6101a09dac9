-- docs/RULES.md, "Why", in the struct that C and Rust get: the answer by its number and its place. Assumes nothing.
use Rattle.std.specs.Prelude.{◌≡◌, List, ℕ}
use Rattle.rules.specs.declared.WhyReport.{WhyReport}
use Rattle.rules.specs.Why.{WhyGiven, why_number, why_place, why_report_of, marks_after, why_values_after}
use Rattle.igbezolum.specs.declared.why.IgbWhyReport.{IgbWhyReport}

abbrev pub why_numbers : WhyReport → IgbWhyReport
why_numbers r =
    record { answer = why_number r.answer; place = why_place r.answer; calls = r.calls; tries = r.tries }

-- what is promised, in numbers
pub record ExplainsIn (g : WhyGiven) (result : IgbWhyReport) (marks values : List ℕ) : Type 0 where
  pub result_is : result ≡ why_numbers (why_report_of g)
  pub marks_are : marks ≡ marks_after g
  pub values_are : values ≡ why_values_after g
