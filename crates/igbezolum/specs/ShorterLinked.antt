-- docs/RULES.md, "The shorter file", in the struct that C and Rust get: the run's numbers, and the length of the text. Assumes nothing.
use Rattle.std.specs.Prelude.{◌≡◌, List, ℕ, ◌≤◌}
use Rattle.rules.specs.declared.ShorterReport.{ShorterReport}
use Rattle.rules.specs.Numbers.{max_text, max_entries, run_number, run_place}
use Rattle.texts.specs.Shorter.{ShorterGiven, shorter_report_of, shorter_text_after}
use Rattle.igbezolum.specs.declared.shorten.IgbShorter.{IgbShorter}

abbrev pub shorter_numbers : ShorterReport → IgbShorter
shorter_numbers r =
    record {
      answer = run_number r.run.answer;
      place = run_place r.run.answer;
      calls = r.run.calls;
      tries = r.run.tries;
      forced = r.run.forced;
      free = r.run.free;
      length = r.length;
    }

-- place and length fit the fields of the struct
pub record ShorterFits (r : ShorterReport) : Type 0 where
  pub place_fits : run_place r.run.answer ≤ max_entries
  pub length_fits : r.length ≤ max_text

-- what is promised, in numbers
pub record ShortensIn (g : ShorterGiven) (result : IgbShorter) (after : List ℕ) : Type 0 where
  pub result_is : result ≡ shorter_numbers (shorter_report_of g)
  pub text_is : after ≡ shorter_text_after g
