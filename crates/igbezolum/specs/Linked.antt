-- docs/RULES.md, "What comes back", in the structs that C and Rust get: each answer by its number and its place. What is read, run and
-- written is defined in rules; here the enums become numbers. Assumes nothing.
use Rattle.std.specs.Prelude.{◌≡◌, List, ℕ, ◌≤◌, ℤ}
use Rattle.rules.specs.declared.Reading.{Reading}
use Rattle.rules.specs.declared.Report.{Report}
use Rattle.rules.specs.Numbers.{max_text, max_entries, read_number, read_place, run_number, run_place}
use Rattle.texts.specs.Reading.{reading_of, entries_after}
use Rattle.rules.specs.Answer.{Given, Buffers, report_of, status_after, calls_after, ways_after, hints_after, log_after}
use Rattle.rules.specs.Setup.{SetupGiven, setup_report_of, setup_values_after}
use Rattle.rules.specs.Witness.{Asked, asked_report, first_after, witness_after}
use Rattle.igbezolum.specs.declared.IgbReading.{IgbReading}
use Rattle.igbezolum.specs.declared.IgbReport.{IgbReport}

abbrev pub reading_numbers : Reading → IgbReading
reading_numbers r =
    record {
      answer = read_number r.answer;
      place = read_place r.answer;
      vars = r.vars;
      clauses = r.clauses;
      count = r.entries;
    }

abbrev pub report_numbers : Report → IgbReport
report_numbers r =
    record {
      answer = run_number r.answer;
      place = run_place r.answer;
      calls = r.calls;
      tries = r.tries;
      forced = r.forced;
      free = r.free;
    }

-- what a reading promises, in numbers
pub record ReadsIn (text : List ℕ) (before : List ℤ) (result : IgbReading) (after : List ℤ) : Type 0 where
  pub result_is : result ≡ reading_numbers (reading_of text before)
  pub after_is : after ≡ entries_after text before

-- what a run promises, in numbers
pub record RunsIn (g : Given) (result : IgbReport) (after : Buffers) : Type 0 where
  pub result_is : result ≡ report_numbers (report_of g)
  pub status_is : after.status ≡ status_after g
  pub calls_are : after.calls ≡ calls_after g
  pub ways_are : after.ways ≡ ways_after g
  pub hints_are : after.hints ≡ hints_after g
  pub log_is : after.log ≡ log_after g

-- what one valid setup promises, in numbers
pub record SetsUpIn (g : SetupGiven) (result : IgbReport) (after : List ℕ) : Type 0 where
  pub result_is : result ≡ report_numbers (setup_report_of g)
  pub values_are : after ≡ setup_values_after g

-- what a witness promises, in numbers
pub record WitnessesIn (a : Asked) (result : IgbReport) (first witness : List ℤ) : Type 0 where
  pub result_is : result ≡ report_numbers (asked_report a)
  pub first_is : first ≡ first_after a
  pub witness_is : witness ≡ witness_after a

-- place and count of every reading are within these

pub record ReadingFits (r : Reading) : Type 0 where
  pub place_fits : read_place r.answer ≤ max_text
  pub count_fits : r.entries ≤ max_entries
