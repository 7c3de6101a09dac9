-- One step over the tokens (src/tokens.rt), and what it says of what is left. Assumes nothing.
use Rattle.std.specs.Prelude.{◌≡◌, List, [], ℕ, ◌+◌, ◌≤◌, ◌<◌, ℤ, nat_abs, length, drop, Option, None, Some, Result, Ok, Err}
use Rattle.std.proofs.Math.Option.{Option as Maybe, none, some}
use Rattle.rules.specs.declared.ReadAnswer.{ReadAnswer}
use Rattle.rules.specs.Lists.{count_if, first_of, is_zero}
use Rattle.rules.specs.Numbers.{max_entries}
use Rattle.texts.specs.Text.{tokens_from}
use Rattle.texts.specs.Reading.{Judged, accepted, refused, entry_rules, with_entry, judge_tokens}
use Rattle.reader.specs.declared.header.Header.{Header}
use Rattle.reader.specs.declared.tokens.Cursor.{Cursor}
use Rattle.reader.specs.Words.{sizes}

-- a refusal, the end of the text, or an entry to store and the cursor behind it
abbrev pub Step : Type 0
Step = Result (Option (ℤ × Cursor)) ReadAnswer

-- ---- an entry

abbrev pub step_if : Maybe ReadAnswer → Step → Step
step_if none step = step
step_if (some a) step = Err a

-- an entry l that stands from `from` up to `to`
abbrev pub entry_step : Header → Cursor → ℕ → ℕ → ℤ → Step
entry_step h c from to l =
    step_if (first_of (entry_rules (sizes h) c.clauses c.entries from l))
    (Ok (Some (l, record { at = to; clauses = count_if (is_zero l) c.clauses; entries = c.entries + 1 })))

-- ---- what is left

abbrev pub start : ℕ → Cursor
start from = record { at = from; clauses = 0; entries = 0 }

-- what is left of the text from the cursor on, as rules judges it
abbrev pub left : Header → List ℕ → Cursor → Judged
left h text c = judge_tokens (sizes h) (length text) c.clauses c.entries (tokens_from c.at (drop c.at text))

-- ---- what a step says

-- the judgement of what is left, after an entry
pub record After (h : Header) (text : List ℕ) (c : Cursor) (j : Judged) (l : ℤ) (next : Cursor) : Type 0 where
  pub judged : j ≡ with_entry l (left h text next)
  pub onward : c.at < next.at
  pub within : next.at ≤ length text
  pub count : next.entries ≡ c.entries + 1
  pub room : c.entries < max_entries
  pub var : nat_abs l ≤ h.vars

abbrev pub Judges : Header → List ℕ → Cursor → Judged → Step → Type 0
Judges h text c j (Err a) = j ≡ refused a
Judges h text c j (Ok None) = j ≡ accepted (sizes h) []
Judges h text c j (Ok (Some (l, next))) = After h text c j l next

-- the step at the cursor
pub record Steps (h : Header) (text : List ℕ) (c : Cursor) (step : Step) : Type 0 where
  pub judges : Judges h text c (left h text c) step
