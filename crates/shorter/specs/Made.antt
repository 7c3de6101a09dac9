-- The shorter file as code writes it: what is required of a run, and what is left. Assumes nothing.
use Rattle.std.specs.Prelude.{◌≡◌, ◌≢◌, List, ◌++◌, ℕ, suc, ◌≤◌, ◌<◌, ℤ, length, drop}
use Rattle.rules.specs.declared.RunAnswer.{RunAnswer}
use Rattle.rules.specs.declared.Report.{Report}
use Rattle.rules.specs.declared.ShorterReport.{ShorterReport}
use Rattle.rules.specs.Lists.{count}
use Rattle.rules.specs.Numbers.{max_clauses}
use Rattle.rules.specs.Meaning.{clauses}
use Rattle.texts.specs.Plain.{plain}
use Rattle.rules.specs.Run.{status_at, forced_values}
use Rattle.rules.specs.Answer.{Buffers, is_forced, status_after, calls_after, ways_after, hints_after, log_after}
use Rattle.rules.specs.RunRefusals.{Accepted}
use Rattle.texts.specs.Shorter.{folded, shorter_by, ShorterGiven, shorter_run, Shortens}
use Rattle.formula.specs.Starts.{starts_of}
use Rattle.formula.specs.Formula.{Formula}
use Rattle.buffers.specs.Put.{Room, Put}

-- a formula with the statuses of a run, and room for the text
pub record SettledOver (es : List ℤ) (forced : ℕ) (ss text : List ℕ) : Type 0 where
  pub formula : Formula (length ss) es (starts_of es)
  pub clauses_fit : length (clauses es) ≤ max_clauses
  pub small : (i : ℕ) → status_at ss i ≤ 3
  pub forced_is : forced ≡ count is_forced ss
  pub room : Room 0 (plain (length ss) (folded ss (clauses es))) text

-- room for a value of each variable, and for where each clause starts
pub record RoomOver (es : List ℤ) (ss values starts : List ℕ) : Type 0 where
  pub values_len : length ss ≡ length values
  pub starts_fit : length (clauses es) < length starts

-- the text is put, the forced literals are values, and the starts are found
pub record ValuesPut (es : List ℤ) (ss before starts : List ℕ) (next : ℕ) (after values found : List ℕ) : Type 0 where
  pub put : Put 0 (plain (length ss) (folded ss (clauses es))) before next after
  pub values_are : values ≡ forced_values ss
  pub starts_are : found ≡ starts_of es ++ drop (suc (length (clauses es))) starts

-- the same after any answer but a refusal
pub record AnswerOver (es : List ℤ) (r : Report) (ss text : List ℕ) : Type 0 where
  pub formula : Formula (length ss) es (starts_of es)
  pub clauses_fit : length (clauses es) ≤ max_clauses
  pub small : (i : ℕ) → status_at ss i ≤ 3
  pub forced_is : r.forced ≡ count is_forced ss
  pub ran : (r.answer ≢ RunAnswer.NoModel) → shorter_by r.answer ss (clauses es) ≡ folded ss (clauses es)
  pub room : Room 0 (plain (length ss) (shorter_by r.answer ss (clauses es))) text

-- the buffers are those of the run that is made, which no rule refuses
pub record Lent (g : ShorterGiven) (lent : Buffers) : Type 0 where
  pub accepted : Accepted (shorter_run g)
  pub status_is : lent.status ≡ (shorter_run g).status
  pub calls_are : lent.calls ≡ (shorter_run g).calls
  pub ways_are : lent.ways ≡ (shorter_run g).ways
  pub hints_are : lent.hints ≡ (shorter_run g).hints
  pub log_is : lent.log ≡ (shorter_run g).log

-- the text is written, and the buffers are as the run leaves them
pub record RunPut (g : ShorterGiven) (result : ShorterReport) (left : Buffers) (after : List ℕ) : Type 0 where
  pub shortens : Shortens g result after
  pub status_is : left.status ≡ status_after (shorter_run g)
  pub calls_are : left.calls ≡ calls_after (shorter_run g)
  pub ways_are : left.ways ≡ ways_after (shorter_run g)
  pub hints_are : left.hints ≡ hints_after (shorter_run g)
  pub log_is : left.log ≡ log_after (shorter_run g)
