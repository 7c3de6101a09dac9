-- No printed table is longer than max_table, whatever the text: 63 bytes for the first line, 35 for each variable.
--
--   read_number_le, refusal_number_le, length-refused_line      the line of a refusal
--   length-answer_line, Bounded, run_bounded     the first line, and what a run returns that a table is printed of
--   length-table_of    no table is longer than max_table
--
-- Assumes nothing.
use mathlib.Core.Path.{◌≡◌, refl, ◌∙◌, ap}
use mathlib.Core.Logic.{◌⊎◌, inl, inr}
use mathlib.Core.List.{List, [], ◌∷◌, ◌++◌}
use mathlib.Core.Option.{Option, none, some}
use Prim.Native.Nat.{ℕ, zero, suc, pred, ◌+◌, ◌-◌, ◌*◌, ◌≤◌}
use native.Mathlib.Omega.{arith}
use lib.IntN.{ℤ, pos}
use lib.ListN.{length, get_or, length-append, length-replicate}
use Rattle.rules.specs.declared.ReadAnswer.{ReadAnswer}
use Rattle.rules.specs.declared.Refusal.{Refusal}
use Rattle.rules.specs.declared.RunAnswer.{RunAnswer}
use Rattle.rules.specs.declared.Report.{Report}
use Rattle.rules.specs.Numbers.{max_text, max_vars, max_entries, read_number, read_place, refusal_number, refusal_place, run_number}
use Rattle.texts.specs.Text.{Sizes}
use Rattle.texts.specs.Reading.{Judged, accepted, refused, judge}
use Rattle.rules.specs.Meaning.{clauses}
use Rattle.rules.specs.Run.{run}
use Rattle.rules.specs.Answer.{Given, refusal_of, task_of, is_free, is_forced, report_if, report_of, status_after, hints_after}
use Rattle.rules.specs.RunRefusals.{Accepted, RunRefuses, bad_limits, short_buffer, list_long, not_ended, zero_over, entry_over_vars}
use Rattle.rules.specs.RunRefusals.{many_held, bad_literal}
use Rattle.texts.specs.Printed.{refused_line, answer_line, status_words, status_lines, table_by, table_of_run}
use Rattle.texts.specs.Printed.{table_budget, table_given, table_of_judged, table_of, max_table}
use Rattle.rules.proofs.ListLaws.{count_le}
use Rattle.rules.proofs.ClauseLaws.{length-clauses}
use Rattle.rules.proofs.HeldLaws.{length-with_held}
use Rattle.texts.proofs.DecimalLaws.{decimal_most}
use Rattle.texts.proofs.RefusalLaws.{refusal_sound}
use Rattle.texts.proofs.PlaceLaws.{refuses_place}
use Rattle.rules.proofs.RunTheorems.{run_answer_lem, run_statuses}
use Rattle.rules.proofs.CallTheorems.{run_calls, run_tries}
use Rattle.rules.proofs.RefusedRuns.{run_refused, run_accepted}
use Rattle.rules.proofs.BufferTheorems.{length_status_after, hints_after_le}

-- ---- lines

pub read_number_le : (a : ReadAnswer) → read_number a ≤ 9
read_number_le ReadAnswer.Accepted = omega arith
read_number_le ReadAnswer.ShortBuffer = omega arith
read_number_le ReadAnswer.LongText = omega arith
read_number_le (ReadAnswer.BadHeader at) = omega arith
read_number_le (ReadAnswer.LargeHeader at) = omega arith
read_number_le (ReadAnswer.BadToken at) = omega arith
read_number_le (ReadAnswer.TokenBehind at) = omega arith
read_number_le (ReadAnswer.TokenOverVars at) = omega arith
read_number_le (ReadAnswer.ManyTokens at) = omega arith
read_number_le (ReadAnswer.ShortText at) = omega arith

pub refusal_number_le : (a : Refusal) → refusal_number a ≤ 21
refusal_number_le Refusal.ShortBuffer = omega arith
refusal_number_le Refusal.BadLimits = omega arith
refusal_number_le (Refusal.BadList at) = omega arith
refusal_number_le (Refusal.EntryOverVars at) = omega arith
refusal_number_le (Refusal.BadLiteral at) = omega arith
refusal_number_le Refusal.NotFree = omega arith
refusal_number_le Refusal.ManyHeld = omega arith

run_number_le : (a : RunAnswer) → run_number a ≤ 21
run_number_le RunAnswer.Settled = omega arith
run_number_le RunAnswer.NoModel = omega arith
run_number_le RunAnswer.Stopped = omega arith
run_number_le (RunAnswer.Refused a) = omega (arith, refusal_number_le a)

pub length-refused_line : (number place : ℕ) → number ≤ 99 → place ≤ max_text → length (refused_line number place) ≤ 23
length-refused_line number place h k =
    simp length-append (omega (arith, decimal_most 2 number (omega arith) (omega arith), decimal_most 5 place (omega arith) (omega arith)))

pub length-answer_line : (vars : ℕ) (r : Report) → vars ≤ max_vars → r.calls ≤ 257
    → r.tries ≤ table_budget → r.forced ≤ vars → r.free ≤ vars → length (answer_line vars r) ≤ 63
length-answer_line vars r v c t f e =
    simp length-append
    (omega (
      arith,
      run_number_le r.answer,
      decimal_most 2 (run_number r.answer) (omega arith) (omega (arith, run_number_le r.answer)),
      decimal_most 3 r.calls (omega arith) (omega arith),
      decimal_most 7 r.tries (omega arith) (omega arith),
      decimal_most 3 r.forced (omega arith) (omega arith),
      decimal_most 3 r.free (omega arith) (omega arith),
      decimal_most 3 (vars - r.forced - r.free) (omega arith) (omega arith),
    ))

-- a clause's number has at most four digits
module _ (hs : List ℕ) (small : (i : ℕ) → get_or hs i 0 ≤ 9999) where
  length-status_words : (s i : ℕ) → length (status_words s (get_or hs i 0)) ≤ 31
  length-status_words zero i = omega arith
  length-status_words (suc zero) i = omega arith
  length-status_words (suc (suc zero)) i =
      simp length-append (omega (arith, decimal_most 4 (get_or hs i 0) (omega arith) (omega (arith, small i))))
  length-status_words (suc (suc (suc s))) i =
      simp length-append (omega (arith, decimal_most 4 (get_or hs i 0) (omega arith) (omega (arith, small i))))

  length-status_lines : (v : ℕ) (ss : List ℕ) → v + length ss ≤ 257 → length (status_lines v ss hs) ≤ 35 * length ss
  length-status_lines v [] h = omega arith
  length-status_lines v (s ∷ ss) h =
      simp length-append
      (omega (arith, decimal_most 3 v (omega arith) (omega arith), length-status_words s (pred v), length-status_lines (suc v) ss (omega arith)))

-- ---- tables

-- what an accepted run of at most 256 variables and 1,000,000 tries returns
pub record Bounded (vars : ℕ) (r : Report) (ss hs : List ℕ) : Type 0 where
  pub vars_fit : vars ≤ max_vars
  pub calls_fit : r.calls ≤ 257
  pub tries_fit : r.tries ≤ table_budget
  pub forced_fit : r.forced ≤ vars
  pub free_fit : r.free ≤ vars
  pub lines : length ss ≡ vars
  pub small_hints : (i : ℕ) → get_or hs i 0 ≤ 9999
  pub answer_is : (r.answer ≡ RunAnswer.Settled) ⊎ ((r.answer ≡ RunAnswer.NoModel) ⊎ (r.answer ≡ RunAnswer.Stopped))

length-table_by : {vars : ℕ} {r : Report} {ss hs : List ℕ} → Bounded vars r ss hs → length (table_by r.answer vars r ss hs) ≤ max_table
length-table_by {vars} {r} {ss} {hs} b = go b.answer_is
  where
    first : length (answer_line vars r) ≤ 63
    first = length-answer_line vars r b.vars_fit b.calls_fit b.tries_fit b.forced_fit b.free_fit

    all_lines : length (answer_line vars r ++ status_lines 1 ss hs) ≤ max_table
    all_lines =
        omega (
          arith,
          first,
          length-append (answer_line vars r) (status_lines 1 ss hs),
          length-status_lines hs b.small_hints 1 ss (omega (arith, b.lines, b.vars_fit)),
          b.lines,
          b.vars_fit,
        )

    go : (r.answer ≡ RunAnswer.Settled) ⊎ ((r.answer ≡ RunAnswer.NoModel) ⊎ (r.answer ≡ RunAnswer.Stopped))
        → length (table_by r.answer vars r ss hs) ≤ max_table
    go (inl e) = rw (ap (λ (a : RunAnswer). length (table_by a vars r ss hs)) e) all_lines
    go (inr (inl e)) = rw (ap (λ (a : RunAnswer). length (table_by a vars r ss hs)) e) (omega (arith, first))
    go (inr (inr e)) = rw (ap (λ (a : RunAnswer). length (table_by a vars r ss hs)) e) all_lines

pub run_bounded : (g : Given) → Accepted g → g.budget ≤ table_budget → length g.status ≡ g.vars → length g.hints ≡ g.vars
    → Bounded g.vars (report_of g) (status_after g) (hints_after g)
unfolding report_of
run_bounded g w b l n-hints =
    let limit = w.listed.lent.in_limits.limit_some in
    let vars_fit = w.listed.lent.in_limits.vars_fit in
    let (n, s) = run_statuses (task_of g) limit in
    rw ((run_accepted g).1 w)
    (record {
      vars_fit = vars_fit;
      calls_fit = omega (arith, run_calls (task_of g) limit, vars_fit);
      tries_fit = omega (arith, run_tries (task_of g) limit);
      forced_fit = omega (arith, count_le is_forced (run (task_of g)).progress.statuses, n);
      free_fit = omega (arith, count_le is_free (run (task_of g)).progress.statuses, n);
      lines = length_status_after g w ∙ l;
      small_hints =
          λ i. omega (
            arith,
            hints_after_le g w n-hints i,
            length-with_held (clauses g.entries) g.held,
            length-clauses g.entries,
            w.listed.clauses_fit,
            w.holdable.few,
          );
      answer_is = run_answer_lem (task_of g) limit;
    })

-- the place of a refusal is an index of a list, or its length
refuses_index : {g : Given} {a : Refusal} → RunRefuses g a → refusal_place a ≤ max_text
refuses_index (bad_limits h) = omega arith
refuses_index (short_buffer w h) = omega arith
refuses_index (list_long w h) = omega arith
refuses_index (not_ended w s front l q z) = omega arith
refuses_index (zero_over w s d front back q c) = omega (arith, ap length q, length-append front (pos 0 ∷ back))
refuses_index (entry_over_vars w front l back q k h) = omega (arith, w.entries_fit, ap length q, length-append front (l ∷ back))
refuses_index (many_held w h) = omega arith
refuses_index (bad_literal w s front l back q k h) = omega (arith, ap length q, length-append front (l ∷ back))

length_refused : (g : Given) {a : Refusal} → refusal_of g ≡ some a
    → length (table_of_run g.vars (report_of g) (status_after g) (hints_after g)) ≤ max_table
unfolding report_of
length_refused g {a} e =
    rw (ap (λ (o : Option Refusal). table_of_run g.vars (report_if o (task_of g)) (status_after g) (hints_after g)) e)
    (omega (
      arith,
      length-refused_line (refusal_number a) (refusal_place a) (omega (arith, refusal_number_le a)) (refuses_index ((run_refused g a).0 e)),
    ))

pub length-table_of : (text : List ℕ) (held : List ℤ) → length (table_of text held) ≤ max_table
unfolding table_of
length-table_of text held = go (judge max_entries text) refl
  where
    runs : (s : Sizes) (es : List ℤ) (o : Option Refusal) → refusal_of (table_given s es held) ≡ o → length (table_of_judged (accepted s es) held) ≤ max_table
    runs s es (some a) e = length_refused (table_given s es held) e
    runs s es none e =
        length-table_by (run_bounded (table_given s es held) ((run_accepted (table_given s es held)).0 e) (omega arith)
        (length-replicate {A = ℕ} s.vars 0) (length-replicate {A = ℕ} s.vars 0))

    go : (j : Judged) → judge max_entries text ≡ j → length (table_of_judged j held) ≤ max_table
    go (refused a) e =
        omega (arith, length-refused_line (read_number a) (read_place a) (omega (arith, read_number_le a)) (refuses_place (refusal_sound max_entries text e)))
    go (accepted s es) e = runs s es (refusal_of (table_given s es held)) refl
