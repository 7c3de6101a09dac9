-- What a caller of `run` gets: everything here follows from its contract, `Runs`, alone, and speaks of what was returned and of what
-- stands in the buffers. The proofs are those of rules/proofs/Theorems.
--
--   answered, refused_exactly     what is accepted, and each refusal exactly when its rule says
--   nothing_written   a refused run
--   settled_forced, settled_free, no_model_exactly     the published definition
--   settled_none_open settled_same     a settled table has nothing open, and no limit changes it
--   forced_sound, free_witness    what a stopped run has marked holds too
--   recorded          the records: call and way of each variable, and that the log counts them
--   free_pair         the first model and the witness of a free variable
--   forced_held       the clause that a forced literal's hint names
--   hints_none        the hints where there is no first model
--   calls_most, tries_most, counted, logged     calls, tries, counts and the log
--   rest_stays        what stands behind the table and the rows
--   one_answer        no second result and buffers
--   held_more, held_free     of two runs where the second holds more: what is forced stays so, and a free variable may be held
--   held_signs        both signs of a variable held
--   as_before         with no held literal, everything is as it was without such a list
--
-- Assumes nothing.
use mathlib.Core.Path.{◌≡◌, refl, sym, ◌∙◌, ap}
use mathlib.Core.Logic.{◌≢◌, ◌↔◌}
use mathlib.Core.Bool.{Bool, true, false}
use mathlib.Core.List.{List, [], ◌∷◌, ◌++◌}
use mathlib.Core.Option.{Option, none, some}
use Prim.Native.Nat.{ℕ, ◌+◌, ◌≤◌, ◌<◌}
use lib.IntN.{ℤ}
use lib.ListN.{length, get_or, take, drop, replicate}
use Rattle.rules.specs.declared.Refusal.{Refusal}
use Rattle.rules.specs.declared.RunAnswer.{RunAnswer}
use Rattle.rules.specs.declared.Report.{Report}
use Rattle.rules.specs.Lists.{In, count}
use Rattle.rules.specs.Meaning.{Values, negated, LitUpTo, index_of, clauses}
use Rattle.rules.specs.Search.{model}
use Rattle.rules.specs.Models.{NoModel, Forced, Free, WitnessOf}
use Rattle.rules.specs.Run.{Task, Row, Ended, status_at, is_forced_to, first_call, run}
use Rattle.rules.specs.Trace.{Ends, first_none, first_stopped, settled, next_stopped}
use Rattle.rules.specs.Hints.{hints_of, HeldBy}
use Rattle.rules.specs.Held.{with_held, list_with}
use Rattle.rules.specs.Answer.{Given, Buffers, given, log_length, refusal_of, task_of, report_if, report_of, report_of_run, log_of_rows, is_free}
use Rattle.rules.specs.Answer.{is_forced, Runs}
use Rattle.rules.specs.Answer.{plain_refusal, plain_task, status_if, status_after, hints_if, hints_after, log_if, log_after}
use Rattle.rules.specs.RunRefusals.{Accepted, RunRefuses}
use Rattle.rules.specs.Log.{LogOf}
use Rattle.rules.specs.Records.{calls_of, ways_of}
use Rattle.rules.specs.Recorded.{RecordsIn}
use Rattle.rules.specs.Witness.{PairAt}
use Rattle.rules.proofs.ListLaws.{never}
use Rattle.rules.proofs.RunTrace.{run_ends}
use Rattle.rules.proofs.Theorems as theorems

-- the answers of a run that is not refused: 0, 20, 21
abbrev pub is_answered : RunAnswer → Bool
is_answered RunAnswer.Settled = true
is_answered RunAnswer.NoModel = true
is_answered RunAnswer.Stopped = true
is_answered (RunAnswer.Refused a) = false

ends_answered : {k : Task} {e : Ended} → Ends k e → is_answered e.answer ≡ true
ends_answered (first_none t e) = refl
ends_answered (first_stopped t e) = refl
ends_answered (settled r o) = refl
ends_answered (next_stopped t r o e) = refl

module _ {g : Given} {r : Report} {after : Buffers} (w : Runs g r after) where
  -- ---- what is refused, and what is accepted

  -- a refused run returns zero counts and writes nothing
  pub nothing_written : (a : Refusal) → RunRefuses g a
      → (r ≡ record { answer = RunAnswer.Refused a; calls = 0; tries = 0; forced = 0; free = 0 })
      × (after.status ≡ g.status) × (after.calls ≡ g.calls) × (after.ways ≡ g.ways) × (after.hints ≡ g.hints) × (after.log ≡ g.log)
  nothing_written a h =
      let (e, s, c, y, n, l) = theorems.run_refused_nothing g a h in
      (w.result_is ∙ e, w.status_is ∙ s, w.calls_are ∙ c, w.ways_are ∙ y, w.hints_are ∙ n, w.log_is ∙ l)

  -- what an accepted run returns
  returned : Accepted g → r ≡ report_of_run (run (task_of g))
  unfolding report_of
  returned h = w.result_is ∙ ap (λ (o : Option Refusal). report_if o (task_of g)) ((theorems.run_acceptance g).1 h)

  accepted_answered : Accepted g → is_answered r.answer ≡ true
  accepted_answered h = ap (λ (q : Report). is_answered q.answer) (returned h) ∙ ends_answered (run_ends (task_of g) h.listed.lent.in_limits.limit_some)

  refused_answer : (a : Refusal) → RunRefuses g a → r.answer ≡ RunAnswer.Refused a
  refused_answer a h = ap (λ (q : Report). q.answer) (nothing_written a h).0

  -- 0, 20 and 21 are answered exactly if no rule refuses
  pub answered : (is_answered r.answer ≡ true) ↔ Accepted g
  answered = (λ t. go (refusal_of g) refl t, accepted_answered)
    where
      go : (o : Option Refusal) → refusal_of g ≡ o → is_answered r.answer ≡ true → Accepted g
      go none q t = (theorems.run_acceptance g).0 q
      go (some b) q t = absurd (never t (ap is_answered (refused_answer b ((theorems.run_refusals g b).0 q))))

  -- each refusal exactly when its rule says so
  pub refused_exactly : (a : Refusal) → (r.answer ≡ RunAnswer.Refused a) ↔ RunRefuses g a
  refused_exactly a = (λ e. go (refusal_of g) refl e, refused_answer a)
    where
      go : (o : Option Refusal) → refusal_of g ≡ o → r.answer ≡ RunAnswer.Refused a → RunRefuses g a
      go none q e = absurd (never (accepted_answered ((theorems.run_acceptance g).0 q)) (ap is_answered e))
      go (some b) q e =
          let h = (theorems.run_refusals g b).0 q in
          let same : RunAnswer.Refused b ≡ RunAnswer.Refused a = sym (refused_answer b h) ∙ e in
          let inner : b ≡ a = cc in
          rw (← inner) h

  -- ---- an accepted run

  module _ (h : Accepted g) where
    limit : 1 ≤ g.limit
    limit = h.listed.lent.in_limits.limit_some

    answer_is : r.answer ≡ (run (task_of g)).answer
    answer_is = ap (λ (q : Report). q.answer) (returned h)

    table_is : take g.vars after.status ≡ (run (task_of g)).progress.statuses
    table_is = ap (take g.vars) w.status_is ∙ (theorems.run_status g h).0

    -- settled: a literal is marked forced exactly if a model exists and all models contain it
    pub settled_forced : r.answer ≡ RunAnswer.Settled → (l : ℤ) → LitUpTo g.vars l
        → is_forced_to (take g.vars after.status) l ↔ Forced g.vars (with_held (clauses g.entries) g.held) l
    settled_forced e = rw table_is (theorems.settled_forced (task_of g) limit (sym answer_is ∙ e))

    -- settled: a variable is marked free exactly if two models differ on it
    pub settled_free : r.answer ≡ RunAnswer.Settled → (i : ℕ) → i < g.vars
        → (status_at (take g.vars after.status) i ≡ 1) ↔ Free g.vars (with_held (clauses g.entries) g.held) i
    settled_free e = rw table_is (theorems.settled_free (task_of g) limit (sym answer_is ∙ e))

    -- settled: no variable is open
    pub settled_none_open : r.answer ≡ RunAnswer.Settled → (i : ℕ) → status_at (take g.vars after.status) i ≢ 0
    settled_none_open e = rw table_is (theorems.settled_none_open (task_of g) limit (sym answer_is ∙ e))

    -- unless the budget stopped the run, "no model" is answered exactly if there is none
    pub no_model_exactly : r.answer ≢ RunAnswer.Stopped → (r.answer ≡ RunAnswer.NoModel) ↔ NoModel g.vars (with_held (clauses g.entries) g.held)
    no_model_exactly = rw answer_is (theorems.no_model_exactly (task_of g) limit)

    -- after "no model" all variables are open, after one call
    pub no_model_table : r.answer ≡ RunAnswer.NoModel → (take g.vars after.status ≡ replicate g.vars 0) × (r.calls ≡ 1)
    no_model_table e =
        let (s, l) = theorems.no_model_table (task_of g) limit (sym answer_is ∙ e) in
        (table_is ∙ s, ap (λ (q : Report). q.calls) (returned h) ∙ l)

    -- however the run ended: a literal marked forced is in all models, and there is one
    pub forced_sound : (l : ℤ) → LitUpTo g.vars l → is_forced_to (take g.vars after.status) l
        → Forced g.vars (with_held (clauses g.entries) g.held) l
    forced_sound = rw table_is (theorems.forced_sound (task_of g) limit)

    -- however the run ended: a variable marked free has a model of that run, or one with this variable alone flipped that is still a
    -- model, that differs on it from the run's first model
    pub free_witness : (i : ℕ) → i < g.vars → status_at (take g.vars after.status) i ≡ 1
        → WitnessOf g.vars (with_held (clauses g.entries) g.held) (run (task_of g)).progress.models i
    free_witness = rw table_is (theorems.free_witness (task_of g) limit)

    -- calls begun are at most V + 1
    pub calls_most : r.calls ≤ g.vars + 1
    calls_most = rw (returned h) (theorems.calls_bound (task_of g) limit)

    -- tries are within the budget, and all of it is spent where the run was stopped
    pub tries_most : (r.tries ≤ g.budget) × (r.answer ≡ RunAnswer.Stopped → r.tries ≡ g.budget)
    tries_most = rw (returned h) (theorems.tries_bound (task_of g) limit)

    -- the counts returned are those of the table
    pub counted : (r.forced ≡ count is_forced (take g.vars after.status)) × (r.free ≡ count is_free (take g.vars after.status))
    counted = (
      ap (λ (q : Report). q.forced) (returned h) ∙ ap (count is_forced) (sym table_is),
      ap (λ (q : Report). q.free) (returned h)
          ∙ ap (count is_free) (sym table_is),
    )

    -- the log has a row for each call begun, and zeros behind; its rows are numbered from 1, each call after the first that finds a
    -- model frees at least one variable, each that finds none forces at least one, and the columns add up to what is returned
    pub logged : (rows : List Row) × (take (log_length g.vars) after.log ≡ log_of_rows g.vars rows) × (length rows ≡ r.calls)
        × LogOf rows r.free r.forced r.tries
    logged = (
      (run (task_of g)).progress.rows,
      ap (take (log_length g.vars)) w.log_is
          ∙ (theorems.run_log_buffer g h).0,
      ap (λ (q : Report). q.calls) (sym (returned h)),
      rw (returned h) (theorems.log_adds_up (task_of g) limit),
    )

    calls_are : take g.vars after.calls ≡ calls_of (run (task_of g)).progress.records
    calls_are = ap (take g.vars) w.calls_are ∙ (theorems.run_calls_buffer g h).0

    ways_are : take g.vars after.ways ≡ ways_of (run (task_of g)).progress.records
    ways_are = ap (take g.vars) w.ways_are ∙ (theorems.run_ways_buffer g h).0

    -- calls and ways are those of records with these statuses: 0 exactly while a variable is open, and each row's two drops, and its chunk if
    -- it says 2, are the counts of the records with its call and way
    pub recorded :
        RecordsIn g.vars r.calls (take g.vars after.status) (take g.vars after.calls) (take g.vars after.ways)
        (take (log_length g.vars) after.log)
    recorded =
        rw (
          table_is,
          calls_are,
          ways_are,
          ap (take (log_length g.vars)) w.log_is ∙ (theorems.run_log_buffer g h).0,
          ap (λ (q : Report). q.calls) (returned h),
        )
        (theorems.records_in (task_of g) limit)

    -- however the run ended: the first model and the witness of a variable marked free are two models that differ on it
    pub free_pair : (i : ℕ) → i < g.vars → status_at (take g.vars after.status) i ≡ 1
        → PairAt g.vars (with_held (clauses g.entries) g.held) (run (task_of g)).progress i
    free_pair = rw table_is (theorems.free_pair (task_of g) limit)

    hints_are : take g.vars after.hints ≡ hints_of (task_of g)
    hints_are = ap (take g.vars) w.hints_are ∙ (theorems.run_hints g h).0

    -- however the run ended: a literal marked forced has a hint; in the model that the first call found it is the only true literal of the
    -- clause with that number
    pub forced_held : (l : ℤ) → LitUpTo g.vars l → is_forced_to (take g.vars after.status) l
        → (m : Values) × (t : ℕ) × (first_call (task_of g) ≡ model m t)
        × HeldBy (with_held (clauses g.entries) g.held) m l (get_or (take g.vars after.hints) (index_of l) 0)
    forced_held =
        rw (table_is, hints_are)
        (theorems.forced_held (task_of g) limit (list_with g.entries g.held)
        (sym (theorems.held_list g.entries g.held h.listed.ended (λ l i. (h.holdable.up_to l i).some))))

    -- each hint is 0 if no first model was found
    pub hints_none : ((m : Values) (t : ℕ) → first_call (task_of g) ≡ model m t → ⊥) → take g.vars after.hints ≡ replicate g.vars 0
    hints_none ne = hints_are ∙ theorems.unhinted (task_of g) ne

    -- what stands behind the table, the records, the hints and the rows stays
    pub rest_stays : (drop g.vars after.status ≡ drop g.vars g.status)
        × (drop g.vars after.calls ≡ drop g.vars g.calls)
        × (drop g.vars after.ways ≡ drop g.vars g.ways)
        × (drop g.vars after.hints ≡ drop g.vars g.hints)
        × (drop (log_length g.vars) after.log ≡ drop (log_length g.vars) g.log)
    rest_stays = (
      ap (drop g.vars) w.status_is ∙ (theorems.run_status g h).1,
      ap (drop g.vars) w.calls_are ∙ (theorems.run_calls_buffer g h).1,
      ap (drop g.vars) w.ways_are ∙ (theorems.run_ways_buffer g h).1,
      ap (drop g.vars) w.hints_are ∙ (theorems.run_hints g h).1,
      ap (drop (log_length g.vars)) w.log_is ∙ (theorems.run_log_buffer g h).1,
    )

  -- no second result and buffers meet the contract
  pub one_answer : {r' : Report} {after' : Buffers} → Runs g r' after' → (r ≡ r') × (after ≡ after')
  one_answer v = theorems.runs_unique w v

-- budget and chunk limit never change a settled status
pub settled_same : {es : List ℤ} {vars : ℕ} {held : List ℤ} (budget limit budget' limit' : ℕ) {lent lent' after after' : Buffers} {r r' : Report}
    → Runs (given es vars held budget limit lent) r after → Runs (given es vars held budget' limit' lent') r' after'
    → Accepted (given es vars held budget limit lent) → Accepted (given es vars held budget' limit' lent')
    → r.answer ≡ RunAnswer.Settled → r'.answer ≡ RunAnswer.Settled → take vars after.status ≡ take vars after'.status
settled_same {es} {vars} {held} budget limit budget' limit' {lent} w v h i e f =
    table_is w h ∙
    theorems.settled_same (task_of (given es vars held budget limit lent)) (limit_some h) budget' limit' (limit_some i) (sym (answer_is w h) ∙ e)
    (sym (answer_is v i) ∙ f) ∙
    sym (table_is v i)
  where
    limit_some : {g : Given} → Accepted g → 1 ≤ g.limit
    limit_some h = h.listed.lent.in_limits.limit_some

-- ---- held literals

module _ {es : List ℤ} {vars : ℕ} (held more : List ℤ) (budget chunk budget' chunk' : ℕ) {lent lent' after after' : Buffers} {r r' : Report}
    (w : Runs (given es vars held budget chunk lent) r after) (v : Runs (given es vars (held ++ more) budget' chunk' lent') r' after')
    (h : Accepted (given es vars held budget chunk lent)) (i : Accepted (given es vars (held ++ more) budget' chunk' lent')) where
  -- Of two runs of one formula where the second holds more, and is not stopped: every literal forced in the first is forced in the second
  -- unless the second finds no model.
  pub held_more : r'.answer ≢ RunAnswer.Stopped → r'.answer ≢ RunAnswer.NoModel → (l : ℤ) → LitUpTo vars l
      → is_forced_to (take vars after.status) l → is_forced_to (take vars after'.status) l
  held_more s n l u =
      rw (table_is w h, table_is v i)
      (theorems.held_more (plain_task (given es vars held budget chunk lent)) held more budget' chunk' (limit w h) (limit v i) (λ e. s (answer_is v i ∙ e))
      (λ e. n (answer_is v i ∙ e)) l u)

-- Either literal of a variable that a run marks free may be held too: that never answers "no model".
pub held_free : {es : List ℤ} {vars : ℕ} (held : List ℤ) (l : ℤ) (budget limit budget' limit' : ℕ) {lent lent' after after' : Buffers} {r r' : Report}
    → Runs (given es vars held budget limit lent) r after → Runs (given es vars (held ++ (l ∷ [])) budget' limit' lent') r' after'
    → Accepted (given es vars held budget limit lent) → Accepted (given es vars (held ++ (l ∷ [])) budget' limit' lent') → LitUpTo vars l
    → status_at (take vars after.status) (index_of l) ≡ 1 → r'.answer ≢ RunAnswer.NoModel
held_free {es} {vars} held l budget chunk budget' limit' {lent} w v h i u f e =
    theorems.held_free (plain_task (given es vars held budget chunk lent)) held budget' limit' (limit w h) (limit v i) l u (rw (table_is w h) at f)
    (sym (answer_is v i) ∙ e)

module _ {g : Given} {r : Report} {after : Buffers} (w : Runs g r after) where
  -- Both signs of a variable held: there is no model, and no try is needed to find that.
  pub held_signs : Accepted g → (l : ℤ) → In l g.held → In (negated l) g.held → (r.answer ≡ RunAnswer.NoModel) × (r.tries ≡ 0)
  held_signs h l this other =
      rw (returned w h)
      (theorems.held_signs (plain_task g) g.held l (h.holdable.up_to l this).some this other)

  -- With an empty list all results are those of the rules without one.
  pub as_before : g.held ≡ []
      → let o = plain_refusal g in
      let k = plain_task g in
      (r ≡ report_if o k) × (after.status ≡ status_if o k g.status) × (after.hints ≡ hints_if o k g.hints) × (after.log ≡ log_if o k g.log)
  unfolding report_of status_after hints_after log_after
  as_before e =
      let (o, k) = theorems.held_none g e in (
        w.result_is ∙ rw (o, k),
        w.status_is ∙ rw (o, k),
        w.hints_are ∙ rw (o, k),
        w.log_is ∙ rw (o, k),
      )
