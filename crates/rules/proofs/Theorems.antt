-- The theorems that we promise, one sentence each. Their statements speak of models, texts and tables; what they name stands in
-- specs/, and their proofs in the files that the `use` lines name. Assumes nothing.
use mathlib.Core.Path.{◌≡◌}
use mathlib.Core.Logic.{◌≢◌, ◌↔◌}
use mathlib.Core.Bool.{true}
use mathlib.Core.List.{List, [], ◌∷◌, ◌++◌, map}
use mathlib.Core.Option.{none, some}
use Prim.Native.Nat.{ℕ, suc, pred, ◌+◌, ◌≤◌, ◌<◌}
use lib.IntN.{ℤ}
use lib.ListN.{length, get_or, take, drop, set, replicate}
use Rattle.rules.specs.declared.Refusal.{Refusal}
use Rattle.rules.specs.declared.RunAnswer.{RunAnswer}
use Rattle.rules.specs.declared.Report.{Report}
use Rattle.rules.specs.declared.CloseAnswer.{CloseAnswer}
use Rattle.rules.specs.declared.CloseReport.{CloseReport}
use Rattle.rules.specs.declared.WhyAnswer.{WhyAnswer}
use Rattle.rules.specs.declared.WhyReport.{WhyReport}
use Rattle.rules.specs.declared.ClauseState.TheVariants.{False}
use Rattle.rules.specs.Lists.{In, all, count}
use Rattle.rules.specs.Meaning.{Clause, Values, value_at, var_of, negated, index_of, clauses, satisfies, is_true, LitUpTo, Model, Proper, bit_of}
use Rattle.rules.specs.Closing.{state_of, under_way, round, again, unsets, closing, clash, closed}
use Rattle.rules.specs.Rounds.{one_more, rounds}
use Rattle.rules.specs.Visits.{Visits, Quiet}
use Rattle.rules.specs.Search.{model, no_model, tries_of, on_closed, call_on}
use Rattle.rules.specs.Units.{forced_clauses}
use Rattle.rules.specs.Models.{Covers, LeastModel, NoModelFrom, NoModel, Forced, Free, WitnessOf}
use Rattle.rules.specs.Run.{Task, Progress, status_at, is_forced_to, opens, flipped, chunk_of, constraint, chunk_call, blank, on_open, chunks, Ended}
use Rattle.rules.specs.Run.{Row, literal_at, first_call, run}
use Rattle.rules.specs.Trace.{Takes, Reached, Ends, Leaves, with_limits}
use Rattle.rules.specs.Records.{open_record, record_at, statuses_of, calls_of, ways_of}
use Rattle.rules.specs.Recorded.{Recorded, Counted, RecordsIn}
use Rattle.rules.specs.Witness.{witness_at, PairAt, FreeIn, Asked, asked_task, asked_refusal, asked_report, literals_from, first_after, witness_after}
use Rattle.rules.specs.Witness.{asked, Witnesses, lent_for}
use Rattle.rules.specs.Hints.{hints_of, HeldBy, FirstFalse}
use Rattle.rules.specs.Answer.{Given, Buffers, given, log_length, refusal_of, task_of, report_of, status_after, calls_after, ways_after, hints_after}
use Rattle.rules.specs.Answer.{log_of_rows, log_after}
use Rattle.rules.specs.Answer.{is_free, is_forced, is_ended, plain_refusal, plain_task, Runs}
use Rattle.rules.specs.Held.{with_held, list_with, holding, HeldModel}
use Rattle.rules.specs.Order.{SameRules, SameHeld, with_rules, SameTable}
use Rattle.rules.specs.RunRefusals.{Accepted, RunRefuses}
use Rattle.rules.specs.Setup.{SetupGiven, setup_given, setup_refusal, setup_run, setup_call, setup_answer, setup_report, setup_values}
use Rattle.rules.specs.Setup.{setup_report_of, setup_values_after, SetsUp, FirstSetup}
use Rattle.rules.specs.Close.{CloseGiven, close_setup, close_refusal, closed_set, close_rounds, set_by, close_report, close_values, close_report_of}
use Rattle.rules.specs.Close.{close_values_after, Closes, SameSets}
use Rattle.rules.specs.Log.{LogOf}
use Rattle.rules.specs.Why.{Question, marked, why, FalseModel, WhyGiven, why_refusal, Explains, WhyAccepted, WhyRefuses}
use Rattle.rules.proofs.ClosingLaws as closing-laws
use Rattle.rules.proofs.ClosingOrder as closing_order
use Rattle.rules.proofs.RoundsLaws as rounds-laws
use Rattle.rules.proofs.SearchLaws as search-laws
use Rattle.rules.proofs.CallLaws as call-laws
use Rattle.rules.proofs.RunTrace as run-trace
use Rattle.rules.proofs.RunNext as run-next
use Rattle.rules.proofs.RunTheorems as run-theorems
use Rattle.rules.proofs.CallTheorems as call-theorems
use Rattle.rules.proofs.RefusedRuns as refused-runs
use Rattle.rules.proofs.BufferTheorems as buffers
use Rattle.rules.proofs.OrderTheorems as order-theorems
use Rattle.rules.proofs.WhyTheorems as reasons
use Rattle.rules.proofs.WhyRefused as refused-reasons
use Rattle.rules.proofs.Starred as run-cases
use Rattle.rules.proofs.AnswerCases as more-cases
use Rattle.rules.proofs.RecordTheorems as record-theorems
use Rattle.rules.proofs.RecordCases as record-cases
use Rattle.rules.proofs.WitnessTheorems as witness-theorems
use Rattle.rules.proofs.WitnessCases as shown-cases
use Rattle.rules.proofs.WhyCases as reason-cases
use Rattle.rules.proofs.HintTheorems as hints
use Rattle.rules.proofs.HintCases as held_cases_lem
use Rattle.rules.proofs.HeldLaws as held-laws
use Rattle.rules.proofs.HeldTheorems as held-theorems
use Rattle.rules.proofs.HeldRuns as held-runs
use Rattle.rules.proofs.SetupTheorems as setups
use Rattle.rules.proofs.SetupOrder as setup-order
use Rattle.rules.proofs.SetupCases as setup-runs
use Rattle.rules.proofs.CloseTheorems as closings
use Rattle.rules.proofs.CloseCases as closing-cases
use Rattle.rules.proofs.AnswerHeld as chosen-cases

-- ---- closing

-- Closing the same clauses, each read as a set of literals, in another order ends the same way.
pub closing_any_order : {F G : List Clause} → Covers F G → Covers G F → (vs : Values) → Proper vs → closing F vs ≡ closing G vs
closing_any_order = closing_order.closing_order

-- Visits in any order that leave nothing to do have found the closed set.
pub visits_any_order : {F : List Clause} {vs ws : Values} → Proper vs → Visits F vs ws → Quiet ws F → closing F vs ≡ closed ws
visits_any_order = closing_order.visits_closed

-- Visits in any order that come to a false clause mean a clash.
pub visits_any_clash : {F : List Clause} {vs ws : Values} {cl : Clause} → Proper vs → Visits F vs ws → In cl F → state_of ws cl ≡ False
    → closing F vs ≡ clash
visits_any_clash = closing_order.visits_clash

-- Closing goes by rounds until one sets nothing or stops at a false clause.
pub closing_by_rounds : (F : List Clause) (vs : Values) → closing F vs ≡ again (round F (under_way vs 0)) (λ ws. closing F ws)
closing_by_rounds = closing-laws.closing-next

-- A closed set leaves nothing to do.
pub closed_is_quiet : (F : List Clause) (vs ws : Values) → closing F vs ≡ closed ws → Quiet ws F
closed_is_quiet = closing-laws.closing_quiet

-- The rounds of a closing are one and, if it set anything, those of closing again.
pub rounds_by_round : (F : List Clause) (vs : Values) → rounds F vs ≡ one_more (round F (under_way vs 0)) (λ ws. rounds F ws)
rounds_by_round = rounds-laws.rounds-next

-- They are at most one more than the variables set in that closing;
pub rounds_within : (F : List Clause) (vs ws : Values) → closing F vs ≡ closed ws → rounds F vs + unsets ws ≤ suc (unsets vs)
rounds_within = rounds-laws.rounds_closed

-- after a clash than those set by visits that have met a false clause.
pub rounds_within_clash : (F : List Clause) (vs : Values) → closing F vs ≡ clash
    → (ws : Values) × (cl : Clause) × Visits F vs ws × In cl F × (state_of ws cl ≡ False) × (rounds F vs + unsets ws ≤ suc (unsets vs))
rounds_within_clash F vs e =
    let (w, h) = rounds-laws.rounds_clash F vs e in (w.values, w.clause, w.visits, w.is-in, w.false_here, h)

-- With no clauses it is one round, and there is always one.
pub rounds_without_clauses : (vs : Values) → rounds [] vs ≡ 1
rounds_without_clauses = rounds-laws.rounds_nil

pub rounds_some : (F : List Clause) (vs : Values) → 1 ≤ rounds F vs
rounds_some = rounds-laws.rounds_some

-- ---- the search

-- Going on means: close; on a clash there is no model here; if all variables are set, this is the model; otherwise try the lowest
-- unset variable false, then, if that finds nothing, true.
pub search_goes_on : (budget : ℕ) (F : List Clause) (vs : Values) (t : ℕ)
    → call_on budget F vs t ≡ on_closed (closing F vs) budget (λ ws u. call_on budget F ws u) t
search_goes_on = call-laws.call_on_next

-- A model found is total, satisfies every clause, extends the start, and is the first from variable 1 up, false before true.
pub search_model : (budget : ℕ) (F : List Clause) (vs : Values) (t : ℕ) (m : Values) (u : ℕ) → Proper vs
    → call_on budget F vs t ≡ model m u → LeastModel F vs m
search_model = search-laws.call_on_model

-- "None" means that no model extends the start.
pub search_none : (budget : ℕ) (F : List Clause) (vs : Values) (t u : ℕ) → Proper vs
    → call_on budget F vs t ≡ no_model u → NoModelFrom F vs
search_none = search-laws.call_on_none

-- Tries never exceed the budget.
pub search_tries : (budget : ℕ) (F : List Clause) (vs : Values) (t : ℕ) → t ≤ budget → tries_of (call_on budget F vs t) ≤ budget
search_tries budget F vs t h = (search-laws.call_on_tries budget F vs t).within h

-- A call that starts from the forced values is the call of the rules: on the formula, the forced literals as one-literal clauses, read
-- off the statuses 2 and 3, and the constraint.
pub call_as_page : (k : Task) (p : Progress) (n : ℕ)
    → chunk_call k p n
    ≡ call_on k.budget (k.formula ++ forced_clauses 0 p.statuses ++ constraint (chunk_of p n) ∷ []) (blank (length p.statuses)) p.tries
call_as_page = run-next.chunk_call-units

-- ---- the run's refusals and buffers

-- Each refusal number and place is given exactly when its rule says so.
pub run_refusals : (g : Given) (a : Refusal) → (refusal_of g ≡ some a) ↔ RunRefuses g a
run_refusals = refused-runs.run_refused

-- A run is accepted exactly if no rule refuses it.
pub run_acceptance : (g : Given) → (refusal_of g ≡ none) ↔ Accepted g
run_acceptance = refused-runs.run_accepted

-- A refused run returns zero counts and writes nothing.
pub run_refused_nothing : (g : Given) (a : Refusal) → RunRefuses g a
    → (report_of g ≡ record { answer = RunAnswer.Refused a; calls = 0; tries = 0; forced = 0; free = 0 })
    × (status_after g ≡ g.status) × (calls_after g ≡ g.calls) × (ways_after g ≡ g.ways) × (hints_after g ≡ g.hints) × (log_after g ≡ g.log)
run_refused_nothing = buffers.refused_writes_nothing

-- An accepted run writes the statuses into the first V bytes, and leaves the rest.
pub run_status : (g : Given) → Accepted g
    → (take g.vars (status_after g) ≡ (run (task_of g)).progress.statuses)
    × (drop g.vars (status_after g) ≡ drop g.vars g.status)
run_status = buffers.status_written

-- It writes the calls and the ways of the records into the first V elements of their buffers, and leaves the rest.
pub run_calls_buffer : (g : Given) → Accepted g
    → (take g.vars (calls_after g) ≡ calls_of (run (task_of g)).progress.records)
    × (drop g.vars (calls_after g) ≡ drop g.vars g.calls)
run_calls_buffer = buffers.calls_written

pub run_ways_buffer : (g : Given) → Accepted g
    → (take g.vars (ways_after g) ≡ ways_of (run (task_of g)).progress.records)
    × (drop g.vars (ways_after g) ≡ drop g.vars g.ways)
run_ways_buffer = buffers.ways_written

-- It writes the hints into the first V numbers, and leaves the rest.
pub run_hints : (g : Given) → Accepted g
    → (take g.vars (hints_after g) ≡ hints_of (task_of g))
    × (drop g.vars (hints_after g) ≡ drop g.vars g.hints)
run_hints = buffers.hints_written

-- It writes its rows and zeros for rows not used into the first 6(V + 1) numbers, and leaves the rest.
pub run_log_buffer : (g : Given) → Accepted g
    → (take (log_length g.vars) (log_after g) ≡ log_of_rows g.vars (run (task_of g)).progress.rows)
    × (drop (log_length g.vars) (log_after g) ≡ drop (log_length g.vars) g.log)
run_log_buffer = buffers.log_written

-- ---- the run, for every accepted task

module _ (k : Task) (limit : 1 ≤ k.limit) where
  -- A run ends as the rules tell it call by call, and in no other way.
  pub run_ends : Ends k (run k)
  run_ends = run-trace.run_ends k limit

  pub run_ends_only : {e : Ended} → Ends k e → e ≡ run k
  run_ends_only = run-next.ends_run limit

  -- While candidates remain there is a call, and then the run goes on; otherwise it is settled.
  pub run_goes_on : {size : ℕ} {p : Progress} → Reached k size p
      → chunks k size p ≡ on_open (opens p.statuses) k size p (λ s q. chunks k s q)
  run_goes_on = run-next.chunks-next limit

  -- After the first, a call that finds a model leaves more variables free than before, one that finds none leaves exactly its chunk
  -- more forced, and nothing else changes; a stopped call changes nothing.
  pub call_settles : {size chunk : ℕ} {p : Progress} → Reached k size p → Takes size p chunk → Leaves (chunk_call k p chunk) k p chunk
  call_settles = run-trace.call_leaves limit

  -- There is a status for each variable, and it is 0, 1, 2 or 3.
  pub status_for_each : (length (run k).progress.statuses ≡ k.vars) × ((i : ℕ) → status_at (run k).progress.statuses i ≤ 3)
  status_for_each = run-theorems.run_statuses k limit

  -- A settled run leaves no variable open.
  pub settled_none_open : (run k).answer ≡ RunAnswer.Settled → (i : ℕ) → status_at (run k).progress.statuses i ≢ 0
  settled_none_open = run-theorems.settled_none_open k limit

  -- Budget and chunk limit never change a settled status.
  pub settled_same : (budget chunk-limit : ℕ) → 1 ≤ chunk-limit → (run k).answer ≡ RunAnswer.Settled
      → (run (with_limits k budget chunk-limit)).answer ≡ RunAnswer.Settled
      → (run k).progress.statuses ≡ (run (with_limits k budget chunk-limit)).progress.statuses
  settled_same budget chunk-limit h = run-theorems.settled_same k budget chunk-limit limit h

  -- A settled run marks a literal forced exactly if a model exists and all models contain it.
  pub settled_forced : (run k).answer ≡ RunAnswer.Settled → (l : ℤ) → LitUpTo k.vars l
      → is_forced_to (run k).progress.statuses l ↔ Forced k.vars k.formula l
  settled_forced = run-theorems.settled_forced k limit

  -- A settled run marks a variable free exactly if two models differ on it.
  pub settled_free : (run k).answer ≡ RunAnswer.Settled → (i : ℕ) → i < k.vars
      → (status_at (run k).progress.statuses i ≡ 1) ↔ Free k.vars k.formula i
  settled_free = run-theorems.settled_free k limit

  -- A run that is not stopped answers "no model" exactly if there is none.
  pub no_model_exactly : (run k).answer ≢ RunAnswer.Stopped → ((run k).answer ≡ RunAnswer.NoModel) ↔ NoModel k.vars k.formula
  no_model_exactly = run-theorems.no_model_exactly k limit

  -- However a run ends, every literal marked forced is in all models, and there is one.
  pub forced_sound : (l : ℤ) → LitUpTo k.vars l → is_forced_to (run k).progress.statuses l → Forced k.vars k.formula l
  forced_sound = run-theorems.run_forced k limit

  -- However a run ends, every variable marked free has a model of that run, or one with this variable alone flipped that is still a
  -- model, that differs on it from the run's first model.
  pub free_witness : (i : ℕ) → i < k.vars → status_at (run k).progress.statuses i ≡ 1
      → WitnessOf k.vars k.formula (run k).progress.models i
  free_witness = run-theorems.run_free k limit

  -- Calls begun are at most V + 1.
  pub calls_bound : length (run k).progress.rows ≤ k.vars + 1
  calls_bound = call-theorems.run_calls k limit

  -- Tries never exceed the budget, and a run is stopped only when they are spent.
  pub tries_bound : ((run k).progress.tries ≤ k.budget)
      × ((run k).answer ≡ RunAnswer.Stopped → (run k).progress.tries ≡ k.budget)
  tries_bound = (call-theorems.run_tries k limit, call-theorems.stopped_spent k limit)

  -- Rows are numbered from 1; after the first, a call with a model drops at least one candidate and one without forces at least one;
  -- both drop columns add up to the number free, the chunks of later rows that say 2 to the number forced, and the tries to all tries.
  pub log_adds_up :
      LogOf (run k).progress.rows (count is_free (run k).progress.statuses) (count is_forced (run k).progress.statuses) (run k).progress.tries
  log_adds_up = call-theorems.run_log k limit

  -- After "no model" all variables are open, and the log has one row.
  pub no_model_table : (run k).answer ≡ RunAnswer.NoModel
      → ((run k).progress.statuses ≡ replicate k.vars 0) × (length (run k).progress.rows ≡ 1)
  no_model_table = call-theorems.no_model_table k limit

  -- However a run ends, the statuses of the records are the statuses.
  pub record_statuses : statuses_of (run k).progress.records ≡ (run k).progress.statuses
  record_statuses = record-theorems.record_statuses k limit

  -- However a run ends, a variable is open exactly if its call is 0, exactly if its way is open; free exactly if compare or flip settled
  -- it; forced exactly if a chunk did; and its call is one that was begun.
  pub records_say : (i : ℕ) → Recorded (length (run k).progress.rows) (record_at (run k).progress.records i)
  records_say = record-theorems.run_recorded k limit

  -- However a run ends, each row's two drops are the counts of the records with its call that compare and flip settled, and its chunk, if
  -- it says 2, is the count of those that a chunk settled; a row that says something else has none of those.
  pub log_counts_records : (r : Row) → In r (run k).progress.rows → Counted (run k).progress.records r
  log_counts_records = record-theorems.run_counted k limit

  -- All of this, of what the buffers show.
  pub records_in :
      RecordsIn k.vars (length (run k).progress.rows) (run k).progress.statuses (calls_of (run k).progress.records)
      (ways_of (run k).progress.records) (log_of_rows k.vars (run k).progress.rows)
  records_in = record-theorems.run_records_in k limit

  -- After "no model" every record is open.
  pub no_model_records : (run k).answer ≡ RunAnswer.NoModel → (run k).progress.records ≡ replicate k.vars open_record
  no_model_records = record-theorems.no_model_records k limit

  -- However a run ends, the first model and the witness of a variable marked free are two models that differ on it; the first one is the
  -- first that the run found, and the other one is the witness that `free_witness` speaks of.
  pub free_pair : (i : ℕ) → i < k.vars → status_at (run k).progress.statuses i ≡ 1 → PairAt k.vars k.formula (run k).progress i
  free_pair = witness-theorems.run_pair k limit

-- ---- the witness

-- Each number before 14 is given exactly when a run gives it that is lent buffers as long.
pub witness_refusals : (a : Asked) (r : Refusal) → r ≢ Refusal.NotFree → (asked_refusal a ≡ some r) ↔ RunRefuses (lent_for a) r
witness_refusals = witness-theorems.asked_refused

-- 14 is given exactly if that run is accepted and the variable is not free in it.
pub witness_not_free : (a : Asked)
    → (asked_refusal a ≡ some Refusal.NotFree) ↔ (Accepted (lent_for a) × (FreeIn a.vars (run (asked_task a)).progress a.variable → ⊥))
witness_not_free = witness-theorems.asked_not_free

-- Otherwise nothing is refused.
pub witness_answered : (a : Asked) → (asked_refusal a ≡ none) ↔ (Accepted (lent_for a) × FreeIn a.vars (run (asked_task a)).progress a.variable)
witness_answered = witness-theorems.asked_answered

-- What is refused returns zero counts and writes nothing.
pub witness_refused_nothing : (a : Asked) (r : Refusal) → asked_refusal a ≡ some r
    → (asked_report a ≡ record { answer = RunAnswer.Refused r; calls = 0; tries = 0; forced = 0; free = 0 })
    × (first_after a ≡ a.first) × (witness_after a ≡ a.witness)
witness_refused_nothing = witness-theorems.refused_nothing

-- Otherwise V literals of the run's first model and of the witness are written, and the rest stays.
pub witness_first : (a : Asked) → Accepted (lent_for a) → FreeIn a.vars (run (asked_task a)).progress a.variable
    → (take a.vars (first_after a) ≡ literals_from 0 (run (asked_task a)).progress.first) × (drop a.vars (first_after a) ≡ drop a.vars a.first)
witness_first = witness-theorems.first_written

pub witness_second : (a : Asked) → Accepted (lent_for a) → FreeIn a.vars (run (asked_task a)).progress a.variable
    → (take a.vars (witness_after a) ≡ literals_from 0 (witness_at (run (asked_task a)).progress (pred a.variable)))
    × (drop a.vars (witness_after a) ≡ drop a.vars a.witness)
witness_second = witness-theorems.witness_written

-- They are two models of the formula and the held literals that differ on the variable.
pub witness_pair : (a : Asked) → Accepted (lent_for a) → FreeIn a.vars (run (asked_task a)).progress a.variable
    → PairAt a.vars (with_held (clauses a.entries) a.held) (run (asked_task a)).progress (pred a.variable)
witness_pair = witness-theorems.asked_pair

-- The literal of a variable stands at its index, with the sign of its value.
pub literal_for_each : (m : Values) (i : ℕ) (d : ℤ) → i < length m → get_or (literals_from 0 m) i d ≡ literal_at (0 + i) (value_at m i)
literal_for_each = witness-theorems.literal_at_lem 0

-- ---- choices already made

-- A model of the formula with the held literals is a model of the formula in which every held literal is true, and back.
pub held_models : (n : ℕ) (F : List Clause) (held : List ℤ) (m : Values) → Model n (with_held F held) m ↔ HeldModel n F held m
held_models = held-theorems.held_models

-- Of two runs on one formula where the second holds more: every literal forced in the first is forced in the second, unless the second is
-- stopped or finds no model.
pub held_more : (k : Task) (held more : List ℤ) (budget limit : ℕ) → 1 ≤ k.limit → 1 ≤ limit
    → (run (with_limits (holding k (held ++ more)) budget limit)).answer ≢ RunAnswer.Stopped
    → (run (with_limits (holding k (held ++ more)) budget limit)).answer ≢ RunAnswer.NoModel
    → (l : ℤ) → LitUpTo k.vars l → is_forced_to (run (holding k held)).progress.statuses l
    → is_forced_to (run (with_limits (holding k (held ++ more)) budget limit)).progress.statuses l
held_more = held-theorems.held_more

-- If a run marks a variable free, holding either of its literals too never answers "no model".
pub held_free : (k : Task) (held : List ℤ) (budget limit : ℕ) → 1 ≤ k.limit → 1 ≤ limit → (l : ℤ) → LitUpTo k.vars l
    → status_at (run (holding k held)).progress.statuses (index_of l) ≡ 1
    → (run (with_limits (holding k (held ++ (l ∷ []))) budget limit)).answer ≢ RunAnswer.NoModel
held_free = held-theorems.held_free

-- With both signs of a variable held there is no model, and no try is needed to find that.
pub held_signs : (k : Task) (held : List ℤ) (l : ℤ) → 1 ≤ var_of l → In l held → In (negated l) held
    → ((run (holding k held)).answer ≡ RunAnswer.NoModel) × ((run (holding k held)).progress.tries ≡ 0)
held_signs = held-theorems.held_signs

-- With an empty list a run is refused for what its list and its buffers are refused for, and its task is the formula's alone.
pub held_none : (g : Given) → g.held ≡ [] → (refusal_of g ≡ plain_refusal g) × (task_of g ≡ plain_task g)
held_none = held-runs.none_held

-- The one list of entries that a run is made on has the formula's clauses and then one for each held literal.
pub held_list : (es held : List ℤ) → is_ended es ≡ true → ((l : ℤ) → In l held → 1 ≤ var_of l)
    → clauses (list_with es held) ≡ with_held (clauses es) held
held_list = held-laws.clauses_held

-- ---- the order of the rules

-- Two runs with the same V, budget and chunk limit, whose clauses are the same as sets of sets of literals and whose held literals are the same
-- as sets, are one run: answer, tries, statuses, records, rows, and the models found.
pub run_any_order : (k : Task) (F : List Clause) (held other : List ℤ) → SameRules k.formula F → SameHeld held other
    → run (holding k held) ≡ run (holding (with_rules k F) other)
run_any_order = order-theorems.run_any_order

-- So two lists that are accepted get the same numbers, statuses, calls, ways and log. The hints name clauses, and may differ.
pub runs_any_order : {es ds : List ℤ} {vars : ℕ} {held other : List ℤ} {budget limit : ℕ} {lent lent' after after' : Buffers} {r r' : Report}
    → Runs (given es vars held budget limit lent) r after → Runs (given ds vars other budget limit lent') r' after'
    → Accepted (given es vars held budget limit lent) → Accepted (given ds vars other budget limit lent')
    → SameRules (clauses es) (clauses ds) → SameHeld held other → (r ≡ r') × SameTable vars after after'
runs_any_order = order-theorems.runs_any_order

-- So do two setups: the same numbers and the same values,
pub setups_any_order : {es ds : List ℤ} {vars : ℕ} {held other : List ℤ} {budget : ℕ} {lent lent' after after' : List ℕ} {r r' : Report}
    → SetsUp (setup_given es vars held budget lent) r after → SetsUp (setup_given ds vars other budget lent') r' after'
    → Accepted (setup_run (setup_given es vars held budget lent)) → Accepted (setup_run (setup_given ds vars other budget lent'))
    → SameRules (clauses es) (clauses ds) → SameHeld held other → (r ≡ r') × (take vars after ≡ take vars after')
setups_any_order = setup-order.setups_any_order

-- and two witnesses of a free variable: the same numbers and the same two models.
pub witnesses_any_order : {es ds : List ℤ} {vars : ℕ} {held other : List ℤ} {budget limit variable : ℕ}
    {x x' y y' first first' witness witness' : List ℤ} {r r' : Report}
    → Witnesses (asked es vars held budget limit variable x y) r first witness
    → Witnesses (asked ds vars other budget limit variable x' y') r' first' witness'
    → Accepted (lent_for (asked es vars held budget limit variable x y)) → Accepted (lent_for (asked ds vars other budget limit variable x' y'))
    → SameRules (clauses es) (clauses ds) → SameHeld held other
    → FreeIn vars (run (asked_task (asked es vars held budget limit variable x y))).progress variable
    → (r ≡ r') × (take vars first ≡ take vars first') × (take vars witness ≡ take vars witness')
witnesses_any_order = setup-order.witnesses_any_order

-- ---- one valid setup

-- It is the first call of a run on the same formula with the same literals held and the same budget.
pub setup_first_call : (g : Given) (values : List ℕ)
    → setup_call (setup_given g.entries g.vars g.held g.budget values) ≡ first_call (task_of g)
setup_first_call = setups.setup_first_call

-- With 0 the values are the bits of the first model of the formula that has every held literal.
pub setup_model : (g : SetupGiven) → setup_answer (setup_call g) ≡ RunAnswer.Settled
    → FirstSetup g.vars (clauses g.entries) g.held (setup_values g.vars (setup_call g))
setup_model = setups.setup_model

-- Unless stopped, 20 is answered exactly if there is no such model.
pub setup_none : (g : SetupGiven) → setup_answer (setup_call g) ≢ RunAnswer.Stopped
    → (setup_answer (setup_call g) ≡ RunAnswer.NoModel) ↔ NoModel g.vars (with_held (clauses g.entries) g.held)
setup_none = setups.setup_none

-- Tries never exceed the budget, and all of it is spent where the call was stopped.
pub setup_tries : (g : SetupGiven)
    → (tries_of (setup_call g) ≤ g.budget) × (setup_answer (setup_call g) ≡ RunAnswer.Stopped → tries_of (setup_call g) ≡ g.budget)
setup_tries = setups.setup_tries

-- Each refusal is given exactly when its rule says so of a run with the values in the place of the statuses, and none exactly if no rule does.
pub setup_refusals : (g : SetupGiven) (a : Refusal) → (setup_refusal g ≡ some a) ↔ RunRefuses (setup_run g) a
setup_refusals = setups.setup_refused

pub setup_acceptance : (g : SetupGiven) → (setup_refusal g ≡ none) ↔ Accepted (setup_run g)
setup_acceptance = setups.setup_accepted

-- Refused, it returns zero counts and writes nothing; accepted, it writes the first V bytes and leaves the rest.
pub setup_refused_nothing : (g : SetupGiven) (a : Refusal) → RunRefuses (setup_run g) a
    → (setup_report_of g ≡ record { answer = RunAnswer.Refused a; calls = 0; tries = 0; forced = 0; free = 0 }) × (setup_values_after g ≡ g.values)
setup_refused_nothing = setups.setup_nothing

pub setup_writes : (g : SetupGiven) → Accepted (setup_run g)
    → (setup_report_of g ≡ setup_report (setup_call g))
    × (take g.vars (setup_values_after g) ≡ setup_values g.vars (setup_call g))
    × (drop g.vars (setup_values_after g) ≡ drop g.vars g.values)
setup_writes = setups.setup_written

-- ---- what follows at once

-- A clash means that no model has the held literals.
pub close_clash : (g : CloseGiven) → closed_set g ≡ clash → NoModel g.vars (with_held (clauses g.entries) g.held)
close_clash = closings.close_none

-- Every literal that is set is in all models that have them,
pub close_in_all : (g : CloseGiven) (ws : Values) → closed_set g ≡ closed ws → (l : ℤ) → is_true ws l ≡ true
    → (m : Values) → Model g.vars (with_held (clauses g.entries) g.held) m → is_true m l ≡ true
close_in_all = closings.close_in_all

-- and the held literals are set.
pub close_held : (g : CloseGiven) (ws : Values) → closed_set g ≡ closed ws → (l : ℤ) → In l g.held → is_true ws l ≡ true
close_held = closings.close_held

-- Clauses and held literals in another order, or repeated, close alike.
pub close_any_order : {g h : CloseGiven} → SameSets g h → closed_set g ≡ closed_set h
close_any_order = closings.close_order

-- Rounds are at most one more than the variables that are set, and always at most V + 1.
pub close_rounds_lem : (g : CloseGiven) (ws : Values) → closed_set g ≡ closed ws → close_rounds g ≤ suc (set_by (closed_set g))
close_rounds_lem = closings.close_rounds_lem

pub close_rounds_most : (g : CloseGiven) → close_rounds g ≤ suc g.vars
close_rounds_most = closings.close_most

-- Each refusal number and place is given exactly as a run gives it that has the values in the place of its statuses.
pub close_refusals : (g : CloseGiven) (a : Refusal) → (close_refusal g ≡ some a) ↔ RunRefuses (setup_run (close_setup g)) a
close_refusals = closings.close_refused

pub close_acceptance : (g : CloseGiven) → (close_refusal g ≡ none) ↔ Accepted (setup_run (close_setup g))
close_acceptance = closings.close_accepted

-- What is refused returns zeros and writes nothing; otherwise the first V values are written and the rest stays.
pub close_refused_nothing : (g : CloseGiven) (a : Refusal) → RunRefuses (setup_run (close_setup g)) a
    → (close_report_of g ≡ record { answer = CloseAnswer.Refused a; rounds = 0; set = 0 }) × (close_values_after g ≡ g.values)
close_refused_nothing = closings.close_nothing

pub close_writes : (g : CloseGiven) → Accepted (setup_run (close_setup g))
    → (close_report_of g ≡ close_report (closed_set g) (close_rounds g))
    × (take g.vars (close_values_after g) ≡ close_values g.vars (closed_set g))
    × (drop g.vars (close_values_after g) ≡ drop g.vars g.values)
close_writes = closings.close_written

-- ---- why a literal is forced

module _ (q : Question) (some : 1 ≤ var_of q.literal) where
  -- With 0 no assignment makes the kept clauses true with the literal false.
  pub why_forces : (why q).answer ≡ WhyAnswer.Kept → (m : Values) → FalseModel q.vars (marked (why q).marks q.formula) q.literal m → ⊥
  why_forces = reasons.why_forces q some

  -- Without any one of them there is such an assignment.
  pub why_needed : (why q).answer ≡ WhyAnswer.Kept → (i : ℕ) → get_or (why q).marks i 0 ≢ 0
      → (m : Values) × FalseModel q.vars (marked (set (why q).marks i 0) q.formula) q.literal m
  why_needed = reasons.why_needed q some

  -- And the literal is forced by the formula.
  pub why_forced : (why q).answer ≡ WhyAnswer.Kept → Forced q.vars q.formula q.literal
  why_forced = reasons.why_forced q some

  -- Unless stopped, 20 is answered exactly if there is no model,
  pub why_no_model : (why q).answer ≢ WhyAnswer.Stopped → ((why q).answer ≡ WhyAnswer.NoModel) ↔ NoModel q.vars q.formula
  why_no_model = reasons.why_no_model q some

  -- and 22 exactly if a model has the literal false;
  pub why_not_forced : (why q).answer ≢ WhyAnswer.Stopped
      → ((why q).answer ≡ WhyAnswer.NotForced) ↔ ((m : Values) × FalseModel q.vars q.formula q.literal m)
  why_not_forced = reasons.why_not_forced q some

  -- such a model is written.
  pub why_values : (why q).answer ≡ WhyAnswer.NotForced → (m : Values) × FalseModel q.vars q.formula q.literal m × ((why q).values ≡ map bit_of m)
  why_values = reasons.why_values q some

-- Calls are at most C + 2; tries are within the budget, all of it where it stopped the run.
pub why_calls : (q : Question) → (why q).calls ≤ length q.formula + 2
why_calls = reasons.why_calls

pub why_tries : (q : Question) → ((why q).tries ≤ q.budget) × ((why q).answer ≡ WhyAnswer.Stopped → (why q).tries ≡ q.budget)
why_tries = reasons.why_tries

-- Each refusal is given exactly when its rule says so, and none exactly if nothing is wrong.
pub why_refused : (g : WhyGiven) (a : Refusal) → (why_refusal g ≡ some a) ↔ WhyRefuses g a
why_refused = refused-reasons.why_refused

pub why_accepted : (g : WhyGiven) → (why_refusal g ≡ none) ↔ WhyAccepted g
why_accepted = refused-reasons.why_accepted

-- ---- which clause holds a switch

-- In the first model of a run a hint is 0 exactly if the variable, flipped alone, leaves all clauses true,
pub hint_zero : (k : Task) (m : Values) (t : ℕ) → first_call k ≡ model m t → (i : ℕ) → i < k.vars
    → (get_or (hints_of k) i 0 ≡ 0) ↔ (satisfies (flipped m i) k.formula ≡ true)
hint_zero = hints.hint_zero

-- otherwise it is the number of the first clause that this makes false.
pub hint_some : (k : Task) (m : Values) (t : ℕ) → first_call k ≡ model m t → (i : ℕ) → i < k.vars
    → (n : ℕ) → 1 ≤ n → get_or (hints_of k) i 0 ≡ n → FirstFalse k.formula (flipped m i) n
hint_some = hints.hint_some

-- Without a first model each hint is 0.
pub unhinted : (k : Task) → ((m : Values) (t : ℕ) → first_call k ≡ model m t → ⊥) → hints_of k ≡ replicate k.vars 0
unhinted = hints.unhinted

-- However a run ends, a literal that it marks forced has a hint: there is a first model, and in it the literal is the only true one of the
-- clause with that number, in however many places it stands.
pub forced_held : (k : Task) → 1 ≤ k.limit → (es : List ℤ) → k.formula ≡ clauses es → (l : ℤ) → LitUpTo k.vars l
    → is_forced_to (run k).progress.statuses l
    → (m : Values) × (t : ℕ) × (first_call k ≡ model m t) × HeldBy k.formula m l (get_or (hints_of k) (index_of l) 0)
forced_held = hints.forced_held

-- ---- computed cases: each is a table whose lines are compared with what the definitions give

-- Why: small formulas, with marks, values, calls and tries.
pub why_cases : all reason-cases.passes reason-cases.cases ≡ true
why_cases = reason-cases.why_cases

-- The small formulas that the rules mark, whole.
pub starred : all run-cases.passes run-cases.cases ≡ true
starred = run-cases.starred

-- Further small formulas, each for a sentence that no marked one shows.
pub further_cases : all run-cases.passes more-cases.further ≡ true
further_cases = more-cases.further_cases

-- The calls and ways of both.
pub recorded_cases : record-cases.all_pass (run-cases.cases ++ more-cases.further) (record-cases.lines ++ record-cases.further_lines) ≡ true
recorded_cases = record-cases.recorded_cases

-- First models and witnesses of small formulas, and what is refused with 14.
pub witness_cases : all shown-cases.passes shown-cases.witnesses ≡ true
witness_cases = shown-cases.witness_cases

-- The hints of small formulas.
pub hint_cases_lem : all held_cases_lem.passes held_cases_lem.hint_cases ≡ true
hint_cases_lem = held_cases_lem.hint_cases_lem

-- Small formulas with held literals, whole.
pub held_runs_cases : all chosen-cases.passes chosen-cases.held_cases ≡ true
held_runs_cases = chosen-cases.held_cases_lem

-- One valid setup of small formulas, with the values.
pub setup_cases_lem : all setup-runs.passes setup-runs.setup_cases ≡ true
setup_cases_lem = setup-runs.setup_cases_lem

-- What follows at once from small formulas, with the rounds.
pub close_cases_lem : all closing-cases.passes closing-cases.close_cases ≡ true
close_cases_lem = closing-cases.close_cases_lem

-- ---- no second result

-- One result and one content of each buffer satisfy the run's contract.
pub runs_unique : {g : Given} {r r' : Report} {b b' : Buffers} → Runs g r b → Runs g r' b' → (r ≡ r') × (b ≡ b')
runs_unique = buffers.runs_unique

-- One result and one content of both buffers satisfy the witness's contract.
pub witnesses_unique : {a : Asked} {r r' : Report} {x x' y y' : List ℤ} → Witnesses a r x y → Witnesses a r' x' y' → (r ≡ r') × (x ≡ x') × (y ≡ y')
witnesses_unique = witness-theorems.witnesses_unique

-- One result and one buffer satisfy the contract of one valid setup.
pub sets_up_unique : {g : SetupGiven} {r r' : Report} {b b' : List ℕ} → SetsUp g r b → SetsUp g r' b' → (r ≡ r') × (b ≡ b')
sets_up_unique = setups.sets_up_unique

-- One result and one buffer satisfy the contract of what follows at once.
pub closes_exists : (g : CloseGiven) → Closes g (close_report_of g) (close_values_after g)
closes_exists = closings.closes_exists

pub closes_unique : {g : CloseGiven} {r r' : CloseReport} {b b' : List ℕ} → Closes g r b → Closes g r' b' → (r ≡ r') × (b ≡ b')
closes_unique = closings.closes_unique

-- One result and two buffers satisfy the contract of why.
pub explains_unique : {g : WhyGiven} {r r' : WhyReport} {s s' v v' : List ℕ}
    → Explains g r s v → Explains g r' s' v' → (r ≡ r') × (s ≡ s') × (v ≡ v')
explains_unique = refused-reasons.explains_unique
