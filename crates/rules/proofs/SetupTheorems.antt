-- What one valid setup says: the laws of specs/Setup.
--
--   setup_first_call  it is the first call of a run on the same formula, with the same literals held and the same budget
--   setup_model       a model found is the first one of the formula that has every held literal
--   setup_none        "no model" exactly if there is none, unless stopped
--   setup_tries       tries are within the budget, all of it where the call was stopped
--   refusal_same, setup_refused, setup_accepted     refused, by number and place, exactly as such a run is
--   setup_nothing, setup_written      what is returned and written, refused and not
--   sets_up_exists, sets_up_unique    one result and one buffer satisfy the contract
--
-- Assumes nothing.
use mathlib.Core.Path.{◌≡◌, refl, sym, ◌∙◌, ap}
use mathlib.Core.Logic.{◌≢◌, ◌↔◌}
use mathlib.Core.Bool.{Bool, or-false}
use mathlib.Core.List.{List}
use mathlib.Core.Option.{none, some}
use Prim.Native.Nat.{ℕ, ◌≤◌}
use native.Mathlib.Omega.{arith}
use lib.Dec.{ltb}
use lib.IntN.{ℤ}
use lib.ListN.{length, take, drop, length-map, length-replicate}
use lib.Seq.{take_at, drop_at}
use borrow.Author.Tests.{le-ltb}
use Rattle.rules.specs.declared.Refusal.{Refusal}
use Rattle.rules.specs.declared.RunAnswer.{RunAnswer}
use Rattle.rules.specs.declared.Report.{Report}
use Rattle.rules.specs.Lists.{first_of}
use Rattle.rules.specs.Numbers.{max_vars}
use Rattle.rules.specs.Meaning.{Clause, Values, clauses, bit_of, Model}
use Rattle.rules.specs.Models.{NoModel, LeastModel}
use Rattle.rules.specs.Search.{Call, model, no_model, stopped, tries_of, call_on}
use Rattle.rules.specs.Run.{blank, first_call}
use Rattle.rules.specs.Held.{with_held}
use Rattle.rules.specs.Answer.{Given, log_length, taking_rules, out_of_limits, is_short, refusal_of, task_of}
use Rattle.rules.specs.RunRefusals.{Accepted, RunRefuses}
use Rattle.rules.specs.Setup.{SetupGiven, setup_given, setup_refusal, setup_run, setup_call, setup_answer, setup_report, setup_values}
use Rattle.rules.specs.Setup.{setup_report_of, setup_values_after, SetsUp, FirstSetup}
use Rattle.rules.proofs.ListLaws.{apart}
use Rattle.rules.proofs.MeaningLaws.{blank_extends, blank_proper}
use Rattle.rules.proofs.HeldLaws.{held_sound, held_complete}
use Rattle.rules.proofs.SearchLaws.{call_on_model, call_on_none, call_on_tries, call_on_stopped}
use Rattle.rules.proofs.RefusedRuns.{run_refused, run_accepted}

-- ---- the call

pub setup_first_call : (g : Given) (values : List ℕ)
    → setup_call (setup_given g.entries g.vars g.held g.budget values) ≡ first_call (task_of g)
unfolding setup_call first_call
setup_first_call g values = refl

module _ (n budget : ℕ) (F : List Clause) (held : List ℤ) where
  -- the call
  abbrev called : Call
  called = call_on budget (with_held F held) (blank n) 0

  found : (m : Values) (t : ℕ) → called ≡ model m t → LeastModel (with_held F held) (blank n) m
  found m t e = call_on_model budget (with_held F held) (blank n) 0 m t (blank_proper n) e

  found_model : (m : Values) (t : ℕ) → called ≡ model m t → Model n (with_held F held) m
  found_model m t e =
      let w = found m t e in
      record { len = w.len ∙ length-replicate n 0; total = w.total; all_true = w.all_true }

  first_setup : setup_answer called ≡ RunAnswer.Settled → FirstSetup n F held (setup_values n called)
  first_setup a = go called refl a
    where
      go : (c : Call) → called ≡ c → setup_answer c ≡ RunAnswer.Settled → FirstSetup n F held (setup_values n c)
      go (model m t) e a =
          record {
            setup = m;
            is-model = held_sound (found_model m t e);
            is-first =
                λ d x.
                let y = held_complete x in
                (found m t e).least d (blank_extends n d y.len) y.total y.all_true;
            written = refl;
          }
      go (no_model t) e a = apart cc
      go (stopped t) e a = apart cc

  none_exactly : setup_answer called ≢ RunAnswer.Stopped → (setup_answer called ≡ RunAnswer.NoModel) ↔ NoModel n (with_held F held)
  none_exactly s = (sound called refl, complete called refl s)
    where
      sound : (c : Call) → called ≡ c → setup_answer c ≡ RunAnswer.NoModel → NoModel n (with_held F held)
      sound (model m t) e a = apart cc
      sound (stopped t) e a = apart cc
      sound (no_model t) e a =
          record {
            none =
                λ m x. (call_on_none budget (with_held F held) (blank n) 0 t (blank_proper n) e).none_from m (blank_extends n m x.len) x.total
                x.all_true;
          }

      complete : (c : Call) → called ≡ c → setup_answer c ≢ RunAnswer.Stopped → NoModel n (with_held F held) → setup_answer c ≡ RunAnswer.NoModel
      complete (model m t) e s z = absurd (z.none m (found_model m t e))
      complete (no_model t) e s z = refl
      complete (stopped t) e s z = absurd (s refl)

  length_setup : length (setup_values n called) ≡ n
  length_setup = go called refl
    where
      go : (c : Call) → called ≡ c → length (setup_values n c) ≡ n
      go (model m t) e = length-map m bit_of ∙ (found_model m t e).len
      go (no_model t) e = length-replicate n 0
      go (stopped t) e = length-replicate n 0

  tries_within : (tries_of called ≤ budget) × (setup_answer called ≡ RunAnswer.Stopped → tries_of called ≡ budget)
  tries_within = (within, λ a. go called refl a)
    where
      within : tries_of called ≤ budget
      within = (call_on_tries budget (with_held F held) (blank n) 0).within (omega arith)

      go : (c : Call) → called ≡ c → setup_answer c ≡ RunAnswer.Stopped → tries_of called ≡ budget
      go (model m t) e a = apart cc
      go (no_model t) e a = apart cc
      go (stopped t) e a = omega (arith, within, ap tries_of e, call_on_stopped budget (with_held F held) (blank n) 0 t e)

-- ---- refusals

module _ (g : SetupGiven) where
  limits_same : out_of_limits g.vars 1 ≡ ltb max_vars g.vars
  limits_same = or-false (ltb max_vars g.vars)

  short_same : is_short (setup_run g) ≡ ltb (length g.values) g.vars
  short_same =
      rw (
        length-replicate {A = ℕ} g.vars 0,
        length-replicate {A = ℕ} (log_length g.vars) 0,
        le-ltb g.vars g.vars (omega arith),
        le-ltb (log_length g.vars) (log_length g.vars) (omega arith),
      )
      (or-false (ltb (length g.values) g.vars))

  pub refusal_same : setup_refusal g ≡ refusal_of (setup_run g)
  unfolding setup_refusal refusal_of
  refusal_same =
      ap (λ (b : Bool). first_of (taking_rules b (ltb (length g.values) g.vars) g.entries g.vars g.held)) (sym limits_same) ∙
      ap (λ (b : Bool). first_of (taking_rules (out_of_limits g.vars 1) b g.entries g.vars g.held)) (sym short_same)

  pub setup_refused : (a : Refusal) → (setup_refusal g ≡ some a) ↔ RunRefuses (setup_run g) a
  setup_refused a = rw refusal_same (run_refused (setup_run g) a)

  pub setup_accepted : (setup_refusal g ≡ none) ↔ Accepted (setup_run g)
  setup_accepted = rw refusal_same (run_accepted (setup_run g))

-- ---- of what is given

module _ (g : SetupGiven) where
  pub setup_model : setup_answer (setup_call g) ≡ RunAnswer.Settled
      → FirstSetup g.vars (clauses g.entries) g.held (setup_values g.vars (setup_call g))
  unfolding setup_call
  setup_model = first_setup g.vars g.budget (clauses g.entries) g.held

  pub setup_none : setup_answer (setup_call g) ≢ RunAnswer.Stopped
      → (setup_answer (setup_call g) ≡ RunAnswer.NoModel) ↔ NoModel g.vars (with_held (clauses g.entries) g.held)
  unfolding setup_call
  setup_none = none_exactly g.vars g.budget (clauses g.entries) g.held

  pub setup_tries : (tries_of (setup_call g) ≤ g.budget) × (setup_answer (setup_call g) ≡ RunAnswer.Stopped → tries_of (setup_call g) ≡ g.budget)
  unfolding setup_call
  setup_tries = tries_within g.vars g.budget (clauses g.entries) g.held

  length_values : length (setup_values g.vars (setup_call g)) ≡ g.vars
  unfolding setup_call
  length_values = length_setup g.vars g.budget (clauses g.entries) g.held

-- ---- what is returned and written

pub setup_nothing : (g : SetupGiven) (a : Refusal) → RunRefuses (setup_run g) a
    → (setup_report_of g ≡ record { answer = RunAnswer.Refused a; calls = 0; tries = 0; forced = 0; free = 0 }) × (setup_values_after g ≡ g.values)
unfolding setup_report_of setup_values_after
setup_nothing g a r = let e = (setup_refused g a).1 r in (rw e, rw e)

pub setup_written : (g : SetupGiven) → Accepted (setup_run g)
    → (setup_report_of g ≡ setup_report (setup_call g))
    × (take g.vars (setup_values_after g) ≡ setup_values g.vars (setup_call g))
    × (drop g.vars (setup_values_after g) ≡ drop g.vars g.values)
unfolding setup_report_of setup_values_after
setup_written g w =
    let e = (setup_accepted g).1 w in (
      rw e,
      rw e (take_at (setup_values g.vars (setup_call g)) (drop g.vars g.values) g.vars (length_values g)),
      rw e (drop_at (setup_values g.vars (setup_call g)) (drop g.vars g.values) g.vars (length_values g)),
    )

pub sets_up_exists : (g : SetupGiven) → SetsUp g (setup_report_of g) (setup_values_after g)
sets_up_exists g = record { result_is = refl; values_are = refl }

pub sets_up_unique : {g : SetupGiven} {r r' : Report} {b b' : List ℕ} → SetsUp g r b → SetsUp g r' b' → (r ≡ r') × (b ≡ b')
sets_up_unique p q = (p.result_is ∙ sym q.result_is, p.values_are ∙ sym q.values_are)
