-- The laws of the questions: the visits, the second call and the first.
--
--   visited_model, visited_otherwise     the marks behind a visit
--   asked_same                    what is required, by the lengths of the buffers
--   Visiting, visiting_start, visiting_step, visiting_stop, visiting_done     the loop over the clauses
--   second_marks, second_false, second_none, second_stopped     the second call
--   ask_over, ask-clauses, first_model, first_none, first_stopped     the first call
--
-- Assumes nothing.
use mathlib.Core.Path.{◌≡◌, refl, sym, ◌∙◌, ap}
use mathlib.Core.Logic.{◌≢◌}
use mathlib.Core.List.{List, [], ◌++◌, map}
use Prim.Native.Nat.{ℕ, zero, suc, ◌+◌, ◌-◌, ◌≤◌, ◌<◌}
use native.Mathlib.Omega.{arith}
use lib.IntN.{ℤ}
use lib.ListN.{length, get_or, set, take, drop, replicate}
use lib.Seq.{set-set, set-get_or, get_or-set_other}
use Rattle.rules.specs.declared.Outcome.{Outcome}
use Rattle.rules.specs.declared.WhyAnswer.{WhyAnswer}
use Rattle.rules.specs.declared.WhyReport.{WhyReport}
use Rattle.rules.specs.Numbers.{max_clauses}
use Rattle.rules.specs.Meaning.{Clause, clauses, bit_of}
use Rattle.rules.specs.Search.{Call, model, no_model, stopped, call_on}
use Rattle.rules.specs.Run.{blank}
use Rattle.rules.specs.Why.{Question, WhyEnded, marked, first_marks, plain_call, false_call, on_visit, visits, on_second, on_plain, why}
use Rattle.rules.proofs.WhyLaws.{marked_first}
use Rattle.formula.specs.Starts.{StartsFound, call_clauses}
use Rattle.formula.proofs.ClauseLaws.{call_clauses_formula, nil_up_to}
use Rattle.formula.proofs.StartsLaws.{found_front}
use Rattle.search.specs.declared.meter.Meter.{Meter}
use Rattle.search.specs.declared.call.CallEnd.{CallEnd}
use Rattle.search.specs.Calls.{CallOver, CallEnds}
use Rattle.reason.specs.Asks.{Asked, EndsAs, MarkedBelow, VisitDone, blank_call, marked_call, mark_by, question}
use Rattle.search.proofs.EndLaws.{was_model}
use Rattle.reason.proofs.CallLaws.{ends_none, ends_stopped}

-- ---- the marks behind a visit

pub visited_model : (o : Outcome) (ms : List ℕ) (n : ℕ) → o ≡ Outcome.Model → set (set ms n 0) n 1 ≡ mark_by o ms n
visited_model o ms n e = rw e (set-set ms n 0 1)

pub visited_otherwise : (o : Outcome) (ms : List ℕ) (n : ℕ) → o ≢ Outcome.Model → set ms n 0 ≡ mark_by o ms n
visited_otherwise Outcome.Model ms n h = absurd (h refl)
visited_otherwise Outcome.NoModel ms n h = refl
visited_otherwise Outcome.Stopped ms n h = refl

-- what is required, by the lengths of the buffers
pub asked_same : {vars vars' : ℕ} {es : List ℤ} {l : ℤ} {kept kept' : List ℤ} {starts starts' marks marks' : List ℕ}
    → Asked vars es l kept starts marks → vars' ≡ vars → length kept' ≡ length kept → length starts' ≡ length starts → length marks' ≡ length marks
    → Asked vars' es l kept' starts' marks'
asked_same w v k s m =
    let a = w.asks in
    rw v
    (record {
      asks =
          record {
            vars_fit = a.vars_fit;
            entries_fit = a.entries_fit;
            ended = a.ended;
            clauses_fit = a.clauses_fit;
            up_to = a.up_to;
            literal_up_to = a.literal_up_to;
            marks_are = m ∙ a.marks_are;
          };
      kept_room = omega (arith, w.kept_room);
      starts_room = omega (arith, w.starts_room);
    })

-- ---- the loop over the clauses

-- n clauses are still to be visited; the end is that of the visits as they began
pub record Visiting (q : Question) (end : WhyEnded) (count n calls : ℕ) (m : Meter) (ms : List ℕ) : Type 0 where
  pub most : n ≤ count
  pub marked_below : MarkedBelow ms n
  pub budget_is : m.budget ≡ q.budget
  pub calls_are : calls + n ≡ 2 + count
  pub same : visits n q ms calls m.spent ≡ end

pub visiting_start : (q : Question) (count : ℕ) (m : Meter) (ms : List ℕ) → m.budget ≡ q.budget → MarkedBelow ms count
    → Visiting q (visits count q ms 2 m.spent) count count 2 m ms
visiting_start q count m ms e b = record { most = omega arith; marked_below = b; budget_is = e; calls_are = refl; same = refl }

-- the call that a visit makes
false_is : (es : List ℤ) (vars : ℕ) (l : ℤ) (budget : ℕ) (F : List Clause) (m : Meter) → m.budget ≡ budget
    → marked_call F vars l m ≡ false_call (question es vars budget l) F m.spent
unfolding false_call
false_is es vars l budget F m e = rw e

visits-next : (q : Question) (n : ℕ) (ms : List ℕ) (calls t : ℕ) (c : Call) → false_call q (marked (set ms n 0) q.formula) t ≡ c
    → visits (suc n) q ms calls t ≡ on_visit c q n ms (suc calls) (λ ks u. visits n q ks (suc calls) u)
unfolding visits
visits-next q n ms calls t c e = ap (λ (d : Call). on_visit d q n ms (suc calls) (λ ks u. visits n q ks (suc calls) u)) e

module _ {es : List ℤ} {vars : ℕ} {l : ℤ} {budget : ℕ} {end : WhyEnded} {count n calls : ℕ} {m : Meter} {ms : List ℕ}
    (w : Visiting (question es vars budget l) end count (suc n) calls m ms) {r : CallEnd} {marks values : List ℕ}
    (d : VisitDone es vars l ms n m r marks values) where
  q : Question
  q = question es vars budget l

  here : get_or ms n 0 ≡ 1
  here = w.marked_below.below n (omega arith)

  -- a clause that is kept keeps its mark
  kept_mark : set ms n 1 ≡ ms
  kept_mark = ap (λ (b : ℕ). set ms n b) (sym here) ∙ set-get_or ms n 0

  by_call : (c : Call) → marked_call (marked (set ms n 0) (clauses es)) vars l m ≡ c
      → visits (suc n) (question es vars budget l) ms calls m.spent
      ≡ on_visit c (question es vars budget l) n ms (suc calls) (λ ks u. visits n (question es vars budget l) ks (suc calls) u)
  by_call c e =
      visits-next (question es vars budget l) n ms calls m.spent c
      (sym (false_is es vars l budget (marked (set ms n 0) (clauses es)) m w.budget_is) ∙ e)

  below_less : MarkedBelow (set ms n 0) n
  below_less = record { below = λ i h. get_or-set_other ms n i 0 0 (omega arith) ∙ w.marked_below.below i (omega arith) }

  pub visiting_step : r.outcome ≢ Outcome.Stopped → Visiting (question es vars budget l) end count n (suc calls) r.meter marks
  visiting_step h = go r.outcome refl h
    where
      go : (o : Outcome) → r.outcome ≡ o → o ≢ Outcome.Stopped → Visiting (question es vars budget l) end count n (suc calls) r.meter marks
      go Outcome.Model e h =
          let z : marks ≡ ms = d.marks_are ∙ ap (λ (o : Outcome). mark_by o ms n) e ∙ kept_mark in
          record {
            most = omega (arith, w.most);
            marked_below = rw z (record { below = λ i k. w.marked_below.below i (omega arith) });
            budget_is = d.call_ends.budget_is ∙ w.budget_is;
            calls_are = omega (arith, w.calls_are);
            same = rw z (sym (by_call (model values r.meter.spent) (was_model d.call_ends e)) ∙ w.same);
          }
      go Outcome.NoModel e h =
          let z : marks ≡ set ms n 0 = d.marks_are ∙ ap (λ (o : Outcome). mark_by o ms n) e in
          record {
            most = omega (arith, w.most);
            marked_below = rw z below_less;
            budget_is = d.call_ends.budget_is ∙ w.budget_is;
            calls_are = omega (arith, w.calls_are);
            same = rw z (sym (by_call (no_model r.meter.spent) (ends_none d.call_ends e).0) ∙ w.same);
          }
      go Outcome.Stopped e h = absurd (h refl)

  pub visiting_stop : r.outcome ≡ Outcome.Stopped → length marks ≡ max_clauses → {cleared : List ℕ} → cleared ≡ replicate (length marks) 0
      → EndsAs end (record { answer = WhyAnswer.Stopped; calls = suc calls; tries = r.meter.spent }) cleared values
  visiting_stop e len z =
      let s = ends_stopped d.call_ends e in
      rw (← w.same, by_call (stopped r.meter.spent) s.0)
      (record { result_is = refl; marks_are = z ∙ ap (λ (k : ℕ). replicate k 0) len; values_are = s.1 })

pub visiting_done : {q : Question} {end : WhyEnded} {count calls : ℕ} {m : Meter} {ms : List ℕ} → Visiting q end count 0 calls m ms
    → {values : List ℕ} → values ≡ replicate q.vars 0
    → EndsAs end (record { answer = WhyAnswer.Kept; calls = calls; tries = m.spent }) ms values
unfolding visits
visiting_done w z = rw (← w.same) (record { result_is = refl; marks_are = refl; values_are = z })

-- the clause that is visited, as code counts it
pub visiting_at : {q : Question} {end : WhyEnded} {count n calls : ℕ} {m : Meter} {ms : List ℕ} → 0 < n → Visiting q end count n calls m ms
    → Visiting q end count (suc (n - 1)) calls m ms
visiting_at {n = n} h w = let e : suc (n - 1) ≡ n = omega arith in rw e w

-- ---- the second call

drop_zeros : (n k : ℕ) → drop {A = ℕ} k (replicate n 0) ≡ replicate (n - k) 0
drop_zeros zero zero = refl
drop_zeros zero (suc k) = let e : 0 - suc k ≡ 0 = omega arith in rw e
drop_zeros (suc n) zero = let e : suc n - 0 ≡ suc n = omega arith in rw e
drop_zeros (suc n) (suc k) = let e : suc n - suc k ≡ n - k = omega arith in rw e (drop_zeros n k)

-- all clauses marked, in cleared marks
pub second_marks : (n : ℕ) {before after : List ℕ} → before ≡ replicate (length before) 0 → length before ≡ max_clauses
    → after ≡ replicate n 1 ++ drop n before → after ≡ first_marks n
second_marks n {before} {after} z len e =
    e ∙ ap (λ (ms : List ℕ). replicate n 1 ++ drop n ms) (z ∙ ap (λ (k : ℕ). replicate k 0) len) ∙
    ap (λ (ms : List ℕ). replicate n 1 ++ ms) (drop_zeros max_clauses n)

module _ (es : List ℤ) (vars : ℕ) (l : ℤ) (m : Meter) {ms : List ℕ} {r : CallEnd} {after : List ℕ} (f : ms ≡ first_marks (length (clauses es)))
    (d : CallEnds (marked_call (marked ms (clauses es)) vars l m) (blank vars) m.budget r after) where
  all_marked : marked ms (clauses es) ≡ clauses es
  all_marked = ap (λ (ks : List ℕ). marked ks (clauses es)) f ∙ marked_first (clauses es) (replicate (max_clauses - length (clauses es)) 0)

  by_second : (c : Call) → marked_call (marked ms (clauses es)) vars l m ≡ c
      → on_second (false_call (question es vars m.budget l) (clauses es) m.spent) (question es vars m.budget l)
      ≡ on_second c (question es vars m.budget l)
  by_second c e =
      ap (λ (o : Call). on_second o (question es vars m.budget l))
      (sym (false_is es vars l m.budget (clauses es) m refl) ∙ ap (λ (F : List Clause). marked_call F vars l m) (sym all_marked) ∙ e)

  pub second_false : r.outcome ≡ Outcome.Model → {n : ℕ} → n ≡ max_clauses → {cleared values : List ℕ} → cleared ≡ replicate n 0 → values ≡ map bit_of after
      → EndsAs (on_second (false_call (question es vars m.budget l) (clauses es) m.spent) (question es vars m.budget l))
      (record { answer = WhyAnswer.NotForced; calls = 2; tries = r.meter.spent }) cleared values
  second_false e len z v =
      rw (by_second (model after r.meter.spent) (was_model d e))
      (record { result_is = refl; marks_are = z ∙ ap (λ (k : ℕ). replicate k 0) len; values_are = v })

  pub second_stopped : r.outcome ≡ Outcome.Stopped → {n : ℕ} → n ≡ max_clauses → {cleared : List ℕ} → cleared ≡ replicate n 0
      → EndsAs (on_second (false_call (question es vars m.budget l) (clauses es) m.spent) (question es vars m.budget l))
      (record { answer = WhyAnswer.Stopped; calls = 2; tries = r.meter.spent }) cleared after
  second_stopped e len z =
      let s = ends_stopped d e in
      rw (by_second (stopped r.meter.spent) s.0)
      (record { result_is = refl; marks_are = z ∙ ap (λ (k : ℕ). replicate k 0) len; values_are = s.1 })

  pub second_none : r.outcome ≡ Outcome.NoModel → {vars' n : ℕ} → vars' ≡ vars → n ≡ length (clauses es) → {w : WhyReport} {marks values : List ℕ}
      → EndsAs (visits n (question es vars' r.meter.budget l) ms 2 r.meter.spent) w marks values
      → EndsAs (on_second (false_call (question es vars m.budget l) (clauses es) m.spent) (question es vars m.budget l)) w marks values
  second_none e v n x =
      rw (by_second (no_model r.meter.spent) (ends_none d e).0, ← n, ← v)
      (rw (d.budget_is, f, ← n) at x)

-- ---- the first call

module _ {vars : ℕ} {es kept : List ℤ} {l : ℤ} {starts marks : List ℕ} (w : Asked vars es l kept starts marks) {n : ℕ} {after : List ℕ}
    (f : StartsFound es starts n after) where
  pub ask_over : {vars' : ℕ} → vars' ≡ vars → CallOver vars' es (take (n + 1) after) [] n
  ask_over e =
      rw e
      (record {
        formula =
            record {
              vars_fit = w.asks.vars_fit;
              entries_most = omega (arith, w.asks.entries_fit);
              clauses_most = omega (arith, w.asks.clauses_fit);
              starts_are = found_front f;
              up_to = w.asks.up_to;
            };
        constraint_up_to = nil_up_to vars;
        total_most = omega (arith, f.count_is);
      })

  plain_is : (budget : ℕ) → plain_call (question es vars budget l) ≡ blank_call (call_clauses es [] n) vars (record { budget = budget; spent = 0 })
  unfolding plain_call
  plain_is budget =
      ap (λ (F : List Clause). call_on budget F (blank vars) 0) (sym (ap (call_clauses es []) f.count_is ∙ call_clauses_formula es []))

  module _ {budget : ℕ} {r : CallEnd} {values : List ℕ}
      (d : CallEnds (blank_call (call_clauses es [] n) vars (record { budget = budget; spent = 0 })) (blank vars) budget r values) where
    by_plain : (c : Call) → blank_call (call_clauses es [] n) vars (record { budget = budget; spent = 0 }) ≡ c
        → why (question es vars budget l) ≡ on_plain c (question es vars budget l)
    unfolding why
    by_plain c e = ap (λ (o : Call). on_plain o (question es vars budget l)) (plain_is budget ∙ e)

    pub first_model : r.outcome ≡ Outcome.Model → {vars' : ℕ} → vars' ≡ vars → {res : WhyReport} {ms vs : List ℕ}
        → EndsAs (on_second (false_call (question es vars' r.meter.budget l) (clauses es) r.meter.spent) (question es vars' r.meter.budget l))
        res ms vs
        → EndsAs (why (question es vars budget l)) res ms vs
    first_model e v x = rw (by_plain (model values r.meter.spent) (was_model d e)) (rw (v, d.budget_is) at x)

    pub first_none : r.outcome ≡ Outcome.NoModel → {k : ℕ} → k ≡ max_clauses → {cleared : List ℕ} → cleared ≡ replicate k 0
        → EndsAs (why (question es vars budget l)) (record { answer = WhyAnswer.NoModel; calls = 1; tries = r.meter.spent }) cleared values
    first_none e len z =
        let s = ends_none d e in
        rw (by_plain (no_model r.meter.spent) s.0)
        (record { result_is = refl; marks_are = z ∙ ap (λ (k : ℕ). replicate k 0) len; values_are = s.1 })

    pub first_stopped : r.outcome ≡ Outcome.Stopped → {k : ℕ} → k ≡ max_clauses → {cleared : List ℕ} → cleared ≡ replicate k 0
        → EndsAs (why (question es vars budget l)) (record { answer = WhyAnswer.Stopped; calls = 1; tries = r.meter.spent }) cleared values
    first_stopped e len z =
        let s = ends_stopped d e in
        rw (by_plain (stopped r.meter.spent) s.0)
        (record { result_is = refl; marks_are = z ∙ ap (λ (k : ℕ). replicate k 0) len; values_are = s.1 })
