-- What the answer to "why is this literal forced" says of the models.
--
--   why_forces        with answer 0 no assignment makes the marked clauses true with the literal false
--   why_needed        and without any one of them there is one
--   why_forced        and the literal is in all models of the formula, which has one
--   why_no_model, why_not_forced     unless stopped, 20 exactly if there is no model, 22 exactly if a model has the literal false
--   why_values        the values after 22 are such a model
--   why_calls, why_tries     calls and tries
--   why_marks         a mark is 0 or 1, and none is set behind the last clause
--   why_answer_lem        an answer is 0, 20, 21 or 22
--   why_nothing       nothing is marked unless 0 is answered, no value written unless 22
--   why_length_marks, why_length_values     1,024 marks and V values
--
-- Assumes nothing.
use mathlib.Core.Path.{◌≡◌, refl, ◌∙◌, ap}
use mathlib.Core.Logic.{◌≢◌, ◌⊎◌, inl, inr, ◌↔◌}
use mathlib.Core.Bool.{true, false}
use mathlib.Core.List.{List, [], ◌∷◌, ◌++◌, map}
use Prim.Native.Nat.{ℕ, zero, suc, ◌+◌, ◌-◌, ◌≤◌, ◌<◌}
use native.Mathlib.Omega.{arith}
use lib.ListN.{length, get_or, set, replicate, length-replicate, length-append, length-set, length-map}
use Rattle.rules.specs.declared.WhyAnswer.{WhyAnswer}
use Rattle.rules.specs.Numbers.{max_clauses}
use Rattle.rules.specs.Meaning.{Clause, Values, var_of, negated, is_true, Model, bit_of}
use Rattle.rules.specs.Models.{NoModel, Forced}
use Rattle.rules.specs.Search.{Call, model, no_model, stopped}
use Rattle.rules.specs.Run.{blank}
use Rattle.rules.specs.Why.{Question, marked, no_marks, first_marks, no_values, WhyEnded, why_ended, FalseModel}
use Rattle.rules.specs.Why.{plain_call, false_call, on_visit, visits, on_second, on_plain, why}
use Rattle.rules.proofs.ListLaws.{apart, both}
use Rattle.rules.proofs.MeaningLaws.{blank_proper, blank_extends}
use Rattle.rules.proofs.SearchLaws.{call_on_model, call_on_none, Metered, call_on_tries}
use Rattle.rules.proofs.WhyLaws.{false_call_model, false_call_none, Reasons, reasons_start, reasons_kept, reasons_gone}

-- ---- what an end says

data Shown (q : Question) (e : WhyEnded) : Type 0 where
  shows_none : e.answer ≡ WhyAnswer.NoModel → NoModel q.vars q.formula → Shown q e
  shows_false : e.answer ≡ WhyAnswer.NotForced → (m : Values) → FalseModel q.vars q.formula q.literal m → e.values ≡ map bit_of m → Shown q e
  shows_kept : e.answer ≡ WhyAnswer.Kept → (first : Values) → Model q.vars q.formula first
      → ((m : Values) → FalseModel q.vars q.formula q.literal m → ⊥) → Reasons q 0 e.marks → Shown q e
  shows_stop : e.answer ≡ WhyAnswer.Stopped → e.marks ≡ no_marks → Shown q e

-- the visits alone
data Visited (q : Question) (e : WhyEnded) : Type 0 where
  all_visited : e.answer ≡ WhyAnswer.Kept → Reasons q 0 e.marks → Visited q e
  stopped_at : e.answer ≡ WhyAnswer.Stopped → e.marks ≡ no_marks → Visited q e

module _ (q : Question) (some : 1 ≤ var_of q.literal) where
  on_visit_shows : (n : ℕ) (ms : List ℕ) (calls t : ℕ) (o : Call) → false_call q (marked (set ms n 0) q.formula) t ≡ o → Reasons q (suc n) ms
      → (next : List ℕ → ℕ → WhyEnded) → ((ks : List ℕ) (u : ℕ) → Reasons q n ks → Visited q (next ks u))
      → Visited q (on_visit o q n ms calls next)
  on_visit_shows n ms calls t (model m u) e w next f = f ms u (reasons_kept q w m (false_call_model q some _ t m u e))
  on_visit_shows n ms calls t (no_model u) e w next f = f (set ms n 0) u (reasons_gone q w (false_call_none q some _ t u e))
  on_visit_shows n ms calls t (stopped u) e w next f = stopped_at refl refl

  visits_shows : (n : ℕ) (ms : List ℕ) (calls t : ℕ) → Reasons q n ms → Visited q (visits n q ms calls t)
  unfolding visits
  visits_shows zero ms calls t w = all_visited refl w
  visits_shows (suc n) ms calls t w =
      on_visit_shows n ms (suc calls) t (false_call q (marked (set ms n 0) q.formula) t) refl w
      (λ ks u. visits n q ks (suc calls) u) (λ ks u h. visits_shows n ks (suc calls) u h)

  on_second_shows : (first : Values) → Model q.vars q.formula first → (t : ℕ) (o : Call) → false_call q q.formula t ≡ o → Shown q (on_second o q)
  on_second_shows first x t (model m u) e = shows_false refl m (false_call_model q some q.formula t m u e) refl
  on_second_shows first x t (no_model u) e = go (visits_shows (length q.formula) (first_marks (length q.formula)) 2 u (reasons_start q none))
    where
      none : (m : Values) → FalseModel q.vars q.formula q.literal m → ⊥
      none = false_call_none q some q.formula t u e

      go : {end : WhyEnded} → Visited q end → Shown q end
      go (all_visited a r) = shows_kept a first x none r
      go (stopped_at a z) = shows_stop a z
  on_second_shows first x t (stopped u) e = shows_stop refl refl

  why_shows : Shown q (why q)
  unfolding why plain_call
  why_shows = go (plain_call q) refl
    where
      go : (o : Call) → plain_call q ≡ o → Shown q (on_plain o q)
      go (model m u) e =
          let w = call_on_model q.budget q.formula (blank q.vars) 0 m u (blank_proper q.vars) e in
          on_second_shows m (record { len = w.len ∙ length-replicate q.vars 0; total = w.total; all_true = w.all_true })
          u (false_call q q.formula u) refl
      go (no_model u) e =
          let w = call_on_none q.budget q.formula (blank q.vars) 0 u (blank_proper q.vars) e in
          shows_none refl (record { none = λ m x. w.none_from m (blank_extends q.vars m x.len) x.total x.all_true })
      go (stopped u) e = shows_stop refl refl

  -- ---- the answer

  pub why_answer_lem : ((why q).answer ≡ WhyAnswer.Kept) ⊎ (((why q).answer ≡ WhyAnswer.NoModel)
      ⊎ (((why q).answer ≡ WhyAnswer.Stopped) ⊎ ((why q).answer ≡ WhyAnswer.NotForced)))
  why_answer_lem = go why_shows
    where
      go : {e : WhyEnded} → Shown q e
          → (e.answer ≡ WhyAnswer.Kept) ⊎ ((e.answer ≡ WhyAnswer.NoModel) ⊎ ((e.answer ≡ WhyAnswer.Stopped) ⊎ (e.answer ≡ WhyAnswer.NotForced)))
      go (shows_kept b first x none r) = inl b
      go (shows_none b n) = inr (inl b)
      go (shows_stop b z) = inr (inr (inl b))
      go (shows_false b m h v) = inr (inr (inr b))

  -- ---- answer 0

  abbrev Held : List ℕ → Type 0
  Held ms =
      (first : Values) × Model q.vars q.formula first × ((m : Values) → FalseModel q.vars q.formula q.literal m → ⊥) × Reasons q 0 ms

  kept_shown : (why q).answer ≡ WhyAnswer.Kept → Held (why q).marks
  kept_shown a = go why_shows a
    where
      go : {e : WhyEnded} → Shown q e → e.answer ≡ WhyAnswer.Kept → Held e.marks
      go (shows_none b n) a = apart cc
      go (shows_false b m h v) a = apart cc
      go (shows_kept b first x none r) a = (first, x, none, r)
      go (shows_stop b z) a = apart cc

  -- no assignment of the variables makes all marked clauses true with the literal false
  pub why_forces : (why q).answer ≡ WhyAnswer.Kept → (m : Values) → FalseModel q.vars (marked (why q).marks q.formula) q.literal m → ⊥
  why_forces a = let (first, x, none, r) = kept_shown a in r.forces

  -- without any one of them there is one
  pub why_needed : (why q).answer ≡ WhyAnswer.Kept → (i : ℕ) → get_or (why q).marks i 0 ≢ 0
      → (m : Values) × FalseModel q.vars (marked (set (why q).marks i 0) q.formula) q.literal m
  why_needed a i z = let (first, x, none, r) = kept_shown a in r.needed i (omega arith) z

  -- a mark is 0 or 1, and a marked clause is one of the formula's
  pub why_marks : (why q).answer ≡ WhyAnswer.Kept → (i : ℕ) → (get_or (why q).marks i 0 ≤ 1) × (get_or (why q).marks i 0 ≢ 0 → i < length q.formula)
  why_marks a i = let (first, x, none, r) = kept_shown a in (r.small i, r.within i)

  -- the literal is in all models of the formula, which has one
  pub why_forced : (why q).answer ≡ WhyAnswer.Kept → Forced q.vars q.formula q.literal
  why_forced a =
      let (first, x, none, r) = kept_shown a in
      record { some_model = first; is-model = x; in_all = λ m y. go m y none (both (is_true m q.literal)) }
    where
      go : (m : Values) → Model q.vars q.formula m → ((d : Values) → FalseModel q.vars q.formula q.literal d → ⊥)
          → (is_true m q.literal ≡ true) ⊎ (is_true m q.literal ≡ false) → is_true m q.literal ≡ true
      go m y none (inl e) = e
      go m y none (inr e) = absurd (none m (record { is-model = y; false_here = e }))

  -- ---- answers 20 and 22

  pub why_no_model : (why q).answer ≢ WhyAnswer.Stopped → ((why q).answer ≡ WhyAnswer.NoModel) ↔ NoModel q.vars q.formula
  why_no_model s = (sound why_shows, complete why_shows s)
    where
      sound : {e : WhyEnded} → Shown q e → e.answer ≡ WhyAnswer.NoModel → NoModel q.vars q.formula
      sound (shows_none b n) a = n
      sound (shows_false b m h v) a = apart cc
      sound (shows_kept b first x none r) a = apart cc
      sound (shows_stop b z) a = apart cc

      complete : {e : WhyEnded} → Shown q e → e.answer ≢ WhyAnswer.Stopped → NoModel q.vars q.formula → e.answer ≡ WhyAnswer.NoModel
      complete (shows_none b n) s w = b
      complete (shows_false b m h v) s w = absurd (w.none m h.is-model)
      complete (shows_kept b first x none r) s w = absurd (w.none first x)
      complete (shows_stop b z) s w = absurd (s b)

  -- the values written are those of a model that has the literal false
  pub why_values : (why q).answer ≡ WhyAnswer.NotForced → (m : Values) × FalseModel q.vars q.formula q.literal m × ((why q).values ≡ map bit_of m)
  why_values a = go why_shows a
    where
      go : {e : WhyEnded} → Shown q e → e.answer ≡ WhyAnswer.NotForced
          → (m : Values) × FalseModel q.vars q.formula q.literal m × (e.values ≡ map bit_of m)
      go (shows_none b n) a = apart cc
      go (shows_false b m h v) a = (m, h, v)
      go (shows_kept b first x none r) a = apart cc
      go (shows_stop b z) a = apart cc

  pub why_not_forced : (why q).answer ≢ WhyAnswer.Stopped
      → ((why q).answer ≡ WhyAnswer.NotForced) ↔ ((m : Values) × FalseModel q.vars q.formula q.literal m)
  why_not_forced s = (λ a. let (m, h, v) = why_values a in (m, h), complete why_shows s)
    where
      complete : {e : WhyEnded} → Shown q e → e.answer ≢ WhyAnswer.Stopped → (m : Values) × FalseModel q.vars q.formula q.literal m
          → e.answer ≡ WhyAnswer.NotForced
      complete (shows_none b n) s (m, h) = absurd (n.none m h.is-model)
      complete (shows_false b m h v) s w = b
      complete (shows_kept b first x none r) s (m, h) = absurd (none m h)
      complete (shows_stop b z) s w = absurd (s b)

-- ---- calls and tries, and what is marked and written otherwise

-- an end after no more than `most` calls, with no more tries than the budget, all of which are spent where it was stopped
record Counted (q : Question) (most : ℕ) (e : WhyEnded) : Type 0 where
  pub calls_most : e.calls ≤ most
  pub tries_most : e.tries ≤ q.budget
  pub spent : e.answer ≡ WhyAnswer.Stopped → e.tries ≡ q.budget
  pub unmarked : e.answer ≢ WhyAnswer.Kept → e.marks ≡ no_marks
  pub no_values_lem : e.answer ≢ WhyAnswer.NotForced → e.values ≡ no_values q

module _ (q : Question) where
  counted_stop : (most calls t : ℕ) (o : Call) → o ≡ stopped t → calls ≤ most → Metered q.budget 0 o
      → Counted q most (why_ended WhyAnswer.Stopped no_marks (no_values q) calls t)
  counted_stop most calls t o e h w =
      let u = rw e at (w.within (omega arith)) in
      record {
        calls_most = h;
        tries_most = u;
        spent = λ a. omega (arith, w.spent t e, u);
        unmarked = λ a. refl;
        no_values_lem = λ a. refl;
      }

  -- a call from within the budget ends within it
  metered : (F : List Clause) (t : ℕ) → t ≤ q.budget → Metered q.budget 0 (false_call q F t)
  unfolding false_call
  metered F t h =
      let w = call_on_tries q.budget (F ++ (negated q.literal ∷ []) ∷ []) (blank q.vars) t in
      record { up = omega arith; within = λ k. w.within h; spent = w.spent }

  on_visit_counts : (n : ℕ) (ms : List ℕ) (calls most : ℕ) (o : Call) → Metered q.budget 0 o → calls ≤ most
      → (next : List ℕ → ℕ → WhyEnded) → ((ks : List ℕ) (u : ℕ) → u ≤ q.budget → Counted q most (next ks u))
      → Counted q most (on_visit o q n ms calls next)
  on_visit_counts n ms calls most (model m u) w h next f = f ms u (w.within (omega arith))
  on_visit_counts n ms calls most (no_model u) w h next f = f (set ms n 0) u (w.within (omega arith))
  on_visit_counts n ms calls most (stopped u) w h next f = counted_stop most calls u (stopped u) refl h w

  visits_counts : (n : ℕ) (ms : List ℕ) (calls t most : ℕ) → t ≤ q.budget → calls + n ≤ most → Counted q most (visits n q ms calls t)
  unfolding visits
  visits_counts zero ms calls t most b h =
      record {
        calls_most = omega arith;
        tries_most = b;
        spent = λ a. apart cc;
        unmarked = λ a. absurd (a refl);
        no_values_lem = λ a. refl;
      }
  visits_counts (suc n) ms calls t most b h =
      on_visit_counts n ms (suc calls) most (false_call q (marked (set ms n 0) q.formula) t) (metered _ t b) (omega arith)
      (λ ks u. visits n q ks (suc calls) u) (λ ks u l. visits_counts n ks (suc calls) u most l (omega arith))

  on_second_counts : (o : Call) → Metered q.budget 0 o → Counted q (length q.formula + 2) (on_second o q)
  on_second_counts (model m u) w =
      record {
        calls_most = omega arith;
        tries_most = w.within (omega arith);
        spent = λ a. apart cc;
        unmarked = λ a. refl;
        no_values_lem = λ a. absurd (a refl);
      }
  on_second_counts (no_model u) w =
      visits_counts (length q.formula) (first_marks (length q.formula)) 2 u (length q.formula + 2) (w.within (omega arith)) (omega arith)
  on_second_counts (stopped u) w = counted_stop (length q.formula + 2) 2 u (stopped u) refl (omega arith) w

  on_plain_counts : (o : Call) → Metered q.budget 0 o → Counted q (length q.formula + 2) (on_plain o q)
  on_plain_counts (model m u) w = on_second_counts (false_call q q.formula u) (metered q.formula u (w.within (omega arith)))
  on_plain_counts (no_model u) w =
      record {
        calls_most = omega arith;
        tries_most = w.within (omega arith);
        spent = λ a. apart cc;
        unmarked = λ a. refl;
        no_values_lem = λ a. refl;
      }
  on_plain_counts (stopped u) w = counted_stop (length q.formula + 2) 1 u (stopped u) refl (omega arith) w

  counted : Counted q (length q.formula + 2) (why q)
  unfolding why plain_call
  counted = on_plain_counts (plain_call q) (call_on_tries q.budget q.formula (blank q.vars) 0)

  -- calls are at most C + 2
  pub why_calls : (why q).calls ≤ length q.formula + 2
  why_calls = counted.calls_most

  -- tries are within the budget, and all of it is spent where it stopped
  pub why_tries : ((why q).tries ≤ q.budget) × ((why q).answer ≡ WhyAnswer.Stopped → (why q).tries ≡ q.budget)
  why_tries = (counted.tries_most, counted.spent)

  -- nothing is marked unless 0 is answered, and no value is 1 unless 22 is
  pub why_nothing : ((why q).answer ≢ WhyAnswer.Kept → (why q).marks ≡ no_marks) × ((why q).answer ≢ WhyAnswer.NotForced → (why q).values ≡ no_values q)
  why_nothing = (counted.unmarked, counted.no_values_lem)

-- ---- how much is written: a mark for each of 1,024 clauses, and a value for each variable

none_marked : length no_marks ≡ max_clauses
none_marked = length-replicate {A = ℕ} max_clauses 0

module _ (q : Question) where
  on_visit-length : (n : ℕ) (ms : List ℕ) (calls : ℕ) (o : Call) → length ms ≡ max_clauses → (next : List ℕ → ℕ → WhyEnded)
      → ((ks : List ℕ) (u : ℕ) → length ks ≡ max_clauses → length (next ks u).marks ≡ max_clauses) → length (on_visit o q n ms calls next).marks ≡ max_clauses
  on_visit-length n ms calls (model m u) h next f = f ms u h
  on_visit-length n ms calls (no_model u) h next f = f (set ms n 0) u (length-set ms n 0 ∙ h)
  on_visit-length n ms calls (stopped u) h next f = none_marked

  visits-length : (n : ℕ) (ms : List ℕ) (calls t : ℕ) → length ms ≡ max_clauses → length (visits n q ms calls t).marks ≡ max_clauses
  unfolding visits
  visits-length zero ms calls t h = h
  visits-length (suc n) ms calls t h =
      on_visit-length n ms (suc calls) (false_call q (marked (set ms n 0) q.formula) t) h (λ ks u. visits n q ks (suc calls) u)
      (λ ks u k. visits-length n ks (suc calls) u k)

  module _ (few : length q.formula ≤ max_clauses) where
    on_second-length : (o : Call) → length (on_second o q).marks ≡ max_clauses
    on_second-length (model m u) = none_marked
    on_second-length (no_model u) = visits-length (length q.formula) (first_marks (length q.formula)) 2 u first_marked
      where
        n : ℕ
        n = length q.formula

        first_marked : length (first_marks n) ≡ max_clauses
        first_marked =
            length-append (replicate n 1) (replicate (max_clauses - n) 0) ∙
            omega (arith, length-replicate {A = ℕ} n 1, length-replicate {A = ℕ} (max_clauses - n) 0)
    on_second-length (stopped u) = none_marked

    on_plain-length : (o : Call) → length (on_plain o q).marks ≡ max_clauses
    on_plain-length (model m u) = on_second-length (false_call q q.formula u)
    on_plain-length (no_model u) = none_marked
    on_plain-length (stopped u) = none_marked

    pub why_length_marks : length (why q).marks ≡ max_clauses
    unfolding why
    why_length_marks = on_plain-length (plain_call q)

  pub why_length_values : 1 ≤ var_of q.literal → length (why q).values ≡ q.vars
  why_length_values some = go (why_shows q some) (counted q)
    where
      none : {vs : List ℕ} → vs ≡ no_values q → length vs ≡ q.vars
      none h = ap length h ∙ length-replicate {A = ℕ} q.vars 0

      go : {e : WhyEnded} → Shown q e → Counted q (length q.formula + 2) e → length e.values ≡ q.vars
      go (shows_none b n) w = none (w.no_values_lem (λ a. apart cc))
      go (shows_false b m h v) w = ap length v ∙ length-map m bit_of ∙ h.is-model.len
      go (shows_kept b first x none_false r) w = none (w.no_values_lem (λ a. apart cc))
      go (shows_stop b z) w = none (w.no_values_lem (λ a. apart cc))
