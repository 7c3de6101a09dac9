-- What follows at once: the laws of specs/Close.
--
--   close_none        after a clash there is no model
--   close_in_all      every literal that is set is in all models
--   close_order       clauses and held literals in another order, or repeated, close alike
--   close_rounds_lem, close_most      rounds are at most one more than the variables set, and at most V + 1
--   close_held        a held literal is true in the closed set
--   close_refused, close_accepted     refused, by number and place, exactly as a run is
--   close_nothing, close_written      what is returned and written, refused and not
--   closes_exists, closes_unique      one result and one buffer satisfy the contract
--
-- Assumes nothing.
use mathlib.Core.Path.{◌≡◌, refl, sym, ◌∙◌, ap}
use mathlib.Core.Logic.{◌↔◌}
use mathlib.Core.Bool.{true}
use mathlib.Core.List.Memᴰ
use mathlib.Core.List.{List}
use mathlib.Core.Option.{none, some}
use Prim.Native.Nat.{ℕ, suc, ◌≤◌}
use native.Mathlib.Omega.{arith}
use lib.IntN.{ℤ}
use lib.ListN.{length, take, drop, length-replicate}
use lib.Seq.{take_at, drop_at}
use Rattle.rules.specs.declared.Refusal.{Refusal}
use Rattle.rules.specs.declared.CloseAnswer.{CloseAnswer}
use Rattle.rules.specs.declared.CloseReport.{CloseReport}
use Rattle.rules.specs.Lists.{In, is_set, count}
use Rattle.rules.specs.Meaning.{Clause, Values, clauses, is_true, Model}
use Rattle.rules.specs.Closing.{Closed, clash, closed, closing}
use Rattle.rules.specs.Models.{NoModel, Extends}
use Rattle.rules.specs.Rounds.{rounds}
use Rattle.rules.specs.Run.{blank}
use Rattle.rules.specs.Held.{unit_clause, with_held}
use Rattle.rules.specs.RunRefusals.{Accepted, RunRefuses}
use Rattle.rules.specs.Setup.{setup_run}
use Rattle.rules.specs.Close.{CloseGiven, close_setup, close_refusal, closed_set, close_rounds, set_by, close_values, close_report}
use Rattle.rules.specs.Close.{close_report_of, close_values_after, Closes, SameSets}
use Rattle.rules.proofs.ListLaws.{in_map}
use Rattle.rules.proofs.MeaningLaws.{is_true_mono, blank_proper, blank_extends, unsets_le}
use Rattle.rules.proofs.ClosingLaws.{calm_of_quiet, Keeps, closing_sound, Settled, closing_ends, closing_quiet}
use Rattle.rules.proofs.ClosingOrder.{closing_order}
use Rattle.rules.proofs.RoundsLaws.{rounds_closed, rounds_most, count_set}
use Rattle.rules.proofs.HeldLaws.{unit_calm}
use Rattle.rules.proofs.OrderLaws.{same_rules_held}
use Rattle.rules.proofs.SetupTheorems.{setup_refused, setup_accepted}

-- ---- the closing of any clauses from nothing set

module _ (n : ℕ) (F : List Clause) where
  -- a model extends what closing ends in
  kept : (m : Values) → Model n F m → Keeps m (closing F (blank n))
  kept m x = closing_sound m F x.all_true (blank n) (blank_extends n m x.len)

  none_of_clash : closing F (blank n) ≡ clash → NoModel n F
  none_of_clash e = record { none = λ m x. rw e at (kept m x) }

  in_all : (ws : Values) → closing F (blank n) ≡ closed ws → (l : ℤ) → is_true ws l ≡ true → (m : Values) → Model n F m → is_true m l ≡ true
  in_all ws e l t m x = let y : Extends ws m = rw e at (kept m x) in is_true_mono l y t

  closed_len : (ws : Values) → closing F (blank n) ≡ closed ws → length ws ≡ n
  closed_len ws e =
      let s : Settled F (blank n) ws = rw e at (closing_ends F (blank n)) in s.len ∙ length-replicate n 0

  most : rounds F (blank n) ≤ suc n
  most = omega (arith, rounds_most F (blank n), unsets_le (blank n), length-replicate {A = ℕ} n 0)

  within : (ws : Values) → closing F (blank n) ≡ closed ws → rounds F (blank n) ≤ suc (count is_set ws)
  within ws e =
      omega (arith, rounds_closed F (blank n) ws e, count_set ws, closed_len ws e, unsets_le (blank n), length-replicate {A = ℕ} n 0)

  length_closed : length (close_values n (closing F (blank n))) ≡ n
  length_closed = go (closing F (blank n)) refl
    where
      go : (c : Closed) → closing F (blank n) ≡ c → length (close_values n c) ≡ n
      go clash e = length-replicate n 0
      go (closed ws) e = closed_len ws e

-- ---- of what is given

module _ (g : CloseGiven) where
  -- the clauses that are closed
  abbrev F : List Clause
  F = with_held (clauses g.entries) g.held

  pub close_none : closed_set g ≡ clash → NoModel g.vars F
  unfolding closed_set
  close_none e = none_of_clash g.vars F e

  pub close_in_all : (ws : Values) → closed_set g ≡ closed ws → (l : ℤ) → is_true ws l ≡ true → (m : Values) → Model g.vars F m
      → is_true m l ≡ true
  unfolding closed_set
  close_in_all ws e l t m x = in_all g.vars F ws e l t m x

  pub close_held : (ws : Values) → closed_set g ≡ closed ws → (l : ℤ) → In l g.held → is_true ws l ≡ true
  unfolding closed_set
  close_held ws e l i =
      unit_calm ws l (calm_of_quiet (unit_clause l) (closing_quiet F (blank g.vars) ws e)
      (Memᴰ.append_right (clauses g.entries) (in_map unit_clause i)))

  pub close_rounds_lem : (ws : Values) → closed_set g ≡ closed ws → close_rounds g ≤ suc (set_by (closed_set g))
  unfolding closed_set close_rounds
  close_rounds_lem ws e = rw e (within g.vars F ws e)

  pub close_most : close_rounds g ≤ suc g.vars
  unfolding close_rounds
  close_most = most g.vars F

  length_values : length (close_values g.vars (closed_set g)) ≡ g.vars
  unfolding closed_set
  length_values = length_closed g.vars F

pub close_order : {g h : CloseGiven} → SameSets g h → closed_set g ≡ closed_set h
unfolding closed_set
close_order {g} {h} s =
    let same = same_rules_held s.rules_same s.held_same in
    closing_order same.there same.back (blank g.vars) (blank_proper g.vars) ∙
    ap (λ (n : ℕ). closing (with_held (clauses h.entries) h.held) (blank n)) s.vars_same

-- ---- refusals

pub close_refused : (g : CloseGiven) (a : Refusal) → (close_refusal g ≡ some a) ↔ RunRefuses (setup_run (close_setup g)) a
unfolding close_refusal
close_refused g a = setup_refused (close_setup g) a

pub close_accepted : (g : CloseGiven) → (close_refusal g ≡ none) ↔ Accepted (setup_run (close_setup g))
unfolding close_refusal
close_accepted g = setup_accepted (close_setup g)

-- ---- what is returned and written

pub close_nothing : (g : CloseGiven) (a : Refusal) → RunRefuses (setup_run (close_setup g)) a
    → (close_report_of g ≡ record { answer = CloseAnswer.Refused a; rounds = 0; set = 0 }) × (close_values_after g ≡ g.values)
unfolding close_report_of close_values_after
close_nothing g a r = let e = (close_refused g a).1 r in (rw e, rw e)

pub close_written : (g : CloseGiven) → Accepted (setup_run (close_setup g))
    → (close_report_of g ≡ close_report (closed_set g) (close_rounds g))
    × (take g.vars (close_values_after g) ≡ close_values g.vars (closed_set g))
    × (drop g.vars (close_values_after g) ≡ drop g.vars g.values)
unfolding close_report_of close_values_after
close_written g w =
    let e = (close_accepted g).1 w in (
      rw e,
      rw e (take_at (close_values g.vars (closed_set g)) (drop g.vars g.values) g.vars (length_values g)),
      rw e (drop_at (close_values g.vars (closed_set g)) (drop g.vars g.values) g.vars (length_values g)),
    )

pub closes_exists : (g : CloseGiven) → Closes g (close_report_of g) (close_values_after g)
closes_exists g = record { result_is = refl; values_are = refl }

pub closes_unique : {g : CloseGiven} {r r' : CloseReport} {b b' : List ℕ} → Closes g r b → Closes g r' b' → (r ≡ r') × (b ≡ b')
closes_unique p q = (p.result_is ∙ sym q.result_is, p.values_are ∙ sym q.values_are)
