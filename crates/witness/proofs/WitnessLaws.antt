-- The laws of `witness`: what is refused, and what is accepted.
--
--   taking, checked_is     what is checked is what a list is refused for
--   accepted               what no rule refuses
--   first_fits, witness_fits, asked_over     and what follows for the buffers
--   list, clauses_are      the one list of clauses and held literals
--   witnesses_refused      what is refused: zero counts, and nothing is written
--   witnesses_answered     what is accepted: both models, or 14
--
-- Assumes nothing.
use mathlib.Core.Path.{◌≡◌, refl, sym, ◌∙◌, ap}
use mathlib.Core.Bool.{Bool, true, false}
use mathlib.Core.List.{List, ◌++◌}
use mathlib.Core.Option.{Option, none, some}
use Prim.Native.Nat.{ℕ, pred, ◌+◌, ◌≤◌}
use native.Mathlib.Omega.{arith}
use lib.IntN.{ℤ}
use lib.ListN.{length, take, drop, length-replicate, take-append-drop}
use lib.Seq.{length-take-le}
use Rattle.rules.specs.declared.Refusal.{Refusal}
use Rattle.rules.specs.declared.RunAnswer.{RunAnswer}
use Rattle.rules.specs.declared.Report.{Report}
use Rattle.rules.specs.Numbers.{max_clauses, max_entries, max_held}
use Rattle.rules.specs.Meaning.{Clause, clauses}
use Rattle.rules.specs.Lists.{first_of}
use Rattle.rules.specs.Run.{Task, Progress, run}
use Rattle.rules.specs.Held.{with_held, list_with}
use Rattle.rules.specs.Answer.{taking_rules, out_of_limits, report_of_run, report_if}
use Rattle.rules.specs.RunRefusals.{Accepted}
use Rattle.rules.specs.Witness.{witness_at, free_in, Asked, asked_task, few_literals, else_not_free, asked_refusal, asked_report, literals_from, literals_if}
use Rattle.rules.specs.Witness.{first_after, witness_after, Witnesses, lent_for}
use Rattle.rules.proofs.ClauseLaws.{length-clauses}
use Rattle.rules.proofs.HeldLaws.{length-with_held, clauses_held, length-list_with, list_with_up_to}
use Rattle.rules.proofs.WitnessTheorems.{asked_answered, asked_not_free}
use Rattle.std.specs.Prelude.{Result, Ok, Err}
use Rattle.refusals.specs.Refuse.{found}
use Rattle.calls.specs.Next.{task}
use Rattle.backbone.proofs.RunLaws.{found_some, found_none}
use Rattle.witness.specs.Answer.{AskedOver, not_free, Answered, shown, not_free_lem}

-- ---- what an accepted list has

module _ (a : Asked) (w : Accepted (lent_for a)) where
  pub first_fits : a.vars ≤ length a.first
  first_fits = omega (arith, w.listed.lent.status_fits, length-replicate {A = ℕ} (length a.first) 0)

  pub witness_fits : a.vars ≤ length a.witness
  witness_fits = omega (arith, w.listed.lent.calls_fit, length-replicate {A = ℕ} (length a.witness) 0)

  first_len : length (take a.vars a.first) ≡ a.vars
  first_len = length-take-le a.vars a.first first_fits

  -- the one list, and its clauses
  abbrev pub list : List ℤ
  list = list_with a.entries a.held

  pub clauses_are : clauses list ≡ with_held (clauses a.entries) a.held
  clauses_are = clauses_held a.entries a.held w.listed.ended (λ l i. (w.holdable.up_to l i).some)

  entries_most : length list ≤ max_entries + (max_held + max_held)
  entries_most = omega (arith, length-list_with a.entries a.held, w.listed.entries_fit, w.holdable.few)

  clauses_most : length (clauses list) ≤ max_clauses + max_held
  clauses_most =
      omega (
        arith,
        ap length clauses_are,
        length-with_held (clauses a.entries) a.held,
        length-clauses a.entries,
        w.listed.clauses_fit,
        w.holdable.few,
      )

  pub asked_over : AskedOver list (take a.vars a.first) (take a.vars a.witness) (record { budget = a.budget; chunk = a.limit })
  asked_over =
      record {
        formula =
            record {
              vars_fit = rw first_len w.listed.lent.in_limits.vars_fit;
              entries_most = entries_most;
              clauses_most = clauses_most;
              starts_are = refl;
              up_to = rw first_len (list_with_up_to a.entries a.held w.up_to w.holdable.up_to);
            };
        entries_most = entries_most;
        clauses_most = clauses_most;
        witness_len = length-take-le a.vars a.witness witness_fits ∙ sym first_len;
        allowed = record { some = w.listed.lent.in_limits.limit_some; most = w.listed.lent.in_limits.limit_fits };
      }

-- ---- the contract

module _ (a : Asked) where
  -- 10, 1, 11, 12, 15 and 13
  abbrev pub taking : Option Refusal
  taking =
      first_of (taking_rules (out_of_limits a.vars a.limit) (few_literals a.vars (length a.first) (length a.witness)) a.entries a.vars
      a.held)

  pub checked_is : {bad short : Bool} {c : Result (Unit {0}) Refusal} → bad ≡ out_of_limits a.vars a.limit
      → short ≡ few_literals a.vars (length a.first) (length a.witness)
      → c ≡ found (first_of (taking_rules bad short a.entries a.vars a.held)) → c ≡ found taking
  checked_is b s e = rw (b, s) at e

  abbrev p : Progress
  p = (run (asked_task a)).progress

  refusal_by_lem : (o : Option Refusal) → taking ≡ o → (b : Bool) → free_in p a.variable ≡ b → asked_refusal a ≡ else_not_free o b
  unfolding asked_refusal
  refusal_by_lem o e b f = rw (e, f)

  pub witnesses_refused : {r : Refusal} → Err r ≡ found taking
      → Witnesses a (record { answer = RunAnswer.Refused r; calls = 0; tries = 0; forced = 0; free = 0 }) a.first a.witness
  unfolding asked_report first_after witness_after
  witnesses_refused {r} e =
      let o = refusal_by_lem (some r) (found_some taking e) (free_in p a.variable) refl in
      record {
        result_is = ap (λ (x : Option Refusal). report_if x (asked_task a)) (sym o);
        first_is = ap (λ (x : Option Refusal). literals_if x a.vars p.first a.first) (sym o);
        witness_is = ap (λ (x : Option Refusal). literals_if x a.vars (witness_at p (pred a.variable)) a.witness) (sym o);
      }

  answered_shown : asked_refusal a ≡ none
      → Witnesses a (report_of_run (run (asked_task a))) (literals_from 0 p.first ++ drop a.vars a.first)
      (literals_from 0 (witness_at p (pred a.variable)) ++ drop a.vars a.witness)
  unfolding asked_report first_after witness_after
  answered_shown o =
      record {
        result_is = ap (λ (x : Option Refusal). report_if x (asked_task a)) (sym o);
        first_is = ap (λ (x : Option Refusal). literals_if x a.vars p.first a.first) (sym o);
        witness_is = ap (λ (x : Option Refusal). literals_if x a.vars (witness_at p (pred a.variable)) a.witness) (sym o);
      }

  answered_not : asked_refusal a ≡ some Refusal.NotFree
      → Witnesses a not_free (take a.vars a.first ++ drop a.vars a.first) (take a.vars a.witness ++ drop a.vars a.witness)
  unfolding asked_report first_after witness_after
  answered_not o =
      record {
        result_is = ap (λ (x : Option Refusal). report_if x (asked_task a)) (sym o);
        first_is = take-append-drop a.vars a.first ∙ ap (λ (x : Option Refusal). literals_if x a.vars p.first a.first) (sym o);
        witness_is =
            take-append-drop a.vars a.witness ∙
            ap (λ (x : Option Refusal). literals_if x a.vars (witness_at p (pred a.variable)) a.witness) (sym o);
      }

  -- the same, of a task that is the one asked for
  shown_by_lem : (k : Task) → k ≡ asked_task a → free_in (run k).progress a.variable ≡ true → taking ≡ none
      → Witnesses a (report_of_run (run k)) (literals_from 0 (run k).progress.first ++ drop a.vars a.first)
      (literals_from 0 (witness_at (run k).progress (pred a.variable)) ++ drop a.vars a.witness)
  shown_by_lem k same f t =
      let free = ap (λ (k : Task). free_in (run k).progress a.variable) (sym same) ∙ f in
      rw same (answered_shown (refusal_by_lem none t true free))

  module _ (e : Ok tt ≡ found taking) where
    pub accepted : Accepted (lent_for a)
    accepted = go (free_in p a.variable) refl
      where
        go : (b : Bool) → free_in p a.variable ≡ b → Accepted (lent_for a)
        go true f = ((asked_answered a).0 (refusal_by_lem none (found_none taking e) true f)).0
        go false f = ((asked_not_free a).0 (refusal_by_lem none (found_none taking e) false f)).0

    pub witnesses_answered : {r : Report} {first witness : List ℤ}
        → Answered (list a accepted) (record { budget = a.budget; chunk = a.limit }) (length (take a.vars a.first)) a.variable
        (take a.vars a.first) (take a.vars a.witness) r first witness
        → Witnesses a r (first ++ drop a.vars a.first) (witness ++ drop a.vars a.witness)
    witnesses_answered w = go (rw n at w)
      where
        n : length (take a.vars a.first) ≡ a.vars
        n = first_len a accepted

        same_task : task (list a accepted) a.vars (record { budget = a.budget; chunk = a.limit }) ≡ asked_task a
        same_task = ap (λ (F : List Clause). record { vars = a.vars; budget = a.budget; limit = a.limit; formula = F }) (clauses_are a accepted)

        go : {r : Report} {first witness : List ℤ}
            → Answered (list a accepted) (record { budget = a.budget; chunk = a.limit }) a.vars a.variable
            (take a.vars a.first) (take a.vars a.witness) r first witness
            → Witnesses a r (first ++ drop a.vars a.first) (witness ++ drop a.vars a.witness)
        go (shown f) = shown_by_lem _ same_task f (found_none taking e)
        go (not_free_lem f) =
            let not = ap (λ (k : Task). free_in (run k).progress a.variable) (sym same_task) ∙ f in
            answered_not (refusal_by_lem none (found_none taking e) false not)
