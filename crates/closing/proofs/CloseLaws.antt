-- The laws of what follows at once: the end of the closing, and what is refused and accepted.
--
--   done_told                     the end of the closing of a list, told, is what is defined
--   closes_refused, closes_accepted     what is returned and written
--
-- Assumes nothing.
use mathlib.Core.Path.{◌≡◌, sym, ◌∙◌, ap}
use mathlib.Core.List.{List, ◌++◌}
use mathlib.Core.Option.{Option}
use Prim.Native.Nat.{ℕ}
use lib.IntN.{ℤ}
use lib.ListN.{length, take, drop}
use lib.Seq.{length-take-le}
use Rattle.rules.specs.declared.Refusal.{Refusal}
use Rattle.rules.specs.declared.CloseAnswer.{CloseAnswer}
use Rattle.rules.specs.declared.CloseReport.{CloseReport}
use Rattle.rules.specs.Meaning.{Clause, Values, clauses}
use Rattle.rules.specs.Closing.{Closed, closing}
use Rattle.rules.specs.Rounds.{rounds}
use Rattle.rules.specs.Run.{blank}
use Rattle.rules.specs.Held.{with_held, list_with}
use Rattle.rules.specs.Close.{CloseGiven, close_setup, close_refusal, closed_set, close_rounds, close_values, close_report, close_report_if, close_report_of}
use Rattle.rules.specs.Close.{close_values_if, close_values_after, Closes}
use Rattle.rules.specs.Setup.{setup_refusal, setup_run}
use Rattle.rules.proofs.SetupTheorems.{refusal_same}
use Rattle.std.specs.Prelude.{Ok, Err}
use Rattle.refusals.specs.Refuse.{found}
use Rattle.board.specs.declared.close.Closing.{Closing}
use Rattle.board.specs.Closings.{closed_of, rounds_of}
use Rattle.search.specs.Wholes.{ClosesBy}
use Rattle.backbone.proofs.RunLaws as run-laws
use Rattle.setup.proofs.SetupLaws.{open_run}
use Rattle.closing.specs.Ended.{Told, CloseDone}

-- ---- the end of the closing

-- after a clash the values that were left do not count
closed_values : (n : ℕ) (r : Closing) (before : Values) {c : Closed} → c ≡ closed_of r before → close_values n (closed_of r before) ≡ close_values n c
closed_values n r before e = ap (close_values n) (sym e)

pub done_told : (es : List ℤ) (n : ℕ) {end : Closing} {vs after : Values} {r : CloseReport} → length vs ≡ n
    → ClosesBy (clauses es) (blank n) end vs → Told end vs r after → CloseDone es n r after
done_told es n {end} {vs} e w t =
    record {
      result_is =
          t.result_is ∙
          ap (λ (c : Closed). close_report c (rounds_of end)) (sym w.end_is) ∙
          ap (close_report (closing (clauses es) (blank n))) (sym w.rounds_are);
      values_are = t.after_is ∙ ap (λ (k : ℕ). close_values k (closed_of end vs)) e ∙ closed_values n end vs w.end_is;
    }

-- ---- refused, and accepted

module _ (g : CloseGiven) where
  pub closes_refused : {a : Refusal} → Err a ≡ found (close_refusal g)
      → Closes g (record { answer = CloseAnswer.Refused a; rounds = 0; set = 0 }) g.values
  unfolding close_report_of close_values_after
  closes_refused e =
      let o = run-laws.found_some (close_refusal g) e in
      record {
        result_is = ap (λ (o : Option Refusal). close_report_if o (closed_set g) (close_rounds g)) (sym o);
        values_are = ap (λ (o : Option Refusal). close_values_if o g.vars (closed_set g) g.values) (sym o);
      }

  module _ (e : Ok tt ≡ found (setup_refusal (close_setup g))) where
    values_len : length (take g.vars g.values) ≡ g.vars
    values_len = length-take-le g.vars g.values (open_run (close_setup g) e).listed.lent.status_fits

    clauses_are : clauses (list_with g.entries g.held) ≡ with_held (clauses g.entries) g.held
    clauses_are = run-laws.clauses_are (setup_run (close_setup g)) (e ∙ ap found (refusal_same (close_setup g)))

    pub closes_accepted : {r : CloseReport} {after : List ℕ}
        → CloseDone (list_with g.entries g.held) (length (take g.vars g.values)) r after
        → Closes g r (after ++ drop g.vars g.values)
    unfolding close_report_of close_values_after close_refusal closed_set close_rounds
    closes_accepted {r} {after} w =
        let d : CloseDone (list_with g.entries g.held) g.vars r after = rw values_len at w in
        let o = run-laws.found_none (setup_refusal (close_setup g)) e in
        record {
          result_is =
              d.result_is ∙
              ap (λ (F : List Clause). close_report (closing F (blank g.vars)) (rounds F (blank g.vars))) clauses_are ∙
              ap (λ (o : Option Refusal). close_report_if o (closed_set g) (close_rounds g)) (sym o);
          values_are =
              ap (λ (xs : List ℕ). xs ++ drop g.vars g.values) d.values_are ∙
              ap (λ (F : List Clause). close_values g.vars (closing F (blank g.vars)) ++ drop g.vars g.values) clauses_are ∙
              ap (λ (o : Option Refusal). close_values_if o g.vars (closed_set g) g.values) (sym o);
        }
