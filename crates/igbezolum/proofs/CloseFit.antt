-- From the promise of `closing::close` to that in numbers.
--
--   closes_fit        the place fits the field of the struct
--   closes_in         what is returned in numbers, with the buffer as it was left
--
-- Assumes nothing.
use mathlib.Core.Path.{◌≡◌, refl, ◌∙◌, ap}
use mathlib.Core.List.{List}
use mathlib.Core.Option.{Option, none, some}
use Prim.Native.Nat.{ℕ, ◌≤◌}
use native.Mathlib.Omega.{arith}
use Rattle.rules.specs.declared.Refusal.{Refusal}
use Rattle.rules.specs.declared.CloseReport.{CloseReport}
use Rattle.rules.specs.Numbers.{max_entries}
use Rattle.rules.specs.Closing.{Closed, clash, closed}
use Rattle.rules.specs.Close.{CloseGiven, close_place, close_refusal, closed_set, close_rounds, close_answer, close_report_if, close_report_of, Closes}
use Rattle.rules.proofs.CloseTheorems.{close_refused}
use Rattle.igbezolum.specs.declared.close.IgbClosing.{IgbClosing}
use Rattle.igbezolum.specs.CloseLinked.{close_numbers, ClosesIn}
use Rattle.igbezolum.proofs.FitLaws.{refused_place}

ended_place : (c : Closed) → close_place (close_answer c) ≤ max_entries
ended_place clash = omega arith
ended_place (closed ws) = omega arith

report_is : {g : CloseGiven} {r : CloseReport} {after : List ℕ} → Closes g r after → r ≡ close_report_if (close_refusal g) (closed_set g) (close_rounds g)
unfolding close_report_of
report_is d = d.result_is

pub closes_fit : {g : CloseGiven} {r : CloseReport} {after : List ℕ} → Closes g r after → close_place r.answer ≤ max_entries
closes_fit {g = g} {r = r} d = go (close_refusal g) refl (report_is d)
  where
    go : (o : Option Refusal) → close_refusal g ≡ o → r ≡ close_report_if o (closed_set g) (close_rounds g) → close_place r.answer ≤ max_entries
    go (some a) q e = rw e (refused_place ((close_refused g a).0 q))
    go none q e = rw e (ended_place (closed_set g))

pub closes_in : {g : CloseGiven} {r : CloseReport} {after : List ℕ} {n : IgbClosing} → Closes g r after → n ≡ close_numbers r → ClosesIn g n after
closes_in d e = record { result_is = e ∙ ap close_numbers d.result_is; values_are = d.values_are }
