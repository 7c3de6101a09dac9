-- The laws of `why`: what is refused, and what is accepted.
--
--   found_some, found_none     what is refused, off what is found
--   accepted, asks_of, explains_refused, explains_accepted     what no rule refuses, and the contract
--
-- Assumes nothing.
use mathlib.Core.Path.{◌≡◌, refl, sym, ◌∙◌, ap}
use mathlib.Core.List.{List, ◌++◌}
use mathlib.Core.Option.{Option, none, some}
use Prim.Native.Nat.{ℕ, ◌≤◌}
use native.Mathlib.Omega.{arith}
use lib.ListN.{length, take, drop}
use lib.Seq.{length-take-le}
use Rattle.rules.specs.declared.Refusal.{Refusal}
use Rattle.rules.specs.declared.WhyAnswer.{WhyAnswer}
use Rattle.rules.specs.declared.WhyReport.{WhyReport}
use Rattle.rules.specs.Lists.{first_of}
use Rattle.rules.specs.Numbers.{max_clauses}
use Rattle.rules.specs.Why.{WhyGiven, WhyAccepted, Explains, question_of, why, why_rules, why_refusal}
use Rattle.rules.proofs.ListLaws.{apart}
use Rattle.rules.proofs.ClauseLaws.{length-clauses}
use Rattle.rules.proofs.WhyRefused.{why_refused, why_accepted, refused_nothing, accepted_all}
use Rattle.std.specs.Prelude.{Result, Ok, Err}
use Rattle.refusals.specs.Refuse.{found}
use Rattle.reason.specs.Asks.{Asks, EndsAs, question}

-- ---- what is found

found_some : (o : Option Refusal) {a : Refusal} → Err a ≡ found o → o ≡ some a
found_some none e = apart cc
found_some (some b) e = cc

found_none : (o : Option Refusal) → Ok tt ≡ found o → o ≡ none
found_none none e = refl
found_none (some b) e = apart cc

-- ---- the contract

module _ (g : WhyGiven) where
  -- what code finds
  abbrev pub why_found : Result (Unit {0}) Refusal
  why_found = found (first_of (why_rules g.entries g.vars g.literal (length g.marks) (length g.values)))

  refusal_found : why_found ≡ found (why_refusal g)
  unfolding why_refusal
  refusal_found = refl

  pub explains_refused : {a : Refusal} → Err a ≡ why_found
      → Explains g (record { answer = WhyAnswer.Refused a; calls = 0; tries = 0 }) g.marks g.values
  explains_refused {a} e =
      let (r, m, v) = refused_nothing g a ((why_refused g a).0 (found_some (why_refusal g) (e ∙ refusal_found))) in
      record { result_is = sym r; marks_are = sym m; values_are = sym v }

  module _ (e : Ok tt ≡ why_found) where
    pub accepted : WhyAccepted g
    accepted = (why_accepted g).0 (found_none (why_refusal g) (e ∙ refusal_found))

    pub marks_fit : 1024 ≤ length g.marks
    marks_fit = accepted.lent.marks_fit

    values_len : length (take g.vars g.values) ≡ g.vars
    values_len = length-take-le g.vars g.values accepted.lent.values_fit

    pub asks_of : Asks (length (take g.vars g.values)) g.entries g.literal (take 1024 g.marks)
    asks_of =
        let l = accepted.list.listed in
        rw values_len
        (record {
          vars_fit = accepted.lent.vars_fit;
          entries_fit = l.entries_fit;
          ended = l.ended;
          clauses_fit = omega (arith, length-clauses g.entries, l.clauses_fit);
          up_to = accepted.list.up_to;
          literal_up_to = accepted.literal_up_to;
          marks_are = length-take-le max_clauses g.marks accepted.lent.marks_fit;
        })

    pub explains_accepted : {r : WhyReport} {ms vs : List ℕ}
        → EndsAs (why (question g.entries (length (take g.vars g.values)) g.budget g.literal)) r ms vs
        → Explains g r (ms ++ drop 1024 g.marks) (vs ++ drop g.vars g.values)
    explains_accepted {r} {ms} {vs} w = go (rw values_len at w)
      where
        go : EndsAs (why (question_of g)) r ms vs → Explains g r (ms ++ drop 1024 g.marks) (vs ++ drop g.vars g.values)
        go w =
            let (a, b, c) = accepted_all g accepted in
            record {
              result_is = w.result_is ∙ sym a;
              marks_are = ap (λ (xs : List ℕ). xs ++ drop 1024 g.marks) w.marks_are ∙ sym b;
              values_are = ap (λ (xs : List ℕ). xs ++ drop g.vars g.values) w.values_are ∙ sym c;
            }
