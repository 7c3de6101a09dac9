-- The question why a literal is forced is refused, by number and place, exactly when docs/RULES.md, "Why", says so; what is returned and
-- written then, and otherwise; and its contract has one solution.
--
--   why_refused, why_accepted     the refusal is a exactly if the rule of a says so, none exactly if every rule is kept
--   first_of_append                a list of tests behind another
--   refused_nothing               what is refused returns zero counts and leaves both buffers
--   accepted_all                  otherwise the end of the calls is returned, with its marks and values in front of what was there
--   explains_exists, explains_unique     one result and two buffers satisfy the contract, and no others
--
-- Assumes nothing.
use mathlib.Core.Path.{◌≡◌, refl, sym, ◌∙◌, ap}
use mathlib.Core.Logic.{◌≢◌, ◌⊎◌, inl, inr, ◌↔◌}
use mathlib.Core.Bool.{Bool, true, false, or-true}
use mathlib.Core.List.{List, [], ◌∷◌, ◌++◌}
use mathlib.Core.Option.{Option, none, some}
use Prim.Native.Nat.{ℕ, ◌≤◌, ◌<◌}
use native.Mathlib.Omega.{arith}
use lib.Dec.{eqb, ltb}
use lib.ListN.{length, drop}
use borrow.Author.Tests.{eqb-true, eqb-false, eq-eqb, ne_eqb, ltb-true, ltb-false, lt-ltb, le-ltb}
use Rattle.rules.specs.declared.Refusal.{Refusal}
use Rattle.rules.specs.declared.WhyAnswer.{WhyAnswer}
use Rattle.rules.specs.declared.WhyReport.{WhyReport}
use Rattle.rules.specs.Lists.{Check, first_of, or_next}
use Rattle.rules.specs.Numbers.{max_vars, max_clauses}
use Rattle.rules.specs.Meaning.{var_of, LitUpTo}
use Rattle.rules.specs.Answer.{list_rules, refusal_of}
use Rattle.rules.specs.RunRefusals.{Lent, Accepted}
use Rattle.rules.specs.Held.{is_no_literal}
use Rattle.rules.specs.Why.{why_short, literal_rules, why_refusal}
use Rattle.rules.specs.Why.{why, WhyGiven, question_of, why_report_of, marks_after, why_values_after, Explains}
use Rattle.rules.specs.Why.{WhyLent, list_only, WhyAccepted, WhyRefuses, many_vars, short_buffer, bad_list, bad_literal}
use Rattle.rules.proofs.ListLaws.{apart, or_cases, or_left, or_right}
use Rattle.rules.proofs.AnswerLaws.{lent_alone, refusal_lent}
use Rattle.rules.proofs.RefusedRuns.{run_refused, run_accepted}

-- ---- the tests, one by one

module _ (g : WhyGiven) where
  abbrev short : Bool
  short = why_short g.vars (length g.marks) (length g.values)

  abbrev literal_test : Bool
  literal_test = is_no_literal g.vars g.literal

  short_sound : short ≡ true → (length g.marks < max_clauses) ⊎ (length g.values < g.vars)
  short_sound h = go (or_cases (ltb (length g.marks) max_clauses) (ltb (length g.values) g.vars) h)
    where
      go : (ltb (length g.marks) max_clauses ≡ true) ⊎ (ltb (length g.values) g.vars ≡ true)
          → (length g.marks < max_clauses) ⊎ (length g.values < g.vars)
      go (inl e) = inl (ltb-true _ _ e)
      go (inr e) = inr (ltb-true _ _ e)

  short_complete : (length g.marks < max_clauses) ⊎ (length g.values < g.vars) → short ≡ true
  short_complete (inl h) = rw (lt-ltb (length g.marks) max_clauses h)
  short_complete (inr h) = rw (lt-ltb (length g.values) g.vars h) (or-true (ltb (length g.marks) max_clauses))

  lent_false : ltb max_vars g.vars ≡ false → short ≡ false → WhyLent g
  lent_false v h =
      let few = ltb (length g.marks) max_clauses in
      let few-values = ltb (length g.values) g.vars in
      record {
        vars_fit = ltb-false _ _ v;
        marks_fit = ltb-false _ _ (or_left few few-values h);
        values_fit = ltb-false _ _ (or_right few few-values h);
      }

  lent_of : WhyLent g → (ltb max_vars g.vars ≡ false) × (short ≡ false)
  lent_of w = (
    le-ltb max_vars g.vars w.vars_fit,
    rw (le-ltb (length g.marks) max_clauses w.marks_fit, le-ltb (length g.values) g.vars w.values_fit),
  )

  literal_sound : literal_test ≡ true → (var_of g.literal ≡ 0) ⊎ (g.vars < var_of g.literal)
  literal_sound h = go (or_cases (eqb (var_of g.literal) 0) (ltb g.vars (var_of g.literal)) h)
    where
      go : (eqb (var_of g.literal) 0 ≡ true) ⊎ (ltb g.vars (var_of g.literal) ≡ true) → (var_of g.literal ≡ 0) ⊎ (g.vars < var_of g.literal)
      go (inl e) = inl (eqb-true _ _ e)
      go (inr e) = inr (ltb-true _ _ e)

  literal_complete : (var_of g.literal ≡ 0) ⊎ (g.vars < var_of g.literal) → literal_test ≡ true
  literal_complete (inl h) = rw (eq-eqb (var_of g.literal) 0 h)
  literal_complete (inr h) = rw (lt-ltb g.vars (var_of g.literal) h) (or-true (eqb (var_of g.literal) 0))

  literal_false : literal_test ≡ false → LitUpTo g.vars g.literal
  literal_false h =
      let zero = eqb (var_of g.literal) 0 in
      let over = ltb g.vars (var_of g.literal) in
      let n : var_of g.literal ≢ 0 = eqb-false _ _ (or_left zero over h) in
      record { some = omega arith; most = ltb-false _ _ (or_right zero over h) }

  literal_of : LitUpTo g.vars g.literal → literal_test ≡ false
  literal_of w = rw (ne_eqb (var_of g.literal) 0 (omega (arith, w.some)), le-ltb g.vars (var_of g.literal) w.most)

  -- ---- the list's own refusal is that of a run for which nothing else is wrong

  pub list_lent : WhyLent g → Lent (list_only g)
  list_lent w = lent_alone g.entries g.vars w.vars_fit

  list_refusal_lem : WhyLent g → first_of (list_rules g.entries g.vars) ≡ refusal_of (list_only g)
  list_refusal_lem w = sym (refusal_lent (list_only g) (list_lent w))

-- ---- test after test, as far as the first that passes

-- what a refusal, or none, says
abbrev Judges : WhyGiven → Option Refusal → Type 0
Judges g none = WhyAccepted g
Judges g (some a) = WhyRefuses g a

-- what is refused first, or else what comes behind it
abbrev pub or_else : Option Refusal → Option Refusal → Option Refusal
or_else (some a) o = some a
or_else none o = o

pub first_of_append : (xs ys : List (Check Refusal)) → first_of (xs ++ ys) ≡ or_else (first_of xs) (first_of ys)
first_of_append [] ys = refl
first_of_append (c ∷ xs) ys = go c.passes (first_of_append xs ys)
  where
    go : (b : Bool) → first_of (xs ++ ys) ≡ or_else (first_of xs) (first_of ys)
        → or_next b c.answer (first_of (xs ++ ys)) ≡ or_else (or_next b c.answer (first_of xs)) (first_of ys)
    go true e = refl
    go false e = e

module _ (g : WhyGiven) where
  abbrev literal_refusal : Option Refusal
  literal_refusal = first_of (literal_rules g.literal g.vars)

  literal_judged : WhyLent g → Accepted (list_only g) → (b : Bool) → literal_test g ≡ b → Judges g (or_next b (Refusal.BadLiteral 0) none)
  literal_judged w l true e = bad_literal w l (literal_sound g e)
  literal_judged w l false e = record { lent = w; list = l; literal_up_to = literal_false g e }

  list_judged : WhyLent g → (o : Option Refusal) → refusal_of (list_only g) ≡ o → Judges g (or_else o literal_refusal)
  list_judged w (some a) e = bad_list w a ((run_refused (list_only g) a).0 e)
  list_judged w none e = literal_judged w ((run_accepted (list_only g)).0 e) (literal_test g) refl

  -- where 10 and 1 are not to be given, the refusal is the list's or the literal's
  refusal_of_lent : WhyLent g → why_refusal g ≡ or_else (refusal_of (list_only g)) literal_refusal
  unfolding why_refusal
  refusal_of_lent w =
      rw ((lent_of g w).0, (lent_of g w).1, sym (list_refusal_lem g w)) (first_of_append (list_rules g.entries g.vars) (literal_rules g.literal g.vars))

  many_first : max_vars < g.vars → why_refusal g ≡ some Refusal.BadLimits
  unfolding why_refusal
  many_first h = rw (lt-ltb max_vars g.vars h)

  short_first : g.vars ≤ max_vars → short g ≡ true → why_refusal g ≡ some Refusal.ShortBuffer
  unfolding why_refusal
  short_first v h = rw (le-ltb max_vars g.vars v, h)

  judged : Judges g (why_refusal g)
  judged = go (ltb max_vars g.vars) (short g) refl refl
    where
      go : (a b : Bool) → ltb max_vars g.vars ≡ a → short g ≡ b → Judges g (why_refusal g)
      go true b v h = rw (many_first (ltb-true _ _ v)) (many_vars (ltb-true _ _ v))
      go false true v h = rw (short_first (ltb-false _ _ v) h) (short_buffer (ltb-false _ _ v) (short_sound g h))
      go false false v h =
          let w = lent_false g v h in
          rw (refusal_of_lent w) (list_judged w (refusal_of (list_only g)) refl)

  -- ---- and back: a rule that holds decides every test before its own

  refused_complete : (a : Refusal) → WhyRefuses g a → why_refusal g ≡ some a
  refused_complete _ (many_vars h) = many_first h
  refused_complete _ (short_buffer v h) = short_first v (short_complete g h)
  refused_complete _ (bad_list w a h) = refusal_of_lent w ∙ ap (λ (o : Option Refusal). or_else o literal_refusal) ((run_refused (list_only g) a).1 h)
  refused_complete _ (bad_literal w l h) =
      refusal_of_lent w ∙ ap (λ (o : Option Refusal). or_else o literal_refusal) ((run_accepted (list_only g)).1 l) ∙ rw (literal_complete g h)

  accepted_complete : WhyAccepted g → why_refusal g ≡ none
  accepted_complete w =
      refusal_of_lent w.lent ∙ ap (λ (o : Option Refusal). or_else o literal_refusal) ((run_accepted (list_only g)).1 w.list) ∙
      rw (literal_of g w.literal_up_to)

-- ---- each number exactly when its rule says

some_inj : {a b : Refusal} → some a ≡ some b → a ≡ b
some_inj e = cc

pub why_refused : (g : WhyGiven) (a : Refusal) → (why_refusal g ≡ some a) ↔ WhyRefuses g a
why_refused g a = (λ e. go (why_refusal g) (judged g) e, refused_complete g a)
  where
    go : (o : Option Refusal) → Judges g o → o ≡ some a → WhyRefuses g a
    go none w e = apart cc
    go (some b) w e = rw (some_inj e) at w

pub why_accepted : (g : WhyGiven) → (why_refusal g ≡ none) ↔ WhyAccepted g
why_accepted g = (λ e. go (why_refusal g) (judged g) e, accepted_complete g)
  where
    go : (o : Option Refusal) → Judges g o → o ≡ none → WhyAccepted g
    go none w e = w
    go (some b) w e = apart cc

-- ---- what is returned and written

pub refused_nothing : (g : WhyGiven) (a : Refusal) → WhyRefuses g a
    → (why_report_of g ≡ record { answer = WhyAnswer.Refused a; calls = 0; tries = 0 }) × (marks_after g ≡ g.marks) × (why_values_after g ≡ g.values)
unfolding why_report_of marks_after why_values_after
refused_nothing g a h = let e = (why_refused g a).1 h in (rw e, rw e, rw e)

pub accepted_all : (g : WhyGiven) → WhyAccepted g
    → (why_report_of g ≡ record { answer = (why (question_of g)).answer; calls = (why (question_of g)).calls; tries = (why (question_of g)).tries })
    × (marks_after g ≡ (why (question_of g)).marks ++ drop max_clauses g.marks)
    × (why_values_after g ≡ (why (question_of g)).values ++ drop g.vars g.values)
unfolding why_report_of marks_after why_values_after
accepted_all g h = let e = (why_accepted g).1 h in (rw e, rw e, rw e)

-- ---- the contract

pub explains_exists : (g : WhyGiven) → Explains g (why_report_of g) (marks_after g) (why_values_after g)
explains_exists g = record { result_is = refl; marks_are = refl; values_are = refl }

pub explains_unique : {g : WhyGiven} {r r' : WhyReport} {s s' v v' : List ℕ}
    → Explains g r s v → Explains g r' s' v' → (r ≡ r') × (s ≡ s') × (v ≡ v')
explains_unique p q = (p.result_is ∙ sym q.result_is, p.marks_are ∙ sym q.marks_are, p.values_are ∙ sym q.values_are)
