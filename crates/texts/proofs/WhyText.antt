-- The laws of specs/WhyPrinted: its contract has exactly one solution, of an accepted text nothing is refused but the literal, no answer
-- is longer than max_why, and answers computed.
--
--   why_shown         an answer of each kind
--   why-given         the budget
--   prints_why_exists, prints_why_unique     one result and one buffer satisfy the contract
--   why_lent, why_listed          of an accepted text nothing is refused but the literal
--   length-why_text_of  no answer is longer than max_why
--
-- Assumes nothing.
use mathlib.Core.Path.{◌≡◌, refl, sym, ◌∙◌, ap}
use mathlib.Core.Logic.{◌⊎◌, inl, inr}
use mathlib.Core.Bool.{Bool, true, false}
use mathlib.Core.List.Memᴰ
use mathlib.Core.List.{List, [], ◌∷◌}
use mathlib.Core.Option.{Option, none, some}
use Prim.Native.Nat.{ℕ, zero, suc, pred, ◌+◌, ◌*◌, ◌≤◌}
use Prim.Native.String.{String}
use native.Mathlib.Omega.{arith}
use lib.IntN.{ℤ, pos, negsuc}
use lib.Dec.{eqb, leb}
use lib.ListN.{length, get_or, drop, replicate, length-append, length-replicate, drop_of_length-le}
use Rattle.rules.specs.declared.Refusal.{Refusal}
use Rattle.rules.specs.declared.WhyAnswer.{WhyAnswer}
use Rattle.rules.specs.declared.WhyReport.{WhyReport}
use Rattle.rules.specs.Lists.{In, all, eqs, pieces}
use Rattle.rules.specs.Numbers.{max_vars, max_clauses, max_entries, read_number, read_place}
use Rattle.rules.specs.Meaning.{Clause, var_of, clauses}
use Rattle.texts.specs.Text.{lines_of, tokens_from, numeral, header_of, entry_of}
use Rattle.texts.specs.Reading.{Judged, accepted, refused, judge, judge_tokens, judge_lines}
use Rattle.texts.specs.Grammar.{Dimacs}
use Rattle.texts.specs.Plain.{decimal, decimal_in, plain_entry, entries_of}
use Rattle.texts.specs.Printed.{count_if_room, bytes_if_room}
use Rattle.texts.specs.ModelLine.{signed, space_before, model_literal, model_line}
use Rattle.rules.specs.Closing.{state_of, close_in, closing}
use Rattle.rules.specs.Search.{go_on, call_on}
use Rattle.rules.specs.RunRefusals.{Accepted}
use Rattle.rules.specs.Why.{WhyGiven, why_number, question_of, marked, plain_call, false_call, visits, why}
use Rattle.rules.specs.Why.{why_refusal, why_report_of, marks_after, why_values_after}
use Rattle.rules.specs.Why.{WhyLent, list_only, WhyAccepted, WhyRefuses, many_vars, short_buffer, bad_list, bad_literal}
use Rattle.texts.specs.WhyPrinted.{why_line, spaced_literal, clause_line, line_if, kept_line, kept_lines, why_text_by}
use Rattle.texts.specs.WhyPrinted.{why_budget, why_asked, why_text_of_list, why_text_of_judged, why_text_of, max_why, PrintsWhy}
use Rattle.rules.proofs.Quoted.{quoted}
use Rattle.rules.proofs.ListLaws.{apart}
use Rattle.texts.proofs.DecimalLaws.{decimal_most, decimal_vars, decimal-clauses}
use Rattle.texts.proofs.GrammarLaws.{accepted_sound}
use Rattle.texts.proofs.PlainLaws.{entries_of-clauses}
use Rattle.texts.proofs.TextTheorems.{dimacs_runs}
use Rattle.texts.proofs.RefusalLaws.{refusal_sound}
use Rattle.texts.proofs.PlaceLaws.{refuses_place}
use Rattle.rules.proofs.RefusedRuns.{run_refused, run_accepted}
use Rattle.texts.proofs.PrintedLaws.{lines_in}
use Rattle.rules.proofs.Starred.{neg}
use Rattle.texts.proofs.TableLaws.{read_number_le, refusal_number_le, length-refused_line}
use Rattle.rules.proofs.WhyTheorems.{why_answer_lem, why_calls, why_tries, why_length_values}
use Rattle.rules.proofs.WhyRefused.{why_refused, why_accepted, refused_nothing, accepted_all, list_lent}

-- ---- an answer of each kind, computed

-- a text and a literal, and what is printed for them, line by line
pub record Shown : Type 0 where
  pub text : String
  pub literal : ℤ
  pub lines : List String

abbrev shows : String → ℤ → List String → Shown
shows text l lines = record { text = text; literal = l; lines = lines }

abbrev pub answers : List Shown
answers =
    -- a chain, all of it kept; the literals as they stand in the text
    shows "p cnf 3 4\n-1 2 0 3 -2 -2 0 1 0 -1 3 3 0\n" (pos 2)
    ("answer 0 calls 6 tries 2 kept 2\n" ∷ "clause 1: -1 2\n" ∷ "clause 3: 1\n" ∷ []) ∷
    -- an empty clause is no model, and no other clause has no literal
    shows "p cnf 1 1\n0\n" (pos 1) ("answer 20 calls 1 tries 0 kept 0\n" ∷ []) ∷
    -- not forced: the model
    shows "p cnf 3 1\n1 2 0\n" (pos 1) ("answer 22 calls 2 tries 3 kept 0\n" ∷ "-1 2 -3\n" ∷ []) ∷
    -- refused: by the reader, and the literal
    shows "c\np cnf 1 1\n2 0\n" (pos 1) ("refused 7 place 12\n" ∷ []) ∷
    shows "p cnf 1 1\n1 0\n" (pos 0) ("refused 13 place 0\n" ∷ []) ∷
    shows "p cnf 1 1\n1 0\n" (neg 2) ("refused 13 place 0\n" ∷ []) ∷
    []

abbrev pub passes : Shown → Bool
passes s = eqs (why_text_of (quoted s.text) s.literal) (lines_in s.lines)

pub why_shown : all passes answers ≡ true
unfolding why_text_of judge lines_of judge_lines header_of numeral tokens_from judge_tokens entry_of state_of close_in closing go_on call_on
    plain_call false_call visits why why_refusal why_report_of marks_after why_values_after decimal decimal_in
why_shown = refl

-- ---- how long the lines are

length-signed : (b : Bool) (v : ℕ) → v ≤ max_vars → length (signed b v) ≤ 4
length-signed true v h = omega (arith, decimal_vars v h)
length-signed false v h = omega (arith, decimal_vars v h)

length-space_before : (v : ℕ) → length (space_before v) ≤ 1
length-space_before zero = omega arith
length-space_before (suc zero) = omega arith
length-space_before (suc (suc v)) = omega arith

pub length_literals : (v : ℕ) (bits : List ℕ) → v + length bits ≤ 257 → length (pieces model_literal v bits) ≤ 5 * length bits
length_literals v [] h = omega arith
length_literals v (b ∷ bits) h =
    omega (
      arith,
      length-append (model_literal v b) (pieces model_literal (suc v) bits),
      length-append (space_before v) (signed (eqb b 0) v),
      length-space_before v,
      length-signed (eqb b 0) v (omega arith),
      length_literals (suc v) bits (omega arith),
    )

length-plain_entry : (l : ℤ) → var_of l ≤ max_vars → length (plain_entry l) ≤ 4
length-plain_entry (pos n) h = omega (arith, decimal_vars n h)
length-plain_entry (negsuc n) h = omega (arith, decimal_vars (suc n) h)

length_spaced : (n : ℕ) (cl : Clause) → ((l : ℤ) → In l cl → var_of l ≤ max_vars) → length (pieces spaced_literal n cl) ≤ 5 * length cl
length_spaced n [] h = omega arith
length_spaced n (l ∷ cl) h =
    omega (
      arith,
      length-append (plain_entry l) (pieces spaced_literal (suc n) cl),
      length-plain_entry l (h l (Memᴰ.head refl)),
      length_spaced (suc n) cl (λ k i. h k (Memᴰ.tail i)),
    )

length-clause_line : (n : ℕ) (cl : Clause) → n ≤ max_clauses → ((l : ℤ) → In l cl → var_of l ≤ max_vars) → length (clause_line n cl) ≤ 13 + 5 * length cl
length-clause_line n cl h k = simp length-append (omega (arith, decimal-clauses n h, length_spaced 1 cl k))

length-line_if : (b n : ℕ) (cl : Clause) → n ≤ max_clauses → ((l : ℤ) → In l cl → var_of l ≤ max_vars) → length (line_if b n cl) ≤ 13 + 5 * length cl
length-line_if zero n cl h k = omega arith
length-line_if (suc b) n cl h k = length-clause_line n cl h k

-- 13 bytes and 5 for each literal; so, for an entry of which one in a clause is its zero, 8 for each clause and 5 for each entry
length-kept_lines : (ms : List ℕ) (n : ℕ) (F : List Clause) → n + length F ≤ 1025 → ((l : ℤ) → In l (entries_of F) → var_of l ≤ max_vars)
    → length (pieces (kept_line ms) n F) ≤ 8 * length F + 5 * length (entries_of F)
length-kept_lines ms n [] h k = omega arith
length-kept_lines ms n (cl ∷ F) h k =
    omega (
      arith,
      length-append (kept_line ms n cl) (pieces (kept_line ms) (suc n) F),
      length-append cl (pos 0 ∷ entries_of F),
      length-line_if (get_or ms (pred n) 0) n cl (omega arith) (λ l i. k l (Memᴰ.append_left (pos 0 ∷ entries_of F) i)),
      length-kept_lines ms (suc n) F (omega arith) (λ l i. k l (Memᴰ.append_right cl (Memᴰ.tail i))),
    )

length_marked : (ms : List ℕ) (F : List Clause) → length (marked ms F) ≤ length F
length_marked [] F = omega arith
length_marked (m ∷ ms) [] = omega arith
length_marked (zero ∷ ms) (cl ∷ F) = omega (arith, length_marked ms F)
length_marked (suc m ∷ ms) (cl ∷ F) = omega (arith, length_marked ms F)

why_number_le : (a : WhyAnswer) → why_number a ≤ 22
why_number_le WhyAnswer.Kept = omega arith
why_number_le WhyAnswer.NoModel = omega arith
why_number_le WhyAnswer.Stopped = omega arith
why_number_le WhyAnswer.NotForced = omega arith
why_number_le (WhyAnswer.Refused a) = omega (arith, refusal_number_le a)

length-why_line : (r : WhyReport) (kept : ℕ) → r.calls ≤ 1026 → r.tries ≤ why_budget → kept ≤ max_clauses → length (why_line r kept) ≤ 45
length-why_line r kept c t k =
    simp length-append
    (omega (
      arith,
      decimal_most 2 (why_number r.answer) (omega arith) (omega (arith, why_number_le r.answer)),
      decimal_most 4 r.calls (omega arith) (omega arith),
      decimal_most 7 r.tries (omega arith) (omega arith),
      decimal-clauses kept k,
    ))

-- ---- the answer of an accepted list

-- what no rule refuses, with the answer 0, 20, 21 or 22
record Bounded (r : WhyReport) (F : List Clause) (values : List ℕ) : Type 0 where
  calls_fit : r.calls ≤ 1026
  tries_fit : r.tries ≤ why_budget
  clauses_fit : length F ≤ max_clauses
  entries_fit : length (entries_of F) ≤ max_entries
  up_to : (l : ℤ) → In l (entries_of F) → var_of l ≤ max_vars
  values_fit : length values ≤ max_vars
  answer_is : (r.answer ≡ WhyAnswer.Kept) ⊎ ((r.answer ≡ WhyAnswer.NoModel) ⊎ ((r.answer ≡ WhyAnswer.Stopped) ⊎ (r.answer ≡ WhyAnswer.NotForced)))

length-why_text_by : {r : WhyReport} {F : List Clause} {values : List ℕ} (marks : List ℕ)
    → Bounded r F values → length (why_text_by r.answer r F marks values) ≤ max_why
length-why_text_by {r} {F} {values} marks b = go b.answer_is
  where
    first : (kept : ℕ) → kept ≤ max_clauses → length (why_line r kept) ≤ 45
    first kept h = length-why_line r kept b.calls_fit b.tries_fit h

    kept_fits : length (marked marks F) ≤ max_clauses
    kept_fits = omega (arith, length_marked marks F, b.clauses_fit)

    go : (r.answer ≡ WhyAnswer.Kept) ⊎ ((r.answer ≡ WhyAnswer.NoModel) ⊎ ((r.answer ≡ WhyAnswer.Stopped) ⊎ (r.answer ≡ WhyAnswer.NotForced)))
        → length (why_text_by r.answer r F marks values) ≤ max_why
    go (inl e) =
        rw (ap (λ (a : WhyAnswer). length (why_text_by a r F marks values)) e)
        (omega (
          arith,
          length-append (why_line r (length (marked marks F))) (kept_lines marks F),
          first (length (marked marks F)) kept_fits,
          length-kept_lines marks 1 F (omega (arith, b.clauses_fit)) b.up_to,
          b.clauses_fit,
          b.entries_fit,
        ))
    go (inr (inl e)) = rw (ap (λ (a : WhyAnswer). length (why_text_by a r F marks values)) e) (omega (arith, first 0 (omega arith)))
    go (inr (inr (inl e))) = rw (ap (λ (a : WhyAnswer). length (why_text_by a r F marks values)) e) (omega (arith, first 0 (omega arith)))
    go (inr (inr (inr e))) =
        rw (ap (λ (a : WhyAnswer). length (why_text_by a r F marks values)) e)
        (omega (
          arith,
          length-append (why_line r 0) (model_line values),
          length-append (pieces model_literal 1 values) (10 ∷ []),
          first 0 (omega arith),
          length_literals 1 values (omega (arith, b.values_fit)),
          b.values_fit,
        ))

-- ---- of an accepted text nothing is refused but the literal

module _ {text : List ℕ} {vars n : ℕ} {es : List ℤ} (read : Dimacs text vars n es) (l : ℤ) where
  abbrev asked : WhyGiven
  asked = why_asked vars es l

  pub why_lent : WhyLent asked
  why_lent =
      record {
        vars_fit = read.vars_fit;
        marks_fit = omega (arith, length-replicate {A = ℕ} max_clauses 0);
        values_fit = omega (arith, length-replicate {A = ℕ} vars 0);
      }

  pub why_listed : Accepted (list_only asked)
  why_listed =
      dimacs_runs (list_only asked) read (list_lent asked why_lent) (record { few = omega arith; up_to = λ l i. absurd (Memᴰ.not-nil i) })

  pub why_only_literal : (a : Refusal) → WhyRefuses asked a → a ≡ Refusal.BadLiteral 0
  why_only_literal _ (many_vars h) = absurd (omega (arith, why_lent.vars_fit))
  why_only_literal _ (short_buffer v (inl h)) = absurd (omega (arith, why_lent.marks_fit))
  why_only_literal _ (short_buffer v (inr h)) = absurd (omega (arith, why_lent.values_fit))
  why_only_literal _ (bad_list w a h) =
      let x : some a ≡ none = sym ((run_refused (list_only asked) a).1 h) ∙ (run_accepted (list_only asked)).1 why_listed in apart cc
  why_only_literal _ (bad_literal w k h) = refl

  bounded : WhyAccepted asked → Bounded (why_report_of asked) (clauses es) (why_values_after asked)
  bounded w =
      let q = question_of asked in
      let zeros : List ℕ = replicate vars 0 in
      let (r, m, v) = accepted_all asked w in
      let (same, count) = entries_of-clauses read.exactly in
      record {
        calls_fit = rw r (omega (arith, why_calls q, count, read.clauses_fit));
        tries_fit = rw r (why_tries q).0;
        clauses_fit = omega (arith, count, read.clauses_fit);
        entries_fit = rw same read.entries_fit;
        up_to = rw same (λ k i. omega (arith, read.up_to k i, read.vars_fit));
        values_fit = rw v
            (omega (
              arith,
              length-append (why q).values (drop vars zeros),
              ap length (drop_of_length-le zeros {i = vars} (omega (arith, length-replicate {A = ℕ} vars 0))),
              why_length_values q w.literal_up_to.some,
              read.vars_fit,
            ));
        answer_is = rw r (why_answer_lem q w.literal_up_to.some);
      }

  length-why_text_of_list : length (why_text_of_list vars es l) ≤ max_why
  length-why_text_of_list = go (why_refusal asked) refl
    where
      go : (o : Option Refusal) → why_refusal asked ≡ o → length (why_text_of_list vars es l) ≤ max_why
      go none q = length-why_text_by (marks_after asked) (bounded ((why_accepted asked).0 q))
      go (some a) q =
          let h = (why_refused asked a).0 q in
          let (r, m, v) = refused_nothing asked a h in
          rw (r, why_only_literal a h) (omega (arith, length-refused_line 13 0 (omega arith) (omega arith)))

pub length-why_text_of : (text : List ℕ) (l : ℤ) → length (why_text_of text l) ≤ max_why
unfolding why_text_of
length-why_text_of text l = go (judge max_entries text) refl
  where
    go : (j : Judged) → judge max_entries text ≡ j → length (why_text_of_judged j l) ≤ max_why
    go (refused a) e =
        omega (arith, length-refused_line (read_number a) (read_place a) (omega (arith, read_number_le a)) (refuses_place (refusal_sound max_entries text e)))
    go (accepted s es) e = length-why_text_of_list (accepted_sound max_entries text e) l

-- ---- the contract

pub prints_why_exists : (text : List ℕ) (l : ℤ) (before : List ℕ)
    → PrintsWhy text l before (count_if_room (leb max_why (length before)) (why_text_of text l))
    (bytes_if_room (leb max_why (length before)) (why_text_of text l) before)
prints_why_exists text l before = record { count_is = refl; after_is = refl }

pub prints_why_unique : {text : List ℕ} {l : ℤ} {before : List ℕ} {n n' : ℕ} {b b' : List ℕ}
    → PrintsWhy text l before n b → PrintsWhy text l before n' b' → (n ≡ n') × (b ≡ b')
prints_why_unique p q = (p.count_is ∙ sym q.count_is, p.after_is ∙ sym q.after_is)

-- "with budget 1,000,000"
pub why-given : (vars : ℕ) (es : List ℤ) (l : ℤ) → (why_asked vars es l).budget ≡ 1000000
why-given vars es l = refl
