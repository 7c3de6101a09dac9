-- The laws of the answer: what is asked with buffers of just the size, what a reading leaves, and the contract.
--
--   asked_text        what is printed does not depend on what the buffers held
--   read_list, list_text, list_ready, read_line     what a reading leaves: an entry list, or a refusal
--   prints_short, whole_room, prints_answer     the contract, in a short buffer and in others
--   prints_le         how many bytes are put at most
--
-- Assumes nothing.
use mathlib.Core.Path.{◌≡◌, refl, sym, ◌∙◌, ap}
use mathlib.Core.Logic.{◌≢◌}
use mathlib.Core.Bool.{Bool, true, false}
use mathlib.Core.List.{List, ◌++◌}
use mathlib.Core.Option.{Option, none, some}
use Prim.Native.Nat.{ℕ, ◌≤◌, ◌<◌}
use native.Mathlib.Omega.{arith}
use lib.IntN.{ℤ}
use lib.Dec.{leb}
use lib.ListN.{length, take, drop, replicate, length-replicate, drop_of_length-le}
use Rattle.rules.specs.declared.ReadAnswer.{ReadAnswer}
use Rattle.rules.specs.declared.Reading.{Reading}
use Rattle.rules.specs.declared.Refusal.{Refusal}
use Rattle.rules.specs.declared.WhyReport.{WhyReport}
use Rattle.rules.specs.Lists.{first_of}
use Rattle.rules.specs.Numbers.{max_clauses, max_entries, read_number, read_place}
use Rattle.rules.specs.Meaning.{clauses}
use Rattle.texts.specs.Reading.{Reads}
use Rattle.texts.specs.Grammar.{Dimacs}
use Rattle.texts.specs.Printed.{refused_line, count_if_room}
use Rattle.rules.specs.Why.{WhyGiven, why_given, Question, question_of, no_marks, why, why_rules, why_refusal}
use Rattle.rules.specs.Why.{why_report_if, why_report_of, marks_if, marks_after, values_if, why_values_after, Explains}
use Rattle.texts.specs.WhyPrinted.{why_text_of_report, why_budget, why_asked, why_text_of_list, why_text_of_judged, why_text_of, max_why, PrintsWhy}
use Rattle.texts.proofs.GrammarLaws.{accepted_sound}
use Rattle.texts.proofs.PlainLaws.{entries_of-clauses}
use Rattle.texts.proofs.ReadList as reading
use Rattle.texts.proofs.ReadList.{ReadList}
use Rattle.texts.proofs.WhyText.{length-why_text_of}
use Rattle.lines.proofs.LineLaws.{refused_some}
use Rattle.buffers.specs.Put.{Room, Put}
use Rattle.buffers.proofs.PutLaws.{room_same}
use Rattle.buffers.proofs.RoomLaws.{short_count, short_bytes, whole_count, whole_bytes}
use Rattle.why_printed.specs.Reason.{Sized, ListReady}

-- ---- the question

module _ (es : List ℤ) (q : Question) where
  -- what is printed, by the refusal and by what the buffers held
  abbrev text_if : Option Refusal → List ℕ → List ℕ → List ℕ
  text_if o marks values = why_text_of_report (why_report_if o q) (clauses es) (marks_if o q marks) (values_if o q values)

  text_if_lem : (o : Option Refusal) (marks marks' values values' : List ℕ) → drop max_clauses marks ≡ drop max_clauses marks'
      → drop q.vars values ≡ drop q.vars values' → text_if o marks values ≡ text_if o marks' values'
  text_if_lem (some a) marks marks' values values' e f = refl
  text_if_lem none marks marks' values values' e f =
      ap (λ (xs : List ℕ). why_text_of_report (why_report_if none q) (clauses es) ((why q).marks ++ xs) ((why q).values ++ drop q.vars values)) e ∙
      ap (λ (xs : List ℕ). why_text_of_report (why_report_if none q) (clauses es) ((why q).marks ++ drop max_clauses marks') ((why q).values ++ xs)) f

module _ (vars : ℕ) (es : List ℤ) (l : ℤ) {marks values : List ℕ} (z : Sized vars marks values) where
  -- the question with these buffers
  abbrev lent : WhyGiven
  lent = why_given es vars l why_budget marks values

  abbrev zeros : List ℕ
  zeros = replicate vars 0

  same_refusal : why_refusal lent ≡ why_refusal (why_asked vars es l)
  unfolding why_refusal
  same_refusal =
      ap (λ (n : ℕ). first_of (why_rules es vars l n (length values))) (z.marks_len ∙ sym (length-replicate {A = ℕ} max_clauses 0)) ∙
      ap (λ (n : ℕ). first_of (why_rules es vars l (length no_marks) n)) (z.values_len ∙ sym (length-replicate {A = ℕ} vars 0))

  nothing_behind : (n : ℕ) (xs ys : List ℕ) → length xs ≡ n → length ys ≡ n → drop n xs ≡ drop n ys
  nothing_behind n xs ys e f = drop_of_length-le xs {i = n} (omega (arith, e)) ∙ sym (drop_of_length-le ys {i = n} (omega (arith, f)))

  pub asked_text : {r : WhyReport} {marks' values' : List ℕ} → Explains lent r marks' values'
      → why_text_of_report r (clauses es) marks' values' ≡ why_text_of_list vars es l
  unfolding why_report_of marks_after why_values_after
  asked_text {r} {marks'} {values'} d =
      let q = question_of lent in
      ap (λ (x : WhyReport). why_text_of_report x (clauses es) marks' values') d.result_is ∙
      ap (λ (x : List ℕ). why_text_of_report (why_report_of lent) (clauses es) x values') d.marks_are ∙
      ap (λ (x : List ℕ). why_text_of_report (why_report_of lent) (clauses es) (marks_after lent) x) d.values_are ∙
      text_if_lem es q (why_refusal lent) marks no_marks values zeros
      (nothing_behind max_clauses marks no_marks z.marks_len (length-replicate {A = ℕ} max_clauses 0))
      (nothing_behind vars values zeros z.values_len (length-replicate {A = ℕ} vars 0)) ∙
      ap (λ (o : Option Refusal). text_if es q o no_marks zeros) same_refusal

-- ---- the reading

module _ {text : List ℕ} {r : Reading} {after : List ℤ} (w : ReadList text r after) (l : ℤ) where
  pub list_text : why_text_of text l ≡ why_text_of_list r.vars (take r.entries after) l
  unfolding why_text_of
  list_text =
      ap (λ j. why_text_of_judged j l) w.judged ∙ ap (λ (v : ℕ). why_text_of_list v (take r.entries after) l) (sym w.vars_are)

  pub list_ready : {out : List ℕ} → Room 0 (why_text_of text l) out → ListReady r.vars (take r.entries after) l out
  list_ready m =
      let d : Dimacs text w.sizes.vars w.sizes.clauses (take r.entries after) = accepted_sound max_entries text w.judged in
      record {
        vars_fit = omega (arith, w.vars_are, d.vars_fit);
        entries_fit = d.entries_fit;
        clauses_fit = omega (arith, (entries_of-clauses d.exactly).1, d.clauses_fit);
        room = room_same list_text m;
      }

module _ {text : List ℕ} {before : List ℤ} {r : Reading} {after : List ℤ} (d : Reads text before r after) (z : length before ≡ max_entries) where
  pub read_list : r.answer ≡ ReadAnswer.Accepted → ReadList text r after
  read_list h = reading.read_list d z (ap read_number h)

  pub read_line : (l : ℤ) → r.answer ≢ ReadAnswer.Accepted → why_text_of text l ≡ refused_line (read_number r.answer) (read_place r.answer)
  unfolding why_text_of
  read_line l h = ap (λ j. why_text_of_judged j l) (reading.read_refused d z (refused_some r.answer h))

-- ---- the contract

pub prints_short : (text : List ℕ) (l : ℤ) (before : List ℕ) → length before < max_why → PrintsWhy text l before 0 before
prints_short text l before h =
    record { count_is = short_count max_why (why_text_of text l) before h; after_is = short_bytes max_why (why_text_of text l) before h }

pub whole_room : (text : List ℕ) (l : ℤ) (out : List ℕ) → max_why ≤ length out → Room 0 (why_text_of text l) out
whole_room text l out h = record { fits = omega (arith, length-why_text_of text l) }

pub prints_answer : {text : List ℕ} {l : ℤ} {before : List ℕ} {n : ℕ} {after : List ℕ} → max_why ≤ length before
    → Put 0 (why_text_of text l) before n after → PrintsWhy text l before n after
prints_answer {text} {l} {before} h p =
    record {
      count_is = whole_count max_why (why_text_of text l) before (length-why_text_of text l) h p;
      after_is = whole_bytes max_why (why_text_of text l) before (length-why_text_of text l) h p;
    }

pub prints_le : {text : List ℕ} {l : ℤ} {before : List ℕ} {n : ℕ} {after : List ℕ} → PrintsWhy text l before n after → n ≤ max_why
prints_le {text} {l} {before} {n} p = go (leb max_why (length before)) p.count_is
  where
    go : (b : Bool) → n ≡ count_if_room b (why_text_of text l) → n ≤ max_why
    go true e = omega (arith, e, length-why_text_of text l)
    go false e = omega (arith, e)
