-- The printed table says what models say (docs/RULES.md, "The printed table"): for every text of the grammar it is the table of the
-- run on its entries, its first line says that run's answer, and the line of each variable that variable's status.
--
--   table_refused, table_many_held, table_bad_held     a refused text, and held literals that are refused
--   table_of_run_lem      the table is that of the run with budget 1,000,000 and chunk limit 16
--   no_lf_append, no_lf_decimal, first_line_lem, answered     lines, and the answer that the first one says
--   line-says         the words of a variable's line say its status
--   table_forced_on, table_forced_off, table_free     what a settled table says of models
--   table_no_model    when it says that there is none
--
-- Assumes nothing.
use mathlib.Core.Path.{◌≡◌, refl, sym, ◌∙◌, ap, ap₂}
use mathlib.Core.Logic.{◌⊎◌, inl, inr, ◌↔◌}
use mathlib.Core.Bool.{false, cond}
use mathlib.Core.List.{List, [], ◌∷◌, ◌++◌, append_assoc, append-nil, append_cancel_left}
use mathlib.Core.Option.{Option, none}
use Prim.Native.Nat.{ℕ, zero, suc, pred, ◌+◌, ◌-◌, ◌≤◌, ◌<◌}
use native.Mathlib.Omega.{arith}
use native.Mathlib.Nat.{add-zero, add-suc, suc-add}
use lib.Dec.{eqb}
use lib.IntN.{ℤ, pos, negsuc}
use lib.ListN.{length, get_or, drop, replicate, length-replicate, drop_of_length-le}
use borrow.Author.Tests.{ne_eqb}
use Rattle.rules.specs.declared.ReadAnswer.{ReadAnswer}
use Rattle.rules.specs.declared.Refusal.{Refusal}
use Rattle.rules.specs.declared.RunAnswer.{RunAnswer}
use Rattle.rules.specs.declared.Report.{Report}
use Rattle.rules.specs.Lists.{In, any, cut, joined}
use Rattle.rules.specs.Numbers.{max_entries, max_held, read_number, read_place, refusal_number, refusal_place, run_number}
use Rattle.texts.specs.Text.{is_lf, is_digit, Sizes}
use Rattle.texts.specs.Reading.{Judged, accepted, judge}
use Rattle.texts.specs.Grammar.{Dimacs}
use Rattle.texts.specs.Refusals.{Refuses}
use Rattle.rules.specs.Meaning.{var_of, LitUpTo, clauses}
use Rattle.rules.specs.Models.{NoModel, Forced, Free}
use Rattle.texts.specs.Plain.{decimal}
use Rattle.rules.specs.Run.{Task, Ended, status_at, run}
use Rattle.rules.specs.Hints.{hints_of}
use Rattle.rules.specs.Held.{with_held, Holdable}
use Rattle.rules.specs.Answer.{refusal_of, task_of, report_of_run, report_if, report_of, status_after, hints_after}
use Rattle.rules.specs.RunRefusals.{Formed, RunRefuses, many_held, bad_literal}
use Rattle.texts.specs.Printed.{answer_word, calls_word, tries_word, forced_word, free_word, open_word, on_word, off_word, held_word}
use Rattle.texts.specs.Printed.{refused_line, answer_line, status_words, status_lines, table_by, table_of_run, table_given, table_of_judged, table_of}
use Rattle.texts.specs.Tables.{line_at, SaysAnswer, table_task}
use Rattle.rules.proofs.ListLaws.{any_append, or_left, or_right}
use Rattle.texts.proofs.CutLaws.{cut_piece}
use Rattle.texts.proofs.TokenLaws.{any_of_all, digit_above}
use Rattle.texts.proofs.GrammarLaws.{accepted_complete}
use Rattle.texts.proofs.RefusalLaws.{refusal_complete}
use Rattle.texts.proofs.DecimalLaws.{decimal_digits, decimal_inj}
use Rattle.rules.proofs.RefusedRuns.{run_refused, run_accepted}
use Rattle.rules.proofs.RunTheorems.{run_answer_lem, run_statuses, settled_forced, settled_free, no_model_exactly}
use Rattle.texts.proofs.PrintedLaws.{table_formed, table_runs}

-- ---- the table of a text

pub table_refused : (text : List ℕ) (held : List ℤ) (a : ReadAnswer) → Refuses max_entries text a
    → table_of text held ≡ refused_line (read_number a) (read_place a)
unfolding table_of
table_refused text held a r = ap (λ (j : Judged). table_of_judged j held) (refusal_complete max_entries text r)

-- the judgement of a text of the grammar
sizes : ℕ → ℕ → Sizes
sizes vars n = record { vars = vars; clauses = n }

judged : {text : List ℕ} {vars n : ℕ} {es : List ℤ} → Dimacs text vars n es → judge max_entries text ≡ accepted (sizes vars n) es
unfolding sizes
judged {text} d = accepted_complete max_entries text (omega arith) d

-- what the run of an accepted text is refused for
pub table_run_refused : {text : List ℕ} {vars n : ℕ} {es : List ℤ} → Dimacs text vars n es → (held : List ℤ) (a : Refusal)
    → RunRefuses (table_given (record { vars = vars; clauses = n }) es held) a → table_of text held ≡ refused_line (refusal_number a) (refusal_place a)
unfolding table_of report_of sizes
table_run_refused {text} {vars} {n} {es} d held a r =
    let g = table_given (record { vars = vars; clauses = n }) es held in
    ap (λ (j : Judged). table_of_judged j held) (judged d) ∙
    ap (λ (o : Option Refusal). table_of_run vars (report_if o (task_of g)) (status_after g) (hints_after g)) ((run_refused g a).1 r)

module _ {text : List ℕ} {vars n : ℕ} {es : List ℤ} (d : Dimacs text vars n es) (held : List ℤ) where
  formed : Formed (table_given (record { vars = vars; clauses = n }) es held)
  unfolding sizes
  formed = table_formed max_entries text (judged d) held

  -- more than 256 held literals
  pub table_many_held : max_held < length held → table_of text held ≡ refused_line 15 256
  table_many_held h = table_run_refused d held Refusal.ManyHeld (many_held formed h)

  -- the first held literal that is 0 or above V
  pub table_bad_held : length held ≤ max_held → (front : List ℤ) (l : ℤ) (back : List ℤ) → held ≡ front ++ l ∷ back
      → ((k : ℤ) → In k front → LitUpTo vars k) → (var_of l ≡ 0) ⊎ (vars < var_of l) → table_of text held ≡ refused_line 13 (length front)
  table_bad_held s front l back q k h = table_run_refused d held (Refusal.BadLiteral (length front)) (bad_literal formed s front l back q k h)

-- the report, the statuses and the hints of a run
abbrev table_of_end : Task → Ended → List ℕ
table_of_end k e = table_of_run k.vars (report_of_run e) e.progress.statuses (hints_of k)

pub table_of_run_lem : {text : List ℕ} {vars n : ℕ} {es : List ℤ} → Dimacs text vars n es → {held : List ℤ} → Holdable vars held
    → table_of text held
    ≡ table_of_run vars (report_of_run (run (table_task vars es held))) (run (table_task vars es held)).progress.statuses (hints_of (table_task vars es held))
unfolding table_of report_of status_after hints_after sizes
table_of_run_lem {text} {vars} {n} {es} d {held} h =
    ap (λ (j : Judged). table_of_judged j held) (judged d) ∙
    rw ok (ap₂ (table_of_run vars (report_of_run e)) (whole e.progress.statuses) (whole (hints_of (table_task vars es held))))
  where
    s : Sizes
    s = record { vars = vars; clauses = n }

    e : Ended
    e = run (table_task vars es held)

    ok : refusal_of (table_given s es held) ≡ none
    ok = (run_accepted (table_given s es held)).1 (table_runs max_entries text (judged d) h)

    whole : (front : List ℕ) → front ++ drop vars (replicate vars 0) ≡ front
    whole front =
        ap (λ (xs : List ℕ). front ++ xs) (drop_of_length-le (replicate vars 0) {i = vars} (omega (arith, length-replicate {A = ℕ} vars 0))) ∙
        append-nil front

-- ---- no LF inside a line

pub no_lf_append : (xs ys : List ℕ) → any is_lf xs ≡ false → any is_lf ys ≡ false → any is_lf (xs ++ ys) ≡ false
no_lf_append xs ys h k = any_append is_lf xs ys ∙ rw (h, k)

pub no_lf_decimal : (n : ℕ) → any is_lf (decimal n) ≡ false
no_lf_decimal n = any_of_all is_digit is_lf (decimal n) (λ b d. ne_eqb b 10 (omega (arith, digit_above b d))) (decimal_digits n)

no_lf_words : (s hint : ℕ) → any is_lf (status_words s hint) ≡ false
no_lf_words zero hint = refl
no_lf_words (suc zero) hint = refl
no_lf_words (suc (suc zero)) hint = no_lf_decimal hint
no_lf_words (suc (suc (suc s))) hint = no_lf_decimal hint

-- the first line, less its LF, piece by piece
abbrev answer_pieces : ℕ → Report → List (List ℕ)
answer_pieces vars r =
    answer_word ∷ decimal (run_number r.answer) ∷
    calls_word ∷ decimal r.calls ∷
    tries_word ∷ decimal r.tries ∷
    forced_word ∷ (32 ∷ decimal r.forced) ∷
    free_word ∷ (32 ∷ decimal r.free) ∷
    open_word ∷ (32 ∷ decimal (vars - r.forced - r.free)) ∷
    []

pieces : (a b c d e f g h i j k l z : List ℕ)
    → a ++ b ++ c ++ d ++ e ++ f ++ g ++ h ++ i ++ j ++ k ++ l ++ z
    ≡ joined (a ∷ b ∷ c ∷ d ∷ e ∷ f ∷ g ∷ h ∷ i ∷ j ∷ k ∷ l ∷ []) ++ z
pieces a b c d e f g h i j k l z = simp append_assoc

answer_line_lem : (vars : ℕ) (r : Report) → answer_line vars r ≡ joined (answer_pieces vars r) ++ 10 ∷ []
answer_line_lem vars r =
    pieces answer_word (decimal (run_number r.answer)) calls_word (decimal r.calls) tries_word (decimal r.tries)
    forced_word (32 ∷ decimal r.forced) free_word (32 ∷ decimal r.free) open_word (32 ∷ decimal (vars - r.forced - r.free)) (10 ∷ [])

no_lf_joined : (xss : List (List ℕ)) → any (λ xs. any is_lf xs) xss ≡ false → any is_lf (joined xss) ≡ false
no_lf_joined [] h = refl
no_lf_joined (xs ∷ xss) h =
    no_lf_append xs (joined xss) (or_left (any is_lf xs) (any (λ ys. any is_lf ys) xss) h)
    (no_lf_joined xss (or_right (any is_lf xs) (any (λ ys. any is_lf ys) xss) h))

no_lf_pieces : (vars : ℕ) (r : Report) → any is_lf (joined (answer_pieces vars r)) ≡ false
no_lf_pieces vars r =
    no_lf_joined (answer_pieces vars r)
    (rw (
      no_lf_decimal (run_number r.answer),
      no_lf_decimal r.calls,
      no_lf_decimal r.tries,
      no_lf_decimal r.forced,
      no_lf_decimal r.free,
      no_lf_decimal (vars - r.forced - r.free),
    ))

-- ---- the lines

-- the first line, and what stands behind it
pub first_line_lem : (vars : ℕ) (r : Report) (rest : List ℕ) → cut is_lf (answer_line vars r ++ rest) ≡ joined (answer_pieces vars r) ∷ cut is_lf rest
first_line_lem vars r rest =
    ap (λ (xs : List ℕ). cut is_lf (xs ++ rest)) (answer_line_lem vars r) ∙
    ap (cut is_lf) (append_assoc (joined (answer_pieces vars r)) (10 ∷ []) rest) ∙
    cut_piece is_lf (joined (answer_pieces vars r)) 10 rest (no_lf_pieces vars r) refl

module _ (hs : List ℕ) where
  -- the words of variable v with this status
  abbrev words : ℕ → ℕ → List ℕ
  words v s = status_words s (get_or hs (pred v) 0)

  lines_cons : (v s : ℕ) (ss : List ℕ)
      → cut is_lf (status_lines v (s ∷ ss) hs) ≡ (decimal v ++ words v s) ∷ cut is_lf (status_lines (suc v) ss hs)
  lines_cons v s ss =
      cut_piece is_lf (decimal v ++ words v s) 10 (status_lines (suc v) ss hs)
      (no_lf_append (decimal v) (words v s) (no_lf_decimal v) (no_lf_words s (get_or hs (pred v) 0))) refl

  -- the line of the variable at an index, where the first one is that of variable v
  status_line_lem : (v : ℕ) (ss : List ℕ) (i : ℕ) → i < length ss
      → get_or (cut is_lf (status_lines v ss hs)) i [] ≡ decimal (v + i) ++ words (v + i) (status_at ss i)
  status_line_lem v [] i h = absurd (omega arith)
  status_line_lem v (s ∷ ss) zero h = ap (λ (xss : List (List ℕ)). get_or xss 0 []) (lines_cons v s ss) ∙ rw add-zero
  status_line_lem v (s ∷ ss) (suc i) h =
      ap (λ (xss : List (List ℕ)). get_or xss (suc i) []) (lines_cons v s ss) ∙
      rw add-suc (rw suc-add at (status_line_lem (suc v) ss i (omega arith)))

-- ---- a table says the answer and the statuses

-- words that differ are of other statuses: `o` of `open`, `r` of `free`, `n` of `forced on`
abbrev status_of : List ℕ → ℕ
status_of words =
    cond (eqb (get_or words 1 0) 111) 0 (cond (eqb (get_or words 2 0) 114) 1 (cond (eqb (get_or words 9 0) 110) 2 3))

status_of_words : (s hint : ℕ) → s ≤ 3 → status_of (status_words s hint) ≡ s
status_of_words zero hint h = refl
status_of_words (suc zero) hint h = refl
status_of_words (suc (suc zero)) hint h = refl
status_of_words (suc (suc (suc zero))) hint h = refl
status_of_words (suc (suc (suc (suc s)))) hint h = absurd (omega arith)

words_inj : (s t hint : ℕ) → s ≤ 3 → t ≤ 3 → status_words s hint ≡ status_words t hint → s ≡ t
words_inj s t hint h k e = sym (status_of_words s hint h) ∙ ap status_of e ∙ status_of_words t hint k

-- a number that ends at a space is read off what it stands in front of
number_front : (n : ℕ) (rest : List ℕ) → get_or (cut (λ (b : ℕ). eqb b 32) (decimal n ++ 32 ∷ rest)) 0 [] ≡ decimal n
number_front n rest =
    ap (λ (xss : List (List ℕ)). get_or xss 0 [])
    (cut_piece (λ (b : ℕ). eqb b 32) (decimal n) 32 rest
    (any_of_all is_digit (λ (b : ℕ). eqb b 32) (decimal n) (λ b d. ne_eqb b 32 (omega (arith, digit_above b d))) (decimal_digits n)) refl)

answer_inj : (m n : ℕ) (xs ys : List ℕ) → answer_word ++ decimal m ++ 32 ∷ xs ≡ answer_word ++ decimal n ++ 32 ∷ ys → m ≡ n
answer_inj m n xs ys e =
    decimal_inj m n (sym (number_front m xs) ∙ ap (λ (zs : List ℕ). get_or (cut (λ (b : ℕ). eqb b 32) zs) 0 []) cancelled ∙ number_front n ys)
  where
    cancelled : decimal m ++ 32 ∷ xs ≡ decimal n ++ 32 ∷ ys
    cancelled =
        append_cancel_left answer_word (decimal m ++ 32 ∷ xs) (decimal n ++ 32 ∷ ys)
        (sym (append_assoc answer_word (decimal m) (32 ∷ xs)) ∙ e ∙ append_assoc answer_word (decimal n) (32 ∷ ys))

-- a table that begins with an answer line says its answer and no other
line_answer : (vars : ℕ) (r : Report) (rest : List ℕ) → SaysAnswer (run_number r.answer) (answer_line vars r ++ rest)
line_answer vars r rest =
    record {
      rest = drop 1 (tail ++ 10 ∷ rest);
      begins =
          ap (λ (xs : List ℕ). xs ++ rest) (answer_line_lem vars r) ∙ append_assoc (answer_word ++ (number ++ tail)) (10 ∷ []) rest ∙
          append_assoc answer_word (number ++ tail) (10 ∷ rest) ∙ ap (λ (xs : List ℕ). answer_word ++ xs) (append_assoc number tail (10 ∷ rest)) ∙
          sym (append_assoc answer_word number (tail ++ 10 ∷ rest));
    }
  where
    number : List ℕ
    number = decimal (run_number r.answer)

    -- what stands behind the answer's number: ` calls ` and so on
    tail : List ℕ
    tail = joined (drop 2 (answer_pieces vars r))

pub answered : (vars : ℕ) (r : Report) (rest : List ℕ) (n : ℕ) → SaysAnswer n (answer_line vars r ++ rest) ↔ (run_number r.answer ≡ n)
answered vars r rest n =
    let own = line_answer vars r rest in
    (λ w. answer_inj (run_number r.answer) n own.rest w.rest (sym own.begins ∙ w.begins), λ e. rw (sym e) own)

-- ---- the table of a run

module _ (k : Task) (limit : 1 ≤ k.limit) where
  ss : List ℕ
  ss = (run k).progress.statuses

  abbrev hs : List ℕ
  hs = hints_of k

  table : List ℕ
  table = table_of_end k (run k)

  -- where the run is not refused, the table begins with the answer line; lines of variables follow unless there is no model
  by_answer : (a : RunAnswer) → (run k).answer ≡ a → table ≡ table_by a k.vars (report_of_run (run k)) ss hs
  unfolding table ss
  by_answer a q = ap (λ (b : RunAnswer). table_by b k.vars (report_of_run (run k)) (run k).progress.statuses (hints_of k)) q

  begins : (rest : List ℕ) × (table ≡ answer_line k.vars (report_of_run (run k)) ++ rest)
  begins = go (run_answer_lem k limit)
    where
      go : ((run k).answer ≡ RunAnswer.Settled) ⊎ (((run k).answer ≡ RunAnswer.NoModel) ⊎ ((run k).answer ≡ RunAnswer.Stopped))
          → (rest : List ℕ) × (table ≡ answer_line k.vars (report_of_run (run k)) ++ rest)
      go (inl q) = (status_lines 1 ss hs, by_answer RunAnswer.Settled q)
      go (inr (inl q)) = ([], by_answer RunAnswer.NoModel q ∙ sym (append-nil (answer_line k.vars (report_of_run (run k)))))
      go (inr (inr q)) = (status_lines 1 ss hs, by_answer RunAnswer.Stopped q)

  says : (n : ℕ) → SaysAnswer n table ↔ (run_number (run k).answer ≡ n)
  says n = let (rest, q) = begins in rw q (answered k.vars (report_of_run (run k)) rest n)

  -- the answers of a run are told apart by their numbers
  says_settled : (SaysAnswer 0 table → (run k).answer ≡ RunAnswer.Settled)
      × (SaysAnswer 20 table ↔ ((run k).answer ≡ RunAnswer.NoModel)) × ((run k).answer ≡ RunAnswer.Stopped → SaysAnswer 21 table)
  says_settled = (
    λ w. settled (run_answer_lem k limit) ((says 0).0 w),
    (λ w. no_model (run_answer_lem k limit) ((says 20).0 w), λ q. (says 20).1 (ap run_number q)),
    λ q. (says 21).1 (ap run_number q),
  )
    where
      Answers : Type 0
      Answers = ((run k).answer ≡ RunAnswer.Settled) ⊎ (((run k).answer ≡ RunAnswer.NoModel) ⊎ ((run k).answer ≡ RunAnswer.Stopped))

      settled : Answers → run_number (run k).answer ≡ 0 → (run k).answer ≡ RunAnswer.Settled
      settled (inl q) z = q
      settled (inr (inl q)) z = absurd (omega (arith, rw q at z))
      settled (inr (inr q)) z = absurd (omega (arith, rw q at z))

      no_model : Answers → run_number (run k).answer ≡ 20 → (run k).answer ≡ RunAnswer.NoModel
      no_model (inl q) z = absurd (omega (arith, rw q at z))
      no_model (inr (inl q)) z = q
      no_model (inr (inr q)) z = absurd (omega (arith, rw q at z))

  -- the words of a variable's line say its status
  line : SaysAnswer 0 table → (i : ℕ) → i < k.vars → (s : ℕ) → s ≤ 3
      → (line_at table (suc i) ≡ decimal (suc i) ++ status_words s (get_or hs i 0)) ↔ (status_at ss i ≡ s)
  unfolding ss
  line w i h s small = (
    λ q. words_inj (status_at ss i) s (get_or hs i 0) ((run_statuses k limit).1 i) small (append_cancel_left (decimal (suc i)) _ _ (sym is ∙ q)),
    λ q. is ∙
        ap (λ (t : ℕ). decimal (suc i) ++ status_words t (get_or hs i 0)) q,
  )
    where
      is : line_at table (suc i) ≡ decimal (suc i) ++ status_words (status_at ss i) (get_or hs i 0)
      is =
          ap (λ (t : List ℕ). line_at t (suc i)) (by_answer RunAnswer.Settled (says_settled.0 w)) ∙
          ap (λ (xss : List (List ℕ)). get_or xss (suc i) []) (first_line_lem k.vars (report_of_run (run k)) (status_lines 1 ss hs)) ∙
          status_line_lem hs 1 ss i (rw (run_statuses k limit).0 h) ∙ ap (λ (v : ℕ). decimal v ++ words hs v (status_at ss i)) (omega arith)

-- ---- what it says of models, for every text of the grammar

module _ {text : List ℕ} {vars n : ℕ} {es : List ℤ} (d : Dimacs text vars n es) {held : List ℤ} (h : Holdable vars held) where
  abbrev k : Task
  k = table_task vars es held

  some_limit : 1 ≤ 16
  some_limit = omega arith

  table_is : table_of text held ≡ table k some_limit
  unfolding table
  table_is = table_of_run_lem d h

  line_of : SaysAnswer 0 (table_of text held) → (i : ℕ) → i < vars → (s : ℕ) → s ≤ 3
      → (line_at (table_of text held) (suc i) ≡ decimal (suc i) ++ status_words s (get_or (hints_of k) i 0)) ↔ (status_at (run k).progress.statuses i ≡ s)
  unfolding ss
  line_of w i l s small = rw table_is (line k some_limit (rw table_is at w) i l s small)

  settled : SaysAnswer 0 (table_of text held) → (run k).answer ≡ RunAnswer.Settled
  settled w = (says_settled k some_limit).0 (rw table_is at w)

  -- the line of a variable says `forced on`, and which clause holds it, exactly if a model exists and all models make it true
  pub table_forced_on : SaysAnswer 0 (table_of text held) → (i : ℕ) → i < vars
      → (line_at (table_of text held) (suc i) ≡ decimal (suc i) ++ (forced_word ++ on_word ++ held_word ++ decimal (get_or (hints_of k) i 0)))
      ↔ Forced vars (with_held (clauses es) held) (pos (suc i))
  table_forced_on w i l =
      let says = line_of w i l 2 (omega arith) in
      let means = settled_forced k some_limit (settled w) (pos (suc i)) (record { some = omega arith; most = omega arith }) in
      (λ q. means.0 (says.0 q), λ f. says.1 (means.1 f))

  -- `forced off` exactly if a model exists and all models make it false
  pub table_forced_off : SaysAnswer 0 (table_of text held) → (i : ℕ) → i < vars
      → (line_at (table_of text held) (suc i) ≡ decimal (suc i) ++ (forced_word ++ off_word ++ held_word ++ decimal (get_or (hints_of k) i 0)))
      ↔ Forced vars (with_held (clauses es) held) (negsuc i)
  table_forced_off w i l =
      let says = line_of w i l 3 (omega arith) in
      let means = settled_forced k some_limit (settled w) (negsuc i) (record { some = omega arith; most = omega arith }) in
      (λ q. means.0 (says.0 q), λ f. says.1 (means.1 f))

  -- `free` exactly if two models differ on it
  pub table_free : SaysAnswer 0 (table_of text held) → (i : ℕ) → i < vars
      → (line_at (table_of text held) (suc i) ≡ decimal (suc i) ++ free_word) ↔ Free vars (with_held (clauses es) held) i
  table_free w i l =
      let says = line_of w i l 1 (omega arith) in
      let means = settled_free k some_limit (settled w) i l in
      (λ q. means.0 (says.0 q), λ f. says.1 (means.1 f))

  -- unless the first line says 21, it says 20 exactly if there is no model
  pub table_no_model : (SaysAnswer 21 (table_of text held) → ⊥) → SaysAnswer 20 (table_of text held) ↔ NoModel vars (with_held (clauses es) held)
  table_no_model ne =
      let (settles, says_none, stops) = says_settled k some_limit in
      let means = no_model_exactly k some_limit (λ q. ne (rw table_is (stops q))) in
      (λ w. means.0 (says_none.0 (rw table_is at w)), λ m. rw table_is (says_none.1 (means.1 m)))
