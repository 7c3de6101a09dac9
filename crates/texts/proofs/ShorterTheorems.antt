-- What the shorter file says: the laws of specs/Shorter.
--
--   shorter_models    its models are those of the formula
--   shorter_forced, shorter_free, shorter_none     so are its forced literals and free variables, and whether there is a model
--   shorter_settled   a settled run on it gives the statuses of a settled run on the formula
--   shorter_less      it has no more clauses and no more entries, unless there is no model
--   shorter_within    it is within the sizes
--   shorter_dimacs, shorter_read     its text is DIMACS CNF, and is read back as itself
--   shorter_fits      its text fits the buffer
--   refusal_same, shorter_refused, shorter_accepted     refused, by number and place, exactly as the run is that is made
--   report_same       the run's numbers are those of that run
--   accepted_within   a list that is not refused is within the sizes
--   shorter_nothing, shorter_written, shorter_room     what is returned and written, refused and not
--   shortens_exists, shortens_unique     one result and one buffer satisfy the contract
--
-- Assumes nothing.
use mathlib.Core.Path.{◌≡◌, refl, sym, ◌∙◌, ap}
use mathlib.Core.Logic.{◌≢◌, ◌⊎◌, inl, inr, ◌↔◌}
use mathlib.Core.Bool.{Bool, true, false}
use mathlib.Core.List.Memᴰ
use mathlib.Core.List.{List, [], ◌∷◌}
use mathlib.Core.Option.{none, some}
use Prim.Native.Nat.{ℕ, zero, suc, pred, ◌≤◌, ◌<◌}
use native.Mathlib.Omega.{arith}
use lib.Dec.{ltb}
use lib.IntN.{ℤ, pos, negsuc}
use lib.ListN.{length, get_or, take, drop, length-append, length-drop, length-replicate}
use lib.Seq.{take_at, drop_at}
use borrow.Author.Tests.{eqb-true, eq-eqb, ltb-false, lt-ltb, le-ltb}
use Rattle.rules.specs.declared.ReadAnswer.{ReadAnswer}
use Rattle.rules.specs.declared.Refusal.{Refusal}
use Rattle.rules.specs.declared.RunAnswer.{RunAnswer}
use Rattle.rules.specs.declared.ShorterReport.{ShorterReport}
use Rattle.rules.specs.Lists.{In, count, first_of}
use Rattle.rules.specs.Numbers.{max_text, max_vars, max_entries}
use Rattle.rules.specs.Meaning.{Clause, Values, var_of, index_of, true_byte, is_true, clauses, LitUpTo, Model}
use Rattle.texts.specs.Reading.{reading_of, filled, entries_after}
use Rattle.texts.specs.Grammar.{Dimacs}
use Rattle.texts.specs.Plain.{entries_of, Within}
use Rattle.rules.specs.Models.{NoModel, Forced, Free}
use Rattle.rules.specs.Search.{model}
use Rattle.rules.specs.Units.{forced_clauses}
use Rattle.rules.specs.Run.{Task, status_at, is_forced_to, forced_by, first_call, run}
use Rattle.rules.specs.Trace.{with_limits}
use Rattle.rules.specs.Hints.{hints_of, clause_no, OnlyTrue}
use Rattle.rules.specs.Answer.{log_length, taking_rules, out_of_limits, is_short, refusal_of, task_of, report_of_run, report_if, report_of}
use Rattle.rules.specs.RunRefusals.{Accepted, RunRefuses}
use Rattle.texts.specs.Shorter.{says_forced, holds_forced, folded, shorter_by, shorter_of, shorter_text, ShorterGiven, shorter_task}
use Rattle.texts.specs.Shorter.{shorter_refusal, log_room, shorter_run, shorter_bytes, shorter_report_of, shorter_text_after, Shortens}
use Rattle.rules.proofs.ListLaws.{apart, never, any_complete, in_get_d, or_left}
use Rattle.rules.proofs.ClauseLaws.{length-clauses, clauses_entries}
use Rattle.texts.proofs.PlainLaws.{clauses-entries_of, no_zero_of_within, length_plain, plain_dimacs}
use Rattle.rules.proofs.RunTheorems.{run_answer_lem, run_statuses, run_forced, no_model_exactly, forced_by_le, free_alike, forced_alike, settled_alike}
use Rattle.rules.proofs.HintTheorems.{forced_held}
use Rattle.rules.proofs.HeldRuns.{none_held}
use Rattle.rules.proofs.RefusedRuns.{run_refused, run_accepted}
use Rattle.texts.proofs.TextTheorems.{round_trip}
use Rattle.texts.proofs.ShorterLaws.{forced_sound, distinct_forced, matched_le, status_within, folded_sound, folded_complete}
use Rattle.texts.proofs.ShorterLaws.{folded_clauses, folded_entries, folded_literals, entries_of-clauses_le}

-- ---- a forced literal and its clause

-- the clause of one forced literal, and a clause in which it alone is true in the first model
record OnlyIn (k : Task) (unit cl : Clause) : Type 0 where
  lit : ℤ
  alone : unit ≡ lit ∷ []
  first : Values
  tries : ℕ
  called : first_call k ≡ model first tries
  forced : says_forced (run k).progress.statuses lit ≡ true
  only : OnlyTrue first cl lit

-- in one clause two literals are not each the only true one
one_only : (k : Task) (x z y : Clause) → OnlyIn k x y → OnlyIn k z y → x ≡ z
one_only k x z y p q =
    let called : model p.first p.tries ≡ model q.first q.tries = sym p.called ∙ q.called in
    let first : p.first ≡ q.first = cc in
    let same : p.lit ≡ q.lit =
    q.only.no_other p.lit p.only.in_clause (ap (λ (m : Values). is_true m p.lit) (sym first) ∙ p.only.true_here) in
    p.alone ∙ ap (λ (l : ℤ). l ∷ []) same ∙ sym q.alone

literal_below : {n : ℕ} (l : ℤ) → 1 ≤ var_of l → index_of l < n → LitUpTo n l
literal_below (pos zero) s h = absurd (omega arith)
literal_below (pos (suc n)) s h = record { some = s; most = omega arith }
literal_below (negsuc n) s h = record { some = s; most = omega arith }

-- ---- the formula of a task within the sizes

module _ (k : Task) (limit : 1 ≤ k.limit) (w : Within k.vars k.formula) where
  abbrev statuses : List ℕ
  statuses = (run k).progress.statuses

  -- a literal that the statuses say is forced
  forced_to : (l : ℤ) → 1 ≤ var_of l → says_forced statuses l ≡ true → LitUpTo k.vars l × is_forced_to statuses l
  forced_to l s f =
      let e : status_at statuses (index_of l) ≡ forced_by (true_byte l) = eqb-true _ _ f in
      let h : index_of l < length statuses = status_within statuses (index_of l) (omega (arith, e, forced_by_le l)) in
      (literal_below l s (omega (arith, h, (run_statuses k limit).0)), e)

  in_all_models : (m : Values) → Model k.vars k.formula m → (l : ℤ) → 1 ≤ var_of l → says_forced statuses l ≡ true → is_true m l ≡ true
  in_all_models m x l s f = let (h, e) = forced_to l s f in (run_forced k limit l h e).in_all m x

  partner : (x : Clause) → In x (forced_clauses 0 statuses) → (y : Clause) × In y k.formula × OnlyIn k x y
  partner x i =
      let u = forced_sound 0 statuses (run_statuses k limit).1 i in
      let f : says_forced statuses u.lit ≡ true =
      eq-eqb _ _ (ap (status_at statuses) (omega (arith, u.index)) ∙ u.status) in
      let (h, e) = forced_to u.lit (omega (arith, u.var)) f in
      let (m, t, called, held) =
      forced_held k limit (entries_of k.formula) (sym (clauses-entries_of k.formula (no_zero_of_within w))) u.lit h e in
      let n = get_or (hints_of k) (index_of u.lit) 0 in (
        clause_no k.formula n,
        in_get_d k.formula (pred n) [] (omega (arith, held.some, held.most)),
        record { lit = u.lit; alone = u.alone; first = m; tries = t; called = called; forced = f; only = held.only },
      )

  -- each forced literal has a clause of its own that holds it
  forced_few : length (forced_clauses 0 statuses) ≤ count (holds_forced statuses) k.formula
  forced_few =
      matched_le (OnlyIn k) (holds_forced statuses) (one_only k) (λ x y p. any_complete (says_forced statuses) p.only.in_clause p.forced)
      (distinct_forced 0 statuses (run_statuses k limit).1) k.formula partner

  -- ---- which formula it is

  shorter_folded : (run k).answer ≢ RunAnswer.NoModel → shorter_of k ≡ folded statuses k.formula
  unfolding shorter_of
  shorter_folded n = go (run_answer_lem k limit)
    where
      go : ((run k).answer ≡ RunAnswer.Settled) ⊎ (((run k).answer ≡ RunAnswer.NoModel) ⊎ ((run k).answer ≡ RunAnswer.Stopped))
          → shorter_by (run k).answer statuses k.formula ≡ folded statuses k.formula
      go (inl e) = ap (λ (a : RunAnswer). shorter_by a statuses k.formula) e
      go (inr (inl e)) = absurd (n e)
      go (inr (inr e)) = ap (λ (a : RunAnswer). shorter_by a statuses k.formula) e

  shorter_empty : (run k).answer ≡ RunAnswer.NoModel → shorter_of k ≡ [] ∷ []
  unfolding shorter_of
  shorter_empty e = ap (λ (a : RunAnswer). shorter_by a statuses k.formula) e

  -- what holds of a run that answers 20, and of any other, holds
  by_answer : (A : Type 0) → ((run k).answer ≡ RunAnswer.NoModel → A) → ((run k).answer ≢ RunAnswer.NoModel → A) → A
  by_answer A f g = go (run_answer_lem k limit)
    where
      go : ((run k).answer ≡ RunAnswer.Settled) ⊎ (((run k).answer ≡ RunAnswer.NoModel) ⊎ ((run k).answer ≡ RunAnswer.Stopped)) → A
      go (inl e) = g (λ n. apart cc)
      go (inr (inl e)) = f e
      go (inr (inr e)) = g (λ n. apart cc)

  -- ---- models

  pub shorter_models : (m : Values) → Model k.vars k.formula m ↔ Model k.vars (shorter_of k) m
  shorter_models m = by_answer (Model k.vars k.formula m ↔ Model k.vars (shorter_of k) m) nothing some_model
    where
      nothing : (run k).answer ≡ RunAnswer.NoModel → Model k.vars k.formula m ↔ Model k.vars (shorter_of k) m
      nothing e =
          rw (shorter_empty e) (
            λ x. absurd (((no_model_exactly k limit (λ s. apart cc)).0 e).none m x),
            λ x. absurd (never x.all_true refl),
          )

      some_model : (run k).answer ≢ RunAnswer.NoModel → Model k.vars k.formula m ↔ Model k.vars (shorter_of k) m
      some_model n =
          rw (shorter_folded n) (
            λ x.
                record {
                  len = x.len;
                  total = x.total;
                  all_true =
                      folded_complete statuses k.formula m (run_statuses k limit).1 (λ cl i l j. (w.literals cl i l j).some) (in_all_models m x)
                      x.all_true;
                },
            λ x. record { len = x.len; total = x.total; all_true = folded_sound statuses k.formula m x.all_true },
          )

  pub shorter_forced : (l : ℤ) → Forced k.vars k.formula l ↔ Forced k.vars (shorter_of k) l
  shorter_forced l = (forced_alike shorter_models, forced_alike (λ m. ((shorter_models m).1, (shorter_models m).0)))

  pub shorter_free : (i : ℕ) → Free k.vars k.formula i ↔ Free k.vars (shorter_of k) i
  shorter_free i = (free_alike (λ m. (shorter_models m).0), free_alike (λ m. (shorter_models m).1))

  pub shorter_none : NoModel k.vars k.formula ↔ NoModel k.vars (shorter_of k)
  shorter_none = (λ z. record { none = λ m x. z.none m ((shorter_models m).1 x) }, λ z. record { none = λ m x. z.none m ((shorter_models m).0 x) })

  -- whatever the budgets and chunk limits of the two runs, and of the one that it was written after
  pub shorter_settled : (b c budget chunk : ℕ) → 1 ≤ c → 1 ≤ chunk → (run (with_limits k b c)).answer ≡ RunAnswer.Settled
      → (run (record { vars = k.vars; budget = budget; limit = chunk; formula = shorter_of k })).answer ≡ RunAnswer.Settled
      → (run (with_limits k b c)).progress.statuses
      ≡ (run (record { vars = k.vars; budget = budget; limit = chunk; formula = shorter_of k })).progress.statuses
  shorter_settled b c budget chunk = settled_alike (with_limits k b c) budget chunk (shorter_of k) shorter_models

  -- ---- sizes

  pub shorter_less : (run k).answer ≢ RunAnswer.NoModel
      → (length (shorter_of k) ≤ length k.formula) × (length (entries_of (shorter_of k)) ≤ length (entries_of k.formula))
  shorter_less n =
      rw (shorter_folded n) (folded_clauses statuses k.formula forced_few, folded_entries statuses k.formula forced_few)

  pub shorter_within : Within k.vars (shorter_of k)
  shorter_within = by_answer (Within k.vars (shorter_of k)) nothing some_model
    where
      nothing : (run k).answer ≡ RunAnswer.NoModel → Within k.vars (shorter_of k)
      nothing e =
          rw (shorter_empty e)
          (record { vars_fit = w.vars_fit; clauses_fit = omega arith; entries_fit = omega arith; literals = λ cl i l j. none_in cl i l j })
        where
          none_in : (cl : Clause) → In cl ([] ∷ []) → (l : ℤ) → In l cl → LitUpTo k.vars l
          none_in cl (Memᴰ.head q) l j = absurd (Memᴰ.not-nil (rw q at j))
          none_in cl (Memᴰ.tail i) l j = absurd (Memᴰ.not-nil i)

      some_model : (run k).answer ≢ RunAnswer.NoModel → Within k.vars (shorter_of k)
      some_model n =
          let (clauses_le, entries-le) = shorter_less n in
          record {
            vars_fit = w.vars_fit;
            clauses_fit = omega (arith, clauses_le, w.clauses_fit);
            entries_fit = omega (arith, entries-le, w.entries_fit);
            literals =
                rw (shorter_folded n)
                (folded_literals k.vars statuses k.formula (run_statuses k limit).0 (run_statuses k limit).1 w.literals);
          }

  -- ---- text

  pub shorter_fits : length (shorter_text k) ≤ max_text
  unfolding shorter_text
  shorter_fits = omega (arith, length_plain shorter_within, shorter_within.entries_fit)

  pub shorter_dimacs : Dimacs (shorter_text k) k.vars (length (shorter_of k)) (entries_of (shorter_of k))
  unfolding shorter_text
  shorter_dimacs = plain_dimacs k.vars (shorter_of k) shorter_within

  pub shorter_read : (before : List ℤ) → max_entries ≤ length before
      → (reading_of (shorter_text k) before
      ≡ record { answer = ReadAnswer.Accepted; vars = k.vars; clauses = length (shorter_of k); entries = length (entries_of (shorter_of k)) })
      × (entries_after (shorter_text k) before ≡ filled (entries_of (shorter_of k)) before) × (clauses (entries_of (shorter_of k)) ≡ shorter_of k)
  unfolding shorter_text
  shorter_read before h = round_trip k.vars (shorter_of k) before shorter_within h

-- ---- refusals

module _ (g : ShorterGiven) where
  abbrev short : Bool
  short = ltb (length g.text) max_text

  log_short : (b : Bool) → g.vars ≤ max_vars → ltb (log_room b) (log_length g.vars) ≡ b
  log_short true h = lt-ltb 0 (log_length g.vars) (omega arith)
  log_short false h = le-ltb (log_length max_vars) (log_length g.vars) (omega arith)

  short_same : g.vars ≤ max_vars → is_short (shorter_run g) ≡ short
  short_same h =
      rw (length-replicate {A = ℕ} (log_room short) 0, le-ltb max_vars g.vars h) (log_short short h)

  pub refusal_same : shorter_refusal g ≡ refusal_of (shorter_run g)
  unfolding shorter_refusal refusal_of
  refusal_same = go (out_of_limits g.vars g.limit) refl
    where
      go : (b : Bool) → out_of_limits g.vars g.limit ≡ b
          → first_of (taking_rules b short g.entries g.vars []) ≡ first_of (taking_rules b (is_short (shorter_run g)) g.entries g.vars [])
      go true e = refl
      go false e =
          let fit : g.vars ≤ max_vars = ltb-false max_vars g.vars (or_left (ltb max_vars g.vars) _ e) in
          ap (λ (b : Bool). first_of (taking_rules false b g.entries g.vars [])) (sym (short_same fit))

  pub shorter_refused : (a : Refusal) → (shorter_refusal g ≡ some a) ↔ RunRefuses (shorter_run g) a
  shorter_refused a = rw refusal_same (run_refused (shorter_run g) a)

  pub shorter_accepted : (shorter_refusal g ≡ none) ↔ Accepted (shorter_run g)
  shorter_accepted = rw refusal_same (run_accepted (shorter_run g))

  pub task_same : shorter_task g ≡ task_of (shorter_run g)
  task_same = sym (none_held (shorter_run g) refl).1

  pub report_same : report_if (shorter_refusal g) (shorter_task g) ≡ report_of (shorter_run g)
  unfolding report_of
  report_same = rw (refusal_same, task_same)

  -- ---- what is returned and written

  pub accepted_within : Accepted (shorter_run g) → Within g.vars (clauses g.entries)
  accepted_within h =
      record {
        vars_fit = h.listed.lent.in_limits.vars_fit;
        clauses_fit = omega (arith, length-clauses g.entries, h.listed.clauses_fit);
        entries_fit = omega (arith, entries_of-clauses_le g.entries, h.listed.entries_fit);
        literals =
            λ cl i l j.
            let (e, s) = (clauses_entries g.entries cl i).each l j in
            record { some = s; most = h.up_to l e };
      }

  pub shorter_nothing : (a : Refusal) → RunRefuses (shorter_run g) a
      → (shorter_report_of g ≡ record { run = record { answer = RunAnswer.Refused a; calls = 0; tries = 0; forced = 0; free = 0 }; length = 0 })
      × (shorter_text_after g ≡ g.text)
  unfolding shorter_report_of shorter_text_after shorter_bytes
  shorter_nothing a r = let e = (shorter_refused a).1 r in (rw e, rw e)

  bytes_are : Accepted (shorter_run g) → shorter_bytes g ≡ shorter_text (shorter_task g)
  unfolding shorter_bytes
  bytes_are h = rw (shorter_accepted.1 h)

  pub shorter_room : Accepted (shorter_run g) → length (shorter_text (shorter_task g)) ≤ length g.text
  shorter_room h =
      let fits = shorter_fits (shorter_task g) h.listed.lent.in_limits.limit_some (accepted_within h) in
      let room : max_text ≤ length g.text = ltb-false (length g.text) max_text (long short refl) in
      omega arith
    where
      long : (b : Bool) → short ≡ b → short ≡ false
      long false e = e
      long true e =
          absurd (omega (arith, ap log_room e, length-replicate {A = ℕ} (log_room short) 0, h.listed.lent.log_fits))

  pub shorter_written : Accepted (shorter_run g)
      → (shorter_report_of g ≡ record { run = report_of_run (run (shorter_task g)); length = length (shorter_text (shorter_task g)) })
      × (take (length (shorter_text (shorter_task g))) (shorter_text_after g) ≡ shorter_text (shorter_task g))
      × (drop (length (shorter_text (shorter_task g))) (shorter_text_after g) ≡ drop (length (shorter_text (shorter_task g))) g.text)
      × (length (shorter_text_after g) ≡ length g.text)
  unfolding shorter_report_of shorter_text_after
  shorter_written h =
      let text = shorter_text (shorter_task g) in
      rw (bytes_are h, shorter_accepted.1 h) (
        refl,
        take_at text (drop (length text) g.text) (length text) refl,
        drop_at text (drop (length text) g.text) (length text) refl,
        length-append text (drop (length text) g.text) ∙ omega (arith, length-drop (length text) g.text, shorter_room h),
      )

-- ---- the contract

pub shortens_exists : (g : ShorterGiven) → Shortens g (shorter_report_of g) (shorter_text_after g)
shortens_exists g = record { result_is = refl; text_is = refl }

pub shortens_unique : {g : ShorterGiven} {r r' : ShorterReport} {b b' : List ℕ} → Shortens g r b → Shortens g r' b' → (r ≡ r') × (b ≡ b')
shortens_unique p q = (p.result_is ∙ sym q.result_is, p.text_is ∙ sym q.text_is)
