-- The laws of specs/Made: what the run leaves is what its text is put from, and the text that is put is the one promised.
--
--   settled_text, settled_ready   the text after 0 and 21, from the forced literals as values
--   empty_text, folded_text_lem, settled_over     the text by the answer
--   lent_runs         the run that is made, by the buffers that are lent
--   status_room, over, done   what the run leaves, and what is returned and written then
--   lent              the buffers of the run that is made
--   shortens_refused, open_run    refused, and not
--
-- Assumes nothing.
use mathlib.Core.Path.{◌≡◌, refl, sym, ◌∙◌, ap, ap₂, subst}
use mathlib.Core.Logic.{◌≢◌, ◌⊎◌, inl, inr}
use mathlib.Core.Bool.{Bool, true, false}
use mathlib.Core.List.{List, [], ◌∷◌, ◌++◌}
use mathlib.Core.Option.{Option}
use Prim.Native.Nat.{ℕ, ◌≤◌}
use native.Mathlib.Omega.{arith}
use lib.IntN.{ℤ}
use lib.Dec.{ltb}
use lib.ListN.{length, take, replicate, length-replicate, take-append-drop}
use Rattle.rules.specs.declared.Refusal.{Refusal}
use Rattle.rules.specs.declared.RunAnswer.{RunAnswer}
use Rattle.rules.specs.declared.Report.{Report}
use Rattle.rules.specs.Numbers.{max_text, max_vars}
use Rattle.rules.specs.Meaning.{clauses}
use Rattle.texts.specs.Plain.{plain}
use Rattle.rules.specs.Run.{Task, forced_values, run}
use Rattle.rules.specs.Answer.{Buffers, buffers, given, log_length, is_forced, report_of_run, report_if, Runs}
use Rattle.rules.specs.RunRefusals.{Accepted}
use Rattle.texts.specs.Shorter.{folded, shorter_by, shorter_of, shorter_text, ShorterGiven, shorter_task, shorter_refusal, shorter_run}
use Rattle.texts.specs.Shorter.{log_room, shorter_text_after, Shortens}
use Rattle.rules.proofs.ListLaws.{count_le}
use Rattle.rules.proofs.ClauseLaws.{length-clauses}
use Rattle.rules.proofs.StatusLaws.{length-forced_values}
use Rattle.rules.proofs.RunTheorems.{run_answer_lem, run_statuses}
use Rattle.rules.proofs.BufferTheorems.{status_written, length_status_after}
use Rattle.texts.proofs.ShorterTheorems.{shorter_refused, shorter_accepted, task_same, report_same, shorter_nothing, shorter_room, shorter_written}
use Rattle.std.specs.Prelude.{Ok, Err}
use Rattle.refusals.specs.Refuse.{found}
use Rattle.backbone.proofs.RunLaws as run-laws
use Rattle.formula.specs.Starts.{starts_of}
use Rattle.formula.proofs.ClauseLaws.{clauses_up_to}
use Rattle.buffers.specs.Put.{Put}
use Rattle.buffers.proofs.PutLaws.{put_at_front, room_same, put_same}
use Rattle.folded.specs.Folded.{folded_text, FoldedReady}
use Rattle.folded.proofs.FoldedLaws.{folded_says}
use Rattle.shorter.specs.Made.{SettledOver, AnswerOver, Lent}

-- ---- after 0 and 21

module _ {es : List ℤ} {forced : ℕ} {ss text : List ℕ} (w : SettledOver es forced ss text) where
  pub settled_text : folded_text (forced_values ss) (clauses es) forced ≡ plain (length ss) (folded ss (clauses es))
  settled_text =
      ap (folded_text (forced_values ss) (clauses es)) w.forced_is ∙
      folded_says ss w.small (clauses es) (clauses_up_to (length ss) es w.formula.up_to)

  pub settled_ready : (starts : List ℕ) → starts ≡ starts_of es → FoldedReady (forced_values ss) es starts forced text
  settled_ready starts e =
      record {
        formula =
            record {
              vars_fit = omega (arith, length-forced_values ss, w.formula.vars_fit);
              entries_most = w.formula.entries_most;
              clauses_most = w.formula.clauses_most;
              starts_are = e;
              up_to = λ l i. omega (arith, length-forced_values ss, w.formula.up_to l i);
            };
        forced_fit = omega (arith, w.forced_is, count_le is_forced ss, w.formula.vars_fit);
        room = room_same (sym settled_text) w.room;
      }

-- ---- by the answer

module _ {es : List ℤ} {r : Report} {ss text : List ℕ} (w : AnswerOver es r ss text) where
  pub empty_text : r.answer ≡ RunAnswer.NoModel → plain (length ss) (shorter_by r.answer ss (clauses es)) ≡ plain (length ss) ([] ∷ [])
  empty_text h = ap (λ (a : RunAnswer). plain (length ss) (shorter_by a ss (clauses es))) h

  pub folded_text_lem : r.answer ≢ RunAnswer.NoModel
      → plain (length ss) (shorter_by r.answer ss (clauses es)) ≡ plain (length ss) (folded ss (clauses es))
  folded_text_lem h = ap (plain (length ss)) (w.ran h)

  pub settled_over : r.answer ≢ RunAnswer.NoModel → SettledOver es r.forced ss text
  settled_over h =
      record {
        formula = w.formula;
        clauses_fit = w.clauses_fit;
        small = w.small;
        forced_is = w.forced_is;
        room = room_same (folded_text_lem h) w.room;
      }

-- ---- what the run leaves

-- the run that is made has the buffers that are lent
pub lent_runs : (g : ShorterGiven) {s c w h l : List ℕ} {r : Report} {left : Buffers} → Lent g (buffers s c w h l)
    → Runs (given g.entries g.vars [] g.budget g.limit (buffers s c w h l)) r left → Runs (shorter_run g) r left
lent_runs g {r = r} {left = left} w runs =
    subst (λ (b : Buffers). Runs (given g.entries g.vars [] g.budget g.limit b) r left)
    (same w.status_is w.calls_are w.ways_are w.hints_are w.log_is) runs
  where
    same : {s s' c c' w w' h h' l l' : List ℕ} → s ≡ s' → c ≡ c' → w ≡ w' → h ≡ h' → l ≡ l' → buffers s c w h l ≡ buffers s' c' w' h' l'
    same a b d e f = cc

module _ (g : ShorterGiven) (acc : Accepted (shorter_run g)) {report : Report} {left : Buffers} (runs : Runs (shorter_run g) report left) where
  abbrev k : Task
  k = shorter_task g

  abbrev ss : List ℕ
  ss = (run k).progress.statuses

  limit : 1 ≤ g.limit
  limit = acc.listed.lent.in_limits.limit_some

  report_is : report ≡ report_of_run (run k)
  report_is = runs.result_is ∙ sym (report_same g) ∙ ap (λ (o : Option Refusal). report_if o k) ((shorter_accepted g).1 acc)

  front_is : take g.vars left.status ≡ ss
  front_is =
      ap (take g.vars) runs.status_is ∙ (status_written (shorter_run g) acc).0 ∙
      ap (λ (t : Task). (run t).progress.statuses) (sym (task_same g))

  pub status_room : g.vars ≤ length left.status
  status_room = rw runs.status_is (omega (arith, length_status_after (shorter_run g) acc, acc.listed.lent.status_fits))

  ran_folded : (run k).answer ≢ RunAnswer.NoModel → shorter_by (run k).answer ss (clauses g.entries) ≡ folded ss (clauses g.entries)
  ran_folded n = go (run_answer_lem k limit)
    where
      go : ((run k).answer ≡ RunAnswer.Settled) ⊎ (((run k).answer ≡ RunAnswer.NoModel) ⊎ ((run k).answer ≡ RunAnswer.Stopped))
          → shorter_by (run k).answer ss (clauses g.entries) ≡ folded ss (clauses g.entries)
      go (inl e) = ap (λ (a : RunAnswer). shorter_by a ss (clauses g.entries)) e
      go (inr (inl e)) = absurd (n e)
      go (inr (inr e)) = ap (λ (a : RunAnswer). shorter_by a ss (clauses g.entries)) e

  text_is : plain (length ss) (shorter_by (run k).answer ss (clauses g.entries)) ≡ shorter_text k
  unfolding shorter_text shorter_of
  text_is = ap (λ (v : ℕ). plain v (shorter_by (run k).answer ss (clauses g.entries))) (run_statuses k limit).0

  pub over : AnswerOver g.entries report (take g.vars left.status) g.text
  over =
      rw (front_is, report_is)
      (record {
        formula =
            record {
              vars_fit = omega (arith, (run_statuses k limit).0, acc.listed.lent.in_limits.vars_fit);
              entries_most = omega (arith, acc.listed.entries_fit);
              clauses_most = omega (arith, length-clauses g.entries, acc.listed.clauses_fit);
              starts_are = refl;
              up_to = λ l i. omega (arith, (run_statuses k limit).0, acc.up_to l i);
            };
        clauses_fit = omega (arith, length-clauses g.entries, acc.listed.clauses_fit);
        small = (run_statuses k limit).1;
        forced_is = refl;
        ran = ran_folded;
        room = room_same (sym text_is) (record { fits = omega (arith, shorter_room g acc) });
      })

  pub done : {n : ℕ} {after : List ℕ}
      → Put 0 (plain (length (take g.vars left.status)) (shorter_by report.answer (take g.vars left.status) (clauses g.entries)))
      g.text n after
      → Shortens g (record { run = report; length = n }) after
  done {n} {after} p = go (put_same text_is (rw (front_is, report_is) at p))
    where
      go : Put 0 (shorter_text k) g.text n after → Shortens g (record { run = report; length = n }) after
      go q =
          let (result, front, rest, len) = shorter_written g acc in
          let size = length (shorter_text k) in
          record {
            result_is =
                ap₂ (λ (r : Report) (m : ℕ). record { run = r; length = m }) report_is (omega (arith, q.next_is)) ∙ sym result;
            text_is =
                q.after_is ∙ put_at_front g.text (shorter_text k) (shorter_room g acc) ∙
                ap₂ (λ (xs ys : List ℕ). xs ++ ys) (sym front) (sym rest) ∙ take-append-drop size (shorter_text_after g);
          }

-- ---- refused, and not

-- where the text has its room, the log has
long : (g : ShorterGiven) → Accepted (shorter_run g) → ltb (length g.text) max_text ≡ false
long g acc = go (ltb (length g.text) max_text) refl
  where
    go : (b : Bool) → ltb (length g.text) max_text ≡ b → b ≡ false
    go false e = refl
    go true e =
        absurd (omega (arith, ap log_room e, length-replicate {A = ℕ} (log_room (ltb (length g.text) max_text)) 0, acc.listed.lent.log_fits))

-- buffers that are as long as they may have to be
pub lent : (g : ShorterGiven) → Accepted (shorter_run g)
    → Lent g (buffers (replicate max_vars 0) (replicate max_vars 0) (replicate max_vars 0) (replicate max_vars 0) (replicate (log_length max_vars) 0))
lent g acc =
    record {
      accepted = acc;
      status_is = refl;
      calls_are = refl;
      ways_are = refl;
      hints_are = refl;
      log_is = ap (λ (b : Bool). replicate (log_room b) 0) (sym (long g acc));
    }

module _ (g : ShorterGiven) where
  pub shortens_refused : {a : Refusal} → Err a ≡ found (shorter_refusal g)
      → Shortens g (record { run = record { answer = RunAnswer.Refused a; calls = 0; tries = 0; forced = 0; free = 0 }; length = 0 }) g.text
  shortens_refused {a} e =
      let (result, text) = shorter_nothing g a ((shorter_refused g a).0 (run-laws.found_some (shorter_refusal g) e)) in
      record { result_is = sym result; text_is = sym text }

  pub open_run : Ok tt ≡ found (shorter_refusal g) → Accepted (shorter_run g)
  open_run e = (shorter_accepted g).0 (run-laws.found_none (shorter_refusal g) e)
