-- What a caller of `igb_shorter` has by its contract, in C's numbers.
--
--   shortens_in_unique        no second result and buffer meet the contract
--   shorter_answered shorter_refused_exactly     0, 20 or 21 exactly if no rule refuses; each refusal number and place exactly
--   shorter_nothing shorter_rest     refused, it returns zeros and writes nothing; what stands behind the text always stays
--   shorter_counts            otherwise its numbers are those of the run
--   shorter_read_back         the text that is written is DIMACS CNF of V variables
--   shorter_same_models       and its clauses have the models of the list
--   shorter_not_more          after 0 and 21 there are no more of them, nor of entries
--
-- Assumes nothing.
use mathlib.Core.Path.{◌≡◌, refl, sym, ◌∙◌, ap}
use mathlib.Core.Bool.{true}
use mathlib.Core.Logic.{◌≢◌, ◌⊎◌, inl, inr, ◌↔◌}
use mathlib.Core.List.{List}
use mathlib.Core.Option.{Option, none, some}
use Prim.Native.Nat.{ℕ, ◌≤◌}
use native.Mathlib.Omega.{arith}
use lib.IntN.{ℤ, pos}
use lib.ListN.{length, take, drop, replicate, length-replicate}
use Rattle.rules.specs.declared.Refusal.{Refusal}
use Rattle.rules.specs.declared.RunAnswer.{RunAnswer}
use Rattle.rules.specs.declared.ShorterReport.{ShorterReport}
use Rattle.rules.specs.Numbers.{max_entries, refusal_number, refusal_place, run_number}
use Rattle.rules.specs.Meaning.{Values, clauses, Model}
use Rattle.texts.specs.Grammar.{Dimacs}
use Rattle.texts.specs.Plain.{entries_of}
use Rattle.rules.specs.RunRefusals.{Accepted, RunRefuses}
use Rattle.rules.specs.Run.{run}
use Rattle.rules.specs.Answer.{report_of_run}
use Rattle.texts.specs.Shorter.{shorter_of, shorter_text, ShorterGiven, shorter_task, shorter_refusal, shorter_run}
use Rattle.rules.proofs.ListLaws.{never}
use Rattle.rules.proofs.RunTheorems as runs
use Rattle.texts.proofs.Theorems as text-theorems
use Rattle.backbone.proofs.Promises.{is_answered}
use Rattle.igbezolum.specs.declared.shorten.IgbShorter.{IgbShorter}
use Rattle.igbezolum.specs.ShorterLinked.{shorter_numbers, ShortensIn}
use Rattle.igbezolum.proofs.Promises.{run_answer, run_answer_numbers, answered_number}

pub shortens_in_unique : {g : ShorterGiven} {n m : IgbShorter} {b c : List ℕ} → ShortensIn g n b → ShortensIn g m c → (n ≡ m) × (b ≡ c)
shortens_in_unique d e = (d.result_is ∙ sym e.result_is, d.text_is ∙ sym e.text_is)

-- 0, 20 or 21
abbrev pub Ended : ℕ → Type 0
Ended k = (k ≡ 0) ⊎ ((k ≡ 20) ⊎ (k ≡ 21))

ended_answered : {k : ℕ} (place : ℕ) → Ended k → is_answered (run_answer k place) ≡ true
ended_answered place (inl e) = ap (λ (m : ℕ). is_answered (run_answer m place)) e
ended_answered place (inr (inl e)) = ap (λ (m : ℕ). is_answered (run_answer m place)) e
ended_answered place (inr (inr e)) = ap (λ (m : ℕ). is_answered (run_answer m place)) e

one_answered : {a : RunAnswer} → (a ≡ RunAnswer.Settled) ⊎ ((a ≡ RunAnswer.NoModel) ⊎ (a ≡ RunAnswer.Stopped)) → is_answered a ≡ true
one_answered (inl e) = ap is_answered e
one_answered (inr (inl e)) = ap is_answered e
one_answered (inr (inr e)) = ap is_answered e

-- what is returned of the run that is made, where no rule refuses it
abbrev run_report : ShorterGiven → ShorterReport
run_report g = record { run = report_of_run (run (shorter_task g)); length = length (shorter_text (shorter_task g)) }

module _ {g : ShorterGiven} {n : IgbShorter} {after : List ℕ} (w : ShortensIn g n after) where
  -- what is returned where a rule refuses
  refused_numbers : (a : Refusal) → RunRefuses (shorter_run g) a
      → n ≡ record { answer = refusal_number a; place = refusal_place a; calls = 0; tries = 0; forced = 0; free = 0; length = 0 }
  refused_numbers a h = w.result_is ∙ ap shorter_numbers (text-theorems.shorter_refused_nothing g a h).0

  -- and where none does
  run_numbers : Accepted (shorter_run g) → n ≡ shorter_numbers (run_report g)
  run_numbers h = w.result_is ∙ ap shorter_numbers (text-theorems.shorter_writes g h).0

  -- the answer that the numbers stand for
  refused_answer : (a : Refusal) → RunRefuses (shorter_run g) a → run_answer n.answer n.place ≡ RunAnswer.Refused a
  refused_answer a h = ap (λ (m : IgbShorter). run_answer m.answer m.place) (refused_numbers a h) ∙ run_answer_numbers (RunAnswer.Refused a)

  run_answer_lem : Accepted (shorter_run g) → run_answer n.answer n.place ≡ (run (shorter_task g)).answer
  run_answer_lem h = ap (λ (m : IgbShorter). run_answer m.answer m.place) (run_numbers h) ∙ run_answer_numbers (run (shorter_task g)).answer

  run_answered : Accepted (shorter_run g) → is_answered (run_answer n.answer n.place) ≡ true
  run_answered h = ap is_answered (run_answer_lem h) ∙ one_answered (runs.run_answer_lem (shorter_task g) h.listed.lent.in_limits.limit_some)

  -- each refusal number and place exactly when its rule says so of the run that is made
  pub shorter_refused_exactly : (a : Refusal) → ((n.answer ≡ refusal_number a) × (n.place ≡ refusal_place a)) ↔ RunRefuses (shorter_run g) a
  shorter_refused_exactly a = (λ e. go (shorter_refusal g) refl (cc (e.0, e.1) ∙ run_answer_numbers (RunAnswer.Refused a)), back)
    where
      back : RunRefuses (shorter_run g) a → (n.answer ≡ refusal_number a) × (n.place ≡ refusal_place a)
      back h = let e = refused_numbers a h in (ap (λ (m : IgbShorter). m.answer) e, ap (λ (m : IgbShorter). m.place) e)

      go : (o : Option Refusal) → shorter_refusal g ≡ o → run_answer n.answer n.place ≡ RunAnswer.Refused a → RunRefuses (shorter_run g) a
      go none q e = absurd (never (run_answered ((text-theorems.shorter_acceptance g).0 q)) (ap is_answered e))
      go (some b) q e =
          let h = (text-theorems.shorter_refusals g b).0 q in
          let same : RunAnswer.Refused b ≡ RunAnswer.Refused a = sym (refused_answer b h) ∙ e in
          let same_refusal : b ≡ a = cc in
          rw (← same_refusal) h

  -- 0, 20 or 21 is answered exactly if no rule refuses
  pub shorter_answered : Ended n.answer ↔ Accepted (shorter_run g)
  shorter_answered = (
    go (shorter_refusal g) refl,
    λ h. rw (number_is h) (answered_number (run (shorter_task g)).answer (rw (← run_answer_lem h) (run_answered h))),
  )
    where
      number_is : Accepted (shorter_run g) → n.answer ≡ run_number (run (shorter_task g)).answer
      number_is h = ap (λ (m : IgbShorter). m.answer) (run_numbers h)

      go : (o : Option Refusal) → shorter_refusal g ≡ o → Ended n.answer → Accepted (shorter_run g)
      go none q e = (text-theorems.shorter_acceptance g).0 q
      go (some b) q e =
          absurd (never (ended_answered n.place e) (ap is_answered (refused_answer b ((text-theorems.shorter_refusals g b).0 q))))

  -- refused, it returns zeros and writes nothing
  pub shorter_nothing : (a : Refusal) → RunRefuses (shorter_run g) a
      → (n ≡ record { answer = refusal_number a; place = refusal_place a; calls = 0; tries = 0; forced = 0; free = 0; length = 0 }) × (after ≡ g.text)
  shorter_nothing a h = (refused_numbers a h, w.text_is ∙ (text-theorems.shorter_refused_nothing g a h).1)

  -- what stands behind the text stays, whatever is answered
  pub shorter_rest : drop n.length after ≡ drop n.length g.text
  shorter_rest = go (shorter_refusal g) refl
    where
      go : (o : Option Refusal) → shorter_refusal g ≡ o → drop n.length after ≡ drop n.length g.text
      go none q =
          let h = (text-theorems.shorter_acceptance g).0 q in
          rw (ap (λ (m : IgbShorter). m.length) (run_numbers h), w.text_is) (text-theorems.shorter_writes g h).2
      go (some b) q = ap (drop n.length) (shorter_nothing b ((text-theorems.shorter_refusals g b).0 q)).1

  module _ (e : Ended n.answer) where
    taken : Accepted (shorter_run g)
    taken = shorter_answered.0 e

    limit : 1 ≤ g.limit
    limit = taken.listed.lent.in_limits.limit_some

    -- otherwise the numbers are those of the run
    pub shorter_counts : n ≡ shorter_numbers (run_report g)
    shorter_counts = run_numbers taken

    -- what is written is the text of so many bytes
    text_is : take n.length after ≡ shorter_text (shorter_task g)
    text_is =
        let (result, front, rest, len) = text-theorems.shorter_writes g taken in
        ap (λ (m : IgbShorter). take m.length after) shorter_counts ∙ ap (take (length (shorter_text (shorter_task g)))) w.text_is ∙ front

    -- it is DIMACS CNF, of V variables, and its clauses have the models of the list
    pub shorter_read_back : Dimacs (take n.length after) g.vars (length (shorter_of (shorter_task g))) (entries_of (shorter_of (shorter_task g)))
    shorter_read_back = rw text_is (text-theorems.shorter_dimacs (shorter_task g) limit (text-theorems.shorter_formula g taken))

    pub shorter_same_models : (m : Values)
        → Model g.vars (clauses g.entries) m ↔ Model g.vars (clauses (entries_of (shorter_of (shorter_task g)))) m
    shorter_same_models m =
        rw again (text-theorems.shorter_models (shorter_task g) limit (text-theorems.shorter_formula g taken) m)
      where
        again : clauses (entries_of (shorter_of (shorter_task g))) ≡ shorter_of (shorter_task g)
        again =
            (text-theorems.shorter_read (shorter_task g) limit (text-theorems.shorter_formula g taken) (replicate max_entries (pos 0))
            (omega (arith, length-replicate {A = ℤ} max_entries (pos 0)))).2

    -- of which there are no more, nor of entries, unless there is no model
    pub shorter_not_more : n.answer ≢ 20
        → (length (shorter_of (shorter_task g)) ≤ length (clauses g.entries))
        × (length (entries_of (shorter_of (shorter_task g))) ≤ length (entries_of (clauses g.entries)))
    shorter_not_more ne =
        text-theorems.shorter_less (shorter_task g) limit (text-theorems.shorter_formula g taken)
        (λ z. ne (ap (λ (m : IgbShorter). m.answer) shorter_counts ∙ ap run_number z))
