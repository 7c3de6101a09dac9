-- The laws of the two lines: what is asked with buffers of just the size, what a reading leaves, and the contract.
--
--   length_bits, bit_at     the bits of a list of literals
--   asked_text        what is printed does not depend on what the buffers held
--   bits_same         the bits behind the same answer
--   read_list, list_text, list_ready, read_line     what a reading leaves: an entry list, or a refusal
--   prints_short, whole_room, prints_answer     the contract, in a short buffer and in others
--   prints_le         how many bytes are put at most
--
-- Assumes nothing.
use mathlib.Core.Path.{◌≡◌, refl, sym, ◌∙◌, ap}
use mathlib.Core.Bool.{Bool, true, false}
use mathlib.Core.Logic.{◌≢◌, ◌⊎◌, inl, inr}
use mathlib.Core.List.{List, [], ◌∷◌, ◌++◌, map, append-nil}
use mathlib.Core.Option.{Option, none, some}
use Prim.Native.Nat.{ℕ, zero, suc, pred, ◌≤◌, ◌<◌}
use native.Mathlib.Omega.{arith}
use lib.Dec.{leb}
use lib.IntN.{ℤ, pos}
use lib.ListN.{length, get_or, take, drop, replicate, length-map, length-replicate, drop_of_length-le}
use Rattle.rules.specs.declared.ReadAnswer.{ReadAnswer}
use Rattle.rules.specs.declared.Reading.{Reading}
use Rattle.rules.specs.declared.Refusal.{Refusal}
use Rattle.rules.specs.declared.RunAnswer.{RunAnswer}
use Rattle.rules.specs.declared.Report.{Report}
use Rattle.rules.specs.Lists.{first_of}
use Rattle.rules.specs.Numbers.{max_entries, read_number, read_place}
use Rattle.rules.specs.Meaning.{Values}
use Rattle.texts.specs.Reading.{Reads}
use Rattle.texts.specs.Grammar.{Dimacs}
use Rattle.rules.specs.Run.{Task, Progress, run}
use Rattle.rules.specs.Answer.{taking_rules, out_of_limits, report_if}
use Rattle.rules.specs.RunRefusals.{Accepted}
use Rattle.texts.specs.Printed.{count_if_room, refused_line, table_budget, table_chunk}
use Rattle.texts.specs.ModelLine.{model_line}
use Rattle.rules.specs.Witness.{witness_at, free_in, Asked, asked, asked_task, few_literals, else_not_free, asked_refusal, asked_report}
use Rattle.rules.specs.Witness.{literals_from, literals_if}
use Rattle.rules.specs.Witness.{first_after, witness_after, Witnesses, lent_for}
use Rattle.texts.specs.WitnessPrinted.{literal_bit, bits_of, witness_asked, witness_text_if, witness_text_of_asked, witness_text_of_judged, witness_text_of}
use Rattle.texts.specs.WitnessPrinted.{max_witness, PrintsWitness}
use Rattle.texts.proofs.GrammarLaws.{accepted_sound}
use Rattle.texts.proofs.ReadList as reading
use Rattle.texts.proofs.ReadList.{ReadList}
use Rattle.rules.proofs.RunTheorems.{run_answer_lem}
use Rattle.texts.proofs.WitnessText.{bits_literals, witness_listed, length-witness_text_of}
use Rattle.lines.proofs.LineLaws.{refused_some}
use Rattle.buffers.specs.Put.{Room, Put}
use Rattle.buffers.proofs.PutLaws.{room_same}
use Rattle.buffers.proofs.RoomLaws.{short_count, short_bytes, whole_count, whole_bytes}
use Rattle.witness_printed.specs.Pair.{line_of, lines_of, text_by, answer_text, bits_by, AnswerPut, Sized, ListReady}

-- ---- the bits of literals

pub length_bits : (ls : List ℤ) → length (map literal_bit ls) ≡ length ls
length_bits ls = length-map ls literal_bit

pub bit_at : (ls : List ℤ) (i : ℕ) → i < length ls → get_or (map literal_bit ls) i 0 ≡ literal_bit (get_or ls i (pos 0))
bit_at [] i h = absurd (omega arith)
bit_at (l ∷ ls) zero h = refl
bit_at (l ∷ ls) (suc i) h = bit_at ls i (omega arith)

-- ---- the question

-- both lines, off the literals of both models
lines_are : (m d : Values) → lines_of (literals_from 0 m) (literals_from 0 d) ≡ model_line (bits_of m) ++ model_line (bits_of d)
lines_are m d =
    ap (λ (bits : List ℕ). model_line bits ++ line_of (literals_from 0 d)) (bits_literals 0 m) ∙
    ap (λ (bits : List ℕ). model_line (bits_of m) ++ model_line bits) (bits_literals 0 d)

-- a run that is not refused is answered by both lines
answered_lines : (a : RunAnswer) (first witness : List ℤ)
    → (a ≡ RunAnswer.Settled) ⊎ ((a ≡ RunAnswer.NoModel) ⊎ (a ≡ RunAnswer.Stopped)) → text_by a first witness ≡ lines_of first witness
answered_lines a first witness (inl e) = rw e
answered_lines a first witness (inr (inl e)) = rw e
answered_lines a first witness (inr (inr e)) = rw e

module _ (vars : ℕ) (es : List ℤ) (v : ℕ) {first witness : List ℤ} {bits : List ℕ} (z : Sized vars first witness bits)
    (listed : Accepted (lent_for (witness_asked vars es v))) where
  -- the question with these buffers
  abbrev lent : Asked
  lent = asked es vars [] table_budget table_chunk v first witness

  abbrev k : Task
  k = asked_task lent

  abbrev p : Progress
  p = (run k).progress

  same_refusal : asked_refusal lent ≡ asked_refusal (witness_asked vars es v)
  unfolding asked_refusal
  same_refusal =
      let zeros = length-replicate {A = ℤ} vars (pos 0) in
      ap (λ (n : ℕ). refusal_by n (length witness)) (z.first_len ∙ sym zeros) ∙
      ap (refusal_by (length (replicate vars (pos 0)))) (z.witness_len ∙ sym zeros)
    where
      refusal_by : ℕ → ℕ → Option Refusal
      refusal_by n m =
          else_not_free (first_of (taking_rules (out_of_limits vars table_chunk) (few_literals vars n m) es vars [])) (free_in p v)

  whole : (m : Values) (before : List ℤ) → length before ≡ vars → literals_from 0 m ++ drop vars before ≡ literals_from 0 m
  whole m before e =
      ap (λ (ls : List ℤ). literals_from 0 m ++ ls) (drop_of_length-le before {i = vars} (omega (arith, e))) ∙ append-nil (literals_from 0 m)

  text_if_lem : (o : Option Refusal)
      → answer_text (report_if o k) (literals_if o vars p.first first) (literals_if o vars (witness_at p (pred v)) witness) ≡ witness_text_if o p v
  text_if_lem (some r) = refl
  text_if_lem none =
      answered_lines (run k).answer (literals_from 0 p.first ++ drop vars first) (literals_from 0 (witness_at p (pred v)) ++ drop vars witness)
      (run_answer_lem k listed.listed.lent.in_limits.limit_some) ∙
      ap (λ (ls : List ℤ). lines_of ls (literals_from 0 (witness_at p (pred v)) ++ drop vars witness)) (whole p.first first z.first_len) ∙
      ap (lines_of (literals_from 0 p.first)) (whole (witness_at p (pred v)) witness z.witness_len) ∙ lines_are p.first (witness_at p (pred v))

  pub asked_text : {r : Report} {first' witness' : List ℤ} → Witnesses lent r first' witness'
      → answer_text r first' witness' ≡ witness_text_of_asked (witness_asked vars es v)
  unfolding asked_report first_after witness_after
  asked_text {r} {first'} {witness'} d =
      ap (λ (x : Report). answer_text x first' witness') d.result_is ∙
      ap (λ (ls : List ℤ). answer_text (asked_report lent) ls witness') d.first_is ∙
      ap (answer_text (asked_report lent) (first_after lent)) d.witness_is ∙ text_if_lem (asked_refusal lent) ∙
      ap (λ (o : Option Refusal). witness_text_if o p v) same_refusal

pub bits_same : {r q : Report} {first witness : List ℤ} {bits before : List ℕ} {next : ℕ} {bits-after after : List ℕ} → r ≡ q
    → AnswerPut r first witness bits before next bits-after after → bits-after ≡ bits_by q.answer witness bits
bits_same {witness = witness} {bits = bits} e p = p.bits_are ∙ ap (λ (r : Report). bits_by r.answer witness bits) e

-- ---- the reading

module _ {text : List ℕ} {r : Reading} {after : List ℤ} (w : ReadList text r after) (v : ℕ) where
  pub list_text : witness_text_of text v ≡ witness_text_of_asked (witness_asked r.vars (take r.entries after) v)
  unfolding witness_text_of
  list_text =
      ap (λ j. witness_text_of_judged j v) w.judged ∙
      ap (λ (n : ℕ). witness_text_of_asked (witness_asked n (take r.entries after) v)) (sym w.vars_are)

  pub list_ready : {out : List ℕ} → Room 0 (witness_text_of text v) out → ListReady r.vars (take r.entries after) v out
  list_ready m =
      let d : Dimacs text w.sizes.vars w.sizes.clauses (take r.entries after) = accepted_sound max_entries text w.judged in
      record { listed = rw w.vars_are (witness_listed d v); room = room_same list_text m }

module _ {text : List ℕ} {before : List ℤ} {r : Reading} {after : List ℤ} (d : Reads text before r after) (z : length before ≡ max_entries) where
  pub read_list : r.answer ≡ ReadAnswer.Accepted → ReadList text r after
  read_list h = reading.read_list d z (ap read_number h)

  pub read_line : (v : ℕ) → r.answer ≢ ReadAnswer.Accepted → witness_text_of text v ≡ refused_line (read_number r.answer) (read_place r.answer)
  unfolding witness_text_of
  read_line v h = ap (λ j. witness_text_of_judged j v) (reading.read_refused d z (refused_some r.answer h))

-- ---- the contract

pub prints_short : (text : List ℕ) (v : ℕ) (before : List ℕ) → length before < max_witness → PrintsWitness text v before 0 before
prints_short text v before h =
    record { count_is = short_count max_witness (witness_text_of text v) before h; after_is = short_bytes max_witness (witness_text_of text v) before h }

pub whole_room : (text : List ℕ) (v : ℕ) (out : List ℕ) → max_witness ≤ length out → Room 0 (witness_text_of text v) out
whole_room text v out h = record { fits = omega (arith, length-witness_text_of text v) }

pub prints_answer : {text : List ℕ} {v : ℕ} {before : List ℕ} {n : ℕ} {after : List ℕ} → max_witness ≤ length before
    → Put 0 (witness_text_of text v) before n after → PrintsWitness text v before n after
prints_answer {text} {v} {before} h p =
    record {
      count_is = whole_count max_witness (witness_text_of text v) before (length-witness_text_of text v) h p;
      after_is = whole_bytes max_witness (witness_text_of text v) before (length-witness_text_of text v) h p;
    }

pub prints_le : {text : List ℕ} {v : ℕ} {before : List ℕ} {n : ℕ} {after : List ℕ} → PrintsWitness text v before n after → n ≤ max_witness
prints_le {text} {v} {before} {n} p = go (leb max_witness (length before)) p.count_is
  where
    go : (b : Bool) → n ≡ count_if_room b (witness_text_of text v) → n ≤ max_witness
    go true e = omega (arith, e, length-witness_text_of text v)
    go false e = omega (arith, e)
