-- The laws of specs/WitnessPrinted: how long the two lines are at most, that the contract has one solution, and cases.
--
--   bits_literals     the bits of a model, off its literals
--   only_not_free     of an accepted text nothing is refused but the variable
--   length-witness_text_of      two lines are never longer than 4,096 bytes
--   prints_witness_exists, prints_witness_unique     one number and one buffer satisfy the contract, and no others
--   shown_witnesses   computed: two models, and a line for each kind of refusal
--
-- Assumes nothing.
use mathlib.Core.Path.{◌≡◌, refl, sym, ◌∙◌}
use mathlib.Core.Logic.{◌≢◌}
use mathlib.Core.Bool.{Bool, true}
use mathlib.Core.List.Memᴰ
use mathlib.Core.List.{List, [], ◌∷◌, map}
use mathlib.Core.Option.{Option, none, some}
use Prim.Native.Nat.{ℕ, zero, suc, pred, ◌≤◌}
use Prim.Native.String.{String}
use native.Mathlib.Omega.{arith}
use lib.Dec.{leb}
use lib.IntN.{ℤ, pos}
use lib.ListN.{length, replicate, length-append, length-map, length-replicate}
use Rattle.rules.specs.declared.Refusal.{Refusal}
use Rattle.rules.specs.Lists.{all, eqs, pieces}
use Rattle.texts.specs.Text.{lines_of, header_of, numeral, tokens_from, entry_of}
use Rattle.rules.specs.Numbers.{max_entries, read_number, read_place}
use Rattle.rules.specs.Meaning.{Values}
use Rattle.texts.specs.Reading.{Judged, accepted, refused, judge, judge_lines, judge_tokens}
use Rattle.texts.specs.Grammar.{Dimacs}
use Rattle.texts.specs.Plain.{decimal, decimal_in}
use Rattle.rules.specs.Closing.{state_of, close_in, closing}
use Rattle.rules.specs.Search.{go_on, call_on}
use Rattle.rules.specs.Run.{Task, literal_at, chunk_call, chunks_in, chunks, first_call, run}
use Rattle.rules.specs.Answer.{log_length}
use Rattle.rules.specs.RunRefusals.{Accepted}
use Rattle.texts.specs.Printed.{count_if_room, bytes_if_room}
use Rattle.texts.specs.ModelLine.{model_literal, model_line}
use Rattle.rules.specs.Witness.{witness_at, asked_task, asked_refusal, literals_from, lent_for}
use Rattle.texts.specs.WitnessPrinted.{value_bit, literal_bit, bits_of, witness_asked, witness_text_of_asked, witness_text_of_judged}
use Rattle.texts.specs.WitnessPrinted.{witness_text_of, max_witness, PrintsWitness}
use Rattle.rules.proofs.Quoted.{quoted}
use Rattle.rules.proofs.ListLaws.{apart}
use Rattle.texts.proofs.RefusalLaws.{refusal_sound}
use Rattle.texts.proofs.PlaceLaws.{refuses_place}
use Rattle.texts.proofs.GrammarLaws.{accepted_sound}
use Rattle.texts.proofs.TextTheorems.{dimacs_runs}
use Rattle.rules.proofs.RefusedRuns.{run_refused, run_accepted}
use Rattle.texts.proofs.PrintedLaws.{lines_in}
use Rattle.texts.proofs.TableLaws.{read_number_le, length-refused_line}
use Rattle.texts.proofs.WhyText.{length_literals}
use Rattle.rules.proofs.WitnessTheorems.{asked_answered, asked_refused, asked_pair}

-- ---- bits

literal_bit_at : (i b : ℕ) → literal_bit (literal_at i b) ≡ value_bit b
literal_bit_at i zero = refl
literal_bit_at i (suc zero) = refl
literal_bit_at i (suc (suc b)) = refl

pub bits_literals : (i : ℕ) (m : Values) → map literal_bit (literals_from i m) ≡ bits_of m
bits_literals i [] = refl
bits_literals i (b ∷ m) = cc (literal_bit_at i b, bits_literals (suc i) m)

-- ---- of an accepted text nothing is refused but the variable

module _ {text : List ℕ} {vars n : ℕ} {es : List ℤ} (read : Dimacs text vars n es) (v : ℕ) where
  pub witness_listed : Accepted (lent_for (witness_asked vars es v))
  witness_listed =
      dimacs_runs (lent_for (witness_asked vars es v)) read
      (record {
        in_limits = record { vars_fit = read.vars_fit; limit_some = omega arith; limit_fits = omega arith };
        status_fits = omega (arith, enough, again);
        calls_fit = omega (arith, enough, again);
        ways_fit = omega (arith, length-replicate {A = ℕ} vars 0);
        hints_fit = omega (arith, length-replicate {A = ℕ} vars 0);
        log_fits = omega (arith, length-replicate {A = ℕ} (log_length vars) 0);
      })
      (record { few = omega arith; up_to = λ l i. absurd (Memᴰ.not-nil i) })
    where
      enough : length (replicate vars (pos 0)) ≡ vars
      enough = length-replicate {A = ℤ} vars (pos 0)

      again : length (replicate {A = ℕ} (length (replicate vars (pos 0))) 0) ≡ length (replicate vars (pos 0))
      again = length-replicate {A = ℕ} (length (replicate vars (pos 0))) 0

  pub only_not_free : (a : Refusal) → asked_refusal (witness_asked vars es v) ≡ some a → a ≡ Refusal.NotFree
  only_not_free a e = go a e
    where
      no_run : (r : Refusal) → r ≢ Refusal.NotFree → asked_refusal (witness_asked vars es v) ≡ some r → ⊥
      no_run r ne q =
          let x : some r ≡ none =
          sym ((run_refused (lent_for (witness_asked vars es v)) r).1 ((asked_refused (witness_asked vars es v) r ne).0 q)) ∙
          (run_accepted (lent_for (witness_asked vars es v))).1 witness_listed in
          apart cc

      go : (r : Refusal) → asked_refusal (witness_asked vars es v) ≡ some r → r ≡ Refusal.NotFree
      go Refusal.ShortBuffer q = absurd (no_run Refusal.ShortBuffer (λ z. apart cc) q)
      go Refusal.BadLimits q = absurd (no_run Refusal.BadLimits (λ z. apart cc) q)
      go (Refusal.BadList at) q = absurd (no_run (Refusal.BadList at) (λ z. apart cc) q)
      go (Refusal.EntryOverVars at) q = absurd (no_run (Refusal.EntryOverVars at) (λ z. apart cc) q)
      go (Refusal.BadLiteral at) q = absurd (no_run (Refusal.BadLiteral at) (λ z. apart cc) q)
      go Refusal.NotFree q = refl
      go Refusal.ManyHeld q = absurd (no_run Refusal.ManyHeld (λ z. apart cc) q)

  -- a line for a model of at most 256 variables
  length_line : (m : Values) → length m ≡ vars → length (model_line (bits_of m)) ≤ 1281
  length_line m e =
      omega (
        arith,
        length-append (pieces model_literal 1 (bits_of m)) (10 ∷ []),
        length_literals 1 (bits_of m) (omega (arith, length-map m value_bit, read.vars_fit)),
        length-map m value_bit,
        read.vars_fit,
      )

  length-asked : length (witness_text_of_asked (witness_asked vars es v)) ≤ max_witness
  length-asked = go (asked_refusal (witness_asked vars es v)) refl
    where
      k : Task
      k = asked_task (witness_asked vars es v)

      go : (o : Option Refusal) → asked_refusal (witness_asked vars es v) ≡ o
          → length (witness_text_of_asked (witness_asked vars es v)) ≤ max_witness
      go none q =
          let (w, f) = (asked_answered (witness_asked vars es v)).0 q in
          let pair = asked_pair (witness_asked vars es v) w f in
          rw q
          (omega (
            arith,
            length-append (model_line (bits_of (run k).progress.first)) (model_line (bits_of (witness_at (run k).progress (pred v)))),
            length_line (run k).progress.first pair.first_model.len,
            length_line (witness_at (run k).progress (pred v)) pair.witness_model.len,
          ))
      go (some a) q = rw (q, only_not_free a q) (omega (arith, length-refused_line 14 0 (omega arith) (omega arith)))

pub length-witness_text_of : (text : List ℕ) (v : ℕ) → length (witness_text_of text v) ≤ max_witness
unfolding witness_text_of
length-witness_text_of text v = go (judge max_entries text) refl
  where
    go : (j : Judged) → judge max_entries text ≡ j → length (witness_text_of_judged j v) ≤ max_witness
    go (refused a) e =
        omega (arith, length-refused_line (read_number a) (read_place a) (omega (arith, read_number_le a)) (refuses_place (refusal_sound max_entries text e)))
    go (accepted s es) e = length-asked (accepted_sound max_entries text e) v

-- ---- the contract

pub prints_witness_exists : (text : List ℕ) (v : ℕ) (before : List ℕ)
    → PrintsWitness text v before (count_if_room (leb max_witness (length before)) (witness_text_of text v))
    (bytes_if_room (leb max_witness (length before)) (witness_text_of text v) before)
prints_witness_exists text v before = record { count_is = refl; after_is = refl }

pub prints_witness_unique : {text : List ℕ} {v : ℕ} {before : List ℕ} {n n' : ℕ} {b b' : List ℕ}
    → PrintsWitness text v before n b → PrintsWitness text v before n' b' → (n ≡ n') × (b ≡ b')
prints_witness_unique p q = (p.count_is ∙ sym q.count_is, p.after_is ∙ sym q.after_is)

-- ---- computed

-- a text, a variable, and what is printed
pub record Shown : Type 0 where
  pub text : String
  pub variable : ℕ
  pub lines : List String

abbrev shows : String → ℕ → List String → Shown
shows text v lines = record { text = text; variable = v; lines = lines }

abbrev pub answers : List Shown
answers =
    -- by compare, by flip
    shows "p cnf 2 2\n1 2 0 -1 -2 0\n" 1 ("-1 2\n" ∷ "1 -2\n" ∷ []) ∷
    shows "p cnf 2 2\n1 2 0 1 -2 0\n" 2 ("1 -2\n" ∷ "1 2\n" ∷ []) ∷
    -- forced, 0, above V, after 20
    shows "p cnf 2 2\n1 2 0 1 -2 0\n" 1 ("refused 14 place 0\n" ∷ []) ∷
    shows "p cnf 2 0\n" 0 ("refused 14 place 0\n" ∷ []) ∷
    shows "p cnf 2 0\n" 3 ("refused 14 place 0\n" ∷ []) ∷
    shows "p cnf 1 1\n0\n" 1 ("refused 14 place 0\n" ∷ []) ∷
    -- a refused text
    shows "p cnf 1 1\n2 0\n" 1 ("refused 7 place 10\n" ∷ []) ∷
    []

abbrev pub passes : Shown → Bool
passes s = eqs (witness_text_of (quoted s.text) s.variable) (lines_in s.lines)

pub shown_witnesses : all passes answers ≡ true
unfolding
    judge lines_of judge_lines header_of numeral tokens_from judge_tokens entry_of
    state_of close_in closing go_on call_on chunk_call chunks_in chunks first_call run asked_refusal decimal decimal_in witness_text_of
shown_witnesses = refl
