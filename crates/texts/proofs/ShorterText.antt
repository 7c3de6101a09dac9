-- The laws of specs/ShorterPrinted: what is printed for a text, how long it is at most, that the contract has one solution, and cases.
--
--   dimacs_within     the clauses of a text are within the sizes
--   shorter_listed    the list of a text is not refused
--   printed_refused, printed_shorter     a refused text gets the line of its refusal, any other the shorter file
--   length-shorter_text_of      never longer than 32,768 bytes
--   prints_shorter_exists, prints_shorter_unique     one number and one buffer satisfy the contract, and no others
--   shown_shorter     computed: an answer of each kind
--
-- Assumes nothing.
use mathlib.Core.Path.{◌≡◌, refl, sym, ◌∙◌, ap}
use mathlib.Core.Bool.{Bool, true}
use mathlib.Core.List.Memᴰ
use mathlib.Core.List.{List, [], ◌∷◌}
use Prim.Native.Nat.{ℕ, ◌≤◌}
use Prim.Native.String.{String}
use native.Mathlib.Omega.{arith}
use lib.Dec.{leb}
use lib.IntN.{ℤ}
use lib.ListN.{length, length-replicate}
use borrow.Author.Tests.{le-ltb}
use Rattle.rules.specs.declared.ReadAnswer.{ReadAnswer}
use Rattle.rules.specs.Lists.{all, eqs}
use Rattle.texts.specs.Text.{lines_of, header_of, numeral, tokens_from, entry_of}
use Rattle.rules.specs.Numbers.{max_text, max_vars, max_entries, read_number, read_place}
use Rattle.rules.specs.Meaning.{clauses}
use Rattle.texts.specs.Reading.{Judged, accepted, refused, judge, judge_lines, judge_tokens}
use Rattle.texts.specs.Grammar.{Dimacs}
use Rattle.texts.specs.Refusals.{Refuses}
use Rattle.texts.specs.Plain.{decimal, decimal_in, plain, Within}
use Rattle.rules.specs.Closing.{state_of, close_in, closing}
use Rattle.rules.specs.Search.{go_on, call_on}
use Rattle.rules.specs.Run.{chunk_call, chunks_in, chunks, first_call, run}
use Rattle.rules.specs.Answer.{log_length}
use Rattle.rules.specs.RunRefusals.{Accepted}
use Rattle.texts.specs.Printed.{refused_line, table_budget, table_chunk, count_if_room, bytes_if_room}
use Rattle.texts.specs.Shorter.{shorter_of, shorter_text, shorter_given, shorter_run}
use Rattle.texts.specs.ShorterPrinted.{printed_task, shorter_of_judged, shorter_text_of, PrintsShorter}
use Rattle.rules.proofs.Quoted.{quoted}
use Rattle.rules.proofs.ClauseLaws.{clauses_entries}
use Rattle.texts.proofs.RefusalLaws.{refusal_sound, refusal_complete}
use Rattle.texts.proofs.PlaceLaws.{refuses_place}
use Rattle.texts.proofs.GrammarLaws.{accepted_sound, accepted_complete}
use Rattle.texts.proofs.PlainLaws.{entries_of-clauses}
use Rattle.texts.proofs.TextTheorems.{dimacs_runs}
use Rattle.texts.proofs.TableLaws.{read_number_le, length-refused_line}
use Rattle.texts.proofs.ShorterLaws.{entries_of-clauses_le}
use Rattle.texts.proofs.ShorterTheorems.{shorter_fits}

-- ---- the list of a text

module _ {text : List ℕ} {vars n : ℕ} {es : List ℤ} (d : Dimacs text vars n es) where
  pub dimacs_within : Within vars (clauses es)
  dimacs_within =
      record {
        vars_fit = d.vars_fit;
        clauses_fit = omega (arith, (entries_of-clauses d.exactly).1, d.clauses_fit);
        entries_fit = omega (arith, entries_of-clauses_le es, d.entries_fit);
        literals =
            λ cl i l j.
            let (e, s) = (clauses_entries es cl i).each l j in
            record { some = s; most = d.up_to l e };
      }

  pub shorter_listed : (out : List ℕ) → max_text ≤ length out → Accepted (shorter_run (shorter_given es vars table_budget table_chunk out))
  shorter_listed out h =
      dimacs_runs (shorter_run (shorter_given es vars table_budget table_chunk out)) d
      (record {
        in_limits = record { vars_fit = d.vars_fit; limit_some = omega arith; limit_fits = omega arith };
        status_fits = omega (arith, d.vars_fit);
        calls_fit = omega (arith, d.vars_fit);
        ways_fit = omega (arith, d.vars_fit);
        hints_fit = omega (arith, d.vars_fit);
        log_fits = rw (le-ltb (length out) max_text h) (omega (arith, d.vars_fit, length-replicate {A = ℕ} (log_length max_vars) 0));
      })
      (record { few = omega arith; up_to = λ l i. absurd (Memᴰ.not-nil i) })

  judged : judge max_entries text ≡ accepted (record { vars = vars; clauses = n }) es
  judged = accepted_complete max_entries text (omega arith) d

  pub printed_shorter : shorter_text_of text ≡ shorter_text (printed_task vars es)
  unfolding shorter_text_of
  printed_shorter = ap shorter_of_judged judged

pub printed_refused : (text : List ℕ) (a : ReadAnswer) → Refuses max_entries text a → shorter_text_of text ≡ refused_line (read_number a) (read_place a)
unfolding shorter_text_of
printed_refused text a r = ap shorter_of_judged (refusal_complete max_entries text r)

-- ---- how long

pub length-shorter_text_of : (text : List ℕ) → length (shorter_text_of text) ≤ max_text
unfolding shorter_text_of
length-shorter_text_of text = go (judge max_entries text) refl
  where
    go : (j : Judged) → judge max_entries text ≡ j → length (shorter_of_judged j) ≤ max_text
    go (refused a) e =
        omega (arith, length-refused_line (read_number a) (read_place a) (omega (arith, read_number_le a)) (refuses_place (refusal_sound max_entries text e)))
    go (accepted s es) e = shorter_fits (printed_task s.vars es) (omega arith) (dimacs_within (accepted_sound max_entries text e))

-- ---- the contract

pub prints_shorter_exists : (text before : List ℕ)
    → PrintsShorter text before (count_if_room (leb max_text (length before)) (shorter_text_of text))
    (bytes_if_room (leb max_text (length before)) (shorter_text_of text) before)
prints_shorter_exists text before = record { count_is = refl; after_is = refl }

pub prints_shorter_unique : {text before : List ℕ} {n n' : ℕ} {b b' : List ℕ}
    → PrintsShorter text before n b → PrintsShorter text before n' b' → (n ≡ n') × (b ≡ b')
prints_shorter_unique p q = (p.count_is ∙ sym q.count_is, p.after_is ∙ sym q.after_is)

-- ---- computed

-- a text, and what is printed
pub record Shown : Type 0 where
  pub text : String
  pub printed : String

abbrev shows : String → String → Shown
shows text printed = record { text = text; printed = printed }

abbrev pub answers : List Shown
answers =
    -- forced literals, no model, a refused text
    shows "c card\np cnf 3 3\n1  2 0 1 -2\n0 -1 3 3 0" "p cnf 3 2\n1 0\n3 0\n" ∷
    shows "p cnf 1 2\n1 0 -1 0\n" "p cnf 1 1\n0\n" ∷
    shows "p cnf 1 1\n2 0\n" "refused 7 place 10\n" ∷
    []

abbrev pub passes : Shown → Bool
passes s = eqs (shorter_text_of (quoted s.text)) (quoted s.printed)

pub shown_shorter : all passes answers ≡ true
unfolding
    judge lines_of judge_lines header_of numeral tokens_from judge_tokens entry_of
    state_of close_in closing go_on call_on chunk_call chunks_in chunks first_call run decimal decimal_in plain shorter_of shorter_text shorter_text_of
shown_shorter = refl
