-- From a text to its run: a formula within the sizes, printed plainly, is read back as itself, and the run refuses no list that was
-- read from a text.
--
--   round_trip        printed plainly and read, a formula comes back as itself
--   is_ended_of_clauses_of     clauses that each end with 0 end with 0
--   dimacs_formed, dimacs_runs     the entries of a DIMACS text are accepted by a run that has room, with literals that may be held
--
-- Assumes nothing.
use mathlib.Core.Path.{◌≡◌, refl}
use mathlib.Core.Bool.{true}
use mathlib.Core.List.{List, [], ◌∷◌, ◌++◌}
use Prim.Native.Nat.{ℕ, ◌≤◌}
use native.Mathlib.Omega.{arith}
use lib.IntN.{ℤ, pos}
use lib.ListN.{length}
use Rattle.rules.specs.declared.ReadAnswer.{ReadAnswer}
use Rattle.rules.specs.Numbers.{max_entries}
use Rattle.rules.specs.Meaning.{Clause, clauses}
use Rattle.texts.specs.Reading.{reading_of, filled, entries_after}
use Rattle.texts.specs.Grammar.{ClausesOf, no_clause, clause, Dimacs}
use Rattle.texts.specs.Plain.{plain, entries_of, Within}
use Rattle.rules.specs.Held.{Holdable}
use Rattle.rules.specs.Answer.{Given, is_ended}
use Rattle.rules.specs.RunRefusals.{Lent, Formed, Accepted}
use Rattle.texts.proofs.GrammarLaws.{count_clauses_of}
use Rattle.texts.proofs.PlainLaws.{plain_dimacs, clauses-entries_of, no_zero_of_within}
use Rattle.texts.proofs.ReadingTheorems.{read_accepts}

-- a formula within the sizes, printed plainly and read into a long enough buffer: V, C, the entries, and the clauses again
pub round_trip : (vars : ℕ) (F : List Clause) (before : List ℤ) → Within vars F → max_entries ≤ length before
    → (reading_of (plain vars F) before ≡ record { answer = ReadAnswer.Accepted; vars = vars; clauses = length F; entries = length (entries_of F) })
    × (entries_after (plain vars F) before ≡ filled (entries_of F) before) × (clauses (entries_of F) ≡ F)
round_trip vars F before w h =
    let (r, b) = (read_accepts (plain vars F) before h (record { vars = vars; clauses = length F }) (entries_of F)).0 (plain_dimacs vars F w) in
    (r, b, clauses-entries_of F (no_zero_of_within w))

-- clauses that each end with 0 end with 0
is_ended_behind : (front es : List ℤ) → is_ended es ≡ true → is_ended (front ++ pos 0 ∷ es) ≡ true
is_ended_behind [] [] h = refl
is_ended_behind [] (e ∷ es) h = h
is_ended_behind (f ∷ []) es h = is_ended_behind [] es h
is_ended_behind (f ∷ g ∷ front) es h = is_ended_behind (g ∷ front) es h

pub is_ended_of_clauses_of : {n : ℕ} {es : List ℤ} → ClausesOf n es → is_ended es ≡ true
is_ended_of_clauses_of no_clause = refl
is_ended_of_clauses_of (clause cl {es = es} z c) = is_ended_behind cl es (is_ended_of_clauses_of c)

-- the entries of a text are never refused with 11 or 12
pub dimacs_formed : {text : List ℕ} {n : ℕ} (g : Given) → Dimacs text g.vars n g.entries → Lent g → Formed g
dimacs_formed g d w =
    record {
      listed =
          record {
            lent = w;
            entries_fit = d.entries_fit;
            ended = is_ended_of_clauses_of d.exactly;
            clauses_fit = omega
                (arith, count_clauses_of d.exactly, d.clauses_fit);
          };
      up_to = d.up_to;
    }

pub dimacs_runs : {text : List ℕ} {n : ℕ} (g : Given) → Dimacs text g.vars n g.entries → Lent g → Holdable g.vars g.held → Accepted g
dimacs_runs g d w h = let f = dimacs_formed g d w in record { listed = f.listed; up_to = f.up_to; holdable = h }
