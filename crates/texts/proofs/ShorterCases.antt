-- The shorter file of small formulas (docs/RULES.md, "The shorter file"), computed: one table of texts with one theorem, and one of refusals.
--
--   shorter_cases_lem     the definitions give the text of each line, and the shorter file of that is itself
--   shorter_edges_lem     what is refused, by number and place
--
-- Assumes nothing.
use mathlib.Core.Path.{◌≡◌, refl}
use mathlib.Core.Bool.{Bool, true, ◌&&◌}
use mathlib.Core.List.{List, [], ◌∷◌, ◌++◌}
use Prim.Native.Nat.{ℕ}
use Prim.Native.String.{String}
use lib.IntN.{ℤ, pos}
use lib.ListN.{replicate}
use Rattle.rules.specs.Lists.{all, eqs}
use Rattle.rules.specs.Numbers.{run_number, run_place}
use Rattle.rules.specs.Meaning.{Clause, clauses}
use Rattle.texts.specs.Plain.{decimal_in, decimal, plain}
use Rattle.rules.specs.Closing.{state_of, close_in, closing}
use Rattle.rules.specs.Search.{go_on, call_on}
use Rattle.rules.specs.Run.{Task, chunk_call, chunks_in, chunks, first_call, run}
use Rattle.texts.specs.Shorter.{shorter_of, shorter_text, ShorterGiven, shorter_given, shorter_refusal, shorter_bytes, shorter_report_of}
use Rattle.rules.proofs.Quoted.{quoted}
use Rattle.rules.proofs.Starred.{neg, clause, unit}

-- ---- texts: V, budget, entries; then the text. The chunk limit is 2

pub record ShorterCase : Type 0 where
  pub vars : ℕ
  pub budget : ℕ
  pub entries : List ℤ
  pub text : String

abbrev line : ℕ → ℕ → List ℤ → String → ShorterCase
line v b es t = record { vars = v; budget = b; entries = es; text = t }

abbrev task_on : ℕ → ℕ → List Clause → Task
task_on v b F = record { vars = v; budget = b; limit = 2; formula = F }

abbrev task_of : ShorterCase → Task
task_of c = task_on c.vars c.budget (clauses c.entries)

abbrev again : ShorterCase → Task
again c = task_on c.vars c.budget (shorter_of (task_of c))

abbrev pub passes : ShorterCase → Bool
passes c = eqs (shorter_text (task_of c)) (quoted c.text) && eqs (shorter_text (again c)) (quoted c.text)

-- `1 0`, and 2 in all four clauses with 3 and 4: with -2 a try is due
abbrev deep : List ℤ
deep =
    unit (pos 1) ++ clause (pos 2 ∷ pos 3 ∷ pos 4 ∷ []) ++ clause (pos 2 ∷ pos 3 ∷ neg 4 ∷ []) ++ clause (pos 2 ∷ neg 3 ∷ pos 4 ∷ [])
    ++ clause (neg 1 ∷ pos 2 ∷ neg 3 ∷ neg 4 ∷ [])

abbrev pub shorter_cases : List ShorterCase
shorter_cases =
    -- clauses that hold a forced literal go
    line 2 100 (clause (pos 1 ∷ pos 2 ∷ []) ++ clause (pos 1 ∷ neg 2 ∷ [])) "p cnf 2 1\n1 0\n" ∷
    -- so do negations of forced literals; forced literals stand by variable
    line 4 100 (clause (pos 2 ∷ pos 1 ∷ pos 3 ∷ []) ++ unit (pos 4) ++ unit (neg 2)) "p cnf 4 3\n-2 0\n4 0\n1 3 0\n" ∷
    -- later repeats of a literal go, both signs and repeated clauses stay
    line 3 100 (clause (pos 3 ∷ pos 2 ∷ pos 3 ∷ []) ++ clause (pos 1 ∷ neg 1 ∷ []) ++ clause (pos 3 ∷ pos 2 ∷ []))
    "p cnf 3 3\n3 2 0\n1 -1 0\n3 2 0\n" ∷
    -- 1 and 2 are forced; stopped before 2 is, it stays open and its clauses stay, less -1
    line 4 100 deep "p cnf 4 2\n1 0\n2 0\n" ∷
    line 4 6 deep "p cnf 4 5\n1 0\n2 3 4 0\n2 3 -4 0\n2 -3 4 0\n2 -3 -4 0\n" ∷
    -- no model: one clause, empty
    line 1 100 (unit (pos 1) ++ unit (neg 1)) "p cnf 1 1\n0\n" ∷
    line 0 100 (clause []) "p cnf 0 1\n0\n" ∷
    -- no clause; stopped at once
    line 0 100 [] "p cnf 0 0\n" ∷
    line 12 0 (clause (pos 12 ∷ neg 11 ∷ [])) "p cnf 12 1\n12 -11 0\n" ∷
    []

pub shorter_cases_lem : all passes shorter_cases ≡ true
unfolding state_of close_in closing go_on call_on chunk_call chunks_in chunks first_call run decimal_in decimal plain shorter_of shorter_text
shorter_cases_lem = refl

-- ---- refusals: what is given; then answer, place, calls, tries, forced, free and length

pub record ShorterEdge : Type 0 where
  pub asked : ShorterGiven
  pub numbers : List ℕ

abbrev edge : ShorterGiven → List ℕ → ShorterEdge
edge g ns = record { asked = g; numbers = ns }

abbrev pub edge_passes : ShorterEdge → Bool
edge_passes e =
    let r = shorter_report_of e.asked in
    eqs (run_number r.run.answer ∷ run_place r.run.answer ∷ r.run.calls ∷ r.run.tries ∷ r.run.forced ∷ r.run.free ∷ r.length ∷ [])
    e.numbers

abbrev refused : ℕ → ℕ → List ℕ
refused number place = number ∷ place ∷ 0 ∷ 0 ∷ 0 ∷ 0 ∷ 0 ∷ []

abbrev pub shorter_edges : List ShorterEdge
shorter_edges =
    -- 10 before 1: 257 variables, chunk limits 0 and 257
    edge (shorter_given [] 257 100 2 []) (refused 10 0) ∷
    edge (shorter_given [] 1 100 0 []) (refused 10 0) ∷
    edge (shorter_given [] 1 100 257 []) (refused 10 0) ∷
    -- 1 before 11: 32,767 bytes
    edge (shorter_given (pos 2 ∷ []) 1 100 2 (replicate 32767 7)) (refused 1 0) ∷
    -- 32,768 bytes: 11 before 12, and none
    edge (shorter_given (pos 2 ∷ []) 1 100 2 (replicate 32768 7)) (refused 11 1) ∷
    edge (shorter_given (unit (pos 1) ++ unit (pos 2)) 1 100 2 (replicate 32768 7)) (refused 12 2) ∷
    edge (shorter_given (clause (pos 1 ∷ pos 2 ∷ []) ++ clause (pos 1 ∷ neg 2 ∷ [])) 2 100 2 (replicate 32768 7))
    (0 ∷ 0 ∷ 2 ∷ 3 ∷ 1 ∷ 1 ∷ 14 ∷ []) ∷
    []

pub shorter_edges_lem : all edge_passes shorter_edges ≡ true
unfolding state_of close_in closing go_on call_on chunk_call chunks_in chunks first_call run decimal_in decimal plain shorter_of shorter_text
    shorter_refusal shorter_bytes shorter_report_of
shorter_edges_lem = refl
