-- The laws of specs/Printed: its contract has exactly one solution, what its run may be refused for, and tables computed.
--
--   shown             the example of docs/RULES.md, and a table of each other kind
--   shown_stopped     a table after 21
--   table_given_lem       the budget and the chunk limit of the table program
--   prints_exists, prints_unique     one result and one buffer satisfy the contract
--   table_formed, table_runs     the run of the table program is refused for its held literals alone
--
-- Assumes nothing.
use mathlib.Core.Path.{◌≡◌, refl, sym, ◌∙◌}
use mathlib.Core.Bool.{Bool, true}
use mathlib.Core.List.{List, [], ◌∷◌, ◌++◌}
use Prim.Native.Nat.{ℕ}
use native.Mathlib.Omega.{arith}
use Prim.Native.String.{String}
use lib.IntN.{ℤ, pos}
use lib.Dec.{leb}
use lib.ListN.{length, replicate, length-replicate}
use Rattle.rules.specs.declared.RunAnswer.{RunAnswer}
use Rattle.rules.specs.Lists.{all, eqs}
use Rattle.texts.specs.Text.{Sizes, lines_of, tokens_from, numeral, header_of, entry_of}
use Rattle.texts.specs.Reading.{accepted, judge, judge_tokens, judge_lines}
use Rattle.texts.specs.Grammar.{Dimacs}
use Rattle.rules.specs.Closing.{state_of, close_in, closing}
use Rattle.rules.specs.Search.{go_on, call_on}
use Rattle.texts.specs.Plain.{decimal, decimal_in}
use Rattle.rules.specs.Run.{chunk_call, chunks_in, chunks, first_call, run}
use Rattle.rules.specs.Hints.{hints_of}
use Rattle.rules.specs.Held.{Holdable}
use Rattle.rules.specs.Answer.{log_length, refusal_of, report_of, status_after, hints_after}
use Rattle.rules.specs.RunRefusals.{Formed, Accepted}
use Rattle.texts.specs.Printed.{table_of_run, table_given, table_of, max_table, count_if_room, bytes_if_room, Prints}
use Rattle.rules.proofs.Quoted.{quoted}
use Rattle.rules.proofs.Starred.{neg}
use Rattle.texts.proofs.GrammarLaws.{accepted_sound}
use Rattle.texts.proofs.TextTheorems.{dimacs_formed}

-- ---- the example of docs/RULES.md, and a table of each other kind, computed

-- a text and held literals, and the table that is printed for them, line by line
pub record Shown : Type 0 where
  pub text : String
  pub held : List ℤ
  pub table : List String

abbrev shows_with : List ℤ → String → List String → Shown
shows_with held text table = record { text = text; held = held; table = table }

-- with no held literal
abbrev shows : String → List String → Shown
shows = shows_with []

abbrev pub lines_in : List String → List ℕ
lines_in [] = []
lines_in (s ∷ ss) = quoted s ++ lines_in ss

abbrev pub tables : List Shown
tables =
    -- the example
    shows "p cnf 2 2\n1 2 0 1 -2 0\n"
    ("answer 0 calls 2 tries 3 forced 1 free 1 open 0\n" ∷ "1 forced on held by clause 1\n" ∷ "2 free\n" ∷ []) ∷
    -- forced off
    shows "p cnf 2 2\n-1 0 1 2 0\n"
    ("answer 0 calls 3 tries 0 forced 2 free 0 open 0\n" ∷ "1 forced off held by clause 1\n" ∷ "2 forced on held by clause 2\n" ∷ []) ∷
    -- "After 20 only the first line is printed"
    shows "p cnf 1 2\n1 0 -1 0\n"
    ("answer 20 calls 1 tries 0 forced 0 free 0 open 1\n" ∷ []) ∷
    -- "after a refusal only `refused N place P`"
    shows "c\np cnf 1 1\n2 0\n" ("refused 7 place 12\n" ∷ []) ∷
    shows "p cnf 1\n" ("refused 3 place 0\n" ∷ []) ∷
    -- no variable, and so no line but the first
    shows "p cnf 0 0" ("answer 0 calls 1 tries 0 forced 0 free 0 open 0\n" ∷ []) ∷
    -- numbers of two digits
    shows "p cnf 10 0"
    ("answer 0 calls 1 tries 10 forced 0 free 10 open 0\n" ∷
    "1 free\n" ∷ "2 free\n" ∷ "3 free\n" ∷ "4 free\n" ∷ "5 free\n" ∷ "6 free\n" ∷ "7 free\n" ∷ "8 free\n" ∷ "9 free\n" ∷ "10 free\n" ∷ []) ∷
    -- held literals: the example with 2 held, which clause 3 holds now; with -1, and with both signs
    shows_with (pos 2 ∷ []) "p cnf 2 2\n1 2 0 1 -2 0\n"
    ("answer 0 calls 3 tries 0 forced 2 free 0 open 0\n" ∷ "1 forced on held by clause 2\n" ∷ "2 forced on held by clause 3\n" ∷ []) ∷
    shows_with (neg 1 ∷ []) "p cnf 2 2\n1 2 0 1 -2 0\n" ("answer 20 calls 1 tries 0 forced 0 free 0 open 2\n" ∷ []) ∷
    shows_with (pos 2 ∷ neg 2 ∷ []) "p cnf 2 0\n" ("answer 20 calls 1 tries 0 forced 0 free 0 open 2\n" ∷ []) ∷
    -- a list that may not be held
    shows_with (pos 2 ∷ neg 3 ∷ []) "p cnf 2 0\n" ("refused 13 place 1\n" ∷ []) ∷
    shows_with (replicate 257 (pos 1)) "p cnf 2 0\n" ("refused 15 place 256\n" ∷ []) ∷
    -- the text is refused before them
    shows_with (pos 0 ∷ []) "p cnf 1\n" ("refused 3 place 0\n" ∷ []) ∷
    []

abbrev pub passes : Shown → Bool
passes s = eqs (table_of (quoted s.text) s.held) (lines_in s.table)

pub shown : all passes tables ≡ true
unfolding table_of judge lines_of judge_lines header_of numeral tokens_from judge_tokens entry_of
    state_of close_in closing go_on call_on chunk_call chunks_in chunks first_call run refusal_of report_of status_after hints_of hints_after decimal decimal_in
shown = refl

-- a stopped run: every word for a variable, and open is V less both
pub shown_stopped : table_of_run 5 (record { answer = RunAnswer.Stopped; calls = 4; tries = 1000000; forced = 2; free = 1 })
    (2 ∷ 3 ∷ 0 ∷ 1 ∷ 0 ∷ []) (7 ∷ 1024 ∷ 9 ∷ 0 ∷ 0 ∷ [])
    ≡ lines_in ("answer 21 calls 4 tries 1000000 forced 2 free 1 open 2\n" ∷ "1 forced on held by clause 7\n" ∷
    "2 forced off held by clause 1024\n" ∷ "3 open\n" ∷ "4 free\n" ∷ "5 open\n" ∷ [])
unfolding decimal decimal_in
shown_stopped = refl

-- "with budget 1,000,000 and chunk limit 16"
pub table_given_lem : (s : Sizes) (es held : List ℤ) → ((table_given s es held).budget ≡ 1000000) × ((table_given s es held).limit ≡ 16)
table_given_lem s es held = (refl, refl)

-- ---- the contract

pub prints_exists : (text : List ℕ) (held : List ℤ) (before : List ℕ)
    → Prints text held before (count_if_room (leb max_table (length before)) (table_of text held))
    (bytes_if_room (leb max_table (length before)) (table_of text held) before)
prints_exists text held before = record { count_is = refl; after_is = refl }

pub prints_unique : {text : List ℕ} {held : List ℤ} {before : List ℕ} {n n' : ℕ} {b b' : List ℕ}
    → Prints text held before n b → Prints text held before n' b' → (n ≡ n') × (b ≡ b')
prints_unique p q = (p.count_is ∙ sym q.count_is, p.after_is ∙ sym q.after_is)

-- ---- the table program's run

pub table_formed : (room : ℕ) (text : List ℕ) {s : Sizes} {es : List ℤ} → judge room text ≡ accepted s es → (held : List ℤ)
    → Formed (table_given s es held)
table_formed room text {s} {es} e held =
    let d : Dimacs text s.vars s.clauses es = accepted_sound room text e in
    dimacs_formed (table_given s es held) d
    (record {
      in_limits = record { vars_fit = d.vars_fit; limit_some = omega arith; limit_fits = omega arith };
      status_fits = omega (arith, length-replicate {A = ℕ} s.vars 0);
      calls_fit = omega (arith, length-replicate {A = ℕ} s.vars 0);
      ways_fit = omega (arith, length-replicate {A = ℕ} s.vars 0);
      hints_fit = omega (arith, length-replicate {A = ℕ} s.vars 0);
      log_fits = omega (arith, length-replicate {A = ℕ} (log_length s.vars) 0);
    })

pub table_runs : (room : ℕ) (text : List ℕ) {s : Sizes} {es : List ℤ} → judge room text ≡ accepted s es → {held : List ℤ}
    → Holdable s.vars held → Accepted (table_given s es held)
table_runs room text e {held} h =
    let f = table_formed room text e held in record { listed = f.listed; up_to = f.up_to; holdable = h }
