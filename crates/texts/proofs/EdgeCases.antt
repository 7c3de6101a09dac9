-- The edges of docs/RULES.md, "Sizes" and "What comes back", computed: the last size that passes and the first one that is refused, each
-- number with its place, and which of two refusals comes first. One table for texts and one for runs.
--
--   text_edges_lem        what a reading returns
--   entry_order       the order at the 4,097th entry
--   run_edges_lem         what a run is refused with
--
-- Assumes nothing.
use mathlib.Core.Path.{◌≡◌, refl}
use mathlib.Core.Bool.{Bool, true, ◌&&◌}
use mathlib.Core.List.{List, [], ◌∷◌, ◌++◌}
use mathlib.Core.Option.{Option, none, some}
use Prim.Native.Nat.{ℕ, zero, suc}
use Prim.Native.String.{String}
use lib.Dec.{eqb}
use lib.IntN.{ℤ, pos}
use lib.ListN.{replicate}
use Rattle.rules.specs.declared.ReadAnswer.{ReadAnswer}
use Rattle.rules.specs.declared.Refusal.{Refusal}
use Rattle.rules.specs.declared.Reading.{Reading}
use Rattle.rules.specs.Lists.{all, eqs}
use Rattle.rules.specs.Numbers.{read_number, read_place, refusal_number, refusal_place}
use Rattle.texts.specs.Text.{lines_of, tokens_from, numeral, header_of, entry_of}
use Rattle.texts.specs.Reading.{Judged, refused, judge, judge_tokens, judge_lines, reading_of}
use Rattle.rules.specs.Answer.{refusal_of}
use Rattle.rules.proofs.Quoted.{quoted}
use Rattle.rules.proofs.Starred.{neg, clause, unit}

-- ---- texts

-- the entries that are lent, a text, and the five numbers that a reading returns
pub record TextEdge : Type 0 where
  pub room : ℕ
  pub text : List ℕ
  pub returned : List ℕ

abbrev numbers_of : Reading → List ℕ
numbers_of r = read_number r.answer ∷ read_place r.answer ∷ r.vars ∷ r.clauses ∷ r.entries ∷ []

abbrev pub text_passes : TextEdge → Bool
text_passes t = eqs (numbers_of (reading_of t.text (replicate t.room (pos 7)))) t.returned

abbrev with_room : ℕ → List ℕ → List ℕ → TextEdge
with_room n text ns = record { room = n; text = text; returned = ns }

-- the buffer is just long enough
abbrev reads : List ℕ → List ℕ → TextEdge
reads text ns = with_room 4096 text ns

-- number and place
abbrev refuses : ℕ → ℕ → List ℕ
refuses n p = n ∷ p ∷ 0 ∷ 0 ∷ 0 ∷ []

-- V, C and the entry count
abbrev accepts : ℕ → ℕ → ℕ → List ℕ
accepts v c n = 0 ∷ 0 ∷ v ∷ c ∷ n ∷ []

abbrev times : ℕ → List ℕ → List ℕ
times zero bs = []
times (suc n) bs = bs ++ times n bs

-- `p cnf 1 1`, LF, and n literals, each with a space behind
abbrev ones : ℕ → List ℕ
ones n = quoted "p cnf 1 1\n" ++ times n (quoted "1 ")

abbrev pub text_edges : List TextEdge
text_edges =
    -- 1: the buffer
    with_room 4095 (quoted "p cnf 0 0") (refuses 1 0) ∷
    with_room 4096 (quoted "p cnf 0 0") (accepts 0 0 0) ∷
    with_room 4097 (quoted "p cnf 0 0") (accepts 0 0 0) ∷
    -- 2: a text of 32,768 bytes and one of 32,769; 1 before it
    reads (times 32758 (quoted "c") ++ quoted "\np cnf 0 0") (accepts 0 0 0) ∷
    reads (times 32759 (quoted "c") ++ quoted "\np cnf 0 0") (refuses 2 32768) ∷
    with_room 4095 (times 32769 (quoted "c")) (refuses 1 0) ∷
    -- 3: no header, at the end of text; another line, at its start
    reads [] (refuses 3 0) ∷
    reads (quoted "c\n") (refuses 3 2) ∷
    reads (quoted "c\n x\n") (refuses 3 2) ∷
    reads (quoted "c\n \t\r\np cnf 1\n") (refuses 3 6) ∷
    -- 4, at the start of the header line; 3 before it
    reads (quoted "p cnf 256 0") (accepts 256 0 0) ∷
    reads (quoted "p cnf 257 0") (refuses 4 0) ∷
    reads (quoted "p cnf 0 1025") (refuses 4 0) ∷
    reads (quoted "c\np cnf 257 0") (refuses 4 2) ∷
    reads (quoted "p cnf 257 x") (refuses 3 0) ∷
    reads (quoted "p cnf 0 1024\n" ++ times 1024 (quoted "0 ")) (accepts 0 1024 1024) ∷
    -- 5: malformed tokens
    reads (quoted "p cnf 1 1\n 1x 0") (refuses 5 11) ∷
    reads (quoted "p cnf 1 1\n1 -0 0") (refuses 5 12) ∷
    reads (quoted "p cnf 1 1\n0000000001 0") (refuses 5 10) ∷
    reads (quoted "p cnf 1 1\n000000001 -01 00") (accepts 1 1 3) ∷
    -- 6, and 5 before it
    reads (quoted "p cnf 1 1\n1 0 1") (refuses 6 14) ∷
    reads (quoted "p cnf 1 1\n1 0 x") (refuses 5 14) ∷
    -- comments behind the header: from a line's first byte on, inside a clause too; a `c` behind another blank is a token
    reads (quoted "p cnf 2 1\nc\n1 2 0\n") (accepts 2 1 3) ∷
    reads (quoted "p cnf 2 1\n1\nc1 2 0\nc 9 x %\n2 0") (accepts 2 1 3) ∷
    reads (quoted "p cnf 2 1\n1 2 0\nc") (accepts 2 1 3) ∷
    reads (quoted "p cnf 2 1\n1 2 0 c") (refuses 5 16) ∷
    reads (quoted "p cnf 2 1\n1 2\n c 1\n0") (refuses 5 15) ∷
    reads (quoted "p cnf 2 1 \r\n\rc\n1 2 0") (refuses 5 13) ∷
    reads (quoted "p cnf 1 1\nc 1 0\n") (refuses 9 16) ∷
    -- a `%` where C clauses are complete ends the text, whatever stands behind it; elsewhere it is malformed
    reads (quoted "p cnf 2 1\n1 2 0\n%\n0\n\n") (accepts 2 1 3) ∷
    reads (quoted "p cnf 2 1\n1 2 0 % x 9 -0") (accepts 2 1 3) ∷
    reads (quoted "p cnf 2 1\n1 2 0\n%") (accepts 2 1 3) ∷
    reads (quoted "p cnf 2 0\n%\n1") (accepts 2 0 0) ∷
    reads (quoted "p cnf 2 1\n%\n1 2 0") (refuses 5 10) ∷
    reads (quoted "p cnf 2 1\n1 2 % 0") (refuses 5 14) ∷
    reads (quoted "p cnf 2 1\n1 2 0\n%%") (refuses 5 16) ∷
    reads (quoted "p cnf 2 1\n1 2 0 %0") (refuses 5 16) ∷
    reads (quoted "p cnf 2 1\n1 2 0\n0\n%\n") (refuses 6 16) ∷
    reads (quoted "%\np cnf 2 0\n") (refuses 3 0) ∷
    -- bytes behind a `%` count for 2
    reads (quoted "p cnf 0 0\n%" ++ times 32757 (quoted "x")) (refuses 5 10) ∷
    reads (quoted "p cnf 0 0\n%\n" ++ times 32756 (quoted "x")) (accepts 0 0 0) ∷
    reads (quoted "p cnf 0 0\n%\n" ++ times 32757 (quoted "x")) (refuses 2 32768) ∷
    -- 7, and 6 before it
    reads (quoted "p cnf 1 1\n1 -2 0") (refuses 7 12) ∷
    reads (quoted "p cnf 1 1\n1 0 2") (refuses 6 14) ∷
    -- 8
    reads (ones 4095 ++ quoted "0") (accepts 1 1 4096) ∷
    reads (ones 4096 ++ quoted "0") (refuses 8 8202) ∷
    -- 9: inside a clause, before C clauses
    reads (quoted "p cnf 1 1\n1\n") (refuses 9 12) ∷
    reads (quoted "p cnf 1 2\n1 0\n") (refuses 9 14) ∷
    reads (quoted "p cnf 0 1024") (refuses 9 12) ∷
    []

pub text_edges_lem : all text_passes text_edges ≡ true
unfolding reading_of judge lines_of judge_lines header_of numeral tokens_from judge_tokens entry_of
text_edges_lem = refl

-- 8, and 5, 6 and 7 before it: the last token of such a text behind 4,096 entries, with k clauses complete
abbrev entry4097 : ℕ → String → Judged
entry4097 k s = judge_tokens (record { vars = 1; clauses = 1 }) 8203 k 4096 (tokens_from 8202 (quoted s))

pub entry_order : (entry4097 0 "1" ≡ refused (ReadAnswer.ManyTokens 8202)) × (entry4097 0 "x" ≡ refused (ReadAnswer.BadToken 8202))
    × (entry4097 1 "1" ≡ refused (ReadAnswer.TokenBehind 8202)) × (entry4097 0 "2" ≡ refused (ReadAnswer.TokenOverVars 8202))
unfolding tokens_from judge_tokens entry_of numeral
entry_order = (refl, refl, refl, refl)

-- ---- runs

-- V, chunk limit, entries, held literals, the status bytes, calls, ways, hints and log numbers that are lent; then number and place, 0 and 0
-- where the run begins
pub record RunEdge : Type 0 where
  pub vars : ℕ
  pub limit : ℕ
  pub entries : List ℤ
  pub held : List ℤ
  pub status : ℕ
  pub calls : ℕ
  pub ways : ℕ
  pub hints : ℕ
  pub log : ℕ
  pub number : ℕ
  pub place : ℕ

abbrev refused_by : Option Refusal → ℕ → ℕ → Bool
refused_by none n p = eqb 0 n && eqb 0 p
refused_by (some a) n p = eqb (refusal_number a) n && eqb (refusal_place a) p

abbrev pub run_passes : RunEdge → Bool
run_passes e =
    refused_by
    (refusal_of (record {
      entries = e.entries;
      vars = e.vars;
      held = e.held;
      budget = 100;
      limit = e.limit;
      status = replicate e.status 7;
      calls = replicate e.calls 7;
      ways = replicate e.ways 7;
      hints = replicate e.hints 7;
      log = replicate e.log 7;
    }))
    e.number
    e.place

-- the buffers
abbrev lends : ℕ → ℕ → ℕ → ℕ → ℕ → ℕ → ℕ → List ℤ → ℕ → ℕ → RunEdge
lends v l s c w h g es n p =
    record { vars = v; limit = l; entries = es; held = []; status = s; calls = c; ways = w; hints = h; log = g; number = n; place = p }

-- a list over one variable
abbrev runs : List ℤ → ℕ → ℕ → RunEdge
runs es n p = lends 1 2 1 1 1 1 12 es n p

-- with literals held
abbrev holds : List ℤ → List ℤ → ℕ → ℕ → RunEdge
holds es held n p =
    record { vars = 1; limit = 2; entries = es; held = held; status = 1; calls = 1; ways = 1; hints = 1; log = 12; number = n; place = p }

abbrev pub run_edges : List RunEdge
run_edges =
    -- 10: 257 variables, chunk limit 0 or 257
    lends 256 256 256 256 256 256 1542 [] 0 0 ∷
    lends 257 2 257 257 257 257 1548 [] 10 0 ∷
    lends 0 1 0 0 0 0 6 [] 0 0 ∷
    lends 0 0 0 0 0 0 6 [] 10 0 ∷
    lends 0 257 0 0 0 0 6 [] 10 0 ∷
    -- 1: a status byte, a call, a way, a hint or a log number too few
    lends 256 2 255 256 256 256 1542 [] 1 0 ∷
    lends 256 2 256 255 256 256 1542 [] 1 0 ∷
    lends 256 2 256 256 255 256 1542 [] 1 0 ∷
    lends 256 2 256 256 256 255 1542 [] 1 0 ∷
    lends 256 2 256 256 256 256 1541 [] 1 0 ∷
    lends 1 2 2 2 2 2 13 [] 0 0 ∷
    -- 11: the 4,097th entry; no 0 at the end; the 1,025th zero
    runs (clause (replicate 4095 (pos 1))) 0 0 ∷
    runs (clause (replicate 4096 (pos 1))) 11 4096 ∷
    runs (pos 1 ∷ []) 11 1 ∷
    runs (unit (pos 1) ++ pos 1 ∷ neg 1 ∷ []) 11 4 ∷
    runs (replicate 1024 (pos 0)) 0 0 ∷
    runs (replicate 1025 (pos 0)) 11 1024 ∷
    runs (unit (pos 1) ++ replicate 1024 (pos 0)) 11 1025 ∷
    -- 12: a variable above V, and the least number of 32 bits
    runs (unit (pos 1) ++ unit (neg 1)) 0 0 ∷
    runs (unit (pos 1) ++ unit (pos 2) ++ unit (pos 3)) 12 2 ∷
    runs (clause (pos 1 ∷ neg 2 ∷ [])) 12 1 ∷
    runs (unit (neg 2147483648)) 12 0 ∷
    lends 0 2 0 0 0 0 6 (unit (pos 1)) 12 0 ∷
    lends 256 2 256 256 256 256 1542 (clause (pos 256 ∷ neg 256 ∷ neg 257 ∷ [])) 12 2 ∷
    -- 10 before 1, 1 before 11, 11 before 12
    lends 257 2 0 0 0 0 0 [] 10 0 ∷
    lends 1 0 0 0 0 0 0 (pos 2 ∷ []) 10 0 ∷
    lends 1 2 0 1 1 1 12 (pos 2 ∷ []) 1 0 ∷
    lends 1 2 1 0 1 1 12 (pos 2 ∷ []) 1 0 ∷
    lends 1 2 1 1 0 1 12 (pos 2 ∷ []) 1 0 ∷
    lends 1 2 1 1 1 0 12 (pos 2 ∷ []) 1 0 ∷
    lends 1 2 1 1 1 1 11 (unit (pos 2)) 1 0 ∷
    runs (pos 2 ∷ []) 11 1 ∷
    runs (unit (pos 2) ++ replicate 1024 (pos 0)) 11 1025 ∷
    -- 15: the 257th held literal; 13: 0, a variable above V and the least number of 32 bits, the first of them
    holds [] (replicate 256 (pos 1)) 0 0 ∷
    holds [] (replicate 257 (pos 1)) 15 256 ∷
    holds [] (pos 1 ∷ pos 0 ∷ []) 13 1 ∷
    holds [] (neg 1 ∷ pos 1 ∷ neg 2 ∷ pos 0 ∷ []) 13 2 ∷
    holds [] (neg 2147483648 ∷ []) 13 0 ∷
    -- they do not count against 1,024 clauses or 4,096 entries; both signs are no refusal
    holds (replicate 1024 (pos 0)) (replicate 256 (pos 1)) 0 0 ∷
    holds (clause (replicate 4095 (pos 1))) (replicate 256 (neg 1)) 0 0 ∷
    holds (unit (pos 1)) (pos 1 ∷ neg 1 ∷ []) 0 0 ∷
    -- 12 before 15, 15 before 13
    holds (unit (pos 2)) (replicate 257 (pos 1)) 12 0 ∷
    holds (unit (neg 2)) (pos 0 ∷ []) 12 0 ∷
    holds [] (replicate 257 (pos 0)) 15 256 ∷
    -- within 11: too long, then not ended, then a zero too many
    runs (replicate 4097 (pos 0)) 11 4096 ∷
    runs (replicate 4097 (pos 1)) 11 4096 ∷
    runs (replicate 1025 (pos 0) ++ pos 1 ∷ []) 11 1026 ∷
    []

pub run_edges_lem : all run_passes run_edges ≡ true
unfolding refusal_of
run_edges_lem = refl
