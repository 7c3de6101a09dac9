-- The laws of specs/GroupsPrinted: how long a table of groups is at most, that its contract has one solution, and tables computed.
--
--   groups_run_accepted           the run of the table is refused for no file that is accepted
--   groups_refuses_place          the place of every refusal is at most the size of a text
--   length-groups_table_of          no table of groups is longer than 4,096 bytes: 63 for the first line, 15 for each value
--   prints_groups_exists, prints_groups_unique     one number and one buffer satisfy the contract, and no others
--   groups_table_refused          a refused text has its refusal alone
--   groups_table_list             the table of a file is that of its expanded list
--   shown_groups                  computed: a table of each kind
--
-- Assumes nothing.
use mathlib.Core.Path.{◌≡◌, refl, sym, ◌∙◌, ap}
use mathlib.Core.Logic.{◌⊎◌, inl, inr}
use mathlib.Core.Bool.{Bool, true}
use mathlib.Core.List.Memᴰ
use mathlib.Core.List.{List, [], ◌∷◌, ◌++◌}
use Prim.Native.Nat.{ℕ, zero, suc, ◌+◌, ◌*◌, ◌≤◌}
use Prim.Native.String.{String}
use native.Mathlib.Omega.{arith}
use lib.Dec.{leb}
use lib.IntN.{ℤ}
use lib.ListN.{length, take, drop, length-append, length-replicate}
use Rattle.rules.specs.declared.GroupsAnswer.{GroupsAnswer}
use Rattle.rules.specs.declared.RunAnswer.{RunAnswer}
use Rattle.rules.specs.declared.Report.{Report}
use Rattle.rules.specs.Lists.{In, all, eqs, pieces}
use Rattle.rules.specs.Numbers.{max_text, max_entries, groups_number, groups_place}
use Rattle.texts.specs.Text.{Piece, numeral, entry_of}
use Rattle.texts.specs.Plain.{decimal, decimal_in}
use Rattle.rules.specs.Closing.{state_of, close_in, closing}
use Rattle.rules.specs.Search.{go_on, call_on}
use Rattle.rules.specs.Run.{chunk_call, chunks_in, chunks, first_call, run}
use Rattle.rules.specs.Hints.{hints_of}
use Rattle.rules.specs.Answer.{log_length, refusal_of, report_of, status_after, hints_after}
use Rattle.rules.specs.RunRefusals.{Accepted}
use Rattle.texts.specs.Printed.{answer_line, refused_line, count_if_room, bytes_if_room}
use Rattle.texts.specs.Groups.{max_groups, max_size, vars_in, expanded_entries}
use Rattle.texts.specs.GroupsReading.{GroupsJudged, accepted, refused, judge_parts, judge_groups, Part}
use Rattle.texts.specs.GroupsGrammar.{GroupsText}
use Rattle.texts.specs.GroupsRefusals.{Stops, bad_token, bad_groups, bad_size, many_vars, many_clauses, token_behind, token_over_vars}
use Rattle.texts.specs.GroupsRefusals.{GroupsRefuses, short_buffer, long_text, at_token, short_text, long_list}
use Rattle.texts.specs.GroupsPrinted.{value_word, value_line, group_lines, groups_table_by, groups_table_of_run, groups_run, groups_table_of_list}
use Rattle.texts.specs.GroupsPrinted.{groups_table_of_judged, groups_table_of, max_groups_table, PrintsGroups}
use Rattle.rules.proofs.Quoted.{quoted}
use Rattle.texts.proofs.DecimalLaws.{decimal_most}
use Rattle.texts.proofs.PrintedLaws.{lines_in}
use Rattle.texts.proofs.PlaceLaws.{token_in}
use Rattle.texts.proofs.TableLaws.{length-refused_line, length-answer_line, Bounded, run_bounded}
use Rattle.texts.proofs.GroupsJudged.{GroupsVerdict, refuses, accepts, judge_of_verdict, verdict_of_judge}
use Rattle.texts.proofs.GroupsAccepted.{text_of_whole, whole_of_text}
use Rattle.texts.proofs.GroupsRead.{groups_runs}

-- ---- the run of the table

pub groups_run_accepted : {text ss : List ℕ} {c : ℕ} {es : List ℤ} → GroupsText text ss c es → Accepted (groups_run ss (expanded_entries ss es))
groups_run_accepted {ss = ss} {es = es} t =
    groups_runs (groups_run ss (expanded_entries ss es)) t refl refl
    (record {
      in_limits = record { vars_fit = t.sizes_fit.vars_fit; limit_some = omega arith; limit_fits = omega arith };
      status_fits = omega (arith, length-replicate {A = ℕ} (vars_in ss) 0);
      calls_fit = omega (arith, length-replicate {A = ℕ} (vars_in ss) 0);
      ways_fit = omega (arith, length-replicate {A = ℕ} (vars_in ss) 0);
      hints_fit = omega (arith, length-replicate {A = ℕ} (vars_in ss) 0);
      log_fits = omega (arith, length-replicate {A = ℕ} (log_length (vars_in ss)) 0);
    })
    (record { few = omega arith; up_to = λ l i. absurd (Memᴰ.not-nil i) })

-- ---- lines

length-value_word : (s : ℕ) → length (value_word s) ≤ 8
length-value_word zero = omega arith
length-value_word (suc zero) = omega arith
length-value_word (suc (suc zero)) = omega arith
length-value_word (suc (suc (suc s))) = omega arith

length_value_lines : (g k : ℕ) (ss : List ℕ) → g ≤ 999 → k + length ss ≤ 100 → length (pieces (value_line g) k ss) ≤ 15 * length ss
length_value_lines g k [] h l = omega arith
length_value_lines g k (s ∷ ss) h l =
    simp length-append
    (omega (
      arith,
      decimal_most 3 g (omega arith) (omega arith),
      decimal_most 2 k (omega arith) (omega arith),
      length-value_word s,
      length_value_lines g (suc k) ss h (omega arith),
    ))

length-take : (n : ℕ) (ss : List ℕ) → (length (take n ss) ≤ n) × (length (take n ss) + length (drop n ss) ≡ length ss)
length-take zero ss = (omega arith, omega arith)
length-take (suc n) [] = (omega arith, omega arith)
length-take (suc n) (s ∷ ss) = let (a, b) = length-take n ss in (omega (arith, a), omega (arith, b))

length-group_lines : (g : ℕ) (ns ss : List ℕ) → g + length ns ≤ 999 → ((n : ℕ) → In n ns → n ≤ max_size) → length (group_lines g ns ss) ≤ 15 * length ss
length-group_lines g [] ss h f = omega arith
length-group_lines g (n ∷ ns) ss h f =
    let (few, both) = length-take n ss in
    omega (
      arith,
      both,
      length-append (pieces (value_line g) 1 (take n ss)) (group_lines (suc g) ns (drop n ss)),
      length_value_lines g 1 (take n ss) (omega arith) (omega (arith, few, f n (Memᴰ.head refl))),
      length-group_lines (suc g) ns (drop n ss) (omega arith) (λ k i. f k (Memᴰ.tail i)),
    )

-- ---- how long a table is at most

groups_number_le : (a : GroupsAnswer) → groups_number a ≤ 16
groups_number_le GroupsAnswer.Accepted = omega arith
groups_number_le GroupsAnswer.ShortBuffer = omega arith
groups_number_le GroupsAnswer.LongText = omega arith
groups_number_le (GroupsAnswer.OverSizes at) = omega arith
groups_number_le (GroupsAnswer.BadToken at) = omega arith
groups_number_le (GroupsAnswer.TokenBehind at) = omega arith
groups_number_le (GroupsAnswer.TokenOverVars at) = omega arith
groups_number_le (GroupsAnswer.ShortText at) = omega arith
groups_number_le GroupsAnswer.LongList = omega arith
groups_number_le (GroupsAnswer.BadGroup at) = omega arith

stops_place : {p : Part} {t : Piece} {a : GroupsAnswer} → Stops p t a → groups_place a ≡ t.at
stops_place (bad_token f) = refl
stops_place (bad_groups w f) = refl
stops_place (bad_size w f) = refl
stops_place (many_vars w b h) = refl
stops_place (many_clauses w f) = refl
stops_place (token_behind w h) = refl
stops_place (token_over_vars w h u) = refl

pub groups_refuses_place : {entries sizes : ℕ} {text : List ℕ} {a : GroupsAnswer} → GroupsRefuses entries sizes text a → groups_place a ≤ max_text
groups_refuses_place (short_buffer h) = omega arith
groups_refuses_place (long_text h k l) = omega arith
groups_refuses_place {text = text} (at_token before t after b e p s) =
    omega (
      arith,
      b.text_fits,
      stops_place s,
      token_in (record { at = 0; bytes = text }) {t = t} (rw e (Memᴰ.append_right before (Memᴰ.head refl))),
    )
groups_refuses_place (short_text b p u) = b.text_fits
groups_refuses_place (long_list b p h k) = omega arith

length_ran : {ss : List ℕ} {r : Report} {st hs : List ℕ} → Bounded (vars_in ss) r st hs → length ss ≤ max_groups → ((n : ℕ) → In n ss → n ≤ max_size)
    → length (groups_table_of_run ss r st) ≤ max_groups_table
length_ran {ss} {r} {st} b few f = go b.answer_is
  where
    first : length (answer_line (vars_in ss) r) ≤ 63
    first = length-answer_line (vars_in ss) r b.vars_fit b.calls_fit b.tries_fit b.forced_fit b.free_fit

    all_lines : length (answer_line (vars_in ss) r ++ group_lines 1 ss st) ≤ max_groups_table
    all_lines =
        omega (
          arith,
          first,
          length-append (answer_line (vars_in ss) r) (group_lines 1 ss st),
          length-group_lines 1 ss st (omega arith) f,
          b.lines,
          b.vars_fit,
        )

    go : (r.answer ≡ RunAnswer.Settled) ⊎ ((r.answer ≡ RunAnswer.NoModel) ⊎ (r.answer ≡ RunAnswer.Stopped))
        → length (groups_table_of_run ss r st) ≤ max_groups_table
    go (inl e) = rw (ap (λ (a : RunAnswer). length (groups_table_by a ss r st)) e) all_lines
    go (inr (inl e)) = rw (ap (λ (a : RunAnswer). length (groups_table_by a ss r st)) e) (omega (arith, first))
    go (inr (inr e)) = rw (ap (λ (a : RunAnswer). length (groups_table_by a ss r st)) e) all_lines

pub length-groups_table_of : (text : List ℕ) → length (groups_table_of text) ≤ max_groups_table
unfolding groups_table_of
length-groups_table_of text = go (judge_groups max_entries max_groups text) (verdict_of_judge max_entries max_groups text refl)
  where
    go : (j : GroupsJudged) → GroupsVerdict max_entries max_groups text j → length (groups_table_of_judged j) ≤ max_groups_table
    go (refused a) (refuses r) =
        omega (arith, length-refused_line (groups_number a) (groups_place a) (omega (arith, groups_number_le a)) (groups_refuses_place r))
    go (accepted ss c es) (accepts w) =
        let t = text_of_whole w in
        length_ran (run_bounded (groups_run ss (expanded_entries ss es)) (groups_run_accepted t) (omega arith)
        (length-replicate {A = ℕ} (vars_in ss) 0) (length-replicate {A = ℕ} (vars_in ss) 0))
        t.sizes_fit.groups_fit (λ n i. (t.sizes_fit.each_fits n i).1)

-- ---- the contract

pub prints_groups_exists : (text before : List ℕ)
    → PrintsGroups text before (count_if_room (leb max_groups_table (length before)) (groups_table_of text))
    (bytes_if_room (leb max_groups_table (length before)) (groups_table_of text) before)
prints_groups_exists text before = record { count_is = refl; after_is = refl }

pub prints_groups_unique : {text before : List ℕ} {n n' : ℕ} {b b' : List ℕ} → PrintsGroups text before n b → PrintsGroups text before n' b'
    → (n ≡ n') × (b ≡ b')
prints_groups_unique p q = (p.count_is ∙ sym q.count_is, p.after_is ∙ sym q.after_is)

-- ---- the table of a text

pub groups_table_refused : (text : List ℕ) (a : GroupsAnswer) → GroupsRefuses max_entries max_groups text a
    → groups_table_of text ≡ refused_line (groups_number a) (groups_place a)
unfolding groups_table_of
groups_table_refused text a r = ap groups_table_of_judged (judge_of_verdict (refuses r))

pub groups_table_list : {text ss : List ℕ} {c : ℕ} {es : List ℤ} → GroupsText text ss c es
    → groups_table_of text ≡ groups_table_of_list ss (expanded_entries ss es)
unfolding groups_table_of
groups_table_list t = ap groups_table_of_judged (judge_of_verdict (accepts (whole_of_text max_entries max_groups (omega arith) (omega arith) t)))

-- ---- tables computed

pub record GroupsShown : Type 0 where
  pub text : String
  pub table : List String

abbrev shows : String → List String → GroupsShown
shows text table = record { text = text; table = table }

abbrev pub group_tables : List GroupsShown
group_tables =
    -- one group: each value is free
    shows "1 2 0" ("answer 0 calls 2 tries 1 forced 0 free 2 open 0\n" ∷ "1:1 free\n" ∷ "1:2 free\n" ∷ []) ∷
    -- a value that is dead, and one that is settled; value 2 of group 2 is variable 5
    shows "2 3 2 2 -1 0 5 0\n"
    ("answer 0 calls 5 tries 3 forced 3 free 2 open 0\n" ∷ "1:1 dead\n" ∷ "1:2 free\n" ∷ "1:3 free\n" ∷ "2:1 dead\n" ∷ "2:2 settled\n" ∷ []) ∷
    -- only the first line after 20, and only the refusal if there is one
    shows "1 2 2 -1 0 -2 0" ("answer 20 calls 1 tries 0 forced 0 free 0 open 2\n" ∷ []) ∷
    shows "1 17 0" ("refused 16 place 2\n" ∷ []) ∷
    -- no group
    shows "0 0" ("answer 0 calls 1 tries 0 forced 0 free 0 open 0\n" ∷ []) ∷
    []

abbrev pub passes : GroupsShown → Bool
passes s = eqs (groups_table_of (quoted s.text)) (lines_in s.table)

pub shown_groups : all passes group_tables ≡ true
unfolding groups_table_of judge_groups judge_parts numeral entry_of expanded_entries
    state_of close_in closing go_on call_on chunk_call chunks_in chunks first_call run refusal_of report_of status_after hints_of hints_after decimal decimal_in
shown_groups = refl

-- a stopped run
pub shown_stopped : groups_table_of_run (2 ∷ 3 ∷ []) (record { answer = RunAnswer.Stopped; calls = 4; tries = 1000000; forced = 2; free = 1 })
    (2 ∷ 3 ∷ 0 ∷ 1 ∷ 0 ∷ [])
    ≡ lines_in ("answer 21 calls 4 tries 1000000 forced 2 free 1 open 2\n" ∷ "1:1 settled\n" ∷ "1:2 dead\n" ∷ "2:1 open\n" ∷ "2:2 free\n" ∷ "2:3 open\n" ∷ [])
unfolding decimal decimal_in
shown_stopped = refl
