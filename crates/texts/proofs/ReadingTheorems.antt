-- What we promise of a reading (docs/RULES.md, "The text" and "What comes back"): what a caller sees, for every text and every buffer.
--
--   read_accepts, read_accepted   accepted exactly if the text is DIMACS CNF, with its V, C and entries
--   read_refuses, read_refused    refused with a number exactly if the rule of that number says so
--   reads_exists, reads_unique    there is a result that meets the contract, and no second one
--   length-filled, length_entries_after     nothing beyond the buffer is written
--   refused_keeps, refused_clears, refused_counts     after 1 and 2 the buffer is as it was, after 3 to 9 it has zeros; no counts
--   accepted_fills                the entries, zeros, and the rest as it was
--   SmallText, small_texts, answer_to, passes, small_texts_lem     the small texts of docs/RULES.md, computed
--
-- Assumes nothing.
use mathlib.Core.Path.{◌≡◌, refl, sym, ◌∙◌, ap, subst, subst₂}
use mathlib.Core.Logic.{◌≢◌, ◌↔◌, ◌⊎◌, ⊎_elim}
use mathlib.Core.Bool.{Bool, true, ◌&&◌}
use mathlib.Core.List.{List, [], ◌∷◌, ◌++◌, append_assoc}
use Prim.Native.Nat.{ℕ, ◌-◌, ◌≤◌}
use Prim.Native.String.{String}
use native.Mathlib.Omega.{arith}
use lib.Dec.{eqb}
use lib.IntN.{ℤ, pos}
use lib.ListN.{length, take, drop, replicate, length-append, length-replicate, length-drop}
use lib.Seq.{take-append_seam, drop-append_seam, take_at, drop_at}
use Rattle.rules.specs.declared.ReadAnswer.{ReadAnswer}
use Rattle.rules.specs.declared.Reading.{Reading}
use Rattle.rules.specs.Lists.{all}
use Rattle.rules.specs.Numbers.{max_entries, read_number, read_place}
use Rattle.texts.specs.Text.{Sizes, lines_of, tokens_from, numeral, header_of, entry_of}
use Rattle.texts.specs.Reading.{Judged, accepted, refused, judge, judge_tokens, judge_lines, returned, reading_of, filled, written, entries_after, Reads}
use Rattle.texts.specs.Grammar.{Dimacs}
use Rattle.texts.specs.Refusals.{Begun, Refuses, short_buffer, long_text, no_header, bad_header, large_header}
use Rattle.texts.specs.Refusals.{bad_token, token_behind, token_over_vars, many_tokens, short_text}
use Rattle.rules.proofs.Quoted.{quoted}
use Rattle.texts.proofs.VerdictLaws.{Verdict, refuses, accepts, verdict_of_judge}
use Rattle.texts.proofs.GrammarLaws.{dimacs_of_whole, accepted_sound, accepted_complete}
use Rattle.texts.proofs.RefusalLaws.{refusal_sound, refusal_complete, accepted_never_answer}

-- ---- accepted

-- the entries stand in front of what the buffer holds
filled_front : (es before : List ℤ) → take (length es) (filled es before) ≡ es
filled_front es before =
    ap (take (length es)) (append_assoc es (replicate (max_entries - length es) (pos 0)) (drop max_entries before)) ∙
    take-append_seam es (replicate (max_entries - length es) (pos 0) ++ drop max_entries before)

filled_inj : (xs ys before : List ℤ) → length xs ≡ length ys → filled xs before ≡ filled ys before → xs ≡ ys
filled_inj xs ys before n e =
    sym (filled_front xs before) ∙ ap (take (length xs)) e ∙ ap (λ (i : ℕ). take i (filled ys before)) n ∙ filled_front ys before

-- A long enough buffer gets V, C and the entry count of a DIMACS text, its entries, zeros, and keeps its rest; and no other text does so.
pub read_accepts : (text : List ℕ) (before : List ℤ) → max_entries ≤ length before → (s : Sizes) (es : List ℤ)
    → Dimacs text s.vars s.clauses es
    ↔ ((reading_of text before ≡ record { answer = ReadAnswer.Accepted; vars = s.vars; clauses = s.clauses; entries = length es })
    × (entries_after text before ≡ filled es before))
unfolding reading_of entries_after
read_accepts text before h s es = (
  λ d. let e = accepted_complete (length before) text h d in (ap returned e, ap (λ (j : Judged). written j before) e),
  λ w. go (judge (length before) text) refl w.0 w.1,
)
  where
    go : (j : Judged) → judge (length before) text ≡ j
        → returned j ≡ record { answer = ReadAnswer.Accepted; vars = s.vars; clauses = s.clauses; entries = length es }
        → written j before ≡ filled es before → Dimacs text s.vars s.clauses es
    go (accepted z xs) q r b =
        let same : xs ≡ es = filled_inj xs es before (ap (λ (r : Reading). r.entries) r) b in
        let found : Dimacs text z.vars z.clauses xs = accepted_sound (length before) text q in
        subst (λ (ys : List ℤ). Dimacs text s.vars s.clauses ys) same
        (subst₂ (λ (v c : ℕ). Dimacs text v c xs) (ap (λ (r : Reading). r.vars) r) (ap (λ (r : Reading). r.clauses) r) found)
    go (refused a) q r b = absurd (accepted_never_answer (length before) text (q ∙ ap refused (ap (λ (r : Reading). r.answer) r)))

-- If the answer is "accepted", the buffer was long enough and the text is a DIMACS text.
pub read_accepted : (text : List ℕ) (before : List ℤ) → (reading_of text before).answer ≡ ReadAnswer.Accepted
    → (max_entries ≤ length before) × (s : Sizes) × (es : List ℤ) × Dimacs text s.vars s.clauses es
unfolding reading_of
read_accepted text before e = go (judge (length before) text) refl e
  where
    whole : {s : Sizes} {es : List ℤ} → Verdict (length before) text (accepted s es)
        → (max_entries ≤ length before) × (s : Sizes) × (es : List ℤ) × Dimacs text s.vars s.clauses es
    whole {s} {es} (accepts w) = (w.begun.room_fits, s, es, dimacs_of_whole w)

    go : (j : Judged) → judge (length before) text ≡ j → (returned j).answer ≡ ReadAnswer.Accepted
        → (max_entries ≤ length before) × (s : Sizes) × (es : List ℤ) × Dimacs text s.vars s.clauses es
    go (accepted s es) q r = whole (verdict_of_judge (length before) text q)
    go (refused a) q r = absurd (accepted_never_answer (length before) text (q ∙ ap refused r))

-- ---- refused

-- A text gets the answer of a refusal exactly if the rule for that answer says so.
pub read_refuses : (text : List ℕ) (before : List ℤ) (a : ReadAnswer) → a ≢ ReadAnswer.Accepted
    → ((reading_of text before).answer ≡ a) ↔ Refuses (length before) text a
unfolding reading_of
read_refuses text before a n =
    (λ e. go (judge (length before) text) refl e, λ r. ap (λ (j : Judged). (returned j).answer) (refusal_complete (length before) text r))
  where
    go : (j : Judged) → judge (length before) text ≡ j → (returned j).answer ≡ a → Refuses (length before) text a
    go (accepted s es) q r = absurd (n (sym r))
    go (refused b) q r = refusal_sound (length before) text (q ∙ ap refused r)

-- A refused reading returns no counts, and its buffer is as the answer says.
pub read_refused : (text : List ℕ) (before : List ℤ) (a : ReadAnswer) → Refuses (length before) text a
    → (reading_of text before ≡ record { answer = a; vars = 0; clauses = 0; entries = 0 }) × (entries_after text before ≡ written (refused a) before)
unfolding reading_of entries_after
read_refused text before a r = let e = refusal_complete (length before) text r in (ap returned e, ap (λ (j : Judged). written j before) e)

-- ---- the contract

-- There is a result that meets the contract.
pub reads_exists : (text : List ℕ) (before : List ℤ) → Reads text before (reading_of text before) (entries_after text before)
reads_exists text before = record { result_is = refl; after_is = refl }

-- No second result meets it.
pub reads_unique : {text : List ℕ} {before : List ℤ} {r r' : Reading} {b b' : List ℤ} → Reads text before r b
    → Reads text before r' b' → (r ≡ r') × (b ≡ b')
reads_unique p q = (p.result_is ∙ sym q.result_is, p.after_is ∙ sym q.after_is)

-- ---- the buffer

pub length-filled : (es before : List ℤ) → length es ≤ max_entries → max_entries ≤ length before → length (filled es before) ≡ length before
length-filled es before h k = simp (length-append, length-replicate, length-drop) (omega arith)

module _ (text : List ℕ) (before : List ℤ) where
  -- after 3 to 9: the buffer is long enough
  length-cleared : Begun (length before) text → length (filled [] before) ≡ length before
  length-cleared b = length-filled [] before (omega arith) b.room_fits

  length_refused : {a : ReadAnswer} → Refuses (length before) text a → length (written (refused a) before) ≡ length before
  length_refused (short_buffer h) = refl
  length_refused (long_text h k) = refl
  length_refused (no_header b h) = length-cleared b
  length_refused (bad_header line b f h) = length-cleared b
  length_refused (large_header line v c b f h k) = length-cleared b
  length_refused (bad_token s es t w h) = length-cleared w.begun
  length_refused (token_behind s es t l w h k) = length-cleared w.begun
  length_refused (token_over_vars s es t l w h k u) = length-cleared w.begun
  length_refused (many_tokens s es t l w h k u m) = length-cleared w.begun
  length_refused (short_text line s es b h f k) = length-cleared b

  -- A reading writes nothing beyond the buffer that is lent.
  pub length_entries_after : length (entries_after text before) ≡ length before
  unfolding entries_after
  length_entries_after = go (verdict_of_judge (length before) text refl)
    where
      go : {j : Judged} → Verdict (length before) text j → length (written j before) ≡ length before
      go (refuses r) = length_refused r
      go (accepts {es} w) = length-filled es before w.fine.most w.begun.room_fits

-- ---- what the buffer holds and what is counted, number by number, in the words of "What comes back"

-- After 1 and 2 nothing is written.
pub refused_keeps : (text : List ℕ) (before : List ℤ) → (read_number (reading_of text before).answer ≡ 1) ⊎ (read_number (reading_of text before).answer ≡ 2)
    → entries_after text before ≡ before
unfolding reading_of entries_after
refused_keeps text before h = go (judge (length before) text) (⊎_elim (λ e. omega arith) (λ e. omega arith) h) (⊎_elim (λ e. omega arith) (λ e. omega arith) h)
  where
    go : (j : Judged) → 1 ≤ read_number (returned j).answer → read_number (returned j).answer ≤ 2 → written j before ≡ before
    go (accepted s es) h k = absurd (omega arith)
    go (refused ReadAnswer.Accepted) h k = refl
    go (refused ReadAnswer.ShortBuffer) h k = refl
    go (refused ReadAnswer.LongText) h k = refl
    go (refused (ReadAnswer.BadHeader at)) h k = absurd (omega arith)
    go (refused (ReadAnswer.LargeHeader at)) h k = absurd (omega arith)
    go (refused (ReadAnswer.BadToken at)) h k = absurd (omega arith)
    go (refused (ReadAnswer.TokenBehind at)) h k = absurd (omega arith)
    go (refused (ReadAnswer.TokenOverVars at)) h k = absurd (omega arith)
    go (refused (ReadAnswer.ManyTokens at)) h k = absurd (omega arith)
    go (refused (ReadAnswer.ShortText at)) h k = absurd (omega arith)

-- After 3 to 9 the first 4,096 entries are zeros, and the rest is as it was.
pub refused_clears : (text : List ℕ) (before : List ℤ) → 3 ≤ read_number (reading_of text before).answer
    → entries_after text before ≡ replicate 4096 (pos 0) ++ drop 4096 before
unfolding reading_of entries_after
refused_clears text before h = go (judge (length before) text) h
  where
    go : (j : Judged) → 3 ≤ read_number (returned j).answer → written j before ≡ replicate 4096 (pos 0) ++ drop 4096 before
    go (accepted s es) h = absurd (omega arith)
    go (refused ReadAnswer.Accepted) h = absurd (omega arith)
    go (refused ReadAnswer.ShortBuffer) h = absurd (omega arith)
    go (refused ReadAnswer.LongText) h = absurd (omega arith)
    go (refused (ReadAnswer.BadHeader at)) h = refl
    go (refused (ReadAnswer.LargeHeader at)) h = refl
    go (refused (ReadAnswer.BadToken at)) h = refl
    go (refused (ReadAnswer.TokenBehind at)) h = refl
    go (refused (ReadAnswer.TokenOverVars at)) h = refl
    go (refused (ReadAnswer.ManyTokens at)) h = refl
    go (refused (ReadAnswer.ShortText at)) h = refl

-- After every refusal V, C and the entry count are zero.
pub refused_counts : (text : List ℕ) (before : List ℤ) → 1 ≤ read_number (reading_of text before).answer
    → ((reading_of text before).vars ≡ 0) × ((reading_of text before).clauses ≡ 0) × ((reading_of text before).entries ≡ 0)
unfolding reading_of
refused_counts text before h = go (judge (length before) text) h
  where
    go : (j : Judged) → 1 ≤ read_number (returned j).answer
        → ((returned j).vars ≡ 0) × ((returned j).clauses ≡ 0) × ((returned j).entries ≡ 0)
    go (accepted s es) h = absurd (omega arith)
    go (refused a) h = (refl, refl, refl)

-- An accepted text's entries stand in front, then zeros up to 4,096, and the rest is as it was.
pub accepted_fills : (text : List ℕ) (before : List ℤ) {vars clauses : ℕ} {es : List ℤ} → 4096 ≤ length before → Dimacs text vars clauses es
    → (take (length es) (entries_after text before) ≡ es)
    × (take (4096 - length es) (drop (length es) (entries_after text before)) ≡ replicate (4096 - length es) (pos 0))
    × (drop 4096 (entries_after text before) ≡ drop 4096 before)
accepted_fills text before {vars} {clauses} {es} h d =
    rw ((read_accepts text before h (record { vars = vars; clauses = clauses }) es).0 d).1 (front, middle, back)
  where
    front : take (length es) (filled es before) ≡ es
    front = filled_front es before

    middle : take (4096 - length es) (drop (length es) (filled es before)) ≡ replicate (4096 - length es) (pos 0)
    middle =
        ap (λ (xs : List ℤ). take (4096 - length es) (drop (length es) xs)) (append_assoc es (replicate (4096 - length es) (pos 0)) (drop 4096 before)) ∙
        ap (take (4096 - length es)) (drop-append_seam es (replicate (4096 - length es) (pos 0) ++ drop 4096 before)) ∙
        take_at (replicate (4096 - length es) (pos 0)) (drop 4096 before) (4096 - length es) (length-replicate (4096 - length es) (pos 0))

    back : drop 4096 (filled es before) ≡ drop 4096 before
    back =
        drop_at (es ++ replicate (4096 - length es) (pos 0)) (drop 4096 before) 4096
        (length-append es (replicate (4096 - length es) (pos 0)) ∙ omega (arith, length-replicate (4096 - length es) (pos 0), d.entries_fit))

-- ---- the four small texts, each after `p cnf 1 1` and LF

pub record SmallText : Type 0 where
  pub behind : String
  pub number : ℕ
  pub place : ℕ

unfoldable pub small_texts : List SmallText
small_texts =
    record { behind = "2 0"; number = 7; place = 10 } ∷
    record { behind = "-0 0"; number = 5; place = 10 } ∷
    record { behind = "1\n"; number = 9; place = 12 } ∷
    record { behind = "1 0 1 0"; number = 6; place = 14 } ∷
    []

-- the answer to such a text, with a buffer of 4,096 entries
unfoldable pub answer_to : String → ReadAnswer
answer_to behind = (reading_of (quoted "p cnf 1 1\n" ++ quoted behind) (replicate 4096 (pos 0))).answer

unfoldable pub passes : SmallText → Bool
passes t = eqb (read_number (answer_to t.behind)) t.number && eqb (read_place (answer_to t.behind)) t.place

-- The small texts of docs/RULES.md get the numbers and places that it gives.
pub small_texts_lem : all passes small_texts ≡ true
unfolding small_texts passes answer_to reading_of judge lines_of judge_lines header_of numeral tokens_from judge_tokens entry_of
small_texts_lem = refl
