-- The laws of the buffer: what src/tokens.rt stores, what src/lib.rt clears, and that a reading is what rules defines.
--
--   cleared_is                    zeros in a part of the buffer
--   with_entries_snoc              an entry more in front of a judgement
--   Progress, progress_start, progress_step   the entries before the cursor are stored
--   progress_refused, progress_ended          what is stored when the tokens end
--   stores_of, stores_refused     a judgement that is another; a refusal before any entry
--   reading_is                    a reading, or a refusal as it is returned
--   late_lines, written_late      the text itself is never refused with 1 or 2, so the first 4,096 entries are written
--   read_short, read_long, read_done          the three ways a reading ends; stores_count: its count is at most 4,096
--
-- Assumes nothing.
use mathlib.Core.Path.{◌≡◌, refl, sym, ◌∙◌, ap, ap₂}
use mathlib.Core.Bool.{Bool, true, false}
use mathlib.Core.List.{List, [], ◌∷◌, ◌++◌, append_assoc}
use mathlib.Core.Option.{Option, none, some}
use Prim.Native.Nat.{ℕ, suc, ◌+◌, ◌-◌, ◌≤◌, ◌<◌}
use native.Mathlib.Omega.{arith}
use borrow.Author.Tests.{lt-ltb, le-ltb}
use lib.Dec.{leb, ltb}
use lib.IntN.{ℤ, pos, nat_abs}
use lib.ListN.{length, set, take, drop, replicate, length-set}
use lib.Seq.{drop-drop, length-take-le, take-suc-set, drop-set-lt}
use borrow.Rule.Slice.PartMut.{put_mid}
use Rattle.std.specs.Prelude.{Result, Ok, Err, MatchResult}
use Rattle.rules.specs.declared.ReadAnswer.{ReadAnswer}
use Rattle.rules.specs.declared.Reading.{Reading}
use Rattle.rules.specs.Lists.{check, first_of, count_if, is_zero}
use Rattle.rules.specs.Numbers.{max_text, max_entries}
use Rattle.texts.specs.Text.{Piece, Sizes, is_skipped, header_of, entry_of, lines_of, tokens_from}
use Rattle.texts.specs.Reading.{Judged, accepted, refused, unless, with_entry, judge_token, judge_end, ends_text, or_ended, judge_tokens, judge_sizes, fits}
use Rattle.texts.specs.Reading.{judge_header, judge_line, judge_lines, judge, returned, reading_of, filled, written, entries_after, Reads}
use Rattle.rules.proofs.ListLaws.{never}
use Rattle.texts.proofs.JudgeLaws.{with_entries, with_entries_refused, with_entries_accepted}
use Rattle.reader.specs.declared.header.Header.{Header}
use Rattle.reader.specs.declared.tokens.Cursor.{Cursor}
use Rattle.reader.specs.Words.{sizes}
use Rattle.reader.specs.Steps.{start, left, After}
use Rattle.reader.specs.Stores.{cleared, list_of, reading, Stores}

-- ---- zeros

pub cleared_is :
    (before ys : List ℤ) (from to : ℕ) → from ≤ to → ys ≡ replicate (to - from) (pos 0) →
    put_mid from (to - from) before ys ≡ cleared before from to
cleared_is before ys from to h e =
    let past : from + (to - from) ≡ to = omega arith in
    rw (e, drop-drop (to - from) from before, past, append_assoc)

-- ---- entries in front of a judgement

with_entries_snoc : (ls : List ℤ) (l : ℤ) (j : Judged) → with_entries ls (with_entry l j) ≡ with_entries (ls ++ l ∷ []) j
with_entries_snoc [] l j = refl
with_entries_snoc (k ∷ ls) l j = ap (with_entry k) (with_entries_snoc ls l j)

-- ---- the entries before the cursor are stored

pub record Progress (h : Header) (text : List ℕ) (from : ℕ) (before : List ℤ) (c : Cursor) (now : List ℤ) : Type 0 where
  pub most : c.entries ≤ max_entries
  pub long : length now ≡ length before
  pub rest : drop max_entries now ≡ drop max_entries before
  pub judged : left h text (start from) ≡ with_entries (take c.entries now) (left h text c)

pub progress_start : (h : Header) (text : List ℕ) (from : ℕ) (before : List ℤ) → Progress h text from before (start from) before
progress_start h text from before = record { most = omega arith; long = refl; rest = refl; judged = refl }

module _ (h : Header) (text : List ℕ) (from : ℕ) (before : List ℤ) (room : max_entries ≤ length before)
    (c : Cursor) (now : List ℤ) (p : Progress h text from before c now) where
  pub progress_step :
      (l : ℤ) (next : Cursor) → After h text c (left h text c) l next → Progress h text from before next (set now c.entries l)
  progress_step l next a =
      let there : c.entries < length now = omega (arith, p.long, a.room) in
      let more : next.entries ≡ suc c.entries = omega (arith, a.count) in
      record {
        most = omega (arith, a.count, a.room);
        long = length-set now c.entries l ∙ p.long;
        rest = drop-set-lt max_entries now c.entries l a.room ∙ p.rest;
        judged =
            p.judged ∙
            ap (with_entries (take c.entries now)) a.judged ∙
            with_entries_snoc (take c.entries now) l (left h text next) ∙
            ap (λ (es : List ℤ). with_entries es (left h text next))
            (sym (ap (λ (n : ℕ). take n (set now c.entries l)) more ∙ take-suc-set now c.entries l there));
      }

  pub progress_refused :
      (a : ReadAnswer) → left h text c ≡ refused a → Stores (left h text (start from)) before (returned (refused a)) now
  progress_refused a e =
      rw (p.judged ∙ ap (with_entries (take c.entries now)) e ∙ with_entries_refused (take c.entries now) a)
      (record { result_is = refl; list_is = refl; most = omega arith; rest_is = p.rest })

  pub progress_ended :
      left h text c ≡ accepted (sizes h) [] →
      Stores (left h text (start from)) before (record { answer = ReadAnswer.Accepted; vars = h.vars; clauses = h.clauses; entries = c.entries }) now
  progress_ended e =
      let long : length (take c.entries now) ≡ c.entries = length-take-le c.entries now (omega (arith, p.long, p.most)) in
      rw (p.judged ∙ ap (with_entries (take c.entries now)) e ∙ with_entries_accepted (take c.entries now) (sizes h))
      (record {
        result_is = ap (λ (n : ℕ). record { answer = ReadAnswer.Accepted; vars = h.vars; clauses = h.clauses; entries = n }) (sym long);
        list_is = ap (λ (n : ℕ). take n now) long;
        most = omega (arith, long, p.most);
        rest_is = p.rest;
      })

-- ---- a judgement by another

pub stores_of : {j k : Judged} {before : List ℤ} {r : Reading} {after : List ℤ} → j ≡ k → Stores k before r after → Stores j before r after
stores_of e s = rw e s

-- a reading, or a refusal as it is returned
pub reading_is : (o : Result Reading ReadAnswer) (r : Reading) → MatchResult o (λ x. r ≡ x) (λ a. r ≡ returned (refused a)) → r ≡ reading o
reading_is (Ok x) r e = e
reading_is (Err a) r e = e

-- a refusal before any entry
pub stores_refused :
    {j : Judged} {a : ReadAnswer} (before : List ℤ) → j ≡ refused a → Stores j before (returned (refused a)) before
stores_refused before e = stores_of e (record { result_is = refl; list_is = refl; most = omega arith; rest_is = refl })

-- ---- the text itself is never refused with 1 or 2

abbrev late : ReadAnswer → Bool
late ReadAnswer.Accepted = false
late ReadAnswer.ShortBuffer = false
late ReadAnswer.LongText = false
late (ReadAnswer.BadHeader at) = true
late (ReadAnswer.LargeHeader at) = true
late (ReadAnswer.BadToken at) = true
late (ReadAnswer.TokenBehind at) = true
late (ReadAnswer.TokenOverVars at) = true
late (ReadAnswer.ManyTokens at) = true
late (ReadAnswer.ShortText at) = true

abbrev is_late : Judged → Bool
is_late (accepted s es) = true
is_late (refused a) = late a

late_entry : (l : ℤ) (j : Judged) → is_late j ≡ true → is_late (with_entry l j) ≡ true
late_entry l (accepted s es) h = refl
late_entry l (refused a) h = h

late_rules :
    (b d e : Bool) (at : ℕ) (j : Judged) → is_late j ≡ true →
    is_late (unless (first_of (check b (ReadAnswer.TokenBehind at) ∷ check d (ReadAnswer.TokenOverVars at) ∷ check e (ReadAnswer.ManyTokens at) ∷ [])) j) ≡ true
late_rules true d e at j h = refl
late_rules false true e at j h = refl
late_rules false false true at j h = refl
late_rules false false false at j h = h

late_tokens : (s : Sizes) (end k n : ℕ) (ts : List Piece) → is_late (judge_tokens s end k n ts) ≡ true
unfolding judge_tokens
late_tokens s end k n [] = go (ltb k s.clauses)
  where
    go : (t : Bool) → is_late (judge_end t s end) ≡ true
    go true = refl
    go false = refl
late_tokens s end k n (t ∷ ts) = go (ends_text s k t.bytes) (entry_of t.bytes) (λ j. late_tokens s end j (suc n) ts)
  where
    go :
        (b : Bool) (o : Option ℤ) → ((j : ℕ) → is_late (judge_tokens s end j (suc n) ts) ≡ true) →
        is_late (or_ended b s (judge_token o s k n t.at (λ j. judge_tokens s end j (suc n) ts))) ≡ true
    go true o ih = refl
    go false none ih = refl
    go false (some l) ih =
        late_rules (leb s.clauses k) (ltb s.vars (nat_abs l)) (leb max_entries n) t.at
        (with_entry l (judge_tokens s end (count_if (is_zero l) k) (suc n) ts))
        (late_entry l (judge_tokens s end (count_if (is_zero l) k) (suc n) ts) (ih (count_if (is_zero l) k)))

late_header : (text : List ℕ) (line : Piece) (o : Option Sizes) → is_late (judge_header o text line) ≡ true
late_header text line none = refl
late_header text line (some s) = go (fits s)
  where
    go : (t : Bool) → is_late (judge_sizes t s text line) ≡ true
    go true = late_tokens s (length text) 0 0 (tokens_from (line.at + length line.bytes) (drop (line.at + length line.bytes) text))
    go false = refl

late_lines : (text : List ℕ) (lines : List Piece) → is_late (judge_lines text lines) ≡ true
unfolding judge_lines
late_lines text [] = refl
late_lines text (line ∷ lines) = go (is_skipped line) (late_lines text lines)
  where
    go : (t : Bool) → is_late (judge_lines text lines) ≡ true → is_late (judge_line t text line (judge_lines text lines)) ≡ true
    go true ih = ih
    go false ih = late_header text line (header_of line.bytes)

written_late : (j : Judged) (before : List ℤ) → is_late j ≡ true → written j before ≡ filled (list_of j) before
written_late (accepted s es) before h = refl
written_late (refused ReadAnswer.Accepted) before h = absurd (never h refl)
written_late (refused ReadAnswer.ShortBuffer) before h = absurd (never h refl)
written_late (refused ReadAnswer.LongText) before h = absurd (never h refl)
written_late (refused (ReadAnswer.BadHeader at)) before h = refl
written_late (refused (ReadAnswer.LargeHeader at)) before h = refl
written_late (refused (ReadAnswer.BadToken at)) before h = refl
written_late (refused (ReadAnswer.TokenBehind at)) before h = refl
written_late (refused (ReadAnswer.TokenOverVars at)) before h = refl
written_late (refused (ReadAnswer.ManyTokens at)) before h = refl
written_late (refused (ReadAnswer.ShortText at)) before h = refl

-- ---- the three ways a reading ends

count_is : (j : Judged) → (returned j).entries ≡ length (list_of j)
count_is (accepted s es) = refl
count_is (refused a) = refl

module _ (text : List ℕ) (before : List ℤ) where
  pub read_short : length before < max_entries → (r : Reading) → r ≡ returned (refused ReadAnswer.ShortBuffer) → Reads text before r before
  unfolding reading_of entries_after judge
  read_short h r e = record {
    result_is = rw (lt-ltb (length before) max_entries h) e;
    after_is = rw (lt-ltb (length before) max_entries h) refl;
  }

  module _ (room : max_entries ≤ length before) where
    pub read_long : max_text < length text → (r : Reading) → r ≡ returned (refused ReadAnswer.LongText) → Reads text before r before
    unfolding reading_of entries_after judge
    read_long h r e = record {
      result_is = rw (le-ltb (length before) max_entries room, lt-ltb max_text (length text) h) e;
      after_is = rw (le-ltb (length before) max_entries room, lt-ltb max_text (length text) h) refl;
    }

    judge_is : length text ≤ max_text → judge (length before) text ≡ judge_lines text (lines_of text)
    unfolding judge
    judge_is h = rw (le-ltb (length before) max_entries room, le-ltb max_text (length text) h)

    pub stores_count : {j : Judged} {r : Reading} {now : List ℤ} → Stores j before r now → r.entries ≤ max_entries
    stores_count {j} {r} s = omega (arith, ap (λ (q : Reading). q.entries) s.result_is ∙ count_is j, s.most)

    pub read_done :
        length text ≤ max_text → (r : Reading) (now after : List ℤ) → Stores (judge_lines text (lines_of text)) before r now →
        after ≡ cleared now r.entries max_entries → Reads text before r after
    unfolding reading_of entries_after
    read_done h r now after s e =
        let j = judge_lines text (lines_of text) in
        let count : r.entries ≡ length (list_of j) = ap (λ (q : Reading). q.entries) s.result_is ∙ count_is j in
        record {
          result_is = s.result_is ∙ ap returned (sym (judge_is h));
          after_is =
              e ∙
              ap (λ (n : ℕ). cleared now n max_entries) count ∙
              ap₂ (λ (es ds : List ℤ). es ++ replicate (max_entries - length (list_of j)) (pos 0) ++ ds) s.list_is s.rest_is ∙
              sym (written_late j before (late_lines text (lines_of text))) ∙
              ap (λ (k : Judged). written k before) (sym (judge_is h));
        }
