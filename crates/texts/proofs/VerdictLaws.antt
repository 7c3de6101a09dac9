-- The judgement of a whole text (specs/Reading): each text is refused by a rule of specs/Refusals or is a whole text, and the judgement
-- says which. GrammarLaws and RefusalLaws read their theorems off this.
--
--   tokens_of                      the tokens behind a line
--   Whole                         a text with nothing to refuse
--   Verdict, Judgement            refused by a rule, or whole; a judgement with its verdict
--   judge_headed                  a text with a header is judged by its tokens
--   verdict_exists                each text has a verdict
--   judge_of_verdict, verdict_of_judge     the judgement is the verdict
--
-- Assumes nothing.
use mathlib.Core.Path.{◌≡◌, refl, sym, ◌∙◌, ap, subst}
use mathlib.Core.Logic.{◌⊎◌, inl, inr}
use mathlib.Core.Bool.{true, false}
use mathlib.Core.List.{List, [], ◌∷◌, ◌++◌, append-nil}
use mathlib.Core.Option.{Option, none, some}
use Prim.Native.Nat.{ℕ, ◌+◌, ◌≤◌, ◌<◌}
use native.Mathlib.Omega.{arith}
use lib.Dec.{leb}
use lib.IntN.{ℤ}
use lib.ListN.{length, drop}
use borrow.Author.Tests.{leb-true, le-leb, lt-ltb, le-ltb}
use Rattle.rules.specs.declared.ReadAnswer.{ReadAnswer}
use Rattle.rules.specs.Lists.{all, count, is_zero}
use Rattle.rules.specs.Numbers.{max_text, max_vars, max_clauses, max_entries}
use Rattle.texts.specs.Text.{Piece, Sizes, lines_of, tokens_from, is_skipped, header_of}
use Rattle.texts.specs.Reading.{Judged, accepted, refused, end_of, fits, judge_tokens, judge_header, judge_lines, judge}
use Rattle.texts.specs.Grammar.{Header}
use Rattle.texts.specs.Refusals.{Begun, FirstLine, Headed, Fine, AtToken, Refuses, short_buffer, long_text, no_header}
use Rattle.texts.specs.Refusals.{bad_header, large_header, bad_token, token_behind, token_over_vars, many_tokens, short_text}
use Rattle.rules.proofs.ListLaws.{le_or_lt, not-true, and_left, and_right}
use Rattle.texts.proofs.TokenLaws.{not_none}
use Rattle.texts.proofs.HeaderLaws.{header_sound, header_complete, header_none}
use Rattle.texts.proofs.LineLaws.{first_line_sound, first_line_exists}
use Rattle.texts.proofs.JudgeLaws.{Passes, count_of_passes, fine_of_passes, passes_of_fine, Stop, bad, after_last, above, over, Stopped}
use Rattle.texts.proofs.JudgeLaws.{Closed, none_left, percent, Finished}
use Rattle.texts.proofs.JudgeLaws.{tokens_cases, with_entries_refused, judge_tokens_finished, judge_tokens_end, judge_tokens_stopped}

abbrev pub tokens_of : List ℕ → Piece → List Piece
tokens_of text line = tokens_from (end_of line) (drop (end_of line) text)

-- its tokens have nothing to refuse up to where no more is read, and complete C clauses
pub record Whole (room : ℕ) (text : List ℕ) (s : Sizes) (es : List ℤ) : Type 0 where
  pub begun : Begun room text
  pub line : Piece
  pub headed : Headed text line s
  pub before : List Piece
  pub rest : List Piece
  pub tokens : tokens_of text line ≡ before ++ rest
  pub fine : Fine s before es
  pub closed : Closed s (count is_zero es) rest
  pub exactly : count is_zero es ≡ s.clauses

pub data Verdict (room : ℕ) (text : List ℕ) : Judged → Type 0 where
  refuses : {a : ReadAnswer} → Refuses room text a → Verdict room text (refused a)
  accepts : {s : Sizes} {es : List ℤ} → Whole room text s es → Verdict room text (accepted s es)

-- a judgement that is the verdict
abbrev pub Judgement : ℕ → List ℕ → Type 0
Judgement room text = (j : Judged) × Verdict room text j

-- ---- lines and the header

judge-begun : {room : ℕ} {text : List ℕ} → Begun room text → judge room text ≡ judge_lines text (lines_of text)
unfolding judge
judge-begun {room} {text} b = rw (le-ltb room max_entries b.room_fits, le-ltb max_text (length text) b.text_fits)

judge_lines-skipped : (text : List ℕ) (ls : List Piece) → all is_skipped ls ≡ true
    → judge_lines text ls ≡ refused (ReadAnswer.BadHeader (length text))
unfolding judge_lines
judge_lines-skipped text [] h = refl
judge_lines-skipped text (l ∷ ls) h =
    rw (and_left (is_skipped l) (all is_skipped ls) h) (judge_lines-skipped text ls (and_right (is_skipped l) (all is_skipped ls) h))

judge_lines_first : (text : List ℕ) (before : List Piece) (line : Piece) (after : List Piece) → all is_skipped before ≡ true
    → is_skipped line ≡ false → judge_lines text (before ++ line ∷ after) ≡ judge_header (header_of line.bytes) text line
unfolding judge_lines
judge_lines_first text [] line after h k = rw k
judge_lines_first text (l ∷ ls) line after h k =
    rw (and_left (is_skipped l) (all is_skipped ls) h) (judge_lines_first text ls line after (and_right (is_skipped l) (all is_skipped ls) h) k)

judge_first : {room : ℕ} {text : List ℕ} {line : Piece} → Begun room text → FirstLine text line
    → judge room text ≡ judge_header (header_of line.bytes) text line
judge_first {text} {line} b f =
    judge-begun b ∙ ap (judge_lines text) f.lines ∙ judge_lines_first text f.before line f.after f.skipped f.not_skipped

pub judge_headed : {room : ℕ} {text : List ℕ} {line : Piece} {s : Sizes} → Begun room text → Headed text line s
    → judge room text ≡ judge_tokens s (length text) 0 0 (tokens_of text line)
judge_headed {text} {line} {s} b h =
    judge_first b h.first_line_lem ∙ ap (λ (o : Option Sizes). judge_header o text line) (header_complete h.is-header) ∙
    rw (le-leb s.vars max_vars h.vars_fit, le-leb s.clauses max_clauses h.clauses_fit)

-- ---- the judgement is the verdict

too_large : (v c : ℕ) → (max_vars < v) ⊎ (max_clauses < c) → fits (record { vars = v; clauses = c }) ≡ false
too_large v c k =
    not-true (fits (record { vars = v; clauses = c }))
    (λ e. go k (leb-true v max_vars (and_left (leb v max_vars) (leb c max_clauses) e))
    (leb-true c max_clauses (and_right (leb v max_vars) (leb c max_clauses) e)))
  where
    go : (max_vars < v) ⊎ (max_clauses < c) → v ≤ max_vars → c ≤ max_clauses → ⊥
    go (inl h) a b = omega arith
    go (inr h) a b = omega arith

module _ {room : ℕ} {text : List ℕ} where
  judge_at_token : {s : Sizes} {es : List ℤ} {t : Piece} {a : ReadAnswer} → AtToken room text s es t
      → Stop s (0 + count is_zero es) (0 + length es) t a → judge room text ≡ refused a
  judge_at_token {s} {es} {t} {a} w h =
      judge_headed w.begun w.headed ∙
      judge_tokens_stopped s (length text)
      (record {
        before = w.before;
        token = t;
        after = w.after;
        es = es;
        answer = a;
        tokens = w.tokens;
        passes = passes_of_fine w.fine;
        stop = h;
      })

  judge_of_refuses : {a : ReadAnswer} → Refuses room text a → judge room text ≡ refused a
  unfolding judge
  judge_of_refuses (short_buffer h) = rw (lt-ltb room max_entries h)
  judge_of_refuses (long_text h k) = rw (le-ltb room max_entries h, lt-ltb max_text (length text) k)
  judge_of_refuses (no_header b h) = judge-begun b ∙ judge_lines-skipped text (lines_of text) h
  judge_of_refuses (bad_header line b f h) =
      judge_first b f ∙ ap (λ (o : Option Sizes). judge_header o text line) (header_none line.bytes (first_line_sound f).one_line h)
  judge_of_refuses (large_header line v c b f h k) =
      judge_first b f ∙ ap (λ (o : Option Sizes). judge_header o text line) (header_complete h) ∙ rw (too_large v c k)
  judge_of_refuses (bad_token s es t w h) = judge_at_token w (bad h.no_entry (λ e. omega (arith, h.not_closing e)))
  judge_of_refuses (token_behind s es t l w h k) = judge_at_token w (after_last l h (omega arith))
  judge_of_refuses (token_over_vars s es t l w h k u) = judge_at_token w (above l h (omega arith) u)
  judge_of_refuses (many_tokens s es t l w h k u m) = judge_at_token w (over l h (omega arith) u (omega arith))
  judge_of_refuses (short_text line s es b h f k) =
      judge_headed b h ∙ judge_tokens_end s (length text) (passes_of_fine f) ∙
      rw (lt-ltb (count is_zero es) s.clauses k) (with_entries_refused es (ReadAnswer.ShortText (length text)))

  pub judge_of_verdict : {j : Judged} → Verdict room text j → judge room text ≡ j
  judge_of_verdict (refuses r) = judge_of_refuses r
  judge_of_verdict (accepts {s} {es} w) =
      judge_headed w.begun w.headed ∙
      judge_tokens_finished s (length text) w.tokens (passes_of_fine w.fine) w.closed (omega (arith, w.exactly))

-- ---- each text has a verdict

module _ (room : ℕ) (text : List ℕ) where
  verdict_of_stopped : (line : Piece) (s : Sizes) → Begun room text → Headed text line s → Stopped s 0 0 (tokens_of text line)
      → Judgement room text
  verdict_of_stopped line s b h d = (refused d.answer, refuses (go d.stop))
    where
      at_token : AtToken room text s d.es d.token
      at_token = record { begun = b; line = line; headed = h; before = d.before; after = d.after; tokens = d.tokens; fine = fine_of_passes d.passes }

      go : {a : ReadAnswer} → Stop s (0 + count is_zero d.es) (0 + length d.es) d.token a → Refuses room text a
      go (bad f k) = bad_token s d.es d.token at_token (record { no_entry = f; not_closing = λ e. omega (arith, k e) })
      go (after_last l w k) = token_behind s d.es d.token l at_token w (omega (arith, count_of_passes d.passes (omega arith)))
      go (above l w k u) = token_over_vars s d.es d.token l at_token w (omega arith) u
      go (over l w k u m) = many_tokens s d.es d.token l at_token w (omega arith) u (omega (arith, (fine_of_passes d.passes).most))

  verdict_of_end : (line : Piece) (s : Sizes) (es : List ℤ) {before rest : List Piece} → Begun room text → Headed text line s
      → tokens_of text line ≡ before ++ rest → Passes s 0 0 before es → Closed s (count is_zero es) rest
      → (s.clauses ≤ count is_zero es) ⊎ (count is_zero es < s.clauses) → Judgement room text
  verdict_of_end line s es {before} {rest} b h e p c (inl k) = (
    accepted s es,
    accepts (record {
      begun = b;
      line = line;
      headed = h;
      before = before;
      rest = rest;
      tokens = e;
      fine = fine_of_passes p;
      closed = c;
      exactly = omega
          (arith, count_of_passes p (omega arith));
    }),
  )
  verdict_of_end line s es {before} b h e p none_left (inr k) =
      let f : Fine s (tokens_of text line) es = subst (λ (ts : List Piece). Fine s ts es) (sym (e ∙ append-nil before)) (fine_of_passes p) in
      (refused (ReadAnswer.ShortText (length text)), refuses (short_text line s es b h f k))
  verdict_of_end line s es b h e p (percent q c) (inr k) = absurd (omega arith)

  verdict_of_headed : (line : Piece) (s : Sizes) → Begun room text → Headed text line s → Judgement room text
  verdict_of_headed line s b h = go (tokens_cases s 0 0 (tokens_of text line))
    where
      go : Finished s 0 0 (tokens_of text line) ⊎ Stopped s 0 0 (tokens_of text line) → Judgement room text
      go (inl p) =
          let c : Closed s (count is_zero p.es) p.rest = subst (λ (i : ℕ). Closed s i p.rest) (omega arith) p.closed in
          verdict_of_end line s p.es b h p.tokens p.passes c (le_or_lt s.clauses (count is_zero p.es))
      go (inr d) = verdict_of_stopped line s b h d

  verdict_of_first : (line : Piece) → Begun room text → FirstLine text line → Judgement room text
  verdict_of_first line b f = go (header_of line.bytes) refl
    where
      large : (s : Sizes) → Header line.bytes s.vars s.clauses → (max_vars < s.vars) ⊎ (max_clauses < s.clauses)
          → Judgement room text
      large s h k = (refused (ReadAnswer.LargeHeader line.at), refuses (large_header line s.vars s.clauses b f h k))

      sizes : (s : Sizes) → Header line.bytes s.vars s.clauses → (s.vars ≤ max_vars) ⊎ (max_vars < s.vars)
          → (s.clauses ≤ max_clauses) ⊎ (max_clauses < s.clauses) → Judgement room text
      sizes s h (inr k) c = large s h (inl k)
      sizes s h (inl v) (inr k) = large s h (inr k)
      sizes s h (inl v) (inl c) = verdict_of_headed line s b (record { first_line_lem = f; is-header = h; vars_fit = v; clauses_fit = c })

      go : (o : Option Sizes) → header_of line.bytes ≡ o → Judgement room text
      go none e = (refused (ReadAnswer.BadHeader line.at), refuses (bad_header line b f (λ v c h. not_none (header_complete h) e)))
      go (some s) e = sizes s (header_sound line.bytes e (first_line_sound f).one_line) (le_or_lt s.vars max_vars) (le_or_lt s.clauses max_clauses)

  pub verdict_exists : Judgement room text
  verdict_exists = go (le_or_lt max_entries room) (le_or_lt (length text) max_text)
    where
      lines : Begun room text → (all is_skipped (lines_of text) ≡ true) ⊎ ((line : Piece) × FirstLine text line) → Judgement room text
      lines b (inl h) = (refused (ReadAnswer.BadHeader (length text)), refuses (no_header b h))
      lines b (inr f) = verdict_of_first f.0 b f.1

      go : (max_entries ≤ room) ⊎ (room < max_entries) → (length text ≤ max_text) ⊎ (max_text < length text) → Judgement room text
      go (inr h) t = (refused ReadAnswer.ShortBuffer, refuses (short_buffer h))
      go (inl h) (inr k) = (refused ReadAnswer.LongText, refuses (long_text h k))
      go (inl h) (inl k) = lines (record { room_fits = h; text_fits = k }) (first_line_exists text)

  pub verdict_of_judge : {j : Judged} → judge room text ≡ j → Verdict room text j
  verdict_of_judge e = let v = verdict_exists in subst (Verdict room text) (sym (judge_of_verdict v.1) ∙ e) v.1
