-- When a text is refused, number by number, as the table of docs/RULES.md says it: in terms of lines and tokens, and not of how
-- they are read. That a reading gives a number exactly when its rule here says so is a theorem. Assumes nothing.
use Rattle.std.specs.Prelude.{◌≡◌, ◌⊎◌, true, false, List, [], ◌∷◌, ◌++◌, ℕ, ◌≤◌, ◌<◌, ℤ, length, drop}
use Rattle.rules.specs.declared.ReadAnswer.{ReadAnswer}
use Rattle.rules.specs.Lists.{In, all, count, is_zero}
use Rattle.rules.specs.Numbers.{max_text, max_vars, max_clauses, max_entries}
use Rattle.rules.specs.Meaning.{var_of}
use Rattle.texts.specs.Text.{Piece, Sizes, lines_of, tokens_from, is_skipped}
use Rattle.texts.specs.Reading.{end_of}
use Rattle.texts.specs.Grammar.{Header, Token}

-- neither 1 nor 2
pub record Begun (room : ℕ) (text : List ℕ) : Type 0 where
  pub room_fits : max_entries ≤ room
  pub text_fits : length text ≤ max_text

-- the first line that is not skipped
pub record FirstLine (text : List ℕ) (line : Piece) : Type 0 where
  pub before : List Piece
  pub after : List Piece
  pub lines : lines_of text ≡ before ++ line ∷ after
  pub skipped : all is_skipped before ≡ true
  pub not_skipped : is_skipped line ≡ false

-- a header within the sizes, at the first line that is not skipped
pub record Headed (text : List ℕ) (line : Piece) (s : Sizes) : Type 0 where
  pub first_line_lem : FirstLine text line
  pub is-header : Header line.bytes s.vars s.clauses
  pub vars_fit : s.vars ≤ max_vars
  pub clauses_fit : s.clauses ≤ max_clauses

-- tokens, each of which says the entry below it
pub data Say : List Piece → List ℤ → Type 0 where
  nothing : Say [] []
  one_more_lem : {t : Piece} {ts : List Piece} {l : ℤ} {es : List ℤ} → Token t.bytes l → Say ts es → Say (t ∷ ts) (l ∷ es)

-- tokens with nothing to refuse: well formed, not behind the last clause, no variable above V, not too many
pub record Fine (s : Sizes) (ts : List Piece) (es : List ℤ) : Type 0 where
  pub say : Say ts es
  pub not_behind : (front : List ℤ) (l : ℤ) (back : List ℤ) → es ≡ front ++ l ∷ back → count is_zero front < s.clauses
  pub up_to : (l : ℤ) → In l es → var_of l ≤ s.vars
  pub most : length es ≤ max_entries

-- the token t, and es, what the tokens before it say
pub record AtToken (room : ℕ) (text : List ℕ) (s : Sizes) (es : List ℤ) (t : Piece) : Type 0 where
  pub begun : Begun room text
  pub line : Piece
  pub headed : Headed text line s
  pub before : List Piece
  pub after : List Piece
  pub tokens : tokens_from (end_of line) (drop (end_of line) text) ≡ before ++ t ∷ after
  pub fine : Fine s before es

-- no entry, and no `%` where C clauses are complete
pub record Malformed (s : Sizes) (es : List ℤ) (t : Piece) : Type 0 where
  pub no_entry : (l : ℤ) → Token t.bytes l → ⊥
  pub not_closing : t.bytes ≡ 37 ∷ [] → count is_zero es < s.clauses

pub data Refuses (room : ℕ) (text : List ℕ) : ReadAnswer → Type 0 where
  -- 1 and 2
  short_buffer : room < max_entries → Refuses room text ReadAnswer.ShortBuffer
  long_text : max_entries ≤ room → max_text < length text → Refuses room text ReadAnswer.LongText
  -- 3: missing, or malformed
  no_header : Begun room text → all is_skipped (lines_of text) ≡ true → Refuses room text (ReadAnswer.BadHeader (length text))
  bad_header : (line : Piece) → Begun room text → FirstLine text line
      → ((v c : ℕ) → Header line.bytes v c → ⊥) → Refuses room text (ReadAnswer.BadHeader line.at)
  -- 4
  large_header : (line : Piece) (v c : ℕ) → Begun room text → FirstLine text line → Header line.bytes v c
      → (max_vars < v) ⊎ (max_clauses < c) → Refuses room text (ReadAnswer.LargeHeader line.at)
  -- 5, 6, 7, 8 at one token
  bad_token : (s : Sizes) (es : List ℤ) (t : Piece) → AtToken room text s es t → Malformed s es t
      → Refuses room text (ReadAnswer.BadToken t.at)
  token_behind : (s : Sizes) (es : List ℤ) (t : Piece) (l : ℤ) → AtToken room text s es t
      → Token t.bytes l → count is_zero es ≡ s.clauses → Refuses room text (ReadAnswer.TokenBehind t.at)
  token_over_vars : (s : Sizes) (es : List ℤ) (t : Piece) (l : ℤ) → AtToken room text s es t → Token t.bytes l
      → count is_zero es < s.clauses → s.vars < var_of l → Refuses room text (ReadAnswer.TokenOverVars t.at)
  many_tokens : (s : Sizes) (es : List ℤ) (t : Piece) (l : ℤ) → AtToken room text s es t → Token t.bytes l
      → count is_zero es < s.clauses → var_of l ≤ s.vars → length es ≡ max_entries → Refuses room text (ReadAnswer.ManyTokens t.at)
  -- 9: the text ends inside a clause or before C clauses
  short_text : (line : Piece) (s : Sizes) (es : List ℤ) → Begun room text
      → Headed text line s → Fine s (tokens_from (end_of line) (drop (end_of line) text)) es
      → count is_zero es < s.clauses → Refuses room text (ReadAnswer.ShortText (length text))
