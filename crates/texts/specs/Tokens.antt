-- A text of tokens alone, as docs/RULES.md has it for claims: no comments and no `%`. Its tokens with their places, and as a grammar.
-- Assumes nothing.
use Rattle.std.specs.Prelude.{List, [], ◌∷◌, ◌++◌, ℕ, ℤ}
use Rattle.texts.specs.Text.{Piece, tokens_in}
use Rattle.texts.specs.Grammar.{Blanks, Token, TokenEnd}

-- the tokens of a text, each with its place
abbrev pub all_tokens : List ℕ → List Piece
all_tokens text = tokens_in (record { at = 0; bytes = text })

-- a text that says numbers: tokens, with blanks between them
pub data Tokens : List ℕ → List ℤ → Type 0 where
  blanks : {bs : List ℕ} → Blanks bs → Tokens bs []
  token : {bs w rest : List ℕ} {l : ℤ} {ls : List ℤ} → Blanks bs → Token w l → TokenEnd rest → Tokens rest ls → Tokens (bs ++ w ++ rest) (l ∷ ls)
