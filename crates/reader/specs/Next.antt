-- What src/next.rt finds. Assumes nothing.
use Rattle.std.specs.Prelude.{◌≡◌, true, List, [], ◌∷◌, ℕ, ◌-◌, ◌≤◌, ◌<◌, length, take, drop, Option, None, Some, Result, Ok, Err}
use Rattle.std.proofs.Math.Option.{none, some}
use Rattle.texts.specs.Text.{Piece, tokens_in, entry_of}
use Rattle.reader.specs.Words.{value_of}
use Rattle.reader.specs.declared.next.Spot.{Spot}

-- the tokens from a place on
abbrev pub tokens_at : List ℕ → ℕ → List Piece
tokens_at text at = tokens_in (record { at = at; bytes = drop at text })

-- the bytes from `from` up to `to`
abbrev pub bytes_at : List ℕ → ℕ → ℕ → List ℕ
bytes_at text from to = take (to - from) (drop from text)

-- the next token stands from `from` up to `to`
pub record Next (text : List ℕ) (at from to : ℕ) : Type 0 where
  pub tokens : tokens_at text at ≡ record { at = from; bytes = bytes_at text from to } ∷ tokens_at text to
  pub onward : at < to
  pub within : to ≤ length text

-- no token; one that says nothing; one that says a number, which is not 0 with a minus
pub data Finds (text : List ℕ) (at : ℕ) : Result (Option Spot) ℕ → Type 0 where
  no_token : tokens_at text at ≡ [] → Finds text at (Ok None)
  malformed : {from : ℕ} (to : ℕ) → Next text at from to → entry_of (bytes_at text from to) ≡ none → Finds text at (Err from)
  number : {s : Spot} → Next text at s.from s.to → entry_of (bytes_at text s.from s.to) ≡ some (value_of s.entry) → (s.entry.minus ≡ true → 1 ≤ s.entry.number)
      → Finds text at (Ok (Some s))
