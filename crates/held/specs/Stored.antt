-- Entries stored one behind the other, from an index on. Assumes nothing.
use Rattle.std.specs.Prelude.{◌≡◌, List, ◌++◌, ℕ, ◌+◌, ◌≤◌, ℤ, length, drop}
use Rattle.std.proofs.lemmas.List.Edits.{sets}
use Rattle.rules.specs.Held.{list_with}

-- there is room for the entries from the index on
pub record Fits (es : List ℤ) (at : ℕ) (out : List ℤ) : Type 0 where
  pub fits : at + length es ≤ length out

-- the entries are stored there, nothing else is written, and `next` is the index behind them
pub record Stored (es : List ℤ) (at : ℕ) (before : List ℤ) (next : ℕ) (after : List ℤ) : Type 0 where
  pub next_is : next ≡ at + length es
  pub after_is : after ≡ sets before at es

-- a list with the held literals behind it stands in front of the buffer, whose rest stays; the result is how many entries it has
pub record ListPut (es held before : List ℤ) (result : ℕ) (after : List ℤ) : Type 0 where
  pub count_is : result ≡ length (list_with es held)
  pub after_is : after ≡ list_with es held ++ drop result before
