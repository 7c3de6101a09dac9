-- Bytes put into a buffer one behind the other, from a cursor on. Assumes nothing.
use Rattle.std.specs.Prelude.{◌≡◌, List, [], ◌∷◌, ℕ, suc, ◌+◌, ◌≤◌, length, set}

-- the buffer with the bytes at `at`, `at` + 1 and so on
abbrev pub put_at : List ℕ → ℕ → List ℕ → List ℕ
put_at out at [] = out
put_at out at (b ∷ bs) = put_at (set out at b) (suc at) bs

-- the buffer has the bytes' room behind the cursor
pub record Room (at : ℕ) (bytes out : List ℕ) : Type 0 where
  pub fits : at + length bytes ≤ length out

-- the bytes are put at the cursor, nothing else is written, and `next` is the cursor behind them
pub record Put (at : ℕ) (bytes before : List ℕ) (next : ℕ) (after : List ℕ) : Type 0 where
  pub next_is : next ≡ at + length bytes
  pub after_is : after ≡ put_at before at bytes
