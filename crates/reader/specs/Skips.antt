-- What src/skip.rt passes over on the way to the next token. Assumes nothing.
use Rattle.std.specs.Prelude.{◌≡◌, false, List, ℕ, ◌≤◌, ◌<◌, length, get_or, drop}
use Rattle.texts.specs.Text.{is_blank, tokens_from}

-- no token stands from `at` up to r
pub record Passed (text : List ℕ) (at r : ℕ) : Type 0 where
  pub same : tokens_from r (drop r text) ≡ tokens_from at (drop at text)
  pub onward : at ≤ r

-- so far behind a blank at i
pub record Past (text : List ℕ) (i r : ℕ) : Type 0 where
  pub passed : Passed text i r
  pub further : i < r
  pub within : r ≤ length text

-- r is the first byte of the next token, or the end of the text
pub record Skips (text : List ℕ) (at r : ℕ) : Type 0 where
  pub passed : Passed text at r
  pub no_blank : r < length text → is_blank (get_or text r 0) ≡ false
