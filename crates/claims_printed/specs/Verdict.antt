-- What the line is put from. Assumes nothing.
use Rattle.std.specs.Prelude.{◌≡◌, List, ℕ, ℤ}
use Rattle.texts.specs.Reading.{entries_after}
use Rattle.texts.specs.ClaimsPrinted.{claims_text_of}
use Rattle.buffers.specs.Put.{Put}

-- the line for a text is put, and the entries are as its reading leaves them
pub record TextPut (text claims : List ℕ) (entries : List ℤ) (before : List ℕ) (next : ℕ) (read : List ℤ) (after : List ℕ) : Type 0 where
  pub put : Put 0 (claims_text_of text claims) before next after
  pub entries_are : read ≡ entries_after text entries
