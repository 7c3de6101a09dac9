-- The shorter file of a text as it is put. Assumes nothing.
use Rattle.std.specs.Prelude.{◌≡◌, List, ℕ, ℤ}
use Rattle.texts.specs.Reading.{entries_after}
use Rattle.texts.specs.ShorterPrinted.{shorter_text_of}
use Rattle.buffers.specs.Put.{Put}

-- the shorter file of a text is put, and the entries are as its reading leaves them
pub record TextPut (text : List ℕ) (entries : List ℤ) (before : List ℕ) (next : ℕ) (read : List ℤ) (after : List ℕ) : Type 0 where
  pub put : Put 0 (shorter_text_of text) before next after
  pub entries_are : read ≡ entries_after text entries
