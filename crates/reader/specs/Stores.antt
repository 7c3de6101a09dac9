-- What a reading leaves in the buffer that is lent (src/tokens.rt, src/store.rt). Assumes nothing.
use Rattle.std.specs.Prelude.{◌≡◌, List, [], ◌++◌, ℕ, ◌-◌, ◌≤◌, ℤ, pos, length, take, drop, replicate, Result, Ok, Err}
use Rattle.rules.specs.declared.ReadAnswer.{ReadAnswer}
use Rattle.rules.specs.declared.Reading.{Reading}
use Rattle.rules.specs.Numbers.{max_entries}
use Rattle.texts.specs.Reading.{Judged, accepted, refused, returned}

-- zeros from the index `from` up to `to`
abbrev pub cleared : List ℤ → ℕ → ℕ → List ℤ
cleared before from to = take from before ++ replicate (to - from) (pos 0) ++ drop to before

-- the list, if there is one
abbrev pub list_of : Judged → List ℤ
list_of (accepted s es) = es
list_of (refused a) = []

-- what is returned of a reading or a refusal
abbrev pub reading : Result Reading ReadAnswer → Reading
reading (Ok r) = r
reading (Err a) = returned (refused a)

-- before the rest is cleared: what is returned is right, the list stands in front, and nothing is written behind the first 4,096 entries
pub record Stores (j : Judged) (before : List ℤ) (result : Reading) (after : List ℤ) : Type 0 where
  pub result_is : result ≡ returned j
  pub list_is : take (length (list_of j)) after ≡ list_of j
  pub most : length (list_of j) ≤ max_entries
  pub rest_is : drop max_entries after ≡ drop max_entries before
