-- The entries of the marked clauses, as a list of their own. That its clauses are the marked ones is a law. Assumes nothing.
use Rattle.std.specs.Prelude.{◌≡◌, true, List, [], ◌∷◌, ℕ, zero, suc, ◌+◌, ◌≤◌, ℤ, pos, negsuc, get_or, set, length, take}
use Rattle.rules.specs.Meaning.{clauses}
use Rattle.rules.specs.Answer.{is_ended}

abbrev pub entry_if : ℕ → ℤ → List ℤ → List ℤ
entry_if zero e es = es
entry_if (suc m) e es = e ∷ es

-- a mark for each clause: its entries stay, with its closing zero, unless the mark is 0
abbrev pub marked_entries : List ℕ → List ℤ → List ℤ
marked_entries [] es = []
marked_entries (m ∷ ms) [] = []
marked_entries (m ∷ ms) (pos zero ∷ es) = entry_if m (pos zero) (marked_entries ms es)
marked_entries (m ∷ ms) (pos (suc n) ∷ es) = entry_if m (pos (suc n)) (marked_entries (m ∷ ms) es)
marked_entries (m ∷ ms) (negsuc n ∷ es) = entry_if m (negsuc n) (marked_entries (m ∷ ms) es)

-- ---- one entry

abbrev pub next_if : ℕ → ℕ → ℕ
next_if zero n = n
next_if (suc m) n = n + 1

abbrev pub put_if : ℕ → ℤ → ℕ → List ℤ → List ℤ
put_if zero e n out = out
put_if (suc m) e n out = set out n e

pub record PutsIf (mark : ℕ) (es : List ℤ) (i n : ℕ) (before : List ℤ) (next : ℕ) (after : List ℤ) : Type 0 where
  pub next_is : next ≡ next_if mark n
  pub after_is : after ≡ put_if mark (get_or es i (pos 0)) n before

-- ---- all of them

-- the list is ended, there is a mark for each clause, and room for every entry
pub record MarkRoom (es : List ℤ) (ms : List ℕ) (out : List ℤ) : Type 0 where
  pub ended : is_ended es ≡ true
  pub marks_fit : length (clauses es) ≤ length ms
  pub room : length es ≤ length out

pub record MarkedPut (es : List ℤ) (ms : List ℕ) (before : List ℤ) (result : ℕ) (after : List ℤ) : Type 0 where
  pub front : take result after ≡ marked_entries ms es
  pub within : result ≤ length es
