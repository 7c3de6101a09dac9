-- Where the clauses start in the entry list, and a clause by its number: docs/RULES.md, "The formula is read as clauses 1, 2, 3 and so
-- on of the entry list, and during a call the chunk constraint counts as the clause after the last one". Assumes nothing.
use Rattle.std.specs.Prelude.{◌≡◌, List, [], ◌∷◌, ◌++◌, ℕ, zero, suc, pred, ◌≤◌, ◌<◌, ◌^◌, ℤ, pos, negsuc, get_or, length, take, drop}
use Rattle.rules.specs.Meaning.{Clause, clauses}

-- ---- starts

-- the indices behind the zeros of a list whose first entry has index i
abbrev pub starts_behind : ℕ → List ℤ → List ℕ
starts_behind i [] = []
starts_behind i (pos zero ∷ es) = suc i ∷ starts_behind (suc i) es
starts_behind i (pos (suc n) ∷ es) = starts_behind (suc i) es
starts_behind i (negsuc n ∷ es) = starts_behind (suc i) es

-- where each clause starts: at 0 and behind each zero; so there is one more for the end
unfoldable pub starts_of : List ℤ → List ℕ
starts_of es = 0 ∷ starts_behind 0 es

-- ---- clauses by number

-- the clauses by number: those of the entry list, and the constraint after the last one
unfoldable pub clauses_with : List ℤ → Clause → List Clause
clauses_with es con = clauses es ++ (con ∷ [])

-- clause n, from 1
unfoldable pub clause_at : List ℤ → Clause → ℕ → Clause
clause_at es con n = get_or (clauses_with es con) (pred n) []

-- the first `total` of them: all of the formula, or with the constraint
unfoldable pub call_clauses : List ℤ → Clause → ℕ → List Clause
call_clauses es con total = take total (clauses_with es con)

-- ---- what the functions require

-- room for the starts, each of which a u16 holds
pub record RoomFor (es : List ℤ) (starts : List ℕ) : Type 0 where
  pub entries_fit : length es < 2 ^ 16
  pub room : length (clauses es) < length starts

-- what is looked up in, and the number: the starts are the entry list's, and the number is from 1 to that of the constraint
pub record Lookup (es : List ℤ) (starts : List ℕ) (n : ℕ) : Type 0 where
  pub starts_are : starts ≡ starts_of es
  pub some : 1 ≤ n
  pub most : n ≤ suc (length (clauses es))

-- ---- what `find_starts` promises

-- how many clauses there are, and the buffer: the starts, and then its own rest
pub record StartsFound (es : List ℤ) (before : List ℕ) (result : ℕ) (after : List ℕ) : Type 0 where
  pub count_is : result ≡ length (clauses es)
  pub starts_are : after ≡ starts_of es ++ drop (suc (length (clauses es))) before
