-- docs/RULES.md, "Which clause holds a switch": the flip test, and the hints of a run. Assumes nothing.
use Rattle.std.specs.Prelude.{◌≡◌, Bool, true, false, List, [], ℕ, pred, ◌≤◌, ◌<◌, ℤ, length, get_or, replicate, Some, None}
use Rattle.std.proofs.Math.Option.{Option, none, some}
use Rattle.std.specs.declared.option.Option.{Option as Found}
use Rattle.rules.specs.declared.ClauseNo.{ClauseNo}
use Rattle.rules.specs.Lists.{In, tabled}
use Rattle.rules.specs.Meaning.{Clause, Values, is_true, has_true, first_false}
use Rattle.rules.specs.Search.{Call, model, no_model, stopped}
use Rattle.rules.specs.Run.{Task, flipped, first_call}

-- the first clause that is made false, by its number; none, and it may flip
abbrev pub flip_by : Option ℕ → Found ClauseNo
flip_by none = None
flip_by (some n) = Some (record { 0 = n })

-- the variable at index i, flipped alone in the model
abbrev pub flip_test : List Clause → Values → ℕ → Found ClauseNo
flip_test F m i = flip_by (first_false (flipped m i) F)

abbrev pub may_flip : Found ClauseNo → Bool
may_flip None = true
may_flip (Some n) = false

-- the number of the clause that holds it, 0 if none does
abbrev pub hint_number : Found ClauseNo → ℕ
hint_number None = 0
hint_number (Some n) = n.0

-- the hint of the variable at index i, judged in a model
abbrev pub hint_at : List Clause → Values → ℕ → ℕ
hint_at F m i = hint_number (flip_test F m i)

-- a hint for each variable, judged in the model that the first call found; 0 if it found none
abbrev pub hints_in : Call → Task → List ℕ
hints_in (model m t) k = tabled (hint_at k.formula m) 0 k.vars
hints_in (no_model t) k = replicate k.vars 0
hints_in (stopped t) k = replicate k.vars 0

unfoldable pub hints_of : Task → List ℕ
hints_of k = hints_in (first_call k) k

-- ---- what the theorems say of a hint

-- clause n, from 1
abbrev pub clause_no : List Clause → ℕ → Clause
clause_no F n = get_or F (pred n) []

-- l stands in the clause and is true, and no other literal of it is: in however many places, it is one
pub record OnlyTrue (vs : Values) (cl : Clause) (l : ℤ) : Type 0 where
  pub in_clause : In l cl
  pub true_here : is_true vs l ≡ true
  pub no_other : (j : ℤ) → In j cl → is_true vs j ≡ true → j ≡ l

-- n is the number of a clause in which l alone is true
pub record HeldBy (F : List Clause) (vs : Values) (l : ℤ) (n : ℕ) : Type 0 where
  pub some : 1 ≤ n
  pub most : n ≤ length F
  pub only : OnlyTrue vs (clause_no F n) l

-- clause n is false under values, and no clause before it is
pub record FirstFalse (F : List Clause) (vs : Values) (n : ℕ) : Type 0 where
  pub some : 1 ≤ n
  pub most : n ≤ length F
  pub false_here : has_true vs (clause_no F n) ≡ false
  pub none_before : (j : ℕ) → 1 ≤ j → j < n → has_true vs (clause_no F j) ≡ true
