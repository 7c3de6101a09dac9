-- docs/RULES.md, "Groups": switches with more than two positions. A file's groups, each by its number of values, as clauses before the
-- file's own ones, and what a setup is: a list of values, one a group. Assumes nothing.
use Rattle.std.specs.Prelude.{◌≡◌, Bool, true, false, not, List, [], ◌∷◌, ◌++◌, ℕ, zero, suc, pred, ◌+◌, ◌-◌, ◌≤◌, eqb, ltb, ℤ, pos, negsuc, length}
use Rattle.std.specs.Prelude.{get_or, take, drop}
use Rattle.rules.specs.Lists.{any, all, sum_of, nth_index, tabled}
use Rattle.rules.specs.Meaning.{Clause, Values}
use Rattle.texts.specs.Plain.{entries_of}

abbrev pub max_groups : ℕ
max_groups = 128

-- values of a group
abbrev pub min_size : ℕ
min_size = 2

abbrev pub max_size : ℕ
max_size = 16

-- one variable a value, group after group
abbrev pub vars_in : List ℕ → ℕ
vars_in sizes = sum_of (λ n. n) sizes

-- ---- exactly one value of a group holds. The variable at index i, from 0, has the literals i + 1 and -(i + 1)

-- n values from index i on, ascending
abbrev pub values_from : ℕ → ℕ → Clause
values_from i zero = []
values_from i (suc n) = pos (suc i) ∷ values_from (suc i) n

-- a value negated with each of n values from index j on
abbrev pub pairs_with : ℕ → ℕ → ℕ → List Clause
pairs_with i j zero = []
pairs_with i j (suc n) = (negsuc i ∷ negsuc j ∷ []) ∷ pairs_with i (suc j) n

-- each pair of n values from index i on, negated, by lower and then higher number
abbrev pub pairs_from : ℕ → ℕ → List Clause
pairs_from i zero = []
pairs_from i (suc n) = pairs_with i (suc i) n ++ pairs_from (suc i) n

-- one clause of all values, then the pairs
abbrev pub group_clauses : ℕ → ℕ → List Clause
group_clauses i n = values_from i n ∷ pairs_from i n

-- group by group
abbrev pub groups_from : ℕ → List ℕ → List Clause
groups_from i [] = []
groups_from i (n ∷ ns) = group_clauses i n ++ groups_from (i + n) ns

-- the expanded list, before the file's own clauses: as clauses, and as entries
unfoldable pub expanded : List ℕ → List Clause → List Clause
expanded sizes F = groups_from 0 sizes ++ F

unfoldable pub expanded_entries : List ℕ → List ℤ → List ℤ
expanded_entries sizes es = entries_of (groups_from 0 sizes) ++ es

-- ---- setups

-- a list of values, one a group, each from 1
pub data SetupOf : List ℕ → List ℕ → Type 0 where
  no_group : SetupOf [] []
  value : {n k : ℕ} {ns ks : List ℕ} → 1 ≤ k → k ≤ n → SetupOf ns ks → SetupOf (n ∷ ns) (k ∷ ks)

abbrev pub here_if : Bool → Bool → Bool → Bool
here_if true here later = here
here_if false here later = later

-- whether a setup uses the value that has the variable at index i: in the first group, or in a later one
abbrev pub uses : List ℕ → List ℕ → ℕ → Bool
uses [] ks i = false
uses (n ∷ ns) [] i = false
uses (n ∷ ns) (k ∷ ks) i = here_if (ltb i n) (eqb k (suc i)) (uses ns ks (i - n))

-- a literal holds if the setup uses its value; a negated one if it does not
abbrev pub holds : List ℕ → List ℕ → ℤ → Bool
holds sizes ks (pos n) = uses sizes ks (pred n)
holds sizes ks (negsuc n) = not (uses sizes ks n)

-- a setup keeps clauses if in each of them a literal holds
abbrev pub keeps_all : List ℕ → List ℕ → List Clause → Bool
keeps_all sizes ks F = all (any (holds sizes ks)) F

pub record ValidSetup (sizes : List ℕ) (F : List Clause) (ks : List ℕ) : Type 0 where
  pub is-setup : SetupOf sizes ks
  pub keeps : keeps_all sizes ks F ≡ true

-- ---- value k of group g, both from 1

pub record ValueOf (sizes : List ℕ) (g k : ℕ) : Type 0 where
  pub group_some : 1 ≤ g
  pub group_most : g ≤ length sizes
  pub some : 1 ≤ k
  pub most : k ≤ get_or sizes (pred g) 0

-- its variable's index, from 0
abbrev pub index_in : List ℕ → ℕ → ℕ → ℕ
index_in sizes g k = vars_in (take (pred g) sizes) + pred k

-- the value that a setup gives a group
abbrev pub value_in : List ℕ → ℕ → ℕ
value_in ks g = get_or ks (pred g) 0

-- ---- setups as values of the variables, and back

abbrev pub byte_if : Bool → ℕ
byte_if true = 2
byte_if false = 1

-- n bytes of which the k-th, from 1, is true
abbrev pub chosen : ℕ → ℕ → Values
chosen n k = tabled (λ i. byte_if (eqb k (suc i))) 0 n

abbrev pub bytes_of : List ℕ → List ℕ → Values
bytes_of [] ks = []
bytes_of (n ∷ ns) [] = []
bytes_of (n ∷ ns) (k ∷ ks) = chosen n k ++ bytes_of ns ks

abbrev pub is_true_byte : ℕ → Bool
is_true_byte b = eqb b 2

-- the first value of each group that is true
abbrev pub setup_in : List ℕ → Values → List ℕ
setup_in [] m = []
setup_in (n ∷ ns) m = suc (nth_index is_true_byte (take n m) 0) ∷ setup_in ns (drop n m)
