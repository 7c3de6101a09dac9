-- Who holds a literal: for each literal the indices of the formula's clauses that hold it, ascending, in one list cut by starts; a mark
-- for each literal of the constraint, which stands behind the last of them; and a change of the keys of such clauses. Assumes nothing.
use Rattle.std.specs.Prelude.{◌≡◌, Bool, true, false, List, [], ◌∷◌, ◌++◌, ℕ, suc, pred, ◌+◌, ◌-◌, ◌*◌, ◌/◌, ◌%◌, ◌≤◌, ◌<◌, ◌^◌, eqb, ℤ, pos, negsuc}
use Rattle.std.specs.Prelude.{get_or, set, length, take, drop}
use Rattle.rules.specs.Lists.{keep_if}
use Rattle.rules.specs.Meaning.{Clause, LitUpTo}
use Rattle.board.specs.Blocks.{HotBlocks}
use Rattle.board.specs.Keys.{holds}

-- the number of a literal: 0 for 1, 1 for -1, 2 for 2 and so on
abbrev pub code_of : ℤ → ℕ
code_of (pos n) = 2 * pred n
code_of (negsuc n) = 2 * n + 1

-- and the literal of a number
abbrev pub lit_by : Bool → ℕ → ℤ
lit_by true i = pos (suc i)
lit_by false i = negsuc i

abbrev pub lit_of : ℕ → ℤ
lit_of k = lit_by (eqb (k % 2) 0) (k / 2)

-- the number of its negation
abbrev pub other_by : Bool → ℕ → ℕ
other_by true k = k + 1
other_by false k = k - 1

abbrev pub other_code : ℕ → ℕ
other_code k = other_by (eqb (k % 2) 0) k

-- the indices of the clauses that hold l; the first clause has index i
abbrev pub holding : ℤ → ℕ → List Clause → List ℕ
holding l i [] = []
holding l i (cl ∷ F) = keep_if (holds l cl) i (holding l (suc i) F)

-- the part of the list at one code
abbrev pub part_at : List ℕ → List ℕ → ℕ → List ℕ
part_at starts holders k = take (get_or starts (k + 1) 0 - get_or starts k 0) (drop (get_or starts k 0) holders)

-- it lies inside the list
pub record PartInside (starts holders : List ℕ) (k : ℕ) : Type 0 where
  pub within : k + 1 < length starts
  pub ordered : get_or starts k 0 ≤ get_or starts (k + 1) 0
  pub inside : get_or starts (k + 1) 0 ≤ length holders

-- the part of one literal
pub record Listed (F : List Clause) (lists holders : List ℕ) (l : ℤ) : Type 0 where
  pub part : PartInside lists holders (code_of l)
  pub part_is : part_at lists holders (code_of l) ≡ holding l 0 F

-- the parts of all literals of the variables 1 to n
pub record Holders (n : ℕ) (F : List Clause) (lists holders : List ℕ) : Type 0 where
  pub listed : (l : ℤ) → LitUpTo n l → Listed F lists holders l

-- ---- the constraint

abbrev pub is_marked : List ℕ → ℕ → Bool
is_marked marks k = eqb (get_or marks k 0) 1

-- a mark for each literal of the constraint
pub record Marks (n : ℕ) (con : Clause) (marks : List ℕ) : Type 0 where
  pub room : 2 * n ≤ length marks
  pub each : (l : ℤ) → LitUpTo n l → is_marked marks (code_of l) ≡ holds l con

-- ---- both together: all clauses, the constraint the last of them

abbrev pub holders_at : List ℕ → List ℕ → List ℕ → ℕ → ℕ → List ℕ
holders_at lists holders marks last k = part_at lists holders k ++ keep_if (is_marked marks k) last []

-- the clauses that hold one literal
pub record Held (F : List Clause) (lists holders marks : List ℕ) (l : ℤ) : Type 0 where
  pub part : PartInside lists holders (code_of l)
  pub mark_room : code_of l < length marks
  pub holders_are : holders_at lists holders marks (length F - 1) (code_of l) ≡ holding l 0 F

pub record Indexed (n : ℕ) (F : List Clause) (lists holders marks : List ℕ) : Type 0 where
  pub some : 1 ≤ length F
  pub held : (l : ℤ) → LitUpTo n l → Held F lists holders marks l

-- ---- a change of some keys, one after the other

abbrev pub changed : ℕ → ℕ → ℕ → ℕ
changed add less key = key + add - less

abbrev pub change_all : ℕ → ℕ → List ℕ → List ℕ → List ℕ
change_all add less [] keys = keys
change_all add less (i ∷ is) keys = change_all add less is (set keys i (changed add less (get_or keys i 0)))

-- a key that can be changed: nothing wraps
pub record Changes (add less key : ℕ) : Type 0 where
  pub fits : key + add < 2 ^ 32
  pub enough : less ≤ key + add

-- each index is one of a key that can be changed when its turn comes
pub data Changeable (add less : ℕ) : List ℕ → List ℕ → Type 0 where
  none : {keys : List ℕ} → Changeable add less [] keys
  one : {i : ℕ} {is keys : List ℕ} → i < length keys → Changes add less (get_or keys i 0)
      → Changeable add less is (set keys i (changed add less (get_or keys i 0))) → Changeable add less (i ∷ is) keys

-- ---- what the functions over keys require and promise: the keys at a list of clauses are changed, and the hot blocks stay right

pub record ChangesAsked (add less : ℕ) (is keys hot : List ℕ) : Type 0 where
  pub hot_right : HotBlocks keys hot
  pub can : Changeable add less is keys

-- at the clauses that hold the literal with number k
pub record ChangeAsked (add less k : ℕ) (lists holders marks keys hot : List ℕ) : Type 0 where
  pub small : k < 65535
  pub some : 1 ≤ length keys
  pub part : PartInside lists holders k
  pub mark_room : k < length marks
  pub asked : ChangesAsked add less (holders_at lists holders marks (length keys - 1) k) keys hot

pub record Changed (add less : ℕ) (is before keys hot : List ℕ) : Type 0 where
  pub keys_are : keys ≡ change_all add less is before
  pub hot_right : HotBlocks keys hot
