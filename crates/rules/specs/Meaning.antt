-- docs/RULES.md, "Meaning": literals, clauses, the entry list cut at its zeros, values, models. Assumes nothing.
use Rattle.std.specs.Prelude.{◌≡◌, ◌⊎◌, Bool, true, not, List, [], ◌∷◌, ℕ, zero, suc, pred, ◌≤◌, eqb, ℤ, pos, negsuc, nat_abs, get_or, set, length}
use Rattle.std.proofs.Math.Option.{Option, none}
use Rattle.rules.specs.Lists.{any, all, or_next}

-- ---- literals: variable 3 is 1 to V, literal -3 has a sign

abbrev pub var_of : ℤ → ℕ
var_of l = nat_abs l

abbrev pub negated : ℤ → ℤ
negated (pos zero) = pos zero
negated (pos (suc n)) = negsuc n
negated (negsuc n) = pos (suc n)

-- the index of a literal's variable in a list that has one element a variable: its number less one
abbrev pub index_of : ℤ → ℕ
index_of (pos n) = pred n
index_of (negsuc n) = n

-- a literal of a variable from 1 to n
pub record LitUpTo (n : ℕ) (l : ℤ) : Type 0 where
  pub some : 1 ≤ var_of l
  pub most : var_of l ≤ n

-- ---- clauses

abbrev pub Clause : Type 0
Clause = List ℤ

-- the clause l stands in front of
abbrev pub leading : ℤ → List Clause → List Clause
leading l [] = []
leading l (cl ∷ cls) = (l ∷ cl) ∷ cls

-- the entry list read as clauses 1, 2, 3 and so on: each ends with 0
abbrev pub clauses : List ℤ → List Clause
clauses [] = []
clauses (pos zero ∷ es) = [] ∷ clauses es
clauses (pos (suc n) ∷ es) = leading (pos (suc n)) (clauses es)
clauses (negsuc n ∷ es) = leading (negsuc n) (clauses es)

-- ---- values

-- a byte for each variable, in order: 0 unset, 1 false, 2 true
abbrev pub Values : Type 0
Values = List ℕ

-- a variable that has no byte counts as false, and so as set
abbrev pub value_at : Values → ℕ → ℕ
value_at vs i = get_or vs i 1

-- the byte that makes a literal true, and the one that makes it false
abbrev pub true_byte : ℤ → ℕ
true_byte (pos n) = 2
true_byte (negsuc n) = 1

abbrev pub false_byte : ℤ → ℕ
false_byte (pos n) = 1
false_byte (negsuc n) = 2

abbrev pub is_true : Values → ℤ → Bool
is_true vs l = eqb (value_at vs (index_of l)) (true_byte l)

abbrev pub is_unset : Values → ℤ → Bool
is_unset vs l = eqb (value_at vs (index_of l)) 0

-- the values with l made true
abbrev pub assign : Values → ℤ → Values
assign vs l = set vs (index_of l) (true_byte l)

-- the value of a variable as it is written for a caller: 1 for true, 0 for false
abbrev pub bit_of : ℕ → ℕ
bit_of zero = 0
bit_of (suc zero) = 0
bit_of (suc (suc b)) = 1

-- an empty clause has no true literal
abbrev pub has_true : Values → Clause → Bool
has_true vs cl = any (is_true vs) cl

abbrev pub satisfies : Values → List Clause → Bool
satisfies vs F = all (has_true vs) F

-- the number of the first clause that has no true literal, where the first of F is clause n; none if each has one
abbrev pub first_false_from : ℕ → Values → List Clause → Option ℕ
first_false_from n vs [] = none
first_false_from n vs (cl ∷ cls) = or_next (not (has_true vs cl)) n (first_false_from (suc n) vs cls)

abbrev pub first_false : Values → List Clause → Option ℕ
first_false vs F = first_false_from 1 vs F

-- every byte is 0, 1 or 2
pub record Proper (vs : Values) : Type 0 where
  pub small : (i : ℕ) → value_at vs i ≤ 2

-- ---- models

-- every variable has a value
pub record Total (vs : Values) : Type 0 where
  pub valued : (i : ℕ) → (value_at vs i ≡ 1) ⊎ (value_at vs i ≡ 2)

-- a model gives each variable 1 to n a value so that every clause has a true literal
pub record Model (n : ℕ) (F : List Clause) (m : Values) : Type 0 where
  pub len : length m ≡ n
  pub total : Total m
  pub all_true : satisfies m F ≡ true
