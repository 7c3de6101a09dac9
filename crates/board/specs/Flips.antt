-- Flips by counts: in a model, a flip of a true literal can make false only a clause that holds it and has no second true literal. So the
-- first clause that it makes false is found in the list of that literal. Assumes nothing.
use Rattle.std.specs.Prelude.{◌≡◌, true, not, List, [], ◌∷◌, ℕ, suc, ◌≤◌, ◌<◌, ℤ, get_or, length, set}
use Rattle.std.proofs.Math.Option.{Option, none}
use Rattle.rules.specs.Lists.{or_next}
use Rattle.rules.specs.Meaning.{Clause, Values, LitUpTo, clauses, index_of, false_byte, is_true, has_true, satisfies}
use Rattle.formula.specs.Formula.{Formula}
use Rattle.board.specs.Keys.{key_of}
use Rattle.board.specs.Holders.{Holders}

-- the first of some clauses, given by index, that has no true literal, by its number
abbrev pub first_at : Values → List Clause → List ℕ → Option ℕ
first_at vs F [] = none
first_at vs F (c ∷ cs) = or_next (not (has_true vs (get_or F c []))) (suc c) (first_at vs F cs)

-- ---- one clause

-- a key of two true literals or more says that it is true
pub record FalseAsked (es : List ℤ) (starts keys : List ℕ) (vs : Values) (c : ℕ) : Type 0 where
  pub formula : Formula (length vs) es starts
  pub within : c < length (clauses es)
  pub has_key : c < length keys
  pub safe : 131072 ≤ get_or keys c 0 → has_true vs (get_or (clauses es) c []) ≡ true

-- ---- a list of them

pub record FirstsAsked (es : List ℤ) (starts list keys : List ℕ) (vs : Values) : Type 0 where
  pub each : (j : ℕ) → j < length list → FalseAsked es starts keys vs (get_or list j 0)

-- ---- the list of a literal, true in a model, that is flipped

pub record HeldOver (es : List ℤ) (starts lists holders keys : List ℕ) (flipped : Values) (l : ℤ) : Type 0 where
  pub model : Values
  pub formula : Formula (length model) es starts
  pub index : Holders (length model) (clauses es) lists holders
  pub has-keys : length (clauses es) ≤ length keys
  pub keys_are : (c : ℕ) → c < length (clauses es) → get_or keys c 0 ≡ key_of model (get_or (clauses es) c [])
  pub all_true : satisfies model (clauses es) ≡ true
  pub literal : LitUpTo (length model) l
  pub true_here : is_true model l ≡ true
  pub flipped_is : flipped ≡ set model (index_of l) (false_byte l)
