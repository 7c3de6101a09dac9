-- The laws of specs/Literals: the index of a literal's variable, the byte that makes it true, and its value by two tests on the byte
-- at that index.
--
--   index_of_var                   the index is the variable less one
--   true_byte_sign                 the byte that makes a literal true is that of its sign
--   assign_set                    to make a literal true is to store that byte
--   is_unset_byte, is_true_byte_lem     whether it is unset or true, by the byte at its index
--
-- Assumes nothing.
use mathlib.Core.Path.{◌≡◌, refl, ◌∙◌, ap}
use Prim.Native.Nat.{ℕ, zero, suc, ◌+◌, ◌<◌, ◌≤◌}
use native.Mathlib.Omega.{arith}
use lib.Dec.{eqb}
use lib.IntN.{ℤ, pos, negsuc}
use lib.ListN.{get_or, set, length}
use Rattle.rules.specs.Meaning.{Values, var_of, index_of, value_at, true_byte, is_true, is_unset, assign}
use Rattle.rules.proofs.ListLaws.{get_d_default}
use Rattle.formula.specs.Literals.{is_positive, byte_of}

pub index_of_var : (l : ℤ) → 1 ≤ var_of l → index_of l + 1 ≡ var_of l
index_of_var (pos zero) h = absurd (omega arith)
index_of_var (pos (suc n)) h = omega arith
index_of_var (negsuc n) h = omega arith

pub true_byte_sign : (l : ℤ) → true_byte l ≡ byte_of (is_positive l)
true_byte_sign (pos n) = refl
true_byte_sign (negsuc n) = refl

-- at the index that the code computes
module _ (vs : Values) (l : ℤ) (i : ℕ) (e : i + 1 ≡ var_of l) where
  index_is : i ≡ index_of l
  index_is = omega (arith, index_of_var l (omega arith))

  pub assign_set : set vs i (byte_of (is_positive l)) ≡ assign vs l
  assign_set = rw (index_is, true_byte_sign l)

  module _ (h : i < length vs) where
    byte_is : get_or vs i 0 ≡ value_at vs (index_of l)
    byte_is = get_d_default vs i 0 1 h ∙ ap (value_at vs) index_is

    pub is_unset_byte : eqb (get_or vs i 0) 0 ≡ is_unset vs l
    is_unset_byte = rw byte_is

    pub is_true_byte_lem : eqb (get_or vs i 0) (byte_of (is_positive l)) ≡ is_true vs l
    is_true_byte_lem = rw (byte_is, true_byte_sign l)
