-- Signed numbers as the machine holds them: a signed local holds bits, so that a goal has `to_z w32 (of_z w32 z)`, which is z where z
-- fits; and what the crossings of a literal compute.
--
--   of_literal                    what a test says of the bits read back, it says of z
--   fits_of_var                   a literal of a small variable fits
--   is_positive_of_le, isNegative-of-lt, isPositive-of-not-lt     what a test against 0 says
--   Magnitude, magnitude_negative the magnitude of a negative number, computed as -(x + 1) + 1
--   cast_positive                 a number that is not negative is its magnitude
--   minus_fits, minus_is          0 - l is the negation
--   of_z_inj                       two numbers with the same bits are the same
--
-- Assumes nothing.
use mathlib.Core.Path.{◌≡◌, refl, sym, ◌∙◌, ap}
use mathlib.Core.Bool.{Bool, true, false}
use Prim.Native.Nat.{ℕ, zero, suc, ◌+◌, ◌<◌, ◌^◌}
use native.Mathlib.Omega.{arith}
use lib.Dec.{T}
use lib.IntN.{ℤ, pos, negsuc, nat_abs, neg_ℤ, suc_ℤ, ◌-ℤ◌, ◌+ℤ◌, +ℤ_idl, +ℤ_one, neg_ℤ-neg_ℤ}
use lib.Signed.{mag, lt_z, le_z, non_neg}
use borrow.Author.Tests.{le-ltb, le-leb}
use mir.Syntax.{w32}
use mir.Val.{Fits, SFits, to_z, of_z}
use Rattle.rules.specs.Meaning.{var_of, negated}
use Rattle.rules.proofs.ListLaws.{never}
use Rattle.rules.proofs.BitLaws.{to_z-of_z_at}
use Rattle.formula.specs.Literals.{is_positive, HasNegation}

-- ---- bits read back

-- a test of what was read is one of the number itself
pub of_literal : (p : ℤ → Bool) (z : ℤ) → SFits w32 z → {b : Bool} → b ≡ p (to_z w32 (of_z w32 z)) → p z ≡ b
of_literal p z f e = ap p (sym (to_z-of_z_at z f)) ∙ sym e

pub fits_of_var : (z : ℤ) → var_of z < 2 ^ 31 → SFits w32 z
fits_of_var (pos n) h = record { sfits = h }
fits_of_var (negsuc n) h = record { sfits = omega arith }

-- two numbers with the same bits are the same, where both fit, as a read of an element says it
pub of_z_inj : {y z : ℤ} → mag y < 2 ^ 31 → mag z < 2 ^ 31 → of_z w32 y ≡ of_z w32 z → y ≡ z
of_z_inj {y} {z} f g e = sym (to_z-of_z_at y (record { sfits = f })) ∙ ap (to_z w32) e ∙ to_z-of_z_at z (record { sfits = g })

-- ---- the sign

le_zero : (z : ℤ) → le_z (pos 0) z ≡ is_positive z
le_zero (pos n) = le-leb 0 n (omega arith)
le_zero (negsuc n) = refl

lt_zero : (z : ℤ) {b : Bool} → lt_z z (pos 0) ≡ b → is_positive z ≡ true → b ≡ false
lt_zero (pos n) e h = sym e ∙ le-ltb n 0 (omega arith)
lt_zero (negsuc n) e h = absurd (never h refl)

pub is_positive_of_le : (z : ℤ) → SFits w32 z → le_z (pos 0) (to_z w32 (of_z w32 z)) ≡ is_positive z
is_positive_of_le z f = ap (le_z (pos 0)) (to_z-of_z_at z f) ∙ le_zero z

-- ---- the magnitude

abbrev up : ℤ → ℤ
up z = to_z w32 (of_z w32 z) +ℤ pos 1

abbrev down : ℤ → ℤ
down z = pos 0 -ℤ to_z w32 (of_z w32 (up z))

pub record Magnitude (z : ℤ) : Type 0 where
  pub up_fits : SFits w32 (up z)
  pub down_fits : SFits w32 (down z)
  pub castable : T (non_neg (to_z w32 (of_z w32 (down z)))) × Fits w32 (nat_abs (to_z w32 (of_z w32 (down z))))
  pub sum_fits : Fits w32 (nat_abs (to_z w32 (of_z w32 (down z))) + 1)
  pub is : nat_abs (to_z w32 (of_z w32 (down z))) + 1 ≡ var_of z

module _ (n : ℕ) (h : n < 2 ^ 31) where
  suc_negsuc : suc_ℤ (negsuc n) ≡ neg_ℤ (pos n)
  suc_negsuc = go n
    where
      go : (n : ℕ) → suc_ℤ (negsuc n) ≡ neg_ℤ (pos n)
      go zero = refl
      go (suc n) = refl

  neg_fits : SFits w32 (neg_ℤ (pos n))
  neg_fits = go n h
    where
      go : (n : ℕ) → n < 2 ^ 31 → SFits w32 (neg_ℤ (pos n))
      go zero h = record { sfits = omega arith }
      go (suc n) h = record { sfits = omega arith }

  up_is : up (negsuc n) ≡ neg_ℤ (pos n)
  up_is = ap (λ (y : ℤ). y +ℤ pos 1) (to_z-of_z_at (negsuc n) (record { sfits = h })) ∙ +ℤ_one (negsuc n) ∙ suc_negsuc

  down_is : down (negsuc n) ≡ pos n
  down_is =
      ap (λ (y : ℤ). pos 0 -ℤ to_z w32 (of_z w32 y)) up_is
      ∙ ap (λ (y : ℤ). pos 0 -ℤ y) (to_z-of_z_at (neg_ℤ (pos n)) neg_fits)
      ∙ +ℤ_idl (neg_ℤ (neg_ℤ (pos n))) ∙ neg_ℤ-neg_ℤ (pos n)

  down_back : to_z w32 (of_z w32 (down (negsuc n))) ≡ pos n
  down_back = ap (λ (y : ℤ). to_z w32 (of_z w32 y)) down_is ∙ to_z-of_z_at (pos n) (record { sfits = h })

pub magnitude_negative : (z : ℤ) → SFits w32 z → lt_z (to_z w32 (of_z w32 z)) (pos 0) ≡ true → Magnitude z
magnitude_negative (pos n) f e = absurd (never e (lt_zero (pos n) (ap (λ (y : ℤ). lt_z y (pos 0)) (sym (to_z-of_z_at (pos n) f))) refl))
magnitude_negative (negsuc n) f e =
    let h : n < 2 ^ 31 = f.sfits in
    record {
      up_fits = rw (up_is n h) (neg_fits n h);
      down_fits = rw (down_is n h) (record { sfits = h });
      castable = rw (down_back n h) (tt, record { fits = omega arith });
      sum_fits = rw (down_back n h) (record { fits = omega arith });
      is = rw (down_back n h) (omega arith);
    }

pub cast_positive : (z : ℤ) → SFits w32 z → lt_z (to_z w32 (of_z w32 z)) (pos 0) ≡ false
    → T (non_neg (to_z w32 (of_z w32 z))) × Fits w32 (nat_abs (to_z w32 (of_z w32 z)))
cast_positive (pos n) f e = rw (to_z-of_z_at (pos n) f) (tt, record { fits = omega (arith, f.sfits) })
cast_positive (negsuc n) f e = absurd (never (ap (λ (y : ℤ). lt_z y (pos 0)) (to_z-of_z_at (negsuc n) f)) e)

-- ---- the negation

neg_is : (z : ℤ) → neg_ℤ z ≡ negated z
neg_is (pos zero) = refl
neg_is (pos (suc n)) = refl
neg_is (negsuc n) = refl

negated_fits : (z : ℤ) → HasNegation z → SFits w32 (negated z)
negated_fits (pos zero) g = record { sfits = omega arith }
negated_fits (pos (suc n)) g = record { sfits = omega (arith, g.small) }
negated_fits (negsuc n) g = record { sfits = omega (arith, g.small) }

minus_back : (z : ℤ) → HasNegation z → pos 0 -ℤ to_z w32 (of_z w32 z) ≡ negated z
minus_back z g =
    ap (λ (y : ℤ). pos 0 -ℤ y) (to_z-of_z_at z (fits_of_var z g.small)) ∙ +ℤ_idl (neg_ℤ z) ∙ neg_is z

pub minus_fits : (z : ℤ) → HasNegation z → SFits w32 (pos 0 -ℤ to_z w32 (of_z w32 z))
minus_fits z g = rw (minus_back z g) (negated_fits z g)

pub minus_is : (z : ℤ) → HasNegation z → to_z w32 (of_z w32 (pos 0 -ℤ to_z w32 (of_z w32 z))) ≡ negated z
minus_is z g = ap (λ (y : ℤ). to_z w32 (of_z w32 y)) (minus_back z g) ∙ to_z-of_z_at (negated z) (negated_fits z g)
