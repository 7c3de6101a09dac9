-- The laws of src/judge.rt: what is refused by what is counted is what `rules` refuses by what was read.
--
--   between_under, between_over, between_zero, between_some     a number from low to high
--   rules_groups, rules_size, rules_count, rules_entry     the rules of each part
--
-- Assumes nothing.
use mathlib.Core.Path.{◌≡◌, refl}
use mathlib.Core.Bool.{Bool, true, false, not, ◌&&◌}
use mathlib.Core.List.{List}
use Prim.Native.Nat.{ℕ, zero, suc, ◌≤◌, ◌<◌}
use native.Mathlib.Omega.{arith}
use lib.Dec.{leb}
use lib.IntN.{ℤ}
use borrow.Author.Tests.{le-leb, lt-leb}
use Rattle.rules.specs.Lists.{count, is_zero}
use Rattle.texts.specs.Groups.{vars_in}
use Rattle.texts.specs.GroupsReading.{groups_due, sizes_due, entries_due, is_between, number_rules}
use Rattle.reader.specs.Words.{signed_value}
use Rattle.groups.specs.Stages.{group_rules, size_rules, count_rules, entry_rules}

-- ---- a number from low to high

module _ (low high : ℕ) where
  pub between_under : (n : ℕ) (minus : Bool) → n < low → false ≡ is_between low high (signed_value minus n)
  between_under zero true h = rw (lt-leb low 0 h)
  between_under (suc n) true h = refl
  between_under n false h = rw (lt-leb low n h)

  pub between_over : (n : ℕ) (minus : Bool) → high < n → false ≡ is_between low high (signed_value minus n)
  between_over zero true h = absurd (omega arith)
  between_over (suc n) true h = refl
  between_over n false h = rw (lt-leb n high h) (go (leb low n))
    where
      go : (b : Bool) → false ≡ (b && false)
      go true = refl
      go false = refl

  pub between_zero : (n : ℕ) (minus : Bool) → low ≤ n → n ≤ high → n ≡ 0 → true ≡ is_between low high (signed_value minus n)
  between_zero zero true h k e = rw (le-leb low 0 h, le-leb 0 high k)
  between_zero (suc n) true h k e = absurd (omega arith)
  between_zero n false h k e = rw (le-leb low n h, le-leb n high k)

  pub between_some : (n : ℕ) (minus : Bool) → low ≤ n → n ≤ high → (n ≡ 0 → ⊥) → not minus ≡ is_between low high (signed_value minus n)
  between_some zero true h k e = absurd (e refl)
  between_some (suc n) true h k e = refl
  between_some n false h k e = rw (le-leb low n h, le-leb n high k)

-- ---- the rules of each part

pub rules_groups : (at : ℕ) (l : ℤ) → number_rules groups_due at l ≡ group_rules at l
rules_groups at l = refl

pub rules_size : (n : ℕ) (sizes : List ℕ) (at : ℕ) (l : ℤ) → number_rules (sizes_due (suc n) sizes) at l ≡ size_rules (vars_in sizes) at l
rules_size n sizes at l = refl

pub rules_count : (sizes : List ℕ) (at : ℕ) (l : ℤ) → number_rules (sizes_due zero sizes) at l ≡ count_rules at l
rules_count sizes at l = refl

pub rules_entry : (sizes : List ℕ) (c : ℕ) (es : List ℤ) (at : ℕ) (l : ℤ)
    → number_rules (entries_due sizes c es) at l ≡ entry_rules (vars_in sizes) c (count is_zero es) at l
rules_entry sizes c es at l = refl
