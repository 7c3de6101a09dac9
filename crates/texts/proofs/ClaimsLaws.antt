-- The laws of specs/Claims: what a tree that holds says of models.
--
--   none_of_holds     no model extends values under which a tree holds
--   true_of_claimed   every model contains a literal that is claimed
--
-- Assumes nothing.
use mathlib.Core.Path.{◌≡◌, ◌∙◌, ap}
use mathlib.Core.Logic.{◌⊎◌, inl, inr}
use mathlib.Core.Bool.{true, false, not}
use mathlib.Core.List.{List, []}
use Prim.Native.Nat.{ℕ, pred, ◌<◌}
use native.Mathlib.Omega.{arith}
use lib.IntN.{ℤ}
use lib.ListN.{length, set}
use borrow.Author.Tests.{eqb-true}
use Rattle.rules.specs.Meaning.{Clause, Values, Total, Model, negated, index_of, value_at, false_byte, is_true, has_true, satisfies}
use Rattle.rules.specs.Models.{Extends}
use Rattle.texts.specs.Claims.{Tree, clause_no, is_false, Holds, by_end, by_split, Claim, Claimed}
use Rattle.rules.proofs.ListLaws.{both, never, any_sound, all_sound, in_get_d}
use Rattle.rules.proofs.MeaningLaws.{set_extends, assign_extends, blank_extends, is_true_frame, not_true_of_false}
use Rattle.rules.proofs.WhyLaws.{is_true-negated}

-- a literal that values have false is false in all that extends them
not_true_later : {vs m : Values} (l : ℤ) → Extends vs m → is_false vs l ≡ true → is_true m l ≡ false
not_true_later {vs} l x h =
    let (f, u) = not_true_of_false vs l (eqb-true (value_at vs (index_of l)) (false_byte l) h) in is_true_frame l x u ∙ f

-- No model extends values under which a tree holds.
pub none_of_holds : {F : List Clause} {vs : Values} {t : Tree} → Holds F vs t → (m : Values) → Extends vs m → Total m → satisfies m F ≡ true → ⊥
none_of_holds {F} {vs} (by_end {n = n} w) m x a s =
    let within : pred n < length F = omega (arith, w.some, w.most) in
    let (l, i, e) = any_sound (is_true m) (clause_no F n) (all_sound (has_true m) s (in_get_d F (pred n) [] within)) in
    never e (not_true_later l x (w.all_false l i))
none_of_holds {F} {vs} (by_split {i = i} {off = off} {on = on} z h k) m x a s = go (a.valued i) (none_of_holds h m) (none_of_holds k m)
  where
    go : (value_at m i ≡ 1) ⊎ (value_at m i ≡ 2)
        → (Extends (set vs i 1) m → Total m → satisfies m F ≡ true → ⊥)
        → (Extends (set vs i 2) m → Total m → satisfies m F ≡ true → ⊥) → ⊥
    go (inl e) f g = f (set_extends i 1 x e) a s
    go (inr e) f g = g (set_extends i 2 x e) a s

-- Every model contains a literal that is claimed.
pub true_of_claimed : {vars : ℕ} {F : List Clause} {c : Claim} → Claimed vars F c → (m : Values) → Model vars F m → is_true m c.literal ≡ true
true_of_claimed {vars} {F} {c} w m k = go (both (is_true m c.literal))
  where
    go : (is_true m c.literal ≡ true) ⊎ (is_true m c.literal ≡ false) → is_true m c.literal ≡ true
    go (inl e) = e
    go (inr e) =
        let t : is_true m (negated c.literal) ≡ true = is_true-negated m c.literal k.total w.up_to.some ∙ ap not e in
        absurd (none_of_holds w.holds m (assign_extends (negated c.literal) (blank_extends vars m k.len) t) k.total k.all_true)
