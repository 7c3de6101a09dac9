-- The laws of specs/Blocks: the hot blocks after one key has changed.
--
--   hot_in_le                      no more are hot than there are
--   hot_pos                       the block of a hot key counts one at least
--   blocks_set                    a new key, and the number of its block: one less if the old key was hot, one more if the new one is
--   blocks_same, blocks_falls, blocks_rises     the three ways of that
--   Seeking, seeking_start, seeking_block, seeking_key, seeking_found, seeking_done     no clause from `from` to below i is hot
--
-- Assumes nothing.
use mathlib.Core.Path.{◌≡◌, refl, sym}
use mathlib.Core.Bool.{Bool, true, false, ◌&&◌}
use mathlib.Core.List.{List, [], ◌∷◌}
use Prim.Native.Nat.{ℕ, zero, suc, ◌+◌, ◌-◌, ◌*◌, ◌/◌, ◌≤◌, ◌<◌}
use native.Mathlib.Omega.{arith}
use native.Mathlib.Nat.{zero-add, add-zero}
use lib.Dec.{eqb, ltb}
use lib.ListN.{get_or, set, length, length-set}
use lib.Seq.{get_or-set_same, get_or-set_other, set-get_or}
use borrow.Author.Tests.{eqb-true, eqb-false, eq-eqb, le-leb, lt-leb, ltb-true, ltb-false}
use Rattle.rules.specs.Lists.{count_if}
use Rattle.rules.proofs.ListLaws.{not-true}
use Rattle.board.specs.Blocks.{is_hot, hot_in, HotBlocks, NextHot}

hot_in-set : (b : ℕ) (keys : List ℕ) (j i key : ℕ) → i < length keys
    → hot_in b j (set keys i key) + count_if (eqb ((j + i) / 32) b && is_hot (get_or keys i 0)) 0
    ≡ hot_in b j keys + count_if (eqb ((j + i) / 32) b && is_hot key) 0
hot_in-set b [] j i key h = absurd (omega arith)
hot_in-set b (k ∷ ks) j zero key h =
    rw (add-zero j) (go (eqb (j / 32) b && is_hot k) (eqb (j / 32) b && is_hot key) (hot_in b (suc j) ks))
  where
    go : (x y : Bool) (n : ℕ) → count_if y n + count_if x 0 ≡ count_if x n + count_if y 0
    go true true n = omega arith
    go true false n = omega arith
    go false true n = omega arith
    go false false n = omega arith
hot_in-set b (k ∷ ks) j (suc i) key h =
    let e : j + suc i ≡ suc j + i = omega arith in
    rw e (go (eqb (j / 32) b && is_hot k) _ _ _ _ (hot_in-set b ks (suc j) i key (omega arith)))
  where
    go : (x : Bool) (m n p q : ℕ) → m + p ≡ n + q → count_if x m + p ≡ count_if x n + q
    go true m n p q e = omega arith
    go false m n p q e = e

pub hot_in_le : (b : ℕ) (keys : List ℕ) (j : ℕ) → hot_in b j keys ≤ length keys
hot_in_le b [] j = omega arith
hot_in_le b (k ∷ ks) j = go (eqb (j / 32) b && is_hot k) (hot_in_le b ks (suc j))
  where
    go : (x : Bool) → hot_in b (suc j) ks ≤ length ks → count_if x (hot_in b (suc j) ks) ≤ suc (length ks)
    go true h = omega arith
    go false h = omega arith

module _ (keys hot : List ℕ) (i : ℕ) (h : i < length keys) (w : HotBlocks keys hot) where
  -- in block b
  in_block : (b key : ℕ) → hot_in b 0 (set keys i key) + count_if (eqb (i / 32) b && is_hot (get_or keys i 0)) 0 ≡ hot_in b 0 keys + count_if
      (eqb (i / 32) b && is_hot key) 0
  in_block b key = rw (zero-add i) at (hot_in-set b keys 0 i key h)

  pub hot_pos : is_hot (get_or keys i 0) ≡ true → 1 ≤ get_or hot (i / 32) 0
  hot_pos e = omega (arith, w.counted (i / 32) (w.room i h), rw (eq-eqb (i / 32) (i / 32) refl, e) at (in_block (i / 32) 2))

  pub hot_le : get_or hot (i / 32) 0 ≤ length keys
  hot_le = omega (arith, w.counted (i / 32) (w.room i h), hot_in_le (i / 32) keys 0)

  pub blocks_set : (key n : ℕ) → n + count_if (is_hot (get_or keys i 0)) 0 ≡ get_or hot (i / 32) 0 + count_if (is_hot key) 0
      → HotBlocks (set keys i key) (set hot (i / 32) n)
  blocks_set key n e =
      record {
        small = rw (length-set keys i key) w.small;
        room = λ j k. rw (length-set hot (i / 32) n) (w.room j (rw (length-set keys i key) at k));
        counted = λ b k. go b (rw (length-set hot (i / 32) n) at k) (eqb (i / 32) b) refl;
      }
    where
      go : (b : ℕ) → b < length hot → (x : Bool) → eqb (i / 32) b ≡ x → get_or (set hot (i / 32) n) b 0 ≡ hot_in b 0 (set keys i key)
      go b k true t =
          let at : i / 32 ≡ b = eqb-true (i / 32) b t in
          rw (← at, get_or-set_same hot (i / 32) n 0 (w.room i h))
          (omega (arith, e, w.counted (i / 32) (w.room i h), rw (eq-eqb (i / 32) (i / 32) refl) at (in_block (i / 32) key)))
      go b k false t =
          rw (get_or-set_other hot (i / 32) b n 0 (λ s. eqb-false (i / 32) b t (sym s)))
          (omega (arith, w.counted b k, rw t at (in_block b key)))

  pub blocks_same : (key : ℕ) → is_hot (get_or keys i 0) ≡ is_hot key → HotBlocks (set keys i key) hot
  blocks_same key e = rw (set-get_or hot (i / 32) 0) at (blocks_set key (get_or hot (i / 32) 0) (rw e))

  pub blocks_falls : (key : ℕ) → is_hot (get_or keys i 0) ≡ true → is_hot key ≡ false
      → HotBlocks (set keys i key) (set hot (i / 32) (get_or hot (i / 32) 0 - 1))
  blocks_falls key e f = blocks_set key (get_or hot (i / 32) 0 - 1) (rw (e, f) (omega (arith, hot_pos e)))

  pub blocks_rises : (key : ℕ) → is_hot (get_or keys i 0) ≡ false → is_hot key ≡ true
      → HotBlocks (set keys i key) (set hot (i / 32) (get_or hot (i / 32) 0 + 1))
  blocks_rises key e f = blocks_set key (get_or hot (i / 32) 0 + 1) (rw (e, f) (omega arith))

-- ---- the first hot clause

pub block_end : (i : ℕ) → i < 32 * (i / 32) + 32
block_end i = omega arith

block_of : (i k : ℕ) → i ≤ k → k < 32 * (i / 32) + 32 → i / 32 ≡ k / 32
block_of i k h g = omega arith

pub record Seeking (keys : List ℕ) (from i : ℕ) : Type 0 where
  pub above : from ≤ i
  pub cold : (k : ℕ) → from ≤ k → k < i → k < length keys → is_hot (get_or keys k 0) ≡ false

pub seeking_start : {keys : List ℕ} {from : ℕ} → Seeking keys from from
seeking_start = record { above = omega arith; cold = λ k h g l. absurd (omega arith) }

module _ {keys : List ℕ} {from i : ℕ} (w : Seeking keys from i) where
  pub seeking_block : {hot : List ℕ} → HotBlocks keys hot → get_or hot (i / 32) 0 ≡ 0 → Seeking keys from (32 * (i / 32) + 32)
  seeking_block {hot} b e = record { above = omega (arith, block_end i, w.above); cold = λ k h g l. go k h g l (ltb k i) refl }
    where
      go : (k : ℕ) → from ≤ k → k < 32 * (i / 32) + 32 → k < length keys → (t : Bool) → ltb k i ≡ t → is_hot (get_or keys k 0) ≡ false
      go k h g l true t = w.cold k h (ltb-true k i t) l
      go k h g l false t =
          not-true (is_hot (get_or keys k 0)) (λ x. absurd (omega (arith, hot_pos keys hot k l b x, rw (block_of i k (ltb-false k i t) g) at e)))

  pub seeking_key : 1 < get_or keys i 0 → Seeking keys from (i + 1)
  seeking_key x = record { above = omega (arith, w.above); cold = λ k h g l. go k h g l (eqb k i) refl }
    where
      go : (k : ℕ) → from ≤ k → k < i + 1 → k < length keys → (t : Bool) → eqb k i ≡ t → is_hot (get_or keys k 0) ≡ false
      go k h g l true t = rw (eqb-true k i t) (lt-leb (get_or keys i 0) 1 x)
      go k h g l false t = w.cold k h (omega (arith, eqb-false k i t)) l

  pub seeking_found : i < length keys → get_or keys i 0 ≤ 1 → NextHot keys from i
  seeking_found h x =
      record {
        above = w.above;
        within = omega arith;
        cold_between = λ k g l. w.cold k g l (omega arith);
        hot_there = λ l. le-leb (get_or keys i 0) 1 x;
      }

  pub seeking_done : from ≤ length keys → length keys ≤ i → NextHot keys from (length keys)
  seeking_done h g =
      record {
        above = h;
        within = omega arith;
        cold_between = λ k a b. w.cold k a (omega arith) b;
        hot_there = λ l. absurd (omega arith);
      }
