-- All chains written out, as an invariant: the parts of the first k codes are there, and the next one goes behind them.
--
--   part_frame, part_new          a part that lies before what is written stays; what is written is a part
--   Filling, filling_start, filling_asks, filling_step, filling_done     the invariant begins, goes on, pays off
--
-- Assumes nothing.
use mathlib.Core.Path.{◌≡◌, refl, ◌∙◌, ap}
use mathlib.Core.Bool.{Bool, true, false}
use mathlib.Core.List.{List, [], ◌∷◌, ◌++◌, append_assoc}
use Prim.Native.Nat.{ℕ, zero, suc, ◌+◌, ◌-◌, ◌≤◌, ◌<◌}
use native.Mathlib.Omega.{arith}
use native.Mathlib.Nat.{add-zero}
use native.Mathlib.Numerals.{add-one}
use lib.Dec.{eqb}
use lib.ListN.{get_or, set, length, take, drop, length-set}
use lib.Seq.{sets, sets-eq, length-sets, take-set-le, drop-set-add, get_or-set_same, get_or-set_other, take_at, drop_at, length-take-le}
use borrow.Author.Tests.{eqb-true, eqb-false}
use Rattle.board.specs.Chains.{Chain, PutAsked, ChainPut, total, ChainsOf, PutAllAsked, PutPart, AllPut}

part_set : (l : List ℕ) (a b i v : ℕ) → a ≤ b → b ≤ i → take (b - a) (drop a (set l i v)) ≡ take (b - a) (drop a l)
part_set l a b i v h g =
    let e : i ≡ a + (i - a) = omega arith in
    rw (e, drop-set-add a l (i - a) v) (take-set-le (b - a) (drop a l) (i - a) v (omega arith))

part_frame : (vs l : List ℕ) (a b i : ℕ) → a ≤ b → b ≤ i → take (b - a) (drop a (sets l i vs)) ≡ take (b - a) (drop a l)
part_frame [] l a b i h g = refl
part_frame (v ∷ vs) l a b i h g = part_frame vs (set l i v) a b (suc i) h (omega arith) ∙ part_set l a b i v h g

part_new : (vs l : List ℕ) (i : ℕ) → i + length vs ≤ length l → take (i + length vs - i) (drop i (sets l i vs)) ≡ vs
part_new vs l i h =
    let e : i + length vs - i ≡ length vs = omega arith in
    rw (
      e,
      sets-eq vs l i h,
      append_assoc (take i l) vs (drop (i + length vs) l),
      drop_at (take i l) (vs ++ drop (i + length vs) l) i
          (length-take-le i l (omega arith)),
    )
    (take_at vs (drop (i + length vs) l) (length vs) refl)

total_mono : (L : ℕ → List ℕ) (d k : ℕ) → total L k ≤ total L (k + d)
total_mono L zero k = rw (add-zero k) (omega arith)
total_mono L (suc d) k = let e : k + suc d ≡ suc (k + d) = omega arith in rw e (omega (arith, total_mono L d k))

pub record Filling (codes : ℕ) (heads nexts owners starts_from holders-from : List ℕ) (at k : ℕ) (starts holders : List ℕ) : Type 0 where
  pub within : k ≤ codes
  pub same_starts : length starts ≡ length starts_from
  pub same_holders : length holders ≡ length holders-from
  pub starts_at : get_or starts k 0 ≡ at
  pub at_is : (L : ℕ → List ℕ) → ChainsOf L codes heads nexts owners → at ≡ total L k
  pub parts : (L : ℕ → List ℕ) → ChainsOf L codes heads nexts owners → (j : ℕ) → j < k → PutPart starts holders j (L j) × (get_or starts (j + 1) 0 ≤ at)

-- the first start is 0
pub asked_from : {codes : ℕ} {heads nexts owners starts holders : List ℕ} → PutAllAsked codes heads nexts owners starts holders
    → PutAllAsked codes heads nexts owners (set starts 0 0) holders
asked_from {codes} {heads} {nexts} {owners} {starts} {holders} a =
    record {
      L = a.L;
      chains = a.chains;
      heads_fit = a.heads_fit;
      owner_room = a.owner_room;
      next_room = a.next_room;
      start_room = rw (length-set starts 0 0) a.start_room;
      room = a.room;
      small = a.small;
    }

pub filling_start : {codes : ℕ} {heads nexts owners starts holders : List ℕ} → PutAllAsked codes heads nexts owners starts holders
    → Filling codes heads nexts owners (set starts 0 0) holders 0 0 (set starts 0 0) holders
filling_start {codes} {heads} {nexts} {owners} {starts} {holders} a =
    record {
      within = omega arith;
      same_starts = refl;
      same_holders = refl;
      starts_at = get_or-set_same starts 0 0 0 (omega (arith, a.start_room));
      at_is = λ L t. refl;
      parts = λ L t j h. absurd (omega arith);
    }

module _ {codes : ℕ} {heads nexts owners starts_from holders-from : List ℕ} (a : PutAllAsked codes heads nexts owners starts_from holders-from)
    {at k : ℕ} {starts holders : List ℕ} (h : k < codes) (w : Filling codes heads nexts owners starts_from holders-from at k starts holders) where
  next-total : total a.L k + length (a.L k) ≤ length holders
  next-total =
      let d : suc k + (codes - suc k) ≡ codes = omega arith in
      omega (arith, w.same_holders, a.room, rw d at (total_mono a.L (codes - suc k) (suc k)))

  pub filling_asks : PutAsked owners nexts (get_or heads k 0) at holders
  filling_asks =
      record {
        is = a.L k;
        chain = a.chains.each k h;
        owner_room = a.owner_room k;
        next_room = a.next_room k;
        room = omega (arith, next-total, w.at_is a.L a.chains);
      }

  module _ {r : ℕ} {holders2 : List ℕ} (d : (is : List ℕ) → Chain owners nexts (get_or heads k 0) is → ChainPut is at holders r holders2) where
    pub end_le : r ≤ length holders
    end_le = omega (arith, (d (a.L k) (a.chains.each k h)).ends_at, next-total, w.at_is a.L a.chains)

    pub filling_step : Filling codes heads nexts owners starts_from holders-from r (k + 1) (set starts (k + 1) r) holders2
    filling_step =
        record {
          within = omega arith;
          same_starts = length-set starts (k + 1) r ∙ w.same_starts;
          same_holders = same ∙ w.same_holders;
          starts_at = at_end;
          at_is = λ L t. rw (add-one k) (omega (arith, (d (L k) (t.each k h)).ends_at, w.at_is L t));
          parts = λ L t j g. part L t j g (eqb j k) refl;
        }
      where
        same : length holders2 ≡ length holders
        same = ap length (d (a.L k) (a.chains.each k h)).holders_are ∙ length-sets holders at (a.L k)

        at_end : get_or (set starts (k + 1) r) (k + 1) 0 ≡ r
        at_end = get_or-set_same starts (k + 1) r 0 (omega (arith, w.same_starts, a.start_room))

        part : (L : ℕ → List ℕ) → ChainsOf L codes heads nexts owners → (j : ℕ) → j < k + 1 → (b : Bool) → eqb j k ≡ b
            → PutPart (set starts (k + 1) r) holders2 j (L j) × (get_or (set starts (k + 1) r) (j + 1) 0 ≤ r)
        part L t j g true e =
            let put = d (L k) (t.each k h) in
            let s1 : get_or (set starts (k + 1) r) k 0 ≡ at = get_or-set_other starts (k + 1) k r 0 (λ x. absurd (omega arith)) ∙ w.starts_at in
            rw (eqb-true j k e) (
              record {
                ordered = omega (arith, s1, at_end, put.ends_at);
                inside = omega (arith, at_end, end_le, same);
                part_is = rw (s1, at_end, put.ends_at, put.holders_are)
                    (part_new (L k) holders at (omega (arith, put.ends_at, end_le)));
              },
              omega (arith, at_end),
            )
        part L t j g false e =
            let lt : j < k = omega (arith, eqb-false j k e) in
            let put = d (L k) (t.each k h) in
            let (p, le) = w.parts L t j lt in
            let s1 : get_or (set starts (k + 1) r) j 0 ≡ get_or starts j 0 = get_or-set_other starts (k + 1) j r 0 (λ x. absurd (omega arith)) in
            let s2 : get_or (set starts (k + 1) r) (j + 1) 0 ≡ get_or starts (j + 1) 0 = get_or-set_other starts (k + 1) (j + 1) r 0
            (λ x. absurd (omega arith)) in (
              record {
                ordered = omega (arith, s1, s2, p.ordered);
                inside = omega (arith, s2, p.inside, same);
                part_is = rw (s1, s2, put.holders_are) (part_frame (L k) holders (get_or starts j 0) (get_or starts (j + 1) 0) at p.ordered le ∙ p.part_is);
              },
              omega (arith, s2, le, put.ends_at),
            )

pub filling_done : {codes : ℕ} {heads nexts owners starts_from holders-from : List ℕ} {at k : ℕ} {starts holders : List ℕ} → codes ≤ k
    → Filling codes heads nexts owners starts_from holders-from at k starts holders → AllPut codes heads nexts owners starts holders
filling_done h w = record { parts = λ L t j g. (w.parts L t j (omega arith)).0 }
