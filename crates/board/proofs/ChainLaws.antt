-- The laws of specs/Chains: the chains after one entry more.
--
--   chain_frame                   a new cell does no harm
--   linked_zero, linked_literal   one entry more in front: the end of a clause, or a literal
--
-- Assumes nothing.
use mathlib.Core.Path.{◌≡◌, refl, sym, ◌∙◌, ap}
use mathlib.Core.Logic.{◌≢◌}
use mathlib.Core.Bool.{Bool, true, false, ◌||◌}
use mathlib.Core.List.Memᴰ
use mathlib.Core.List.{List, [], ◌∷◌}
use Prim.Native.Nat.{ℕ, suc, ◌+◌, ◌≤◌, ◌<◌}
use native.Mathlib.Omega.{arith}
use native.Mathlib.Numerals.{add-one}
use lib.Dec.{eqb}
use lib.IntN.{ℤ}
use lib.ListN.{get_or, set, length, length-set}
use lib.Seq.{get_or-set_same, get_or-set_other}
use borrow.Author.Tests.{eqb-true, eqb-false}
use Rattle.rules.specs.Lists.{In, keep_if, eqz}
use Rattle.rules.specs.Meaning.{Clause, LitUpTo}
use Rattle.rules.proofs.ListLaws.{eqz_sound, eqz_refl, eqz_complete, never, not-true}
use Rattle.board.specs.Keys.{holds}
use Rattle.board.specs.Holders.{code_of, holding}
use Rattle.board.specs.Chains.{Chain, Linked, Links}
use Rattle.board.specs.Chains.Chain.{ends, cell}
use Rattle.board.specs.Chains.Links.{twice, first, other}
use Rattle.board.proofs.CodeLaws.{code_of_same, code_of_lt}

kept : {owners nexts : List ℕ} {h g : ℕ} {is : List ℕ} → h ≡ g → Chain owners nexts h is → Chain owners nexts g is
kept e r = rw e at r

pub chain_frame : {owners nexts : List ℕ} {h : ℕ} {is : List ℕ} (m c x : ℕ) → h ≤ m → Chain owners nexts h is → Chain (set owners m c) (set nexts m x) h is
chain_frame m c x b (ends e) = ends e
chain_frame {owners} {nexts} m c x b (cell j e q d r) =
    let ne : j ≢ m = λ t. absurd (omega arith) in
    let same : get_or (set nexts m x) j 0 ≡ get_or nexts j 0 = get_or-set_other nexts m j x 0 ne in
    cell {is = _} j e (q ∙ sym (get_or-set_other owners m j c 0 ne)) (rw same d) (kept (sym same) (chain_frame m c x (omega arith) r))

-- the clauses that hold l are from i on
holding_ge : (l : ℤ) (i : ℕ) (G : List Clause) (j : ℕ) → In j (holding l i G) → i ≤ j
holding_ge l i [] j h = absurd (Memᴰ.not-nil h)
holding_ge l i (cl ∷ G) j h = go (holds l cl) h (holding_ge l (suc i) G j)
  where
    go : (b : Bool) → In j (keep_if b i (holding l (suc i) G)) → (In j (holding l (suc i) G) → suc i ≤ j) → i ≤ j
    go true (Memᴰ.head e) ih = omega arith
    go true (Memᴰ.tail t) ih = omega (arith, ih t)
    go false t ih = omega (arith, ih t)

chain_owner : {owners nexts : List ℕ} {h : ℕ} {is : List ℕ} (j : ℕ) → h ≡ suc j → Chain owners nexts h is → In (get_or owners j 0) is
chain_owner j t (ends e) = absurd (omega arith)
chain_owner {owners} j t (cell j' e q d r) =
    let s : j ≡ j' = omega arith in Memᴰ.head (ap (λ (x : ℕ). get_or owners x 0) s ∙ sym q)

chain_nil : {owners nexts : List ℕ} {h i : ℕ} {is : List ℕ} → h ≡ 0 → Chain owners nexts h (i ∷ is) → ⊥
chain_nil t (cell j e q d r) = omega arith

chain_first : {owners nexts : List ℕ} {h i : ℕ} {is : List ℕ} (j : ℕ) → h ≡ suc j → Chain owners nexts h (i ∷ is) → get_or owners j 0 ≡ i
chain_first {owners} j t (cell j' e q d r) = let s : j ≡ j' = omega arith in ap (λ (x : ℕ). get_or owners x 0) s ∙ sym q

-- ---- one entry more

pub linked_zero : {n c : ℕ} {G : List Clause} {m : ℕ} {heads nexts owners : List ℕ} → Linked n (suc c) G m heads nexts owners
    → Linked n c ([] ∷ G) m heads nexts owners
linked_zero w = record { room = w.room; below = w.below; chains = w.chains }

module _ {n c : ℕ} {cl : Clause} {G : List Clause} {m : ℕ} {heads nexts owners : List ℕ} (k : ℤ) (u : LitUpTo n k)
    (w : Linked n c (cl ∷ G) m heads nexts owners) where
  same_chain : (l : ℤ) → LitUpTo n l → eqz l k ≡ false → Chain owners nexts (get_or heads (code_of l) 0)
      (keep_if (eqz l k || holds l cl) c (holding l (suc c) G))
  same_chain l v e = rw e (w.chains l v)

  linked_twice : holds k cl ≡ true → Linked n c ((k ∷ cl) ∷ G) m heads nexts owners
  linked_twice h = record { room = w.room; below = w.below; chains = λ l v. go l v (eqz l k) refl }
    where
      go : (l : ℤ) → LitUpTo n l → (b : Bool) → eqz l k ≡ b → Chain owners nexts (get_or heads (code_of l) 0)
          (keep_if (eqz l k || holds l cl) c (holding l (suc c) G))
      go l v true e =
          let s : holds l cl ≡ true = rw (eqz_sound l k e) h in
          let t : Chain owners nexts (get_or heads (code_of l) 0) (keep_if (holds l cl) c (holding l (suc c) G)) = w.chains l v in
          rw e (rw s at t)
      go l v false e = same_chain l v e

  -- the chain of k if the clause does not hold it yet, or does
  not_held : holds k cl ≡ false → Chain owners nexts (get_or heads (code_of k) 0) (holding k (suc c) G)
  not_held h =
      let t : Chain owners nexts (get_or heads (code_of k) 0) (keep_if (holds k cl) c (holding k (suc c) G)) = w.chains k u in
      rw h at t

  held : holds k cl ≡ true → Chain owners nexts (get_or heads (code_of k) 0) (c ∷ holding k (suc c) G)
  held h =
      let t : Chain owners nexts (get_or heads (code_of k) 0) (keep_if (holds k cl) c (holding k (suc c) G)) = w.chains k u in
      rw h at t

  linked_new : holds k cl ≡ false → m < length nexts → m < length owners
      → Linked n c ((k ∷ cl) ∷ G) (m + 1) (set heads (code_of k) (m + 1)) (set nexts m (get_or heads (code_of k) 0)) (set owners m c)
  linked_new h nr or =
      record {
        room = rw (length-set heads (code_of k) (m + 1)) w.room;
        below = λ j. low j (eqb j (code_of k)) refl;
        chains = λ l v. go l v (eqz l k) refl;
      }
    where
      in_heads : code_of k < length heads
      in_heads = omega (arith, code_of_lt k u, w.room)

      low : (j : ℕ) (b : Bool) → eqb j (code_of k) ≡ b → get_or (set heads (code_of k) (m + 1)) j 0 ≤ m + 1
      low j true e = rw (eqb-true j (code_of k) e, get_or-set_same heads (code_of k) (m + 1) 0 in_heads) (omega arith)
      low j false e = rw (get_or-set_other heads (code_of k) j (m + 1) 0 (eqb-false j (code_of k) e)) (omega (arith, w.below j))

      go : (l : ℤ) → LitUpTo n l → (b : Bool) → eqz l k ≡ b
          → Chain (set owners m c) (set nexts m (get_or heads (code_of k) 0)) (get_or (set heads (code_of k) (m + 1)) (code_of l) 0)
          (keep_if (eqz l k || holds l cl) c (holding l (suc c) G))
      go l v true e =
          rw (eqz_sound l k e, get_or-set_same heads (code_of k) (m + 1) 0 in_heads, eqz_refl k)
          (cell m (add-one m) (sym (get_or-set_same owners m c 0 or)) (rw (get_or-set_same nexts m (get_or heads (code_of k) 0) 0 nr) (w.below (code_of k)))
          (kept (sym (get_or-set_same nexts m (get_or heads (code_of k) 0) 0 nr))
          (chain_frame m c (get_or heads (code_of k) 0) (w.below (code_of k)) (not_held h))))
      go l v false e =
          let d : code_of l ≢ code_of k = λ t. never (eqz_complete l k (code_of_same l k v.some u.some t)) e in
          rw (get_or-set_other heads (code_of k) (code_of l) (m + 1) 0 d)
          (chain_frame m c (get_or heads (code_of k) 0) (w.below (code_of l)) (same_chain l v e))

  pub linked_literal : {r : ℕ} {heads2 nexts2 owners2 : List ℕ} → m < length nexts → m < length owners
      → Links (code_of k) c m heads nexts owners r heads2 nexts2 owners2
      → Linked n c ((k ∷ cl) ∷ G) r heads2 nexts2 owners2
  linked_literal nr or (twice j e q) = go (holds k cl) refl
    where
      go : (b : Bool) → holds k cl ≡ b → Linked n c ((k ∷ cl) ∷ G) m heads nexts owners
      go true h = linked_twice h
      go false h = absurd (omega (arith, holding_ge k (suc c) G (get_or owners j 0) (chain_owner j e (not_held h))))
  linked_literal nr or (first e) = linked_new (not-true (holds k cl) (λ h. chain_nil e (held h))) nr or
  linked_literal nr or (other j e q) = linked_new (not-true (holds k cl) (λ h. q (chain_first j e (held h)))) nr or
