-- The chains written out are the index: each literal has its part, and there is room for all of them.
--
--   put_all_asked                 linked chains can be written out where there is a place for each entry
--   holders_of                    and then they are the index
--
-- Assumes nothing.
use mathlib.Core.Path.{◌≡◌, refl, ◌∙◌, ap}
use mathlib.Core.Bool.{Bool, true, false}
use mathlib.Core.List.{List, [], ◌∷◌}
use Prim.Native.Nat.{ℕ, zero, suc, ◌+◌, ◌*◌, ◌≤◌, ◌<◌}
use native.Mathlib.Omega.{arith}
use lib.IntN.{ℤ, pos, negsuc}
use lib.ListN.{length}
use Rattle.rules.specs.Lists.{count_if, keep_if, sum_of}
use Rattle.rules.specs.Meaning.{Clause, leading, clauses}
use Rattle.board.specs.Keys.{holds}
use Rattle.board.specs.Holders.{code_of, lit_of, holding, Holders}
use Rattle.board.specs.Chains.{Linked, LinkedAll, total, ChainsOf, PutAllAsked, AllPut}
use Rattle.board.proofs.CodeLaws.{code_of_lt, code_of-lit_of, lit_of_up_to, lit_of-code_of}
use Rattle.board.proofs.CountLaws.{helds, helds_le}

-- ---- there are no more holders than entries

-- the holders of each number
abbrev pub lists_of : ℕ → List Clause → ℕ → List ℕ
lists_of c G k = holding (lit_of k) c G

total_cons : (c : ℕ) (cl : Clause) (G : List Clause) (N : ℕ) → total (lists_of c (cl ∷ G)) N ≡ helds cl N + total (lists_of (suc c) G) N
unfolding helds
total_cons c cl G zero = refl
total_cons c cl G (suc k) = go (holds (lit_of k) cl) (total_cons c cl G k)
  where
    go : (b : Bool) → total (lists_of c (cl ∷ G)) k ≡ helds cl k + total (lists_of (suc c) G) k
        → total (lists_of c (cl ∷ G)) k + length (keep_if b c (holding (lit_of k) (suc c) G)) ≡ helds cl k + count_if b 0 +
        (total (lists_of (suc c) G) k + length (holding (lit_of k) (suc c) G))
    go true h = omega arith
    go false h = omega arith

total_nil : (c N : ℕ) → total (lists_of c []) N ≡ 0
total_nil c zero = refl
total_nil c (suc k) = omega (arith, total_nil c k)

total_le : (c : ℕ) (G : List Clause) (N : ℕ) → total (lists_of c G) N ≤ sum_of length G
total_le c [] N = omega (arith, total_nil c N)
total_le c (cl ∷ G) N = omega (arith, total_cons c cl G N, helds_le cl N, total_le (suc c) G N)

sum_leading : (z : ℤ) (G : List Clause) → sum_of length (leading z G) ≤ suc (sum_of length G)
sum_leading z [] = omega arith
sum_leading z (cl ∷ G) = omega arith

sum_clauses : (es : List ℤ) → sum_of length (clauses es) ≤ length es
sum_clauses [] = omega arith
sum_clauses (pos zero ∷ es) = omega (arith, sum_clauses es)
sum_clauses (pos (suc n) ∷ es) = omega (arith, sum_clauses es, sum_leading (pos (suc n)) (clauses es))
sum_clauses (negsuc n ∷ es) = omega (arith, sum_clauses es, sum_leading (negsuc n) (clauses es))

-- ---- from the chains to the index

chains_of : {n m : ℕ} {F : List Clause} {heads nexts owners : List ℕ} → Linked n 0 F m heads nexts owners → ChainsOf (lists_of 0 F) (2 * n) heads nexts owners
chains_of {n} {m} {F} {heads} {nexts} {owners} w =
    record { each = λ k h. rw (code_of-lit_of k) at (w.chains (lit_of k) (lit_of_up_to n k h)) }

pub put_all_asked : {n m : ℕ} {es : List ℤ} {heads nexts owners starts holders : List ℕ} → LinkedAll n es m heads nexts owners
    → length es ≤ length owners → length es ≤ length nexts → 2 * n < length starts → length es ≤ length holders → length holders ≤ 65535
    → PutAllAsked (2 * n) heads nexts owners starts holders
put_all_asked {n} {m} {es} w a b s h q =
    record {
      L = lists_of 0 (clauses es);
      chains = chains_of w.linked;
      heads_fit = w.linked.room;
      owner_room = λ k. omega (arith, w.linked.below k, w.few);
      next_room = λ k. omega (arith, w.linked.below k, w.few);
      start_room = s;
      room = omega (arith, total_le 0 (clauses es) (2 * n), sum_clauses es);
      small = q;
    }

pub holders_of : {n m : ℕ} {F : List Clause} {heads nexts owners starts holders : List ℕ} → Linked n 0 F m heads nexts owners
    → AllPut (2 * n) heads nexts owners starts holders → 2 * n < length starts → Holders n F starts holders
holders_of {n} {m} {F} {heads} {nexts} {owners} {starts} {holders} w p s =
    record {
      listed = λ l v.
          let h : code_of l < 2 * n = code_of_lt l v in
          let part = p.parts (lists_of 0 F) (chains_of w) (code_of l) h in
          record {
            part = record { within = omega arith; ordered = part.ordered; inside = part.inside };
            part_is = part.part_is ∙ ap (λ (x : ℤ). holding x 0 F) (lit_of-code_of l v.some);
          };
    }
