-- The pass that links all entries, as an invariant: with e entries left the chains are those of the clauses behind them.
--
--   Linking, linking_start, linking_zero, linking_literal, linking_skip, linking_done     the invariant begins, goes on, pays off
--   link_asks, literal_up_to      what linking one entry requires; zero_pos: a clause is left to end
--
-- Assumes nothing.
use mathlib.Core.Path.{◌≡◌, refl, ◌∙◌, ap}
use mathlib.Core.Logic.{◌≢◌}
use mathlib.Core.List.{List, [], ◌∷◌}
use Prim.Native.Nat.{ℕ, zero, suc, ◌+◌, ◌-◌, ◌≤◌, ◌<◌}
use native.Mathlib.Omega.{arith}
use lib.IntN.{ℤ, pos, negsuc}
use lib.ListN.{get_or, length, drop}
use lib.Seq.{drop-cons, drop-length}
use Rattle.rules.specs.Meaning.{Clause, LitUpTo, var_of, leading, clauses}
use Rattle.rules.proofs.ListLaws.{in_get_d}
use Rattle.rules.proofs.ClauseLaws.{length-leading}
use Rattle.board.specs.Holders.{code_of}
use Rattle.board.specs.Chains.{Linked, Links, LinkAsked, LinkAllAsked, LinkedAll}
use Rattle.board.specs.Chains.Chain.{ends}
use Rattle.board.specs.Chains.Links.{twice, first, other}
use Rattle.board.proofs.CodeLaws.{code_of_lt}
use Rattle.board.proofs.ChainLaws.{linked_zero, linked_literal}

clauses-literal : (z : ℤ) (es : List ℤ) → z ≢ pos 0 → clauses (z ∷ es) ≡ leading z (clauses es)
clauses-literal (pos zero) es h = absurd (h refl)
clauses-literal (pos (suc n)) es h = refl
clauses-literal (negsuc n) es h = refl

some_of_literal : (z : ℤ) → z ≢ pos 0 → 1 ≤ var_of z
some_of_literal (pos zero) h = absurd (h refl)
some_of_literal (pos (suc n)) h = omega arith
some_of_literal (negsuc n) h = omega arith

clauses-drop : (i : ℕ) (es : List ℤ) → length (clauses (drop i es)) ≤ length (clauses es)
clauses-drop zero es = omega arith
clauses-drop (suc i) [] = omega arith
clauses-drop (suc i) (pos zero ∷ es) = omega (arith, clauses-drop i es)
clauses-drop (suc i) (pos (suc n) ∷ es) = omega (arith, clauses-drop i es, length-leading (pos (suc n)) (clauses es))
clauses-drop (suc i) (negsuc n ∷ es) = omega (arith, clauses-drop i es, length-leading (negsuc n) (clauses es))

links_le : {k c m : ℕ} {heads nexts owners : List ℕ} {r : ℕ} {heads2 nexts2 owners2 : List ℕ}
    → Links k c m heads nexts owners r heads2 nexts2 owners2 → r ≤ m + 1
links_le (twice j e q) = omega arith
links_le (first e) = omega arith
links_le (other j e q) = omega arith

pub record Linking (n count : ℕ) (es : List ℤ) (heads-from nexts-from owners-from : List ℕ) (e m c : ℕ) (heads nexts owners : List ℕ) : Type 0 where
  pub within : e ≤ length es
  pub cells : m + e ≤ length es
  pub behind : c + length (clauses (drop e es)) ≡ count
  pub linked : Linked n c (clauses (drop e es)) m heads nexts owners
  pub same_heads : length heads ≡ length heads-from
  pub same_nexts : length nexts ≡ length nexts-from
  pub same_owners : length owners ≡ length owners-from

module _ {n count : ℕ} {es : List ℤ} {heads-from nexts-from owners-from : List ℕ} (a : LinkAllAsked n count es heads-from nexts-from owners-from) where
  pub linking_start : Linking n count es heads-from nexts-from owners-from (length es) 0 count heads-from nexts-from owners-from
  linking_start =
      record {
        within = omega arith;
        cells = omega arith;
        behind = rw (drop-length es) (omega arith);
        linked = rw (drop-length es) (record { room = a.head_room; below = λ k. omega (arith, a.blank k); chains = λ l v. ends (a.blank (code_of l)) });
        same_heads = refl;
        same_nexts = refl;
        same_owners = refl;
      }

  module _ {e m c : ℕ} {heads nexts owners : List ℕ} (h : 0 < e) (w : Linking n count es heads-from nexts-from owners-from e m c heads nexts owners) where
    drops : drop (e - 1) es ≡ get_or es (e - 1) (pos 0) ∷ drop e es
    drops = let t : suc (e - 1) ≡ e = omega arith in rw t at (drop-cons es (e - 1) (pos 0) (omega (arith, w.within)))

    -- the clause that ends here
    ended : get_or es (e - 1) (pos 0) ≡ pos 0 → clauses (drop (e - 1) es) ≡ [] ∷ clauses (drop e es)
    ended z = ap clauses (drops ∙ ap (λ (x : ℤ). x ∷ drop e es) z)

    pub zero_pos : get_or es (e - 1) (pos 0) ≡ pos 0 → 1 ≤ c
    zero_pos z = omega (arith, w.behind, a.count_is, ap length (ended z), clauses-drop (e - 1) es)

    pub linking_zero : get_or es (e - 1) (pos 0) ≡ pos 0 → Linking n count es heads-from nexts-from owners-from (e - 1) m (c - 1) heads nexts owners
    linking_zero z =
        let t : c ≡ suc (c - 1) = omega (arith, zero_pos z) in
        record {
          within = omega (arith, w.within);
          cells = omega (arith, w.cells);
          behind = rw (ended z) (omega (arith, w.behind, zero_pos z));
          linked = rw (ended z) (linked_zero (rw t at w.linked));
          same_heads = w.same_heads;
          same_nexts = w.same_nexts;
          same_owners = w.same_owners;
        }

    module _ (z : get_or es (e - 1) (pos 0) ≢ pos 0) where
      led : clauses (drop (e - 1) es) ≡ leading (get_or es (e - 1) (pos 0)) (clauses (drop e es))
      led = ap clauses drops ∙ clauses-literal (get_or es (e - 1) (pos 0)) (drop e es) z

      pub literal_up_to : LitUpTo n (get_or es (e - 1) (pos 0))
      literal_up_to =
          record {
            some = some_of_literal (get_or es (e - 1) (pos 0)) z;
            most = a.over (get_or es (e - 1) (pos 0)) (in_get_d es (e - 1) (pos 0) (omega (arith, w.within)));
          }

      pub link_asks : LinkAsked (code_of (get_or es (e - 1) (pos 0))) m heads nexts owners
      link_asks =
          record {
            head = omega (arith, code_of_lt (get_or es (e - 1) (pos 0)) literal_up_to, w.linked.room);
            below = w.linked.below (code_of (get_or es (e - 1) (pos 0)));
            next_room = omega (arith, w.cells, w.same_nexts, a.next_room);
            owner_room = omega (arith, w.cells, w.same_owners, a.owner_room);
            few = omega (arith, w.cells, a.entries_fit);
          }

      pub linking_literal : c < count → {r : ℕ} {heads2 nexts2 owners2 : List ℕ} → Links (code_of (get_or es (e - 1) (pos 0))) c m heads nexts owners r
          heads2 nexts2 owners2
          → length heads2 ≡ length heads → length nexts2 ≡ length nexts → length owners2 ≡ length owners
          → Linking n count es heads-from nexts-from owners-from (e - 1) r c heads2 nexts2 owners2
      linking_literal g {r} {heads2} {nexts2} {owners2} d p q s =
          record {
            within = omega (arith, w.within);
            cells = omega (arith, w.cells, links_le d);
            behind = rw led (rw (length-leading (get_or es (e - 1) (pos 0)) (clauses (drop e es))) w.behind);
            linked = rw led (go (clauses (drop e es)) w.behind w.linked);
            same_heads = p ∙ w.same_heads;
            same_nexts = q ∙ w.same_nexts;
            same_owners = s ∙ w.same_owners;
          }
        where
          go : (G : List Clause) → c + length G ≡ count → Linked n c G m heads nexts owners
              → Linked n c (leading (get_or es (e - 1) (pos 0)) G) r heads2 nexts2 owners2
          go [] b t = absurd (omega arith)
          go (cl ∷ G) b t = linked_literal (get_or es (e - 1) (pos 0)) literal_up_to t link_asks.next_room link_asks.owner_room d

      pub linking_skip : count ≤ c → Linking n count es heads-from nexts-from owners-from (e - 1) m c heads nexts owners
      linking_skip g =
          record {
            within = omega (arith, w.within);
            cells = omega (arith, w.cells);
            behind = rw led (rw (length-leading (get_or es (e - 1) (pos 0)) (clauses (drop e es))) w.behind);
            linked = rw led (go (clauses (drop e es)) w.behind w.linked);
            same_heads = w.same_heads;
            same_nexts = w.same_nexts;
            same_owners = w.same_owners;
          }
        where
          go : (G : List Clause) → c + length G ≡ count → Linked n c G m heads nexts owners
              → Linked n c (leading (get_or es (e - 1) (pos 0)) G) m heads nexts owners
          go [] b t = t
          go (cl ∷ G) b t = absurd (omega arith)

  pub linking_done : {m c e : ℕ} {heads nexts owners : List ℕ} → e ≤ 0 → Linking n count es heads-from nexts-from owners-from e m c heads nexts owners
      → LinkedAll n es m heads nexts owners
  linking_done {m} {c} {e} {heads} {nexts} {owners} g w =
      let z : e ≡ 0 = omega arith in
      let all : c + length (clauses es) ≡ count = rw z at w.behind in
      let first : c ≡ 0 = omega (arith, a.count_is) in
      record { few = omega (arith, w.cells); linked = rw first at (rw z at w.linked) }
