-- The first board: the hot blocks of keys that are all 0, and the keys counted literal by literal.
--
--   Heating, heating_start, heating_lt, heating_step, heating_done     the blocks of the first i clauses
--   key_of-blank                   where no variable has a value, the key is the number of distinct literals
--   Counting, counting_start, counting_asks, counting_step, counting_done     the literals of the first k numbers are counted
--   first_asks, first_done        from blank keys to the board
--
-- Assumes nothing.
use mathlib.Core.Path.{◌≡◌, refl, sym, ◌∙◌, ap, subst}
use mathlib.Core.Bool.{Bool, true, false, not, ◌&&◌}
use mathlib.Core.List.Memᴰ
use mathlib.Core.List.{List, [], ◌∷◌, map}
use Prim.Native.Nat.{ℕ, zero, suc, ◌+◌, ◌-◌, ◌*◌, ◌/◌, ◌≤◌, ◌<◌}
use native.Mathlib.Omega.{arith}
use native.Mathlib.Numerals.{add-one}
use native.Mathlib.Nat.{zero-add, add-zero}
use lib.Dec.{eqb}
use lib.IntN.{ℤ}
use lib.ListN.{get_or, set, length, length-set, replicate, length-replicate, get_or-replicate}
use lib.Seq.{get_or-set_same, get_or-set_other}
use borrow.Author.Tests.{eqb-true, eqb-false, eq-eqb, ne_eqb}
use Rattle.rules.specs.Lists.{In, count, count_if, keep_if}
use Rattle.rules.specs.Meaning.{Clause, Values, LitUpTo, index_of, value_at, is_true, is_unset}
use Rattle.rules.specs.Closing.{unsets}
use Rattle.rules.proofs.MeaningLaws.{true_byte-set}
use Rattle.formula.specs.Clauses.{ClauseUpTo}
use Rattle.formula.proofs.LiteralLaws.{index_of_var}
use Rattle.board.specs.Keys.{holds, distinct, true_count, unset_count, key_of}
use Rattle.board.specs.Blocks.{hot_in, HotBlocks}
use Rattle.board.specs.Holders.{lit_of, holders_at, ChangeAsked, Changed}
use Rattle.board.specs.Boards.{Shows}
use Rattle.board.specs.Firsts.{Blocks, Countable, CountAsked, Counted, FirstAsked, FirstDone}
use Rattle.board.proofs.BlockLaws.{hot_in_le}
use Rattle.board.proofs.CodeLaws.{code_of-lit_of, lit_of_up_to}
use Rattle.board.proofs.CountLaws.{helds, helds_most, helds_all}
use Rattle.board.proofs.KeyLaws.{count_none}
use Rattle.board.proofs.HolderLaws.{Step}
use Rattle.board.proofs.BoardLaws.{asked_of, keys_after}

-- ---- the hot blocks of keys that are all 0

-- with one key more
hot_in_more : (b i j : ℕ) → hot_in b j (replicate (suc i) 0) ≡ hot_in b j (replicate i 0) + count_if (eqb ((j + i) / 32) b) 0
hot_in_more b zero j = rw (add-zero j) (go (eqb (j / 32) b))
  where
    go : (x : Bool) → count_if (x && true) 0 ≡ 0 + count_if x 0
    go true = refl
    go false = refl
hot_in_more b (suc i) j =
    let e : j + suc i ≡ suc j + i = omega arith in
    rw e (go (eqb (j / 32) b) _ _ _ (hot_in_more b i (suc j)))
  where
    go : (x : Bool) (m n p : ℕ) → m ≡ n + p → count_if (x && true) m ≡ count_if (x && true) n + p
    go true m n p h = omega arith
    go false m n p h = h

pub record Heating (count : ℕ) (before : List ℕ) (i : ℕ) (hot : List ℕ) : Type 0 where
  pub within : i ≤ count
  pub same : length hot ≡ length before
  pub counted : (b : ℕ) → b < length hot → get_or hot b 0 ≡ hot_in b 0 (replicate i 0)

module _ {count : ℕ} {before : List ℕ} (a : Blocks count before) where
  pub heating_start : Heating count before 0 before
  heating_start = record { within = omega arith; same = refl; counted = λ b h. a.blank b }

  module _ {i : ℕ} {hot : List ℕ} (h : i < count) (w : Heating count before i hot) where
    pub heating_in : i / 32 < length hot
    heating_in = omega (arith, a.room i h, w.same)

    pub heating_lt : get_or hot (i / 32) 0 + 1 < 65536
    heating_lt =
        omega (arith, w.counted (i / 32) heating_in, hot_in_le (i / 32) (replicate i 0) 0, length-replicate {A = ℕ} i 0, a.small)

    pub heating_step : Heating count before (i + 1) (set hot (i / 32) (get_or hot (i / 32) 0 + 1))
    heating_step =
        record {
          within = omega arith;
          same = length-set hot (i / 32) (get_or hot (i / 32) 0 + 1) ∙ w.same;
          counted = λ b g. rw (add-one i) (go b (rw (length-set hot (i / 32) (get_or hot (i / 32) 0 + 1)) at g) (eqb (i / 32) b) refl);
        }
      where
        more : (b : ℕ) → hot_in b 0 (replicate (suc i) 0) ≡ hot_in b 0 (replicate i 0) + count_if (eqb (i / 32) b) 0
        more b = rw (zero-add i) at (hot_in_more b i 0)

        go : (b : ℕ) → b < length hot → (x : Bool) → eqb (i / 32) b ≡ x
            → get_or (set hot (i / 32) (get_or hot (i / 32) 0 + 1)) b 0 ≡ hot_in b 0 (replicate (suc i) 0)
        go b g true e =
            let at : i / 32 ≡ b = eqb-true (i / 32) b e in
            let here : hot_in (i / 32) 0 (replicate (suc i) 0) ≡ get_or hot (i / 32) 0 + 1 =
            omega (arith, w.counted (i / 32) heating_in, rw (eq-eqb (i / 32) (i / 32) refl) at (more (i / 32))) in
            subst (λ (x : ℕ). get_or (set hot (i / 32) (get_or hot (i / 32) 0 + 1)) x 0 ≡ hot_in x 0 (replicate (suc i) 0)) at
            (get_or-set_same hot (i / 32) (get_or hot (i / 32) 0 + 1) 0 heating_in ∙ sym here)
        go b g false e =
            rw (get_or-set_other hot (i / 32) b (get_or hot (i / 32) 0 + 1) 0 (λ s. eqb-false (i / 32) b e (sym s)))
            (omega (arith, w.counted b g, rw e at (more b)))

  pub heating_done : {i : ℕ} {hot : List ℕ} → count ≤ i → Heating count before i hot → HotBlocks (replicate count 0) hot
  heating_done {i} {hot} h w =
      let e : i ≡ count = omega (arith, w.within) in
      record {
        small = omega (arith, length-replicate {A = ℕ} count 0, a.small);
        room = λ j g. omega (arith, a.room j (omega (arith, length-replicate {A = ℕ} count 0)), w.same);
        counted = λ b g. rw e at (w.counted b g);
      }

-- ---- the keys where no variable has a value

count_all : (p : ℤ → Bool) (cl : Clause) → ((k : ℤ) → In k cl → p k ≡ true) → count p (distinct cl) ≡ length (distinct cl)
count_all p [] h = refl
count_all p (l ∷ cl) h = go (holds l cl) (count_all p cl (λ k i. h k (Memᴰ.tail i)))
  where
    go : (b : Bool) → count p (distinct cl) ≡ length (distinct cl) → count p (keep_if (not b) l (distinct cl)) ≡ length (keep_if (not b) l (distinct cl))
    go true e = e
    go false e = rw (h l (Memᴰ.head refl)) (ap suc e)

blank_at : (n : ℕ) (l : ℤ) → LitUpTo n l → value_at (replicate n 0) (index_of l) ≡ 0
blank_at n l u = get_or-replicate n (index_of l) 0 1 (omega (arith, index_of_var l u.some, u.most))

pub key_of-blank : (n : ℕ) (cl : Clause) → ClauseUpTo n cl → helds cl (2 * n) ≡ key_of (replicate n 0) cl
unfolding key_of true_count unset_count
key_of-blank n cl u =
    omega (
      arith,
      helds_all n cl u,
      count_none (is_true (replicate n 0)) cl (λ k i. ne_eqb _ _ (λ x. true_byte-set k (sym x ∙ blank_at n k (u.each k i)))),
      count_all (is_unset (replicate n 0)) cl (λ k i. eq-eqb _ _ (blank_at n k (u.each k i))),
    )

-- ---- literal by literal

pub record Counting (n : ℕ) (lists holders marks before hot-before : List ℕ) (k : ℕ) (keys hot : List ℕ) : Type 0 where
  pub within : k ≤ 2 * n
  pub same_keys : length keys ≡ length before
  pub same_hot : length hot ≡ length hot-before
  pub hot_right : HotBlocks keys hot
  pub F : List Clause
  pub can : Countable n F lists holders marks before
  pub keys_are : (G : List Clause) → Countable n G lists holders marks before → keys ≡ map (λ cl. helds cl k) G

zeros_are : (F : List Clause) (n : ℕ) → n ≡ length F → replicate n 0 ≡ map (λ cl. helds cl 0) F
unfolding helds
zeros_are [] zero e = refl
zeros_are [] (suc n) e = absurd (omega arith)
zeros_are (cl ∷ F) zero e = absurd (omega arith)
zeros_are (cl ∷ F) (suc n) e = ap (λ (ks : List ℕ). 0 ∷ ks) (zeros_are F n (omega arith))

map_same : (f g : Clause → ℕ) (F : List Clause) → ((cl : Clause) → In cl F → f cl ≡ g cl) → map f F ≡ map g F
map_same f g [] h = refl
map_same f g (cl ∷ F) h = cc (h cl (Memᴰ.head refl), map_same f g F (λ c i. h c (Memᴰ.tail i)))

-- one literal more
count_step : (n k : ℕ) (cl : Clause) → k < 2 * n → n ≤ 256 → Step 1 0 (lit_of k) (helds cl k) (helds cl (suc k)) cl
unfolding helds
count_step n k cl h g =
    record {
      can = λ t. record { fits = omega (arith, helds_most cl k); enough = omega arith };
      held = λ t. rw t (omega arith);
      other = λ t. rw t (omega arith);
    }

module _ {n : ℕ} {lists holders marks before hot-before : List ℕ} where
  pub counting_start : CountAsked n lists holders marks before hot-before → Counting n lists holders marks before hot-before 0 before hot-before
  counting_start a =
      record {
        within = omega arith;
        same_keys = refl;
        same_hot = refl;
        hot_right = a.hot_right;
        F = a.F;
        can = a.can;
        keys_are = λ G c. a.zeros ∙ zeros_are G (length before) c.as_many;
      }

  module _ {k : ℕ} {keys hot : List ℕ} (h : k < 2 * n) (w : Counting n lists holders marks before hot-before k keys hot) where
    steps : (G : List Clause) → Countable n G lists holders marks before → (cl : Clause) → In cl G → Step 1 0 (lit_of k) (helds cl k) (helds cl (suc k)) cl
    steps G c cl i = count_step n k cl h c.small.vars_fit

    pub counting_asks : ChangeAsked 1 0 k lists holders marks keys hot
    counting_asks =
        rw (code_of-lit_of k) at
        (asked_of (λ cl. helds cl k) (λ cl. helds cl (suc k)) (steps w.F w.can) w.can.index (lit_of_up_to n k h)
        (w.keys_are w.F w.can) w.can.small.vars_fit w.hot_right)

    pub counting_step : {keys2 hot2 : List ℕ} → Changed 1 0 (holders_at lists holders marks (length keys - 1) k) keys keys2 hot2
        → length keys2 ≡ length keys → length hot2 ≡ length hot → Counting n lists holders marks before hot-before (k + 1) keys2 hot2
    counting_step d p q =
        record {
          within = omega arith;
          same_keys = p ∙ w.same_keys;
          same_hot = q ∙ w.same_hot;
          hot_right = d.hot_right;
          F = w.F;
          can = w.can;
          keys_are = λ G c. rw (add-one k)
              (keys_after (λ cl. helds cl k) (λ cl. helds cl (suc k)) (steps G c) c.index (lit_of_up_to n k h) (w.keys_are G c)
              (rw (sym (code_of-lit_of k)) at d));
        }

  pub counting_done : {k : ℕ} {keys hot : List ℕ} → 2 * n ≤ k → Counting n lists holders marks before hot-before k keys hot
      → Counted n lists holders marks before keys hot
  counting_done {k} {keys} {hot} h w =
      let e : k ≡ 2 * n = omega (arith, w.within) in
      record {
        keys_are = λ G c. rw e at (w.keys_are G c) ∙ map_same _ _ G (λ cl i. key_of-blank n cl (c.small.up_to cl i));
        hot_right = w.hot_right;
      }

-- ---- the board

unsets-blank : (n : ℕ) → unsets (replicate n 0) ≡ n
unsets-blank zero = refl
unsets-blank (suc n) = ap suc (unsets-blank n)

first_shows : {F : List Clause} {n : ℕ} {lists holders marks before keys hot : List ℕ} (trail : List ℕ) → Countable n F lists holders marks before
    → Counted n lists holders marks before keys hot → n < length trail → Shows F lists holders marks (replicate n 0) keys hot (set trail 0 0)
first_shows {F} {n} {lists} {holders} {marks} {before} {keys} {hot} trail c d h =
    let e : length {A = ℕ} (replicate n 0) ≡ n = length-replicate {A = ℕ} n 0 in
    record {
      small = rw e c.small;
      index = rw e c.index;
      keys_are = d.keys_are F c;
      hot_are = d.hot_right;
      counted = omega (arith, get_or-set_same trail 0 0 0 (omega arith), unsets-blank n, e);
      room = omega (arith, length-set trail 0 0, e);
    }

-- the values and the keys are cleared, and the blocks counted
module _ {lists holders marks : List ℕ} {vs : Values} {keys hot trail : List ℕ} (a : FirstAsked lists holders marks vs keys hot trail)
    {vs1 : Values} {keys1 : List ℕ} (values_are : vs1 ≡ replicate (length vs) 0) (keys_are : keys1 ≡ replicate (length keys) 0) where
  same_values : length vs1 ≡ length vs
  same_values = ap length values_are ∙ length-replicate {A = ℕ} (length vs) 0

  same_keys : length keys1 ≡ length keys
  same_keys = ap length keys_are ∙ length-replicate {A = ℕ} (length keys) 0

  cleared : (F : List Clause) → Countable (length vs) F lists holders marks keys → Countable (length vs1) F lists holders marks keys1
  cleared F c = record { small = rw same_values c.small; index = rw same_values c.index; as_many = same_keys ∙ c.as_many }

  zeros : keys1 ≡ replicate (length keys1) 0
  zeros = keys_are ∙ ap (λ (n : ℕ). replicate n 0) (sym same_keys)

  pub first_asks : {hot1 : List ℕ} → HotBlocks (replicate (length keys1) 0) hot1
      → CountAsked (length vs1) lists holders marks keys1 hot1
  first_asks {hot1} h =
      record { F = a.F; can = cleared a.F a.can; zeros = zeros; hot_right = subst (λ (ks : List ℕ). HotBlocks ks hot1) (sym zeros) h }

  pub first_done : {keys2 hot2 : List ℕ} → Counted (length vs1) lists holders marks keys1 keys2 hot2
      → FirstDone lists holders marks vs keys vs1 keys2 hot2 (set trail 0 0)
  first_done {keys2} {hot2} d =
      record {
        values_are = values_are;
        shows = λ F c. subst (λ (us : Values). Shows F lists holders marks us keys2 hot2 (set trail 0 0))
            (sym (values_are ∙ ap (λ (n : ℕ). replicate n 0) (sym same_values)))
            (first_shows trail (cleared F c) d (omega (arith, a.room, same_values)));
      }
