-- Flips by counts.
--
--   other_true                    another true literal stays true
--   true_not_held, true_twice     a clause that does not hold the literal, or has a second true one, stays true
--   firsts_false                  the first false clause is the first of those that hold the literal
--   false_small, false_up_to, false_is     one clause by its number
--   held_asks, held_part          what the list of the literal is asked for, and what it gives
--   Scanning, scanning_start, scanning_found, scanning_step, scanning_done     no clause of the list passed is false
--
-- Assumes nothing.
use mathlib.Core.Path.{◌≡◌, refl, sym, ◌∙◌, ap, subst}
use mathlib.Core.Logic.{◌≢◌, ◌⊎◌, inl, inr, ⊎_elim}
use mathlib.Core.Bool.{Bool, true, false, not}
use mathlib.Core.List.Memᴰ
use mathlib.Core.List.{List, [], ◌∷◌, ◌++◌}
use mathlib.Core.Option.{none, some}
use Prim.Native.Nat.{ℕ, suc, ◌+◌, ◌*◌, ◌≤◌, ◌<◌}
use native.Mathlib.Omega.{arith}
use native.Mathlib.Numerals.{add-one}
use lib.Dec.{eqb}
use lib.IntN.{ℤ}
use lib.ListN.{get_or, length, set, drop, length-set, length-append, drop_of_length-le}
use lib.Seq.{get_or_at, append_snoc, drop-cons}
use borrow.Author.Tests.{eqb-true}
use Rattle.rules.specs.Lists.{In, any, count, keep_if, eqz, or_next}
use Rattle.rules.specs.Meaning.{Clause, Values, var_of, clauses, index_of, value_at, true_byte, false_byte, is_true, has_true, first_false_from, first_false}
use Rattle.rules.proofs.ListLaws.{both, never, in_get_d, any_sound, any_complete, none_of_any, all_sound, and_left, and_right, eqz_sound, eqz_refl}
use Rattle.rules.proofs.ClauseLaws.{clauses_le}
use Rattle.rules.proofs.MeaningLaws.{set_cases}
use Rattle.formula.specs.Clauses.{ClauseUpTo}
use Rattle.formula.specs.Starts.{clause_at}
use Rattle.formula.proofs.ClauseLaws.{clause_at_formula, clauses_up_to}
use Rattle.board.specs.Keys.{holds, distinct, true_count, key_of}
use Rattle.board.specs.Holders.{code_of, holding, part_at}
use Rattle.board.specs.Flips.{first_at, FalseAsked, FirstsAsked, HeldOver}
use Rattle.board.proofs.KeyLaws.{same_index, true_byte-negated, count_none, unset_count_le}
use Rattle.board.proofs.CountLaws.{helds_all, helds_most}
use Rattle.board.proofs.HotLaws.{without, count_one_more}

-- ---- a clause under flipped values

module _ (m : Values) (l : ℤ) (h : 1 ≤ var_of l) (t : is_true m l ≡ true) where
  abbrev flip : Values
  flip = set m (index_of l) (false_byte l)

  pub other_true : (k : ℤ) → 1 ≤ var_of k → k ≢ l → is_true m k ≡ true → is_true flip k ≡ true
  other_true k g n u = go (set_cases m (index_of l) (false_byte l) (index_of k))
    where
      -- of the two literals of a variable one is true
      other : index_of k ≡ index_of l → ⊥
      other e =
          ⊎_elim n (λ q. true_byte-negated l h (sym (ap true_byte q) ∙ sym (eqb-true _ _ u) ∙ ap (value_at m) e ∙ eqb-true _ _ t))
          (same_index k l g h e)

      go : ((index_of k ≡ index_of l) × (value_at flip (index_of k) ≡ false_byte l)) ⊎ (value_at flip (index_of k) ≡ value_at m (index_of k))
          → is_true flip k ≡ true
      go (inl e) = absurd (other e.0)
      go (inr e) = ap (λ (b : ℕ). eqb b (true_byte k)) e ∙ u

  module _ (cl : Clause) (some : (k : ℤ) → In k cl → 1 ≤ var_of k) where
    pub true_not_held : holds l cl ≡ false → has_true m cl ≡ true → has_true flip cl ≡ true
    true_not_held n u =
        let (k, i, e) = any_sound (is_true m) cl u in
        any_complete (is_true flip) i
        (other_true k (some k i) (λ q. never (any_complete (eqz l) i (rw q (eqz_refl l))) n) e)

    -- a literal that passes, if one is counted
    one_of : (p : ℤ → Bool) → 1 ≤ count p (distinct cl) → (k : ℤ) × In k cl × (p k ≡ true)
    one_of p c = go (both (any p cl))
      where
        go : (any p cl ≡ true) ⊎ (any p cl ≡ false) → (k : ℤ) × In k cl × (p k ≡ true)
        go (inl e) = any_sound p cl e
        go (inr e) = absurd (omega (arith, count_none p cl (λ k i. none_of_any p e i)))

    not_same : (k : ℤ) → not (eqz l k) ≡ true → k ≢ l
    not_same k e q = never e (rw (q, eqz_refl l))

    pub true_twice : 2 ≤ true_count m cl → has_true flip cl ≡ true
    unfolding true_count
    true_twice c = go (both (holds l cl))
      where
        other : (k : ℤ) → In k cl → without (is_true m) l k ≡ true → has_true flip cl ≡ true
        other k i e =
            any_complete (is_true flip) i
            (other_true k (some k i) (not_same k (and_right (is_true m k) (not (eqz l k)) e)) (and_left (is_true m k) (not (eqz l k)) e))

        go : (holds l cl ≡ true) ⊎ (holds l cl ≡ false) → has_true flip cl ≡ true
        go (inl e) =
            let (j, i, q) = any_sound (eqz l) cl e in
            let at : In l cl = rw (eqz_sound l j q) i in
            let (k, y, z) = one_of (without (is_true m) l) (omega (arith, count_one_more (is_true m) l cl at t)) in
            other k y z
        go (inr e) =
            let (k, i, q) = one_of (is_true m) (omega arith) in
            true_not_held e (any_complete (is_true m) i q)

-- ---- the first false clause

-- the clauses from i on; all that do not hold l are true
pub firsts_false : (vs : Values) (l : ℤ) (F G front : List Clause) (i : ℕ) → F ≡ front ++ G → length front ≡ i
    → ((cl : Clause) → In cl G → holds l cl ≡ false → has_true vs cl ≡ true) → first_false_from (suc i) vs G ≡ first_at vs F (holding l i G)
firsts_false vs l F [] front i e n t = refl
firsts_false vs l F (cl ∷ G) front i e n t =
    go (holds l cl) refl (t cl (Memᴰ.head refl))
    (firsts_false vs l F G (front ++ (cl ∷ [])) (suc i) (e ∙ sym (append_snoc front cl G)) (omega (arith, length-append front (cl ∷ [])))
    (λ c j. t c (Memᴰ.tail j)))
  where
    here : get_or F i [] ≡ cl
    here = ap (λ (cls : List Clause). get_or cls i []) e ∙ get_or_at front cl G [] i n

    go : (b : Bool) → holds l cl ≡ b → (holds l cl ≡ false → has_true vs cl ≡ true)
        → first_false_from (suc (suc i)) vs G ≡ first_at vs F (holding l (suc i) G)
        → or_next (not (has_true vs cl)) (suc i) (first_false_from (suc (suc i)) vs G) ≡ first_at vs F (keep_if b i (holding l (suc i) G))
    go true q s ih = rw here (ap (or_next (not (has_true vs cl)) (suc i)) ih)
    go false q s ih = rw (s q) ih

holding_lt : (l : ℤ) (i : ℕ) (F : List Clause) (c : ℕ) → In c (holding l i F) → c < i + length F
holding_lt l i [] c h = absurd (Memᴰ.not-nil h)
holding_lt l i (cl ∷ F) c h = go (holds l cl) h (holding_lt l (suc i) F c)
  where
    go : (b : Bool) → In c (keep_if b i (holding l (suc i) F)) → (In c (holding l (suc i) F) → c < suc i + length F) → c < i + suc (length F)
    go true (Memᴰ.head e) ih = omega arith
    go true (Memᴰ.tail t) ih = omega (arith, ih t)
    go false t ih = omega (arith, ih t)

-- ---- one clause by its number

module _ {es : List ℤ} {starts keys : List ℕ} {vs : Values} {c : ℕ} (a : FalseAsked es starts keys vs c) where
  pub false_small : c + 1 < 65537
  false_small = omega (arith, a.within, clauses_le es, a.formula.entries_most)

  module _ {cl : Clause} (e : cl ≡ clause_at es [] (c + 1)) where
    at_number : get_or (clauses es) c [] ≡ cl
    at_number = clause_at_formula es [] (suc c) (omega arith) a.within ∙ sym (rw (add-one c) at e)

    pub false_up_to : ClauseUpTo (length vs) cl
    false_up_to =
        rw (← at_number) (clauses_up_to (length vs) es a.formula.up_to (get_or (clauses es) c []) (in_get_d (clauses es) c [] a.within))

    pub false_is : {r : Bool} → r ≡ has_true vs cl → not r ≡ not (has_true vs (get_or (clauses es) c []))
    false_is q = ap not (q ∙ ap (has_true vs) (sym at_number))

-- ---- the list of the literal

module _ {es : List ℤ} {starts lists holders keys : List ℕ} {flipped : Values} {l : ℤ} (a : HeldOver es starts lists holders keys flipped l) where
  up_to : (cl : Clause) → In cl (clauses es) → ClauseUpTo (length a.model) cl
  up_to cl i = clauses_up_to (length a.model) es a.formula.up_to cl i

  literals : (cl : Clause) → In cl (clauses es) → (k : ℤ) → In k cl → 1 ≤ var_of k
  literals cl i k j = ((up_to cl i).each k j).some

  two_true : (cl : Clause) → In cl (clauses es) → 131072 ≤ key_of a.model cl → 2 ≤ true_count a.model cl
  unfolding key_of
  two_true cl i k =
      omega (arith, unset_count_le a.model cl, helds_all (length a.model) cl (up_to cl i), helds_most cl (2 * length a.model), a.formula.vars_fit)

  len : length flipped ≡ length a.model
  len = ap length a.flipped_is ∙ length-set a.model (index_of l) (false_byte l)

  pub held_asks : FirstsAsked es starts (part_at lists holders (code_of l)) keys flipped
  held_asks =
      record {
        each = λ j h.
            let part = (a.index.listed l a.literal).part_is in
            let c = get_or (part_at lists holders (code_of l)) j 0 in
            let member : In c (holding l 0 (clauses es)) = subst (λ (is : List ℕ). In c is) part (in_get_d (part_at lists holders (code_of l)) j 0 h) in
            let below : c < length (clauses es) = omega (arith, holding_lt l 0 (clauses es) c member) in
            let cl = get_or (clauses es) c [] in
            let i : In cl (clauses es) = in_get_d (clauses es) c [] below in
            record {
              formula = rw len a.formula;
              within = below;
              has_key = omega (arith, a.has-keys);
              safe = λ k. rw a.flipped_is
                  (true_twice a.model l a.literal.some a.true_here cl (literals cl i) (two_true cl i (rw (a.keys_are c below) at k)));
            };
      }

  pub held_part : first_false flipped (clauses es) ≡ first_at flipped (clauses es) (part_at lists holders (code_of l))
  held_part =
      rw (a.index.listed l a.literal).part_is
      (firsts_false flipped l (clauses es) (clauses es) [] 0 refl refl
      (λ cl i n. rw a.flipped_is
      (true_not_held a.model l a.literal.some a.true_here cl (literals cl i) n (all_sound (has_true a.model) a.all_true i))))

-- ---- the scan

pub record Scanning (vs : Values) (F : List Clause) (list : List ℕ) (j : ℕ) : Type 0 where
  pub within : j ≤ length list
  pub same : first_at vs F (drop j list) ≡ first_at vs F list

pub scanning_start : {vs : Values} {F : List Clause} {list : List ℕ} → Scanning vs F list 0
scanning_start = record { within = omega arith; same = refl }

module _ {vs : Values} {F : List Clause} {list : List ℕ} {j : ℕ} (h : j < length list) (w : Scanning vs F list j) where
  next : or_next (not (has_true vs (get_or F (get_or list j 0) []))) (suc (get_or list j 0)) (first_at vs F (drop (suc j) list)) ≡ first_at vs F list
  next = rw (drop-cons list j 0 h) at w.same

  pub scanning_found : not (has_true vs (get_or F (get_or list j 0) [])) ≡ true → some (suc (get_or list j 0)) ≡ first_at vs F list
  scanning_found e = rw e at next

  pub scanning_step : not (has_true vs (get_or F (get_or list j 0) [])) ≡ false → Scanning vs F list (j + 1)
  scanning_step e = record { within = omega arith; same = rw (add-one j) (rw e at next) }

pub scanning_done : {vs : Values} {F : List Clause} {list : List ℕ} {j : ℕ} → length list ≤ j → Scanning vs F list j → none ≡ first_at vs F list
scanning_done {vs} {F} {list} h w = rw (drop_of_length-le list h) at w.same
