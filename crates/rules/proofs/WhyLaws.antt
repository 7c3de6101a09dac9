-- The laws of specs/Why: the marked clauses, a call with the literal false, and what the visits leave.
--
--   marked_fewer, marked_less     fewer marks are fewer clauses; less one
--   marked_first                  with all marks, all clauses
--   is_true-negated                in a total assignment a literal or its negation is true
--   false_call_model, false_call_none     what a call with the literal false says
--   Reasons, reasons_start, reasons_kept, reasons_gone     what is known of the marks while the clauses are visited
--
-- Assumes nothing.
use mathlib.Core.Path.{◌≡◌, refl, sym, ◌∙◌, ap}
use mathlib.Core.Logic.{◌≢◌, ◌⊎◌, inl, inr}
use mathlib.Core.Bool.{Bool, true, false, not, ◌&&◌, ◌||◌}
use mathlib.Core.List.{List, [], ◌∷◌, ◌++◌}
use Prim.Native.Nat.{ℕ, zero, suc, ◌-◌, ◌≤◌, ◌<◌}
use native.Mathlib.Omega.{arith}
use lib.IntN.{ℤ, pos, negsuc}
use lib.Dec.{eqb}
use lib.ListN.{length, get_or, set, replicate, length-replicate, get_or-eq_default}
use lib.Seq.{get_or-set_same, get_or-set_other, set_out}
use Rattle.rules.specs.Numbers.{max_clauses}
use Rattle.rules.specs.Meaning.{Clause, Values, var_of, negated, value_at, is_true, has_true, satisfies, Total}
use Rattle.rules.specs.Search.{model, no_model}
use Rattle.rules.specs.Run.{blank}
use Rattle.rules.specs.Why.{Question, marked, first_marks, false_call, FalseModel}
use Rattle.rules.proofs.ListLaws.{never, le_or_lt, and_left, and_right}
use Rattle.rules.proofs.MeaningLaws.{blank_proper, blank_extends, satisfies-append, satisfies-left, satisfies_right}
use Rattle.rules.proofs.SearchLaws.{call_on_model, call_on_none}

-- ---- marks

-- where ns has a mark ms has one too
pub record Fewer (ns ms : List ℕ) : Type 0 where
  pub there : (k : ℕ) → get_or ns k 0 ≢ 0 → get_or ms k 0 ≢ 0

fewer_tail : {n m : ℕ} {ns ms : List ℕ} → Fewer (n ∷ ns) (m ∷ ms) → Fewer ns ms
fewer_tail h = record { there = λ k. h.there (suc k) }

pub marked_fewer : (m : Values) (ns ms : List ℕ) (F : List Clause) → Fewer ns ms → satisfies m (marked ms F) ≡ true
    → satisfies m (marked ns F) ≡ true
marked_fewer m [] ms F h s = refl
marked_fewer m (n ∷ ns) ms [] h s = refl
marked_fewer m (zero ∷ ns) [] (cl ∷ F) h s =
    marked_fewer m ns [] F (record { there = λ k z. absurd (h.there (suc k) z refl) }) refl
marked_fewer m (suc n ∷ ns) [] (cl ∷ F) h s = absurd (h.there 0 (omega arith) refl)
marked_fewer m (zero ∷ ns) (zero ∷ ms) (cl ∷ F) h s = marked_fewer m ns ms F (fewer_tail h) s
marked_fewer m (zero ∷ ns) (suc k ∷ ms) (cl ∷ F) h s =
    marked_fewer m ns ms F (fewer_tail h) (and_right (has_true m cl) (satisfies m (marked ms F)) s)
marked_fewer m (suc n ∷ ns) (zero ∷ ms) (cl ∷ F) h s = absurd (h.there 0 (omega arith) refl)
marked_fewer m (suc n ∷ ns) (suc k ∷ ms) (cl ∷ F) h s =
    rw (and_left (has_true m cl) (satisfies m (marked ms F)) s)
    (marked_fewer m ns ms F (fewer_tail h) (and_right (has_true m cl) (satisfies m (marked ms F)) s))

-- a mark that is taken away is 0, wherever it stood
pub get_d_cleared : (ms : List ℕ) (i : ℕ) → get_or (set ms i 0) i 0 ≡ 0
get_d_cleared ms i = go (le_or_lt (length ms) i)
  where
    go : (length ms ≤ i) ⊎ (i < length ms) → get_or (set ms i 0) i 0 ≡ 0
    go (inl h) = rw (set_out ms i 0 h) (get_or-eq_default ms 0 h)
    go (inr h) = get_or-set_same ms i 0 0 h

same_or_not : (i j : ℕ) → (i ≡ j) ⊎ (i ≢ j)
same_or_not i j = go (le_or_lt i j) (le_or_lt j i)
  where
    go : (i ≤ j) ⊎ (j < i) → (j ≤ i) ⊎ (i < j) → (i ≡ j) ⊎ (i ≢ j)
    go (inl a) (inl b) = inl (omega arith)
    go (inl a) (inr b) = inr (omega arith)
    go (inr a) b = inr (omega arith)

-- one taken away, and then another: no more than where only the other is
less_fewer : (ms : List ℕ) (n i : ℕ) → Fewer (set (set ms n 0) i 0) (set ms i 0)
less_fewer ms n i = record { there = λ k. go k (same_or_not k i) (same_or_not k n) }
  where
    go : (k : ℕ) → (k ≡ i) ⊎ (k ≢ i) → (k ≡ n) ⊎ (k ≢ n) → get_or (set (set ms n 0) i 0) k 0 ≢ 0 → get_or (set ms i 0) k 0 ≢ 0
    go k (inl e) b z = absurd (z (rw e (get_d_cleared (set ms n 0) i)))
    go k (inr a) (inl e) z = absurd (z (get_or-set_other (set ms n 0) i k 0 0 a ∙ rw e (get_d_cleared ms n)))
    go k (inr a) (inr b) z =
        λ h. z (get_or-set_other (set ms n 0) i k 0 0 a ∙ get_or-set_other ms n k 0 0 b ∙ sym (get_or-set_other ms i k 0 0 a) ∙ h)

pub marked_less : (m : Values) (ms : List ℕ) (n i : ℕ) (F : List Clause) → satisfies m (marked (set ms i 0) F) ≡ true
    → satisfies m (marked (set (set ms n 0) i 0) F) ≡ true
marked_less m ms n i F = marked_fewer m (set (set ms n 0) i 0) (set ms i 0) F (less_fewer ms n i)

pub marked_first : (F : List Clause) (rest : List ℕ) → marked (replicate (length F) 1 ++ rest) F ≡ F
marked_first [] [] = refl
marked_first [] (n ∷ rest) = refl
marked_first (cl ∷ F) rest = ap (λ (G : List Clause). cl ∷ G) (marked_first F rest)

-- ---- the negation of a literal

pub is_true-negated : (m : Values) (l : ℤ) → Total m → 1 ≤ var_of l → is_true m (negated l) ≡ not (is_true m l)
is_true-negated m (pos zero) t h = absurd (omega arith)
is_true-negated m (pos (suc n)) t h = go (value_at m n) (t.valued n)
  where
    go : (b : ℕ) → (b ≡ 1) ⊎ (b ≡ 2) → eqb b 1 ≡ not (eqb b 2)
    go b (inl e) = rw e
    go b (inr e) = rw e
is_true-negated m (negsuc n) t h = go (value_at m n) (t.valued n)
  where
    go : (b : ℕ) → (b ≡ 1) ⊎ (b ≡ 2) → eqb b 2 ≡ not (eqb b 1)
    go b (inl e) = rw e
    go b (inr e) = rw e

-- ---- a call with the literal false

not-false : (b : Bool) → not b ≡ true → b ≡ false
not-false true h = absurd (never h refl)
not-false false h = refl

or-false : (b : Bool) → ((b || false) && true) ≡ b
or-false true = refl
or-false false = refl

module _ (q : Question) (some : 1 ≤ var_of q.literal) where
  unit_is : (m : Values) → Total m → satisfies m ((negated q.literal ∷ []) ∷ []) ≡ not (is_true m q.literal)
  unit_is m t = or-false (is_true m (negated q.literal)) ∙ is_true-negated m q.literal t some

  pub false_call_model : (F : List Clause) (t : ℕ) (m : Values) (u : ℕ) → false_call q F t ≡ model m u → FalseModel q.vars F q.literal m
  unfolding false_call
  false_call_model F t m u e =
      let unit = (negated q.literal ∷ []) ∷ [] in
      let w = call_on_model q.budget (F ++ unit) (blank q.vars) t m u (blank_proper q.vars) e in
      record {
        is-model =
            record {
              len = w.len ∙ length-replicate q.vars 0;
              total = w.total;
              all_true = satisfies-left m F unit w.all_true;
            };
        false_here = not-false (is_true m q.literal) (sym (unit_is m w.total) ∙ satisfies_right m F unit w.all_true);
      }

  pub false_call_none : (F : List Clause) (t u : ℕ) → false_call q F t ≡ no_model u → (m : Values) → FalseModel q.vars F q.literal m → ⊥
  unfolding false_call
  false_call_none F t u e m h =
      let unit = (negated q.literal ∷ []) ∷ [] in
      let w = call_on_none q.budget (F ++ unit) (blank q.vars) t u (blank_proper q.vars) e in
      w.none_from m (blank_extends q.vars m h.is-model.len) h.is-model.total
      (satisfies-append m F unit h.is-model.all_true (unit_is m h.is-model.total ∙ ap not h.false_here))

-- ---- the visits: nothing marked is too little, and what has been visited and is still marked is needed

pub record Reasons (q : Question) (n : ℕ) (ms : List ℕ) : Type 0 where
  pub forces : (m : Values) → FalseModel q.vars (marked ms q.formula) q.literal m → ⊥
  pub needed : (i : ℕ) → n ≤ i → get_or ms i 0 ≢ 0 → (m : Values) × FalseModel q.vars (marked (set ms i 0) q.formula) q.literal m
  pub small : (i : ℕ) → get_or ms i 0 ≤ 1
  pub within : (i : ℕ) → get_or ms i 0 ≢ 0 → i < length q.formula

-- ---- all clauses marked

abbrev ones : ℕ → ℕ → List ℕ
ones n k = replicate n 1 ++ replicate k 0

abbrev OneOrNot : ℕ → ℕ → ℕ → Type 0
OneOrNot n i b = ((b ≡ 1) × (i < n)) ⊎ (b ≡ 0)

get_d_ones : (n k i : ℕ) → OneOrNot n i (get_or (ones n k) i 0)
get_d_ones zero zero i = inr refl
get_d_ones zero (suc k) zero = inr refl
get_d_ones zero (suc k) (suc i) = go (get_d_ones zero k i)
  where
    go : {b : ℕ} → OneOrNot 0 i b → OneOrNot 0 (suc i) b
    go (inl h) = absurd (omega (arith, h.1))
    go (inr h) = inr h
get_d_ones (suc n) k zero = inl (refl, omega arith)
get_d_ones (suc n) k (suc i) = go (get_d_ones n k i)
  where
    go : {b : ℕ} → OneOrNot n i b → OneOrNot (suc n) (suc i) b
    go (inl h) = inl (h.0, omega (arith, h.1))
    go (inr h) = inr h

module _ (q : Question) where
  pub reasons_start : ((m : Values) → FalseModel q.vars q.formula q.literal m → ⊥)
      → Reasons q (length q.formula) (first_marks (length q.formula))
  reasons_start h =
      record {
        forces = rw (marked_first q.formula (replicate (max_clauses - n) 0)) h;
        needed = λ i l z. absurd (omega (arith, within i z));
        small = λ i. small (get_d_ones n (max_clauses - n) i);
        within = within;
      }
    where
      n : ℕ
      n = length q.formula

      small : {i b : ℕ} → OneOrNot n i b → b ≤ 1
      small (inl e) = omega (arith, e.0)
      small (inr e) = omega (arith, e)

      go : {i b : ℕ} → OneOrNot n i b → b ≢ 0 → i < n
      go (inl e) z = e.1
      go (inr e) z = absurd (z e)

      within : (i : ℕ) → get_or (first_marks n) i 0 ≢ 0 → i < n
      within i = go (get_d_ones n (max_clauses - n) i)

  -- ---- a clause is visited

  module _ {n : ℕ} {ms : List ℕ} (w : Reasons q (suc n) ms) where
    -- a model is found without it
    pub reasons_kept : (m : Values) → FalseModel q.vars (marked (set ms n 0) q.formula) q.literal m → Reasons q n ms
    reasons_kept m h = record { forces = w.forces; needed = λ i l z. go i z (le_or_lt (suc n) i) l; small = w.small; within = w.within }
      where
        go : (i : ℕ) → get_or ms i 0 ≢ 0 → (suc n ≤ i) ⊎ (i < suc n) → n ≤ i
            → (m : Values) × FalseModel q.vars (marked (set ms i 0) q.formula) q.literal m
        go i z (inl a) l = w.needed i a z
        go i z (inr a) l = let e : i ≡ n = omega arith in rw e (m, h)

    -- none is
    pub reasons_gone : ((m : Values) → FalseModel q.vars (marked (set ms n 0) q.formula) q.literal m → ⊥) → Reasons q n (set ms n 0)
    reasons_gone h =
        record {
          forces = h;
          needed = λ i l z. go i z (same_or_not i n) l;
          small = λ i. less i (same_or_not i n);
          within = λ i z. w.within i (λ e. z (gone i (same_or_not i n) e));
        }
      where
        gone : (i : ℕ) → (i ≡ n) ⊎ (i ≢ n) → get_or ms i 0 ≡ 0 → get_or (set ms n 0) i 0 ≡ 0
        gone i (inl e) z = rw e (get_d_cleared ms n)
        gone i (inr e) z = get_or-set_other ms n i 0 0 e ∙ z

        less : (i : ℕ) → (i ≡ n) ⊎ (i ≢ n) → get_or (set ms n 0) i 0 ≤ 1
        less i (inl e) = rw e (omega (arith, get_d_cleared ms n))
        less i (inr e) = omega (arith, get_or-set_other ms n i 0 0 e, w.small i)

        go : (i : ℕ) → get_or (set ms n 0) i 0 ≢ 0 → (i ≡ n) ⊎ (i ≢ n) → n ≤ i
            → (m : Values) × FalseModel q.vars (marked (set (set ms n 0) i 0) q.formula) q.literal m
        go i z (inl e) l = absurd (z (rw e (get_d_cleared ms n)))
        go i z (inr e) l =
            let (m, x) = w.needed i (omega arith) (λ k. z (get_or-set_other ms n i 0 0 e ∙ k)) in
            let y = x.is-model in (
              m,
              record {
                is-model = record { len = y.len; total = y.total; all_true = marked_less m ms n i q.formula y.all_true };
                false_here = x.false_here;
              },
            )
