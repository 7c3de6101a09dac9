-- The laws of specs/Shorter: what the clauses with a run's forced literals folded in are, and how many.
--
--   Distinct, matched_le          distinct elements that have partners, no two the same one, are at most as many as the partners
--   stays_in, stays_kept, stays-length     what stays of a clause: literals of it, all but those that go, and no more
--   ForcedUnit, forced_sound, forced_complete     the clauses of the forced literals are those of one literal that the statuses say
--   distinct_forced               they are distinct
--   status_within                 a variable that is forced has a status
--   folded_sound, folded_complete the clauses have the models of the formula
--   folded_clauses, folded_entries     how many clauses and entries they are, by the clauses that hold a forced literal
--   folded_literals               no literal is of a variable above V
--   entries_of-clauses_le          no more entries than the list has that the clauses are read from
--
-- Assumes nothing.
use mathlib.Core.Path.{◌≡◌, refl, sym, ◌∙◌, ap}
use mathlib.Core.Logic.{◌⊎◌, inl, inr}
use mathlib.Core.Bool.{Bool, true, false, not}
use mathlib.Core.List.Memᴰ
use mathlib.Core.List.{List, [], ◌∷◌, ◌++◌, map}
use Prim.Native.Nat.{ℕ, zero, suc, ◌+◌, ◌*◌, ◌≤◌, ◌<◌}
use native.Mathlib.Omega.{arith}
use lib.IntN.{ℤ, pos, negsuc}
use lib.ListN.{length, length-append, length-map}
use borrow.Author.Tests.{eqb-true, eq-eqb}
use Rattle.rules.specs.Lists.{In, any, keep, keep_if, count, count_if, eqz}
use Rattle.rules.specs.Meaning.{Clause, Values, var_of, negated, index_of, true_byte, value_at, is_true, has_true, satisfies, leading, clauses, LitUpTo}
use Rattle.texts.specs.Plain.{entries_of}
use Rattle.rules.specs.Run.{status_at, forced_by}
use Rattle.rules.specs.Units.{forced_at, forced_clauses}
use Rattle.texts.specs.Shorter.{says_forced, holds_forced, goes, stays_behind, shortened, others_of, folded}
use Rattle.rules.proofs.ListLaws.{never, not-true, any_sound, any_complete, all_sound, all_complete, keep_sound, keep_complete}
use Rattle.rules.proofs.ListLaws.{count_append, count_split, length_keep, in_map, map_in, eqz_sound}
use Rattle.rules.proofs.MeaningLaws.{satisfies-left, satisfies_right, satisfies-append}
use Rattle.rules.proofs.RunTheorems.{forced_by_le}
use Rattle.rules.proofs.HeldLaws.{has_true_unit, not_both}

-- ---- distinct elements with partners

pub data Distinct {A : Type 0} : List A → Type 0 where
  nothing : Distinct []
  more : {x : A} {xs : List A} → (In x xs → ⊥) → Distinct xs → Distinct (x ∷ xs)

split : {A : Type 0} {x : A} {xs : List A} → In x xs → (front : List A) × (back : List A) × (xs ≡ front ++ x ∷ back)
split {A} (Memᴰ.head {x = y} {xs = ys} e) = ([], ys, ap (λ (z : A). z ∷ ys) (sym e))
split {A} (Memᴰ.tail {x = y} i) = let (front, back, e) = split i in (y ∷ front, back, ap (λ (zs : List A). y ∷ zs) e)

module _ {A B : Type 0} (R : A → B → Type 0) (p : B → Bool)
    (one : (x z : A) (y : B) → R x y → R z y → x ≡ z)
    (passes : (x : A) (y : B) → R x y → p y ≡ true) where
  pub matched_le : {xs : List A} → Distinct xs → (ys : List B) → ((x : A) → In x xs → (y : B) × In y ys × R x y) → length xs ≤ count p ys
  matched_le Distinct.nothing ys f = omega arith
  matched_le (Distinct.more {x} {xs} n d) ys f =
      let (y, i, r) = f x (Memᴰ.head refl) in
      let (front, back, e) = split i in
      let ih : length xs ≤ count p (front ++ back) = matched_le d (front ++ back) (λ z j. others y r front back e z j (f z (Memᴰ.tail j))) in
      let here : count p (y ∷ back) ≡ suc (count p back) = ap (λ (b : Bool). count_if b (count p back)) (passes x y r) in
      omega (arith, ih, here, ap (count p) e ∙ count_append p front (y ∷ back), count_append p front back)
    where
      others : (y : B) → R x y → (front back : List B) → ys ≡ front ++ y ∷ back → (z : A) → In z xs → (w : B) × In w ys × R z w
          → (w : B) × In w (front ++ back) × R z w
      others y r front back e z j (w, k, q) = go (Memᴰ.append_cases front (rw e at k))
        where
          go : In w front ⊎ In w (y ∷ back) → (w : B) × In w (front ++ back) × R z w
          go (inl a) = (w, Memᴰ.append_left back a, q)
          go (inr (Memᴰ.head a)) = absurd (n (rw (one x z y r (rw a at q)) j))
          go (inr (Memᴰ.tail a)) = (w, Memᴰ.append_right front a, q)

-- ---- what stays of a clause

pub stays_in : (ss : List ℕ) (before cl : Clause) {l : ℤ} → In l (stays_behind ss before cl) → In l cl
stays_in ss before [] h = h
stays_in ss before (k ∷ cl) {l} h = go (goes ss before k) h (stays_in ss (before ++ k ∷ []) cl)
  where
    go : (b : Bool) → In l (keep_if (not b) k (stays_behind ss (before ++ k ∷ []) cl)) → (In l (stays_behind ss (before ++ k ∷ []) cl) → In l cl)
        → In l (k ∷ cl)
    go true i ih = Memᴰ.tail (ih i)
    go false (Memᴰ.head e) ih = Memᴰ.head e
    go false (Memᴰ.tail i) ih = Memᴰ.tail (ih i)

pub stays-length : (ss : List ℕ) (before cl : Clause) → length (stays_behind ss before cl) ≤ length cl
stays-length ss before [] = omega arith
stays-length ss before (k ∷ cl) = go (goes ss before k) (stays-length ss (before ++ k ∷ []) cl)
  where
    go : (b : Bool) → length (stays_behind ss (before ++ k ∷ []) cl) ≤ length cl
        → length (keep_if (not b) k (stays_behind ss (before ++ k ∷ []) cl)) ≤ suc (length cl)
    go true h = omega arith
    go false h = omega arith

-- a literal whose negation is not forced stays, unless it stands before already
pub stays_kept : (ss : List ℕ) (before cl : Clause) {l : ℤ} → says_forced ss (negated l) ≡ false → In l cl → In l before ⊎ In l (stays_behind ss before cl)
stays_kept ss before [] n h = inr h
stays_kept ss before (k ∷ cl) {l} n h = go h (stays_kept ss (before ++ k ∷ []) cl n)
  where
    rest : Clause
    rest = stays_behind ss (before ++ k ∷ []) cl

    here : l ≡ k → In l before ⊎ In l (keep_if (not (goes ss before k)) k rest)
    here e = this (any (eqz k) before) refl
      where
        this : (b : Bool) → any (eqz k) before ≡ b → In l before ⊎ In l (keep_if (not (goes ss before k)) k rest)
        this true q = let (y, i, z) = any_sound (eqz k) before q in inl (rw (e ∙ eqz_sound k y z) i)
        this false q = let f : says_forced ss (negated k) ≡ false = rw e at n in inr (rw (f, q) (Memᴰ.head e))

    behind : (b : Bool) → In l rest → In l (keep_if b k rest)
    behind true i = Memᴰ.tail i
    behind false i = i

    later : In l (before ++ k ∷ []) ⊎ In l rest → In l before ⊎ In l (keep_if (not (goes ss before k)) k rest)
    later (inr i) = inr (behind (not (goes ss before k)) i)
    later (inl i) = at (Memᴰ.append_cases before i)
      where
        at : In l before ⊎ In l (k ∷ []) → In l before ⊎ In l (keep_if (not (goes ss before k)) k rest)
        at (inl j) = inl j
        at (inr (Memᴰ.head e)) = here e
        at (inr (Memᴰ.tail j)) = absurd (Memᴰ.not-nil j)

    go : In l (k ∷ cl) → (In l cl → In l (before ++ k ∷ []) ⊎ In l rest) → In l before ⊎ In l (keep_if (not (goes ss before k)) k rest)
    go (Memᴰ.head e) ih = here e
    go (Memᴰ.tail i) ih = later (ih i)

-- ---- the clauses of the forced literals

-- cl has one literal, which the statuses say is forced; the first of them is that of the variable at index j
pub record ForcedUnit (j : ℕ) (ss : List ℕ) (cl : Clause) : Type 0 where
  pub lit : ℤ
  pub offset : ℕ
  pub alone : cl ≡ lit ∷ []
  pub within : offset < length ss
  pub index : index_of lit ≡ j + offset
  pub var : var_of lit ≡ suc (j + offset)
  pub status : status_at ss offset ≡ forced_by (true_byte lit)

pub forced_sound : (j : ℕ) (ss : List ℕ) {cl : Clause} → ((i : ℕ) → status_at ss i ≤ 3) → In cl (forced_clauses j ss) → ForcedUnit j ss cl
forced_sound j [] small h = absurd (Memᴰ.not-nil h)
forced_sound j (s ∷ ss) {cl} small h = go s refl h (λ i. later (forced_sound (suc j) ss (λ n. small (suc n)) i))
  where
    later : ForcedUnit (suc j) ss cl → ForcedUnit j (s ∷ ss) cl
    later u =
        record {
          lit = u.lit;
          offset = suc u.offset;
          alone = u.alone;
          within = omega (arith, u.within);
          index = omega (arith, u.index);
          var = omega (arith, u.var);
          status = u.status;
        }

    here : (l : ℤ) → cl ≡ l ∷ [] → index_of l ≡ j → var_of l ≡ suc j → s ≡ forced_by (true_byte l) → ForcedUnit j (s ∷ ss) cl
    here l e x v t = record { lit = l; offset = 0; alone = e; within = omega arith; index = omega arith; var = omega arith; status = t }

    go : (t : ℕ) → s ≡ t → In cl (forced_at t j (forced_clauses (suc j) ss)) → (In cl (forced_clauses (suc j) ss) → ForcedUnit j (s ∷ ss) cl)
        → ForcedUnit j (s ∷ ss) cl
    go zero e i ih = ih i
    go (suc zero) e i ih = ih i
    go (suc (suc zero)) e (Memᴰ.head q) ih = here (pos (suc j)) q refl refl e
    go (suc (suc zero)) e (Memᴰ.tail i) ih = ih i
    go (suc (suc (suc zero))) e (Memᴰ.head q) ih = here (negsuc j) q refl refl e
    go (suc (suc (suc zero))) e (Memᴰ.tail i) ih = ih i
    go (suc (suc (suc (suc t)))) e i ih = absurd (omega (arith, small 0, e))

forced_at_rest : (s j : ℕ) {cls : List Clause} {cl : Clause} → In cl cls → In cl (forced_at s j cls)
forced_at_rest zero j h = h
forced_at_rest (suc zero) j h = h
forced_at_rest (suc (suc zero)) j h = Memᴰ.tail h
forced_at_rest (suc (suc (suc s))) j h = Memᴰ.tail h

pub forced_complete : (j : ℕ) (ss : List ℕ) (i : ℕ) (l : ℤ) → status_at ss i ≡ forced_by (true_byte l)
    → (k : ℤ) × In (k ∷ []) (forced_clauses j ss) × (index_of k ≡ j + i) × (true_byte k ≡ true_byte l)
forced_complete j [] i l e = absurd (omega (arith, forced_by_le l, e))
forced_complete j (s ∷ ss) (suc i) l e =
    let (k, h, x, t) = forced_complete (suc j) ss i l e in
    (k, forced_at_rest s j h, omega (arith, x), t)
forced_complete j (s ∷ ss) zero (pos n) e = rw e (pos (suc j), Memᴰ.head refl, omega arith, refl)
forced_complete j (s ∷ ss) zero (negsuc n) e = rw e (negsuc j, Memᴰ.head refl, omega arith, refl)

-- a literal in front whose variable comes before those behind it
distinct_at : (s j : ℕ) {cls : List Clause} → ((cl : Clause) → In cl cls → (l : ℤ) × (cl ≡ l ∷ []) × (j < index_of l)) → Distinct cls
    → Distinct (forced_at s j cls)
distinct_at zero j h d = d
distinct_at (suc zero) j h d = d
distinct_at (suc (suc zero)) j h d = Distinct.more (λ i. let (l, e, x) = h _ i in apart_at l e x) d
  where
    apart_at : (l : ℤ) → ◌≡◌ {A = Clause} (pos (suc j) ∷ []) (l ∷ []) → j < index_of l → ⊥
    apart_at l e x = let q : pos (suc j) ≡ l = cc in omega (arith, ap index_of q)
distinct_at (suc (suc (suc s))) j h d = Distinct.more (λ i. let (l, e, x) = h _ i in apart_at l e x) d
  where
    apart_at : (l : ℤ) → ◌≡◌ {A = Clause} (negsuc j ∷ []) (l ∷ []) → j < index_of l → ⊥
    apart_at l e x = let q : negsuc j ≡ l = cc in omega (arith, ap index_of q)

pub distinct_forced : (j : ℕ) (ss : List ℕ) → ((i : ℕ) → status_at ss i ≤ 3) → Distinct (forced_clauses j ss)
distinct_forced j [] small = Distinct.nothing
distinct_forced j (s ∷ ss) small =
    distinct_at s j
    (λ cl i. let u = forced_sound (suc j) ss (λ n. small (suc n)) i in (u.lit, u.alone, omega (arith, u.index)))
    (distinct_forced (suc j) ss (λ n. small (suc n)))

-- ---- models

pub status_within : (ss : List ℕ) (i : ℕ) → 2 ≤ status_at ss i → i < length ss
status_within [] i h = absurd (omega arith)
status_within (s ∷ ss) zero h = omega arith
status_within (s ∷ ss) (suc i) h = omega (arith, status_within ss i h)

var_of-negated : (l : ℤ) → 1 ≤ var_of l → 1 ≤ var_of (negated l)
var_of-negated (pos zero) h = h
var_of-negated (pos (suc n)) h = omega arith
var_of-negated (negsuc n) h = omega arith

-- literals of one variable with one sign are true together
same_truth : (m : Values) (k l : ℤ) → index_of k ≡ index_of l → true_byte k ≡ true_byte l → is_true m k ≡ true → is_true m l ≡ true
same_truth m k l x t h = eq-eqb _ _ (ap (value_at m) (sym x) ∙ eqb-true _ _ h ∙ t)

module _ (ss : List ℕ) (F : List Clause) (m : Values) where
  pub folded_sound : satisfies m (folded ss F) ≡ true → satisfies m F ≡ true
  folded_sound h = all_complete (has_true m) F (λ cl i. go cl i (holds_forced ss cl) refl)
    where
      go : (cl : Clause) → In cl F → (b : Bool) → holds_forced ss cl ≡ b → has_true m cl ≡ true
      go cl i true e =
          let (l, j, f) = any_sound (says_forced ss) cl e in
          let (k, u, x, t) = forced_complete 0 ss (index_of l) l (eqb-true _ _ f) in
          let unit = all_sound (has_true m) (satisfies-left m (forced_clauses 0 ss) (others_of ss F) h) u in
          any_complete (is_true m) j (same_truth m k l (omega (arith, x)) t (sym (has_true_unit m k) ∙ unit))
      go cl i false e =
          let other : In (shortened ss cl) (others_of ss F) = in_map (shortened ss) (keep_complete (λ d. not (holds_forced ss d)) i (ap not e)) in
          let (l, j, t) = any_sound (is_true m) (shortened ss cl) (all_sound (has_true m) (satisfies_right m (forced_clauses 0 ss) (others_of ss F) h) other) in
          any_complete (is_true m) (stays_in ss [] cl j) t

  module _ (small : (i : ℕ) → status_at ss i ≤ 3)
      (no_zero : (cl : Clause) → In cl F → (l : ℤ) → In l cl → 1 ≤ var_of l)
      (in_all : (l : ℤ) → 1 ≤ var_of l → says_forced ss l ≡ true → is_true m l ≡ true) where
    unit_true : (cl : Clause) → In cl (forced_clauses 0 ss) → has_true m cl ≡ true
    unit_true cl i =
        let u = forced_sound 0 ss small i in
        rw u.alone
        (has_true_unit m u.lit ∙
        in_all u.lit (omega (arith, u.var))
        (eq-eqb _ _ (ap (status_at ss) (omega (arith, u.index)) ∙ u.status)))

    other_true : satisfies m F ≡ true → (cl : Clause) → In cl (others_of ss F) → has_true m cl ≡ true
    other_true h cl i =
        let (d, j, e) = map_in (shortened ss) (keep (λ d. not (holds_forced ss d)) F) i in
        let in_formula : In d F = (keep_sound (λ d. not (holds_forced ss d)) F j).0 in
        let (l, a, t) = any_sound (is_true m) d (all_sound (has_true m) h in_formula) in
        let some : 1 ≤ var_of l = no_zero d in_formula l a in
        let kept : says_forced ss (negated l) ≡ false =
        not-true (says_forced ss (negated l)) (λ f. not_both m l some t (in_all (negated l) (var_of-negated l some) f)) in
        rw e (stays d l t (stays_kept ss [] d kept a))
      where
        stays : (d : Clause) (l : ℤ) → is_true m l ≡ true → In l [] ⊎ In l (shortened ss d) → has_true m (shortened ss d) ≡ true
        stays d l t (inl a) = absurd (Memᴰ.not-nil a)
        stays d l t (inr a) = any_complete (is_true m) a t

    pub folded_complete : satisfies m F ≡ true → satisfies m (folded ss F) ≡ true
    folded_complete h =
        satisfies-append m (forced_clauses 0 ss) (others_of ss F)
        (all_complete (has_true m) (forced_clauses 0 ss) unit_true)
        (all_complete (has_true m) (others_of ss F) (other_true h))

-- ---- how many

entries_of-append : (F G : List Clause) → length (entries_of (F ++ G)) ≡ length (entries_of F) + length (entries_of G)
entries_of-append [] G = omega arith
entries_of-append (cl ∷ F) G =
    length-append cl (pos 0 ∷ entries_of (F ++ G)) ∙
    omega (arith, length-append cl (pos 0 ∷ entries_of F), entries_of-append F G)

-- two entries for each forced literal
entries_forced : (j : ℕ) (ss : List ℕ) → length (entries_of (forced_clauses j ss)) ≡ 2 * length (forced_clauses j ss)
entries_forced j [] = omega arith
entries_forced j (s ∷ ss) = go s (entries_forced (suc j) ss)
  where
    go : (t : ℕ) → length (entries_of (forced_clauses (suc j) ss)) ≡ 2 * length (forced_clauses (suc j) ss)
        → length (entries_of (forced_at t j (forced_clauses (suc j) ss))) ≡ 2 * length (forced_at t j (forced_clauses (suc j) ss))
    go zero h = h
    go (suc zero) h = h
    go (suc (suc zero)) h = omega arith
    go (suc (suc (suc t))) h = omega arith

some_of_any : (p : ℤ → Bool) (cl : Clause) → any p cl ≡ true → 1 ≤ length cl
some_of_any p [] h = absurd (never h refl)
some_of_any p (l ∷ cl) h = omega arith

-- the others, with two entries for each clause that holds a forced literal, are no more than all
entries_others : (ss : List ℕ) (F : List Clause) → length (entries_of (others_of ss F)) + 2 * count (holds_forced ss) F ≤ length (entries_of F)
entries_others ss [] = omega arith
entries_others ss (cl ∷ F) = go (holds_forced ss cl) refl (entries_others ss F)
  where
    go : (b : Bool) → holds_forced ss cl ≡ b
        → length (entries_of (others_of ss F)) + 2 * count (holds_forced ss) F ≤ length (entries_of F)
        → length (entries_of (map (shortened ss) (keep_if (not b) cl (keep (λ d. not (holds_forced ss d)) F)))) + 2 * count_if b (count (holds_forced ss) F)
        ≤ length (entries_of (cl ∷ F))
    go true e h = omega (arith, length-append cl (pos 0 ∷ entries_of F), some_of_any (says_forced ss) cl e)
    go false e h =
        omega (
          arith,
          length-append cl (pos 0 ∷ entries_of F),
          length-append (shortened ss cl) (pos 0 ∷ entries_of (others_of ss F)),
          stays-length ss [] cl,
        )

module _ (ss : List ℕ) (F : List Clause) (few : length (forced_clauses 0 ss) ≤ count (holds_forced ss) F) where
  pub folded_clauses : length (folded ss F) ≤ length F
  folded_clauses =
      let others = keep (λ cl. not (holds_forced ss cl)) F in
      omega (
        arith,
        length-append (forced_clauses 0 ss) (others_of ss F),
        length-map others (shortened ss),
        length_keep (λ cl. not (holds_forced ss cl)) F,
        count_split (holds_forced ss) F,
        few,
      )

  pub folded_entries : length (entries_of (folded ss F)) ≤ length (entries_of F)
  folded_entries = omega (arith, entries_of-append (forced_clauses 0 ss) (others_of ss F), entries_forced 0 ss, entries_others ss F, few)

-- ---- literals

pub folded_literals : (vars : ℕ) (ss : List ℕ) (F : List Clause) → length ss ≡ vars → ((i : ℕ) → status_at ss i ≤ 3)
    → ((cl : Clause) → In cl F → (l : ℤ) → In l cl → LitUpTo vars l) → (cl : Clause) → In cl (folded ss F) → (l : ℤ) → In l cl → LitUpTo vars l
folded_literals vars ss F n small h cl i l j = go (Memᴰ.append_cases (forced_clauses 0 ss) i)
  where
    go : In cl (forced_clauses 0 ss) ⊎ In cl (others_of ss F) → LitUpTo vars l
    go (inl a) =
        let u = forced_sound 0 ss small a in
        let e : l ≡ u.lit = Memᴰ.eq_of_singleton (rw u.alone at j) in
        rw e (record { some = omega (arith, u.var); most = omega (arith, u.var, u.within) })
    go (inr a) =
        let (d, b, e) = map_in (shortened ss) (keep (λ d. not (holds_forced ss d)) F) a in
        h d (keep_sound (λ d. not (holds_forced ss d)) F b).0 l (stays_in ss [] d (rw e at j))

-- ---- the clauses of an entry list

entries_of-leading : (l : ℤ) (cls : List Clause) → length (entries_of (leading l cls)) ≤ suc (length (entries_of cls))
entries_of-leading l [] = omega arith
entries_of-leading l (cl ∷ cls) = omega arith

pub entries_of-clauses_le : (es : List ℤ) → length (entries_of (clauses es)) ≤ length es
entries_of-clauses_le [] = omega arith
entries_of-clauses_le (pos zero ∷ es) = omega (arith, entries_of-clauses_le es)
entries_of-clauses_le (pos (suc n) ∷ es) = omega (arith, entries_of-clauses_le es, entries_of-leading (pos (suc n)) (clauses es))
entries_of-clauses_le (negsuc n ∷ es) = omega (arith, entries_of-clauses_le es, entries_of-leading (negsuc n) (clauses es))
