-- The laws of specs/Meaning and of `Extends` and `Covers` (specs/Models): bytes, values that extend others, storing a value, and
-- what makes clauses true. `Proper` values have no byte above 2: all values of a run do.
--
--   proper_set, proper_assign, proper_of_total     every byte is 0, 1 or 2
--   byte_cases                    a byte that is set is 1 or 2
--   true_byte-set, true_byte_le     the byte of a literal is 1 or 2
--   set_cases, value_at-set_same   what stands at an index after a store; set_elim: what holds of every byte then
--   extends_refl, extends_trans, extends_antisym     extending is an order
--   extends_set, extends_assign   giving an unset variable a value extends
--   set_extends, assign_extends   what has the value too extends the values with it; value_at-set_extends: and the other way
--   is_unset_of_is_true, is_true-assign, is_true_frame, is_true_mono     a literal under values that extend
--   false_byte_lem, not_true_of_false a literal that is set and not true has its false byte; and back
--   has_true_mono, satisfies_mono  what is true stays true
--   satisfies-left, satisfies_right, satisfies-append     clauses of F ++ G
--   satisfies_covers, satisfies_same, covers_refl, covers_append     clauses read as sets of literals
--   total_of_set                  values with no unset variable are total
--   blank_proper, blank_extends   values with no variable set
--   unset_within                  a variable that is unset is one of the values
--   unsets-set, unsets-assign, unsets_le     how many variables are unset
--
-- Assumes nothing.
use mathlib.Core.Path.{◌≡◌, refl, sym, ◌∙◌, ap}
use mathlib.Core.Logic.{◌≢◌, ◌⊎◌, inl, inr, ◌↔◌}
use mathlib.Core.Bool.{true, false}
use mathlib.Core.List.Memᴰ
use mathlib.Core.List.{List, [], ◌∷◌, ◌++◌}
use Prim.Native.Nat.{ℕ, zero, suc, ◌≤◌, ◌<◌}
use native.Mathlib.Omega.{arith}
use lib.IntN.{ℤ, pos, negsuc}
use lib.Dec.{eqb}
use lib.ListN.{set, length, replicate}
use lib.Seq.{ext_get_or}
use borrow.Author.Tests.{eqb-true, eqb-false, eq-eqb, ne_eqb}
use Rattle.rules.specs.Lists.{In}
use Rattle.rules.specs.Meaning.{Clause, Values, index_of, value_at, true_byte, false_byte, is_true, is_unset, assign, has_true, satisfies, Proper, Total}
use Rattle.rules.specs.Closing.{unsets}
use Rattle.rules.specs.Models.{Extends, Covers}
use Rattle.rules.proofs.ListLaws.{same_test, and_left, and_right, any_sound, any_complete, all_sound, all_complete, all_append, all_append_of}

-- ---- bytes

pub byte_cases : (b : ℕ) → b ≢ 0 → b ≤ 2 → (b ≡ 1) ⊎ (b ≡ 2)
byte_cases zero h k = absurd (h refl)
byte_cases (suc zero) h k = inl refl
byte_cases (suc (suc zero)) h k = inr refl
byte_cases (suc (suc (suc b))) h k = absurd (omega arith)

pub true_byte-set : (l : ℤ) → true_byte l ≢ 0
true_byte-set (pos n) = omega arith
true_byte-set (negsuc n) = omega arith

pub true_byte_le : (l : ℤ) → true_byte l ≤ 2
true_byte_le (pos n) = omega arith
true_byte_le (negsuc n) = omega arith

-- ---- storing a byte

-- what stands at an index after a store: the stored byte, or what stood there
pub set_cases : (vs : Values) (i b j : ℕ) → ((j ≡ i) × (value_at (set vs i b) j ≡ b)) ⊎ (value_at (set vs i b) j ≡ value_at vs j)
set_cases [] i b j = inr refl
set_cases (x ∷ vs) zero b zero = inl (refl, refl)
set_cases (x ∷ vs) zero b (suc j) = inr refl
set_cases (x ∷ vs) (suc i) b zero = inr refl
set_cases (x ∷ vs) (suc i) b (suc j) =
    elim (set_cases vs i b j) [ inl p ↦ inl (ap suc p.0, p.1) | inr q ↦ inr q ]

-- an unset variable has a place, for one outside counts as false
pub value_at-set_same : (vs : Values) (i b : ℕ) → value_at vs i ≡ 0 → value_at (set vs i b) i ≡ b
value_at-set_same [] i b z = absurd (omega arith)
value_at-set_same (x ∷ vs) zero b z = refl
value_at-set_same (x ∷ vs) (suc i) b z = value_at-set_same vs i b z

-- what holds of the stored byte, and of the rest, holds after the store
pub set_elim : (P : ℕ → ℕ → Type 0) (vs : Values) (i b : ℕ) → P i b → ((j : ℕ) → P j (value_at vs j)) → (j : ℕ)
    → P j (value_at (set vs i b) j)
set_elim P vs i b h k j = go (set_cases vs i b j)
  where
    go : ((j ≡ i) × (value_at (set vs i b) j ≡ b)) ⊎ (value_at (set vs i b) j ≡ value_at vs j) → P j (value_at (set vs i b) j)
    go (inl e) = rw (e.1, e.0) h
    go (inr e) = rw e (k j)

pub proper_set : {vs : Values} (i b : ℕ) → b ≤ 2 → Proper vs → Proper (set vs i b)
proper_set {vs} i b h p = record { small = set_elim (λ j x. x ≤ 2) vs i b h p.small }

pub proper_assign : {vs : Values} (l : ℤ) → Proper vs → Proper (assign vs l)
proper_assign l p = proper_set (index_of l) (true_byte l) (true_byte_le l) p

pub proper_of_total : {vs : Values} → Total vs → Proper vs
proper_of_total {vs} t = record { small = λ i. go i (t.valued i) }
  where
    go : (i : ℕ) → (value_at vs i ≡ 1) ⊎ (value_at vs i ≡ 2) → value_at vs i ≤ 2
    go i (inl e) = omega arith
    go i (inr e) = omega arith

pub total_of_set : {vs : Values} → Proper vs → ((i : ℕ) → value_at vs i ≢ 0) → Total vs
total_of_set {vs} p h = record { valued = λ i. byte_cases (value_at vs i) (h i) (p.small i) }

-- ---- extending

pub extends_refl : (vs : Values) → Extends vs vs
extends_refl vs = record { agrees = λ i h. refl }

pub extends_trans : {vs ws m : Values} → Extends vs ws → Extends ws m → Extends vs m
extends_trans {vs} {ws} {m} x y =
    record { agrees = λ i h. y.agrees i (λ e. h (sym (x.agrees i h) ∙ e)) ∙ x.agrees i h }

pub extends_antisym : {vs ws : Values} → length vs ≡ length ws → Extends vs ws → Extends ws vs → vs ≡ ws
extends_antisym {vs} {ws} e x y =
    ext_get_or 1 vs ws e (λ i h. same (value_at vs i) (value_at ws i) (x.agrees i) (y.agrees i))
  where
    same : (a b : ℕ) → (a ≢ 0 → b ≡ a) → (b ≢ 0 → a ≡ b) → a ≡ b
    same zero zero f g = refl
    same zero (suc b) f g = g (omega arith)
    same (suc a) b f g = sym (f (omega arith))

pub extends_set : (vs : Values) (i b : ℕ) → value_at vs i ≡ 0 → Extends vs (set vs i b)
extends_set vs i b z =
    record { agrees = set_elim (λ j x. value_at vs j ≢ 0 → x ≡ value_at vs j) vs i b (λ h. absurd (h z)) (λ j h. refl) }

pub extends_assign : (vs : Values) (l : ℤ) → is_unset vs l ≡ true → Extends vs (assign vs l)
extends_assign vs l u = extends_set vs (index_of l) (true_byte l) (eqb-true _ _ u)

pub set_extends : {vs m : Values} (i b : ℕ) → Extends vs m → value_at m i ≡ b → Extends (set vs i b) m
set_extends {vs} {m} i b x w =
    record { agrees = set_elim (λ j y. y ≢ 0 → value_at m j ≡ y) vs i b (λ h. w) (λ j h. x.agrees j h) }

pub assign_extends : {vs m : Values} (l : ℤ) → Extends vs m → is_true m l ≡ true → Extends (assign vs l) m
assign_extends l x h = set_extends (index_of l) (true_byte l) x (eqb-true _ _ h)

pub value_at-set_extends : (vs : Values) (i b : ℕ) → value_at vs i ≡ 0 → b ≢ 0 → (m : Values) → Extends (set vs i b) m
    → value_at m i ≡ b
value_at-set_extends vs i b z n m x =
    let e : value_at (set vs i b) i ≡ b = value_at-set_same vs i b z in
    x.agrees i (λ q. n (sym e ∙ q)) ∙ e

-- ---- literals

pub is_unset_of_is_true : (vs : Values) (l : ℤ) → is_true vs l ≡ true → is_unset vs l ≡ false
is_unset_of_is_true vs l h = ne_eqb _ _ (λ e. true_byte-set l (sym (eqb-true _ _ h) ∙ e))

pub is_true-assign : (vs : Values) (l : ℤ) → is_unset vs l ≡ true → is_true (assign vs l) l ≡ true
is_true-assign vs l u = eq-eqb _ _ (value_at-set_same vs (index_of l) (true_byte l) (eqb-true _ _ u))

-- what is set keeps its value
pub is_true_frame : {vs m : Values} (l : ℤ) → Extends vs m → is_unset vs l ≡ false → is_true m l ≡ is_true vs l
is_true_frame l x h = ap (λ (b : ℕ). eqb b (true_byte l)) (x.agrees (index_of l) (eqb-false _ _ h))

pub is_true_mono : {vs m : Values} (l : ℤ) → Extends vs m → is_true vs l ≡ true → is_true m l ≡ true
is_true_mono {vs} {m} l x h = is_true_frame l x (is_unset_of_is_true vs l h) ∙ h

pub false_byte_lem : {vs : Values} (l : ℤ) → Proper vs → is_true vs l ≡ false → is_unset vs l ≡ false
    → value_at vs (index_of l) ≡ false_byte l
false_byte_lem {vs} l p f u = go l (value_at vs (index_of l)) (eqb-false _ _ f) (byte_cases _ (eqb-false _ _ u) (p.small (index_of l)))
  where
    go : (k : ℤ) (b : ℕ) → b ≢ true_byte k → (b ≡ 1) ⊎ (b ≡ 2) → b ≡ false_byte k
    go (pos n) b h (inl e) = e
    go (pos n) b h (inr e) = absurd (h e)
    go (negsuc n) b h (inl e) = absurd (h e)
    go (negsuc n) b h (inr e) = e

pub not_true_of_false : (vs : Values) (l : ℤ) → value_at vs (index_of l) ≡ false_byte l
    → (is_true vs l ≡ false) × (is_unset vs l ≡ false)
not_true_of_false vs l e = go l (value_at vs (index_of l)) e
  where
    go : (k : ℤ) (b : ℕ) → b ≡ false_byte k → (eqb b (true_byte k) ≡ false) × (eqb b 0 ≡ false)
    go (pos n) b e = rw e (refl, refl)
    go (negsuc n) b e = rw e (refl, refl)

-- ---- clauses

pub has_true_mono : {vs m : Values} (cl : Clause) → Extends vs m → has_true vs cl ≡ true → has_true m cl ≡ true
has_true_mono {vs} {m} cl x h =
    let (l, i, t) = any_sound (is_true vs) cl h in any_complete (is_true m) i (is_true_mono l x t)

pub satisfies_mono : {vs m : Values} (F : List Clause) → Extends vs m → satisfies vs F ≡ true → satisfies m F ≡ true
satisfies_mono {vs} {m} F x h = all_complete (has_true m) F (λ cl i. has_true_mono cl x (all_sound (has_true vs) h i))

pub satisfies-append : (m : Values) (F G : List Clause) → satisfies m F ≡ true → satisfies m G ≡ true
    → satisfies m (F ++ G) ≡ true
satisfies-append m F G h k = all_append_of (has_true m) F G h k

pub satisfies-left : (m : Values) (F G : List Clause) → satisfies m (F ++ G) ≡ true → satisfies m F ≡ true
satisfies-left m F G h = and_left (satisfies m F) (satisfies m G) (sym (all_append (has_true m) F G) ∙ h)

pub satisfies_right : (m : Values) (F G : List Clause) → satisfies m (F ++ G) ≡ true → satisfies m G ≡ true
satisfies_right m F G h = and_right (satisfies m F) (satisfies m G) (sym (all_append (has_true m) F G) ∙ h)

-- ---- clauses read as sets

pub satisfies_covers : (m : Values) (F G : List Clause) → Covers G F → satisfies m F ≡ true → satisfies m G ≡ true
satisfies_covers m F G c h = all_complete (has_true m) G (λ cl i. go cl (c.like cl i))
  where
    go : (cl : Clause) → (d : Clause) × In d F × ((l : ℤ) → In l cl ↔ In l d) → has_true m cl ≡ true
    go cl (d, i, s) =
        let (l, j, t) = any_sound (is_true m) d (all_sound (has_true m) h i) in any_complete (is_true m) ((s l).1 j) t

pub satisfies_same : (m : Values) (F G : List Clause) → Covers F G → Covers G F → satisfies m F ≡ satisfies m G
satisfies_same m F G p q = same_test (satisfies m F) (satisfies m G) (satisfies_covers m F G q) (satisfies_covers m G F p)

pub covers_refl : (F : List Clause) → Covers F F
covers_refl F = record { like = λ cl i. (cl, i, λ l. (λ x. x, λ x. x)) }

pub covers_append : {F G C D : List Clause} → Covers F G → Covers C D → Covers (F ++ C) (G ++ D)
covers_append {F} {G} {C} {D} p q = record { like = λ cl i. go cl (Memᴰ.append_cases F i) }
  where
    go : (cl : Clause) → In cl F ⊎ In cl C → (d : Clause) × In d (G ++ D) × ((l : ℤ) → In l cl ↔ In l d)
    go cl (inl i) = let (d, j, s) = p.like cl i in (d, Memᴰ.append_left D j, s)
    go cl (inr i) = let (d, j, s) = q.like cl i in (d, Memᴰ.append_right G j, s)

-- ---- no variable set, and how many are unset

pub blank_proper : (n : ℕ) → Proper (replicate n 0)
blank_proper n = record { small = go n }
  where
    go : (n i : ℕ) → value_at (replicate n 0) i ≤ 2
    go zero i = omega arith
    go (suc n) zero = omega arith
    go (suc n) (suc i) = go n i

pub blank_extends : (n : ℕ) (m : Values) → length m ≡ n → Extends (replicate n 0) m
blank_extends n m e = record { agrees = go n m e }
  where
    go : (n : ℕ) (m : Values) → length m ≡ n → (i : ℕ) → value_at (replicate n 0) i ≢ 0 → value_at m i ≡ value_at (replicate n 0) i
    go zero [] e i h = refl
    go zero (b ∷ m) e i h = absurd (omega arith)
    go (suc n) [] e i h = absurd (omega arith)
    go (suc n) (b ∷ m) e zero h = absurd (h refl)
    go (suc n) (b ∷ m) e (suc i) h = go n m (omega arith) i h

pub unset_within : (vs : Values) (i : ℕ) → value_at vs i ≡ 0 → i < length vs
unset_within [] i z = absurd (omega arith)
unset_within (b ∷ vs) zero z = omega arith
unset_within (b ∷ vs) (suc i) z = omega (arith, unset_within vs i z)

pub unsets-set : (vs : Values) (i b : ℕ) → value_at vs i ≡ 0 → suc (unsets (set vs i (suc b))) ≡ unsets vs
unsets-set [] i b h = absurd (omega arith)
unsets-set (zero ∷ vs) zero b h = refl
unsets-set (suc x ∷ vs) zero b h = absurd (omega arith)
unsets-set (zero ∷ vs) (suc i) b h = ap suc (unsets-set vs i b h)
unsets-set (suc x ∷ vs) (suc i) b h = unsets-set vs i b h

pub unsets-assign : (vs : Values) (l : ℤ) → is_unset vs l ≡ true → suc (unsets (assign vs l)) ≡ unsets vs
unsets-assign vs (pos n) u = unsets-set vs _ 1 (eqb-true _ _ u)
unsets-assign vs (negsuc n) u = unsets-set vs _ 0 (eqb-true _ _ u)

pub unsets_le : (vs : Values) → unsets vs ≤ length vs
unsets_le [] = omega arith
unsets_le (zero ∷ vs) = omega (arith, unsets_le vs)
unsets_le (suc b ∷ vs) = omega (arith, unsets_le vs)
