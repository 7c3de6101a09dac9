-- The laws of specs/Lists: what a test over a list says of its elements, and how tests, counts and sums go over `++` and over
-- equal functions. A test is spoken of as `b ≡ true` and `b ≡ false`, so that `rw`, `cc` and `∙` work on it.
--
--   apart                         what follows where two constructors would be equal
--   le_or_lt                      an order is decided
--   both, never, not-true         a test is true or false, never both, and false if it cannot be true
--   same_test                     two tests are the same if each follows from the other
--   and_left, and_right           the two halves of `&&`
--   or_cases, or_left, or_right   one half of `||`, and both where it is false
--   any_sound, any_complete       any: one passes; none_of_any, any_of_none: no one passes
--   all_sound, all_complete       all: each passes; all_false: one does not
--   keep_sound, keep_complete     the kept are the elements that pass
--   any_append, all_append, all_append_of, keep_append, count_append, sum_of_append     over `++`
--   any_cong, all_cong, keep_cong, count_cong, sum_of_cong     functions that agree on the elements
--   length_keep, count_le, count_pos, count_split, count_zero, count_of_none, any_of_count     how many pass
--   in_get_d, get_d_in, get_d_default     elements and indices; inside a list the default does not matter
--   in_map, map_in, in_take       elements of map and take
--   eqz_sound, eqz_refl, eqz_complete, eqz_other     two whole numbers are the same
--   eqs_sound, eqs_refl           two lists of numbers are the same
--   length-tabled, get_d_tabled, tabled_cong     the table of a function
--
-- Assumes nothing.
use mathlib.Core.Path.{◌≡◌, refl, sym, ◌∙◌, ap, ap₂}
use mathlib.Core.Logic.{◌≢◌, ◌⊎◌, inl, inr}
use mathlib.Core.Bool.{Bool, true, false, true≢false, not, ◌&&◌, ◌||◌, or-true}
use mathlib.Core.List.Memᴰ
use mathlib.Core.List.{List, [], ◌∷◌, ◌++◌, map}
use Prim.Native.Nat.{ℕ, zero, suc, ◌+◌, ◌≤◌, ◌<◌}
use native.Mathlib.Omega.{arith}
use native.Mathlib.Nat.{add-zero, add-suc, suc-add}
use lib.Dec.{eqb, leb}
use lib.IntN.{ℤ, pos, negsuc}
use lib.ListN.{length, get_or, take}
use borrow.Author.Tests.{eqb-true, eq-eqb, leb-true, leb-false}
use Rattle.rules.specs.Lists.{In, any, all, keep, keep_if, count, count_if, sum_of, eqz, eqs, tabled}

-- ---- tests

-- two constructors are never equal: from such an equation among the hypotheses `cc` shows 0 ≡ 1, so that `apart cc` closes any goal
pub apart : {A : Type 0} → ◌≡◌ {A = ℕ} 0 1 → A
apart e = absurd (omega arith)

pub le_or_lt : (a b : ℕ) → (a ≤ b) ⊎ (b < a)
le_or_lt a b = go (leb a b) refl
  where
    go : (t : Bool) → leb a b ≡ t → (a ≤ b) ⊎ (b < a)
    go true e = inl (leb-true a b e)
    go false e = inr (leb-false a b e)

pub both : (b : Bool) → (b ≡ true) ⊎ (b ≡ false)
both true = inl refl
both false = inr refl

pub never : {b : Bool} → b ≡ true → b ≡ false → ⊥
never p q = true≢false (sym p ∙ q)

-- `b` is explicit: under `b ≡ true` alone it cannot be found where it is a call that computes
pub not-true : (b : Bool) → (b ≡ true → ⊥) → b ≡ false
not-true true f = absurd (f refl)
not-true false f = refl

pub same_test : (b c : Bool) → (b ≡ true → c ≡ true) → (c ≡ true → b ≡ true) → b ≡ c
same_test true c f g = sym (f refl)
same_test false true f g = g refl
same_test false false f g = refl

pub and_left : (a b : Bool) → (a && b) ≡ true → a ≡ true
and_left true b h = refl
and_left false b h = h

pub and_right : (a b : Bool) → (a && b) ≡ true → b ≡ true
and_right true b h = h
and_right false b h = absurd (never h refl)

pub or_cases : (a b : Bool) → (a || b) ≡ true → (a ≡ true) ⊎ (b ≡ true)
or_cases true b h = inl refl
or_cases false b h = inr h

pub or_left : (a b : Bool) → (a || b) ≡ false → a ≡ false
or_left true b h = h
or_left false b h = refl

pub or_right : (a b : Bool) → (a || b) ≡ false → b ≡ false
or_right true b h = absurd (never refl h)
or_right false b h = h

module _ {A : Type 0} where
  -- ---- any

  pub any_sound : (p : A → Bool) (xs : List A) → any p xs ≡ true → (x : A) × In x xs × (p x ≡ true)
  any_sound p [] h = absurd (never h refl)
  any_sound p (x ∷ xs) h = go (p x) refl h (any_sound p xs)
    where
      go : (b : Bool) → p x ≡ b → any p (x ∷ xs) ≡ true → (any p xs ≡ true → (y : A) × In y xs × (p y ≡ true))
          → (y : A) × In y (x ∷ xs) × (p y ≡ true)
      go true e h ih = (x, Memᴰ.head refl, e)
      go false e h ih = let (y, i, r) = ih (rw e at h) in (y, Memᴰ.tail i, r)

  pub any_complete : (p : A → Bool) {x : A} {xs : List A} → In x xs → p x ≡ true → any p xs ≡ true
  any_complete p (Memᴰ.head e) h = cc
  any_complete p (Memᴰ.tail {x = y} {xs = ys} i) h = cc (any_complete p i h, or-true (p y))

  pub none_of_any : (p : A → Bool) {x : A} {xs : List A} → any p xs ≡ false → In x xs → p x ≡ false
  none_of_any p {x} h i = not-true (p x) (λ e. never (any_complete p i e) h)

  pub any_of_none : (p : A → Bool) (xs : List A) → ((x : A) → In x xs → p x ≡ false) → any p xs ≡ false
  any_of_none p [] h = refl
  any_of_none p (x ∷ xs) h = cc (h x (Memᴰ.head refl), any_of_none p xs (λ y i. h y (Memᴰ.tail i)))

  -- ---- all

  pub all_sound : (p : A → Bool) {x : A} {xs : List A} → all p xs ≡ true → In x xs → p x ≡ true
  all_sound p h (Memᴰ.head {x = y} {xs = ys} e) = cc (and_left (p y) (all p ys) h)
  all_sound p h (Memᴰ.tail {x = y} {xs = ys} i) = all_sound p (and_right (p y) (all p ys) h) i

  pub all_complete : (p : A → Bool) (xs : List A) → ((x : A) → In x xs → p x ≡ true) → all p xs ≡ true
  all_complete p [] h = refl
  all_complete p (x ∷ xs) h = cc (h x (Memᴰ.head refl), all_complete p xs (λ y i. h y (Memᴰ.tail i)))

  pub all_false : (p : A → Bool) (xs : List A) → all p xs ≡ false → (x : A) × In x xs × (p x ≡ false)
  all_false p [] h = absurd (never refl h)
  all_false p (x ∷ xs) h = go (p x) refl h (all_false p xs)
    where
      go : (b : Bool) → p x ≡ b → all p (x ∷ xs) ≡ false → (all p xs ≡ false → (y : A) × In y xs × (p y ≡ false))
          → (y : A) × In y (x ∷ xs) × (p y ≡ false)
      go false e h ih = (x, Memᴰ.head refl, e)
      go true e h ih = let (y, i, r) = ih (rw e at h) in (y, Memᴰ.tail i, r)

  -- ---- keep

  pub keep_sound : (p : A → Bool) {x : A} (xs : List A) → In x (keep p xs) → In x xs × (p x ≡ true)
  keep_sound p [] i = absurd (Memᴰ.not-nil i)
  keep_sound p {x} (y ∷ ys) i = go (p y) refl i (keep_sound p ys)
    where
      go : (b : Bool) → p y ≡ b → In x (keep_if b y (keep p ys)) → (In x (keep p ys) → In x ys × (p x ≡ true))
          → In x (y ∷ ys) × (p x ≡ true)
      go true e (Memᴰ.head q) ih = (Memᴰ.head q, cc)
      go true e (Memᴰ.tail j) ih = (Memᴰ.tail (ih j).0, (ih j).1)
      go false e j ih = (Memᴰ.tail (ih j).0, (ih j).1)

  pub keep_complete : (p : A → Bool) {x : A} {xs : List A} → In x xs → p x ≡ true → In x (keep p xs)
  keep_complete p (Memᴰ.head {x = y} {xs = ys} e) h = rw (ap p (sym e) ∙ h) (Memᴰ.head e)
  keep_complete p {x} (Memᴰ.tail {x = y} {xs = ys} i) h = go (p y) (keep_complete p i h)
    where
      go : (b : Bool) → In x (keep p ys) → In x (keep_if b y (keep p ys))
      go true j = Memᴰ.tail j
      go false j = j

  -- ---- over ++

  pub any_append : (p : A → Bool) (xs ys : List A) → any p (xs ++ ys) ≡ (any p xs || any p ys)
  any_append p [] ys = refl
  any_append p (x ∷ xs) ys = go (p x) (any_append p xs ys)
    where
      go : (b : Bool) → any p (xs ++ ys) ≡ (any p xs || any p ys) → (b || any p (xs ++ ys)) ≡ ((b || any p xs) || any p ys)
      go true h = refl
      go false h = h

  pub all_append : (p : A → Bool) (xs ys : List A) → all p (xs ++ ys) ≡ (all p xs && all p ys)
  all_append p [] ys = refl
  all_append p (x ∷ xs) ys = go (p x) (all_append p xs ys)
    where
      go : (b : Bool) → all p (xs ++ ys) ≡ (all p xs && all p ys) → (b && all p (xs ++ ys)) ≡ ((b && all p xs) && all p ys)
      go true h = h
      go false h = refl

  pub all_append_of : (p : A → Bool) (xs ys : List A) → all p xs ≡ true → all p ys ≡ true → all p (xs ++ ys) ≡ true
  all_append_of p xs ys h k = rw (all_append p xs ys, h) k

  pub keep_append : (p : A → Bool) (xs ys : List A) → keep p (xs ++ ys) ≡ keep p xs ++ keep p ys
  keep_append p [] ys = refl
  keep_append p (x ∷ xs) ys = go (p x) (keep_append p xs ys)
    where
      go : (b : Bool) → keep p (xs ++ ys) ≡ keep p xs ++ keep p ys
          → keep_if b x (keep p (xs ++ ys)) ≡ keep_if b x (keep p xs) ++ keep p ys
      go true h = rw h
      go false h = h

  pub count_append : (p : A → Bool) (xs ys : List A) → count p (xs ++ ys) ≡ count p xs + count p ys
  count_append p [] ys = omega arith
  count_append p (x ∷ xs) ys = go (p x) (count_append p xs ys)
    where
      go : (b : Bool) → count p (xs ++ ys) ≡ count p xs + count p ys
          → count_if b (count p (xs ++ ys)) ≡ count_if b (count p xs) + count p ys
      go true h = omega arith
      go false h = h

  pub sum_of_append : (f : A → ℕ) (xs ys : List A) → sum_of f (xs ++ ys) ≡ sum_of f xs + sum_of f ys
  sum_of_append f [] ys = omega arith
  sum_of_append f (x ∷ xs) ys = omega (arith, sum_of_append f xs ys)

  -- ---- functions that agree on the elements

  pub any_cong : (p q : A → Bool) (xs : List A) → ((x : A) → In x xs → p x ≡ q x) → any p xs ≡ any q xs
  any_cong p q [] e = refl
  any_cong p q (x ∷ xs) e = cc (e x (Memᴰ.head refl), any_cong p q xs (λ y i. e y (Memᴰ.tail i)))

  pub all_cong : (p q : A → Bool) (xs : List A) → ((x : A) → In x xs → p x ≡ q x) → all p xs ≡ all q xs
  all_cong p q [] e = refl
  all_cong p q (x ∷ xs) e = cc (e x (Memᴰ.head refl), all_cong p q xs (λ y i. e y (Memᴰ.tail i)))

  pub keep_cong : (p q : A → Bool) (xs : List A) → ((x : A) → In x xs → p x ≡ q x) → keep p xs ≡ keep q xs
  keep_cong p q [] e = refl
  keep_cong p q (x ∷ xs) e = cc (e x (Memᴰ.head refl), keep_cong p q xs (λ y i. e y (Memᴰ.tail i)))

  pub count_cong : (p q : A → Bool) (xs : List A) → ((x : A) → In x xs → p x ≡ q x) → count p xs ≡ count q xs
  count_cong p q [] e = refl
  count_cong p q (x ∷ xs) e = cc (e x (Memᴰ.head refl), count_cong p q xs (λ y i. e y (Memᴰ.tail i)))

  pub sum_of_cong : (f g : A → ℕ) (xs : List A) → ((x : A) → In x xs → f x ≡ g x) → sum_of f xs ≡ sum_of g xs
  sum_of_cong f g [] e = refl
  sum_of_cong f g (x ∷ xs) e = cc (e x (Memᴰ.head refl), sum_of_cong f g xs (λ y i. e y (Memᴰ.tail i)))

  -- ---- how many pass

  pub length_keep : (p : A → Bool) (xs : List A) → length (keep p xs) ≡ count p xs
  length_keep p [] = refl
  length_keep p (x ∷ xs) = go (p x) (length_keep p xs)
    where
      go : (b : Bool) → length (keep p xs) ≡ count p xs → length (keep_if b x (keep p xs)) ≡ count_if b (count p xs)
      go true h = ap suc h
      go false h = h

  -- those that pass and those that do not are all
  pub count_split : (p : A → Bool) (xs : List A) → count p xs + count (λ x. not (p x)) xs ≡ length xs
  count_split p [] = refl
  count_split p (x ∷ xs) = go (p x) (count_split p xs)
    where
      go : (b : Bool) → count p xs + count (λ x. not (p x)) xs ≡ length xs
          → count_if b (count p xs) + count_if (not b) (count (λ x. not (p x)) xs) ≡ suc (length xs)
      go true h = omega arith
      go false h = omega arith

  pub count_le : (p : A → Bool) (xs : List A) → count p xs ≤ length xs
  count_le p xs = omega (arith, count_split p xs)

  pub count_pos : (p : A → Bool) {x : A} {xs : List A} → In x xs → p x ≡ true → 1 ≤ count p xs
  count_pos p {x} (Memᴰ.head {x = y} {xs = ys} e) h = rw (ap p (sym e) ∙ h) (omega arith)
  count_pos p (Memᴰ.tail {x = y} {xs = ys} i) h = go (p y) (count_pos p i h)
    where
      go : (b : Bool) → 1 ≤ count p ys → 1 ≤ count_if b (count p ys)
      go true k = omega arith
      go false k = k

  pub count_zero : (p : A → Bool) (xs : List A) → count p xs ≡ 0 → any p xs ≡ false
  count_zero p xs h = any_of_none p xs (λ x i. not-true (p x) (λ e. absurd (omega (arith, count_pos p i e))))

  pub count_of_none : (p : A → Bool) (xs : List A) → ((x : A) → In x xs → p x ≡ false) → count p xs ≡ 0
  count_of_none p [] h = refl
  count_of_none p (x ∷ xs) h =
      rw (h x (Memᴰ.head refl)) (count_of_none p xs (λ y i. h y (Memᴰ.tail i)))

  pub any_of_count : (p : A → Bool) (xs : List A) → 1 ≤ count p xs → any p xs ≡ true
  any_of_count p xs h = go (both (any p xs))
    where
      go : (any p xs ≡ true) ⊎ (any p xs ≡ false) → any p xs ≡ true
      go (inl e) = e
      go (inr e) = absurd (omega (arith, count_of_none p xs (λ x i. none_of_any p e i)))

  -- ---- elements and indices

  pub in_get_d : (xs : List A) (i : ℕ) (d : A) → i < length xs → In (get_or xs i d) xs
  in_get_d [] i d h = absurd (omega arith)
  in_get_d (x ∷ xs) zero d h = Memᴰ.head refl
  in_get_d (x ∷ xs) (suc i) d h = Memᴰ.tail (in_get_d xs i d (omega arith))

  pub get_d_in : (d : A) {x : A} {xs : List A} → In x xs → (i : ℕ) × (i < length xs) × (get_or xs i d ≡ x)
  get_d_in d (Memᴰ.head e) = (0, omega arith, sym e)
  get_d_in d (Memᴰ.tail i) = let (n, h, e) = get_d_in d i in (suc n, omega arith, e)

  pub get_d_default : (xs : List A) (i : ℕ) (d e : A) → i < length xs → get_or xs i d ≡ get_or xs i e
  get_d_default [] i d e h = absurd (omega arith)
  get_d_default (x ∷ xs) zero d e h = refl
  get_d_default (x ∷ xs) (suc i) d e h = get_d_default xs i d e (omega arith)

-- ---- elements of map and take

pub in_map : {A B : Type 0} (f : A → B) {x : A} {xs : List A} → In x xs → In (f x) (map f xs)
in_map f (Memᴰ.head e) = Memᴰ.head (ap f e)
in_map f (Memᴰ.tail h) = Memᴰ.tail (in_map f h)

pub map_in : {A B : Type 0} (f : A → B) {y : B} (xs : List A) → In y (map f xs) → (x : A) × In x xs × (y ≡ f x)
map_in f [] h = absurd (Memᴰ.not-nil h)
map_in f (x ∷ xs) (Memᴰ.head e) = (x, Memᴰ.head refl, e)
map_in f (x ∷ xs) (Memᴰ.tail h) = let (z, i, e) = map_in f xs h in (z, Memᴰ.tail i, e)

pub in_take : {A : Type 0} {x : A} (n : ℕ) (xs : List A) → In x (take n xs) → In x xs
in_take zero xs h = absurd (Memᴰ.not-nil h)
in_take (suc n) [] h = h
in_take (suc n) (y ∷ ys) (Memᴰ.head e) = Memᴰ.head e
in_take (suc n) (y ∷ ys) (Memᴰ.tail h) = Memᴰ.tail (in_take n ys h)

-- ---- the same number, the same list

pub eqz_sound : (k l : ℤ) → eqz k l ≡ true → k ≡ l
eqz_sound (pos m) (pos n) h = ap pos (eqb-true m n h)
eqz_sound (pos m) (negsuc n) h = absurd (never h refl)
eqz_sound (negsuc m) (pos n) h = absurd (never h refl)
eqz_sound (negsuc m) (negsuc n) h = ap negsuc (eqb-true m n h)

pub eqz_refl : (k : ℤ) → eqz k k ≡ true
eqz_refl (pos m) = eq-eqb m m refl
eqz_refl (negsuc m) = eq-eqb m m refl

pub eqz_complete : (k l : ℤ) → k ≡ l → eqz k l ≡ true
eqz_complete k l e = rw e (eqz_refl l)

pub eqz_other : (k l : ℤ) → k ≢ l → eqz k l ≡ false
eqz_other k l h = not-true (eqz k l) (λ e. h (eqz_sound k l e))

pub eqs_sound : (xs ys : List ℕ) → eqs xs ys ≡ true → xs ≡ ys
eqs_sound [] [] h = refl
eqs_sound [] (y ∷ ys) h = absurd (never h refl)
eqs_sound (x ∷ xs) [] h = absurd (never h refl)
eqs_sound (x ∷ xs) (y ∷ ys) h =
    cc (eqb-true x y (and_left (eqb x y) (eqs xs ys) h), eqs_sound xs ys (and_right (eqb x y) (eqs xs ys) h))

pub eqs_refl : (xs : List ℕ) → eqs xs xs ≡ true
eqs_refl [] = refl
eqs_refl (x ∷ xs) = rw (eq-eqb x x refl) (eqs_refl xs)

-- ---- a table of a function

pub length-tabled : (f : ℕ → ℕ) (i n : ℕ) → length (tabled f i n) ≡ n
length-tabled f i zero = refl
length-tabled f i (suc n) = ap suc (length-tabled f (suc i) n)

pub get_d_tabled : (f : ℕ → ℕ) (i n j : ℕ) → j < n → get_or (tabled f i n) j 0 ≡ f (i + j)
get_d_tabled f i zero j h = absurd (omega arith)
get_d_tabled f i (suc n) zero h = rw add-zero
get_d_tabled f i (suc n) (suc j) h = rw (add-suc, ← suc-add) (get_d_tabled f (suc i) n j (omega arith))

pub tabled_cong : (f g : ℕ → ℕ) (i n : ℕ) → ((j : ℕ) → i ≤ j → j < i + n → f j ≡ g j) → tabled f i n ≡ tabled g i n
tabled_cong f g i zero h = refl
tabled_cong f g i (suc n) h =
    ap₂ (λ (x : ℕ) (xs : List ℕ). x ∷ xs) (h i (omega arith) (omega arith)) (tabled_cong f g (suc i) n (λ j a b. h j (omega arith) (omega arith)))
