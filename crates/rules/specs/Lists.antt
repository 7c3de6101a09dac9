-- Tests and cuts over lists, which the headings of docs/RULES.md share. Assumes nothing.
use Rattle.std.specs.Prelude.{Bool, true, false, ◌&&◌, ◌||◌, ℕ, zero, suc, ◌+◌, eqb, ℤ, pos, negsuc}
use mathlib.Core.List.{List, [], ◌∷◌, ◌++◌, Memᴰ}
use Rattle.std.proofs.Math.Option.{Option, none, some}

abbrev pub count_if : Bool → ℕ → ℕ
count_if true n = suc n
count_if false n = n

abbrev pub index_if : Bool → ℕ → (ℕ → ℕ) → ℕ
index_if true zero rest = 0
index_if true (suc n) rest = suc (rest n)
index_if false n rest = suc (rest n)

-- a mark, or the value of a variable, that is not 0
abbrev pub is_set : ℕ → Bool
is_set zero = false
is_set (suc n) = true

module _ {A : Type 0} where
  -- x is an element of xs
  abbrev pub In : A → List A → Type 0
  In x xs = Memᴰ x xs

  abbrev pub any : (A → Bool) → List A → Bool
  any p [] = false
  any p (x ∷ xs) = p x || any p xs

  abbrev pub all : (A → Bool) → List A → Bool
  all p [] = true
  all p (x ∷ xs) = p x && all p xs

  abbrev pub keep_if : Bool → A → List A → List A
  keep_if true x xs = x ∷ xs
  keep_if false x xs = xs

  -- the elements that pass
  abbrev pub keep : (A → Bool) → List A → List A
  keep p [] = []
  keep p (x ∷ xs) = keep_if (p x) x (keep p xs)

  -- how many pass
  abbrev pub count : (A → Bool) → List A → ℕ
  count p [] = 0
  count p (x ∷ xs) = count_if (p x) (count p xs)

  abbrev pub sum_of : (A → ℕ) → List A → ℕ
  sum_of f [] = 0
  sum_of f (x ∷ xs) = f x + sum_of f xs

  -- the index of the element that passes and has n passing elements before it; the length if there is none
  abbrev pub nth_index : (A → Bool) → List A → ℕ → ℕ
  nth_index p [] n = 0
  nth_index p (x ∷ xs) n = index_if (p x) n (λ k. nth_index p xs k)

  -- x in front of the first list
  abbrev pub onto : A → List (List A) → List (List A)
  onto x [] = (x ∷ []) ∷ []
  onto x (xs ∷ xss) = (x ∷ xs) ∷ xss

  abbrev pub cut_if : Bool → A → List (List A) → List (List A)
  cut_if true x xss = [] ∷ xss
  cut_if false x xss = onto x xss

  -- what stands between the elements that pass, before the first and behind the last: one piece more than such elements
  abbrev pub cut : (A → Bool) → List A → List (List A)
  cut p [] = [] ∷ []
  cut p (x ∷ xs) = cut_if (p x) x (cut p xs)

  abbrev pub joined : List (List A) → List A
  joined [] = []
  joined (xs ∷ xss) = xs ++ joined xss

  -- a piece for each element, one behind the other; the first element has number n
  abbrev pub pieces : {B : Type 0} → (ℕ → A → List B) → ℕ → List A → List B
  pieces f n [] = []
  pieces f n (x ∷ xs) = f n x ++ pieces f (suc n) xs

-- what is answered if a test passes
pub record Check (A : Type 0) : Type 0 where
  pub passes : Bool
  pub answer : A

module _ {A : Type 0} where
  abbrev pub check : Bool → A → Check A
  check b a = record { passes = b; answer = a }

  abbrev pub or_next : Bool → A → Option A → Option A
  or_next true a o = some a
  or_next false a o = o

  -- the answer of the first test that passes, in the order written
  abbrev pub first_of : List (Check A) → Option A
  first_of [] = none
  first_of (c ∷ cs) = or_next c.passes c.answer (first_of cs)

-- two whole numbers are the same
abbrev pub eqz : ℤ → ℤ → Bool
eqz (pos m) (pos n) = eqb m n
eqz (pos m) (negsuc n) = false
eqz (negsuc m) (pos n) = false
eqz (negsuc m) (negsuc n) = eqb m n

abbrev pub is_zero : ℤ → Bool
is_zero l = eqz l (pos 0)

-- two lists of numbers are the same
abbrev pub eqs : List ℕ → List ℕ → Bool
eqs [] [] = true
eqs [] (y ∷ ys) = false
eqs (x ∷ xs) [] = false
eqs (x ∷ xs) (y ∷ ys) = eqb x y && eqs xs ys

-- f i, f (i + 1) and so on, n of them
abbrev pub tabled : (ℕ → ℕ) → ℕ → ℕ → List ℕ
tabled f i zero = []
tabled f i (suc n) = f i ∷ tabled f (suc i) n
