-- The laws of specs/Units: the clauses of `units` are those of one literal each that the values make true, and no others.
--
--   LitOf                         a literal, by the index of its variable and the byte that makes it true
--   unit_at_sound, unit_at_complete, unit_at_rest     the clause for one variable, in front of others
--   UnitOf, units_sound, units_complete     a clause of `units` is a literal that is true; and each variable that is set has one
--   units_true                    the same from index 0: the literal of a clause of `units` is true
--
-- Assumes nothing.
use mathlib.Core.Path.{◌≡◌, refl, sym, ◌∙◌, ap}
use mathlib.Core.Logic.{◌≢◌, ◌⊎◌, inl, inr}
use mathlib.Core.Bool.{true}
use mathlib.Core.List.Memᴰ
use mathlib.Core.List.{List, [], ◌∷◌}
use Prim.Native.Nat.{ℕ, zero, suc, ◌+◌, ◌≤◌, ◌<◌}
use native.Mathlib.Omega.{arith}
use lib.IntN.{ℤ, pos, negsuc}
use lib.ListN.{length}
use borrow.Author.Tests.{eq-eqb}
use Rattle.rules.specs.Lists.{In}
use Rattle.rules.specs.Meaning.{Clause, Values, index_of, value_at, true_byte, is_true, Proper}
use Rattle.rules.specs.Units.{unit_at, units}

pub record LitOf (i b : ℕ) (l : ℤ) : Type 0 where
  pub index : index_of l ≡ i
  pub byte : true_byte l ≡ b

-- ---- the clause for one variable

pub unit_at_sound : (b j : ℕ) (cls : List Clause) (cl : Clause) → b ≤ 2 → In cl (unit_at b j cls)
    → ((l : ℤ) × (cl ≡ l ∷ []) × LitOf j b l) ⊎ In cl cls
unit_at_sound zero j cls cl p h = inr h
unit_at_sound (suc zero) j cls cl p (Memᴰ.head e) = inl (negsuc j, e, record { index = refl; byte = refl })
unit_at_sound (suc zero) j cls cl p (Memᴰ.tail h) = inr h
unit_at_sound (suc (suc zero)) j cls cl p (Memᴰ.head e) = inl (pos (suc j), e, record { index = refl; byte = refl })
unit_at_sound (suc (suc zero)) j cls cl p (Memᴰ.tail h) = inr h
unit_at_sound (suc (suc (suc b))) j cls cl p h = absurd (omega arith)

pub unit_at_complete : (b j : ℕ) (cls : List Clause) → b ≢ 0 → b ≤ 2 → (l : ℤ) × In (l ∷ []) (unit_at b j cls) × LitOf j b l
unit_at_complete zero j cls n p = absurd (n refl)
unit_at_complete (suc zero) j cls n p = (negsuc j, Memᴰ.head refl, record { index = refl; byte = refl })
unit_at_complete (suc (suc zero)) j cls n p = (pos (suc j), Memᴰ.head refl, record { index = refl; byte = refl })
unit_at_complete (suc (suc (suc b))) j cls n p = absurd (omega arith)

pub unit_at_rest : (b j : ℕ) {cls : List Clause} {cl : Clause} → In cl cls → In cl (unit_at b j cls)
unit_at_rest zero j h = h
unit_at_rest (suc zero) j h = Memᴰ.tail h
unit_at_rest (suc (suc b)) j h = Memᴰ.tail h

-- ---- one clause for each variable that is set

proper_tail : {b : ℕ} {f : Values} → Proper (b ∷ f) → Proper f
proper_tail p = record { small = λ i. p.small (suc i) }

-- cl has one literal, which f makes true; the first variable of f stands at index j
pub record UnitOf (j : ℕ) (f : Values) (cl : Clause) : Type 0 where
  pub lit : ℤ
  pub offset : ℕ
  pub alone : cl ≡ lit ∷ []
  pub is : LitOf (j + offset) (value_at f offset) lit

pub units_sound : (j : ℕ) (f : Values) (cl : Clause) → Proper f → In cl (units j f) → UnitOf j f cl
units_sound j [] cl p h = absurd (Memᴰ.not-nil h)
units_sound j (b ∷ f) cl p h = go (unit_at_sound b j (units (suc j) f) cl (p.small 0) h) (units_sound (suc j) f cl (proper_tail p))
  where
    there : (l : ℤ) (i : ℕ) → cl ≡ l ∷ [] → index_of l ≡ j + i → true_byte l ≡ value_at (b ∷ f) i → UnitOf j (b ∷ f) cl
    there l i e x t = record { lit = l; offset = i; alone = e; is = record { index = x; byte = t } }

    go : ((l : ℤ) × (cl ≡ l ∷ []) × LitOf j b l) ⊎ In cl (units (suc j) f) → (In cl (units (suc j) f) → UnitOf (suc j) f cl)
        → UnitOf j (b ∷ f) cl
    go (inl (l, e, t)) ih = there l 0 e (omega (arith, t.index)) t.byte
    go (inr h) ih = let u = ih h in there u.lit (suc u.offset) u.alone (omega (arith, u.is.index)) u.is.byte

pub units_complete : (j : ℕ) (f : Values) (i : ℕ) → Proper f → i < length f → value_at f i ≢ 0
    → (l : ℤ) × In (l ∷ []) (units j f) × LitOf (j + i) (value_at f i) l
units_complete j [] i p h n = absurd (omega arith)
units_complete j (b ∷ f) zero p h n =
    let (l, i, t) = unit_at_complete b j (units (suc j) f) n (p.small 0) in
    (l, i, record { index = omega (arith, t.index); byte = t.byte })
units_complete j (b ∷ f) (suc k) p h n =
    let (l, i, t) = units_complete (suc j) f k (proper_tail p) (omega arith) n in
    (l, unit_at_rest b j i, record { index = omega (arith, t.index); byte = t.byte })

pub units_true : (f : Values) (cl : Clause) → Proper f → In cl (units 0 f) → (l : ℤ) × (cl ≡ l ∷ []) × (is_true f l ≡ true)
units_true f cl p h =
    let u = units_sound 0 f cl p h in
    let z : index_of u.lit ≡ u.offset = omega (arith, u.is.index) in
    (u.lit, u.alone, eq-eqb _ _ (ap (λ (k : ℕ). value_at f k) z ∙ sym u.is.byte))
