-- The laws of specs/Hint: the loop of `put_hints`, and the hints of a model, or of nothing, by those of the rules.
--
--   Hinting, hinting_start, hinting_step     the loop of `put_hints`
--   hints_of_total    where every variable is set these are the hints of the rules
--   hints_of_blank    where none is set each is 0
--
-- Assumes nothing.
use mathlib.Core.Path.{◌≡◌, refl, sym, ◌∙◌, ap}
use mathlib.Core.Logic.{◌≢◌, ◌⊎◌, inl, inr}
use mathlib.Core.List.{List}
use Prim.Native.Nat.{ℕ, zero, suc, pred, ◌+◌, ◌<◌}
use native.Mathlib.Omega.{arith}
use native.Mathlib.Numerals.{add-one}
use lib.ListN.{length, get_or, set, replicate}
use Rattle.rules.specs.Lists.{tabled}
use Rattle.rules.specs.Meaning.{Clause, Values, value_at, Total}
use Rattle.rules.specs.Hints.{hint_at}
use Rattle.rules.proofs.ListLaws.{get_d_default, length-tabled, get_d_tabled, tabled_cong}
use Rattle.buffers.proofs.FillLaws.{Filled, filled_start, filled_step}
use Rattle.steps.specs.Hint.{hint_if, hint_in, Hinted}

-- ---- one hint

hint_if-set : (b h : ℕ) → b ≢ 0 → hint_if b h ≡ h
hint_if-set zero h n = absurd (n refl)
hint_if-set (suc b) h n = refl

-- ---- the loop: what is put stands in front of i, and the values are as they were

pub record Hinting (F : List Clause) (vs₀ : Values) (i : ℕ) (vs : Values) (hints : List ℕ) : Type 0 where
  pub values_same : vs ≡ vs₀
  pub filled : Filled (tabled (hint_in F vs₀) 0 (length vs₀)) i hints

pub hinting_start : (F : List Clause) (vs : Values) (hints : List ℕ) → length hints ≡ length vs → Hinting F vs 0 vs hints
hinting_start F vs hints e =
    record { values_same = refl; filled = filled_start _ hints (e ∙ sym (length-tabled (hint_in F vs) 0 (length vs))) }

pub hinting_step : {F : List Clause} {vs₀ vs vs' : Values} {i r : ℕ} {hints : List ℕ} → Hinting F vs₀ i vs hints → i < length hints
    → Hinted F (i + 1) vs r vs' → Hinting F vs₀ (i + 1) vs' (set hints i r)
hinting_step {F} {vs₀} {vs} {vs'} {i} {r} w h x =
    record { values_same = x.values_same ∙ w.values_same; filled = filled_step 0 r w.filled h (sym hint) }
  where
    within : i < length vs₀
    within = omega (arith, h, w.filled.len, length-tabled (hint_in F vs₀) 0 (length vs₀))

    hint : r ≡ get_or (tabled (hint_in F vs₀) 0 (length vs₀)) i 0
    hint =
        x.result_is ∙ ap (hint_in F vs) (ap pred (add-one i)) ∙ ap (λ (ws : Values). hint_in F ws i) w.values_same ∙
        sym (get_d_tabled (hint_in F vs₀) 0 (length vs₀) i within ∙ ap (hint_in F vs₀) (omega arith))

-- ---- by the rules

pub hints_of_total : (F : List Clause) (m : Values) → Total m → tabled (hint_in F m) 0 (length m) ≡ tabled (hint_at F m) 0 (length m)
hints_of_total F m t =
    tabled_cong (hint_in F m) (hint_at F m) 0 (length m)
    (λ j a b. hint_if-set (get_or m j 0) (hint_at F m j) (λ z. unset j (omega arith) z (t.valued j)))
  where
    unset : (j : ℕ) → j < length m → get_or m j 0 ≡ 0 → (value_at m j ≡ 1) ⊎ (value_at m j ≡ 2) → ⊥
    unset j h z (inl e) = omega (arith, get_d_default m j 0 1 h)
    unset j h z (inr e) = omega (arith, get_d_default m j 0 1 h)

get_d_zeros : (n j : ℕ) → ◌≡◌ {A = ℕ} (get_or (replicate n 0) j 0) 0
get_d_zeros zero j = refl
get_d_zeros (suc n) zero = refl
get_d_zeros (suc n) (suc j) = get_d_zeros n j

tabled_zeros : (f : ℕ → ℕ) (i n : ℕ) → ((j : ℕ) → f j ≡ 0) → tabled f i n ≡ replicate n 0
tabled_zeros f i zero h = refl
tabled_zeros f i (suc n) h = rw (h i, tabled_zeros f (suc i) n h)

pub hints_of_blank : (F : List Clause) (n : ℕ) → tabled (hint_in F (replicate n 0)) 0 n ≡ replicate n 0
hints_of_blank F n =
    tabled_zeros (hint_in F (replicate n 0)) 0 n (λ j. ap (λ (b : ℕ). hint_if b (hint_at F (replicate n 0) j)) (get_d_zeros n j))
