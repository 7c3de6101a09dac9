-- The search for the lowest unset variable as an invariant.
--
--   Passed, passed_step, passed_unset, passed_done     no variable below i is unset
--   passed_from                   from an index below which all are set
--
-- Assumes nothing.
use mathlib.Core.Path.{◌≡◌, refl, sym, ◌∙◌, ap}
use mathlib.Core.Logic.{◌≢◌}
use mathlib.Core.List.{◌∷◌}
use mathlib.Core.Option.{Option, none, some}
use Prim.Native.Nat.{ℕ, zero, suc, ◌+◌, ◌<◌, ◌≤◌}
use native.Mathlib.Omega.{arith}
use native.Mathlib.Numerals.{add-one}
use native.Mathlib.Nat.{zero-add, add-zero}
use lib.ListN.{get_or, length, drop, drop_of_length-le}
use lib.Seq.{drop-cons}
use Rattle.rules.specs.Meaning.{Values, value_at}
use Rattle.rules.specs.Search.{next, lowest_unset}
use Rattle.rules.proofs.ListLaws.{get_d_default}
use Rattle.search.specs.Boards.{SetBelow}

-- ---- the lowest unset variable

-- an index in what is left, counted from the start
abbrev shifted : ℕ → Option ℕ → Option ℕ
shifted i none = none
shifted i (some j) = some (i + j)

shifted_next : (i : ℕ) (o : Option ℕ) → shifted i (next o) ≡ shifted (suc i) o
shifted_next i none = refl
shifted_next i (some j) = ap (λ (k : ℕ). some k) (omega arith)

-- the lowest unset variable is the lowest one of those from i on
pub record Passed (vs : Values) (i : ℕ) : Type 0 where
  pub within : i ≤ length vs
  pub lowest : shifted i (lowest_unset (drop i vs)) ≡ lowest_unset vs

passed_start : (vs : Values) → Passed vs 0
passed_start vs = record { within = omega arith; lowest = go (lowest_unset vs) }
  where
    go : (o : Option ℕ) → shifted 0 o ≡ o
    go none = refl
    go (some j) = ap (λ (k : ℕ). some k) (zero-add j)

module _ (vs : Values) (i : ℕ) (h : i < length vs) (p : Passed vs i) where
  pub passed_unset : get_or vs i 0 ≡ 0 → lowest_unset vs ≡ some i
  passed_unset e =
      let z : drop i vs ≡ 0 ∷ drop (suc i) vs = drop-cons vs i 0 h ∙ ap (λ (b : ℕ). b ∷ drop (suc i) vs) e in
      sym (rw z at p.lowest) ∙ ap (λ (k : ℕ). some k) (add-zero i)

  pub passed_step : get_or vs i 0 ≢ 0 → Passed vs (i + 1)
  passed_step n =
      record { within = omega arith; lowest = rw (add-one i) (go (get_or vs i 0) n (drop-cons vs i 0 h) ∙ p.lowest) }
    where
      go : (b : ℕ) → b ≢ 0 → drop i vs ≡ b ∷ drop (suc i) vs → shifted (suc i) (lowest_unset (drop (suc i) vs)) ≡ shifted i (lowest_unset (drop i vs))
      go zero n e = absurd (n refl)
      go (suc b) n e = rw e (sym (shifted_next i (lowest_unset (drop (suc i) vs))))

pub passed_done : (vs : Values) (i : ℕ) → length vs ≤ i → Passed vs i → lowest_unset vs ≡ none
passed_done vs i h p = sym (rw (drop_of_length-le vs h) at p.lowest)

-- ---- from an index below which all are set

pub passed_from : {from : ℕ} {vs : Values} → SetBelow from vs → Passed vs from
passed_from {from} {vs} b = go from b.within b.set
  where
    go : (n : ℕ) → n ≤ length vs → ((i : ℕ) → i < n → value_at vs i ≢ 0) → Passed vs n
    go zero h s = passed_start vs
    go (suc n) h s =
        let e : n + 1 ≡ suc n = omega arith in
        rw e at
        (passed_step vs n (omega arith) (go n (omega arith) (λ i l. s i (omega arith)))
        (λ z. s n (omega arith) (sym (get_d_default vs n 0 1 (omega arith)) ∙ z)))
