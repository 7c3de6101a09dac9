-- The laws of the loop over the sizes (src/sizes.rt).
--
--   sizing_start, sizing_size, sizing_step, sizing_refused, sizing_done     so many sizes are stored, and what is left is behind them
--
-- Assumes nothing.
use mathlib.Core.Path.{◌≡◌, refl, sym, ◌∙◌, ap, ap₂, subst}
use mathlib.Core.Logic.{◌⊎◌, inl, inr}
use mathlib.Core.List.Memᴰ
use mathlib.Core.List.{List, [], ◌∷◌, ◌++◌}
use Prim.Native.Nat.{ℕ, suc, ◌+◌, ◌-◌, ◌≤◌, ◌<◌}
use native.Mathlib.Omega.{arith}
use native.Mathlib.Numerals.{add-one}
use lib.IntN.{pos}
use lib.ListN.{length, set, take, length-set}
use lib.Seq.{take-suc-set, drop-set-lt}
use Rattle.std.specs.Prelude.{Ok, Err}
use Rattle.rules.specs.declared.GroupsAnswer.{GroupsAnswer}
use Rattle.rules.specs.Lists.{In}
use Rattle.rules.specs.Numbers.{max_vars}
use Rattle.texts.specs.Groups.{max_groups, max_size, vars_in}
use Rattle.texts.specs.GroupsReading.{Part, sizes_due, refused}
use Rattle.texts.specs.GroupsRefusals.{between, Fits, size}
use Rattle.rules.proofs.ListLaws.{sum_of_append}
use Rattle.groups.specs.declared.step.Due.{Due}
use Rattle.groups.specs.Steps.{left_at, Taken, Counted, CountsAt, Sizing}
use Rattle.groups.proofs.StepLaws.{counts_says}

pub sizing_start : (text : List ℕ) (at groups : ℕ) (before : List ℕ) → at ≤ length text → Sizing text at groups before 0 at 0 before
sizing_start text at groups before h =
    record {
      many = omega arith;
      len = refl;
      rest_is = refl;
      judged = λ n e. let same : groups ≡ n = omega arith in ap (λ (k : ℕ). left_at text (sizes_due k []) at) same;
      vars_are = refl;
      vars_fit = omega arith;
      small = λ n i. absurd (Memᴰ.not-nil i);
      within = h;
    }

-- a size that fits: from 2 to 16, and no more than 256 variables
size_fits : {m : ℕ} {ss : List ℕ} {n : ℕ} → Fits (sizes_due (suc m) ss) (pos n) → (n ≤ max_size) × (vars_in ss + n ≤ max_vars)
size_fits (size (between a b) h) = (b, h)

module _ {text : List ℕ} {at groups : ℕ} {before : List ℕ} {i to vars : ℕ} {now : List ℕ} (w : Sizing text at groups before i to vars now)
    {r : Counted} (s : CountsAt text to (Due.Size vars) r) (h : i < groups) where
  left : ℕ
  left = groups - (i + 1)

  abbrev due : Part
  due = sizes_due (suc (groups - (i + 1))) (take i now)

  here : left_at text (sizes_due groups []) at ≡ left_at text due to
  here = w.judged (suc (groups - (i + 1))) (omega arith)

  pub sizing_refused : (a : GroupsAnswer) → r ≡ Err a → left_at text (sizes_due groups []) at ≡ refused a
  sizing_refused a e = here ∙ counts_says (Err a) s e due (ap (λ (v : ℕ). Due.Size v) (sym w.vars_are))

  module _ (next n : ℕ) (e : r ≡ Ok (next, n)) where
    taken : Taken text due to next (pos n)
    taken = counts_says (Ok (next, n)) s e due (ap (λ (v : ℕ). Due.Size v) (sym w.vars_are))

    pub sizing_size : (n ≤ max_size) × (vars + n ≤ max_vars)
    sizing_size = let (a, b) = size_fits taken.fits in (a, omega (arith, b, w.vars_are))

    pub sizing_step : i < length now → groups ≤ max_groups → Sizing text at groups before (i + 1) next (vars + n) (set now i n)
    sizing_step room few =
        let (a, b) = sizing_size in
        let front : take (i + 1) (set now i n) ≡ take i now ++ n ∷ [] = rw (add-one i) (take-suc-set now i n room) in
        record {
          many = omega arith;
          len = length-set now i n ∙ w.len;
          rest_is = drop-set-lt max_groups now i n (omega arith) ∙ w.rest_is;
          judged =
              λ m q.
              let same : groups - (i + 1) ≡ m = omega (arith, q) in
              here ∙ taken.judged ∙ ap₂ (λ (k : ℕ) (ss : List ℕ). left_at text (sizes_due k ss) next) same (sym front);
          vars_are = omega (arith, w.vars_are, ap vars_in front ∙ sum_of_append (λ (k : ℕ). k) (take i now) (n ∷ []));
          vars_fit = b;
          small = λ k j. each k (Memᴰ.append_cases (take i now) (subst (In k) front j));
          within = taken.within;
        }
      where
        each : (k : ℕ) → In k (take i now) ⊎ In k (n ∷ []) → k ≤ max_size
        each k (inl j) = w.small k j
        each k (inr (Memᴰ.head q)) = let (a, b) = sizing_size in omega (arith, a, q)
        each k (inr (Memᴰ.tail j)) = absurd (Memᴰ.not-nil j)

pub sizing_done : {text : List ℕ} {at groups : ℕ} {before : List ℕ} {i to vars : ℕ} {now : List ℕ} → Sizing text at groups before i to vars now
    → groups ≤ i → Sizing text at groups before groups to vars now
sizing_done {text} {at} {groups} {before} {i} {to} {vars} {now} w h =
    let same : i ≡ groups = omega (arith, w.many) in
    subst (λ (k : ℕ). Sizing text at groups before k to vars now) same w
