-- The laws of specs/Flip: a variable flipped and taken back.
--
--   taken_back        a byte stored and stored back
--   tested_at         at an index
--   none_may          that no clause was found is that the flip may be made
--   Flipping, flipping_step, flipping_done     the loop of `flip`
--   flips_open     what `flip_at` does at an open variable, and at another
--
-- Assumes nothing.
use mathlib.Core.Path.{◌≡◌, refl, sym, ◌∙◌, ap}
use mathlib.Core.Bool.{Bool, true, false, not}
use mathlib.Core.List.{List}
use Prim.Native.Nat.{ℕ, pred, ◌+◌, ◌≤◌, ◌<◌}
use native.Mathlib.Numerals.{add-one}
use lib.ListN.{length, get_or, set}
use lib.Seq.{set-set, set-get_or}
use Rattle.rules.specs.declared.ClauseNo.{ClauseNo}
use Rattle.std.specs.declared.option.Option.{Option}
use Rattle.std.specs.Prelude.{Some, None, is_some}
use Rattle.rules.specs.Meaning.{Clause, Values}
use Rattle.rules.specs.Run.{can_flip}
use Rattle.rules.specs.Hints.{flip_test, may_flip}
use Rattle.steps.specs.Filter.{DropsAt}
use Rattle.steps.specs.Flip.{FlipTested, FlipsAt, Flips}
use Rattle.steps.proofs.FilterLaws.{Filtering, filtering_step, filtering_done}
use Rattle.rules.proofs.ListLaws.{apart}
use Rattle.rules.proofs.HintLaws.{can_flip-may_flip}

-- ---- a flip

pub taken_back : (vs : Values) (i b : ℕ) → set (set vs i b) i (get_or vs i 0) ≡ vs
taken_back vs i b = set-set vs i b (get_or vs i 0) ∙ set-get_or vs i 0

-- ---- one index

pub tested_at : {F : List Clause} (i : ℕ) {m m' : Values} {f : Option ClauseNo} → FlipTested F (i + 1) m f m' → f ≡ flip_test F m i
tested_at {F} i {m} c = c.result_is ∙ ap (flip_test F m) (ap pred (add-one i))

pub none_may : (f : Option ClauseNo) (r : Bool) → is_some f ≡ not r → r ≡ may_flip f
none_may None true e = refl
none_may None false e = apart cc
none_may (Some n) true e = apart cc
none_may (Some n) false e = refl

pub flips_open : {F : List Clause} {i d : ℕ} {m m' : Values} {f : Option ClauseNo} {r : Bool} {ss ts : List ℕ} → FlipTested F (i + 1) m f m' → r ≡ may_flip f
    → DropsAt i r ss d ts → FlipsAt F i m ss d m' ts
flips_open {F} {i} {d} {m} {m'} {f} {r} c q w =
    let e : r ≡ can_flip F m i = q ∙ ap may_flip (tested_at i c) ∙ can_flip-may_flip F m i in
    record { drops = rw e at w; model_same = c.model_same }

-- ---- the loop: the model is as it was, and what is left is to free behind i

pub record Flipping (F : List Clause) (m₀ : Values) (before : List ℕ) (dropped i : ℕ) (m : Values) (now : List ℕ) : Type 0 where
  pub model_same : m ≡ m₀
  pub filtering : Filtering (can_flip F m₀) before dropped i now

pub flipping_step : {F : List Clause} {m₀ m m' : Values} {before now after : List ℕ} {dropped i r : ℕ} → Flipping F m₀ before dropped i m now
    → i < length now → FlipsAt F i m now r m' after → Flipping F m₀ before (dropped + r) (i + 1) m' after
flipping_step {F} {m₀} {m} {i = i} w h f =
    record {
      model_same = f.model_same ∙ w.model_same;
      filtering = filtering_step (can_flip F m i) w.filtering h (ap (λ (v : Values). can_flip F v i) (sym w.model_same)) f.drops;
    }

pub flipping_done : {F : List Clause} {m₀ m : Values} {before now : List ℕ} {dropped i : ℕ} → Flipping F m₀ before dropped i m now → length now ≤ i
    → Flips F m₀ before dropped m now
flipping_done w h = record { drops = filtering_done w.filtering h; model_same = w.model_same }
