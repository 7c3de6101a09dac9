-- A trail as a way: from which values, and from which length on, its literals lead to those that are shown; each was unset when its
-- turn came. Assumes nothing.
use Rattle.std.specs.Prelude.{◌≡◌, true, List, ℕ, suc, ◌≤◌, ◌<◌, length}
use Rattle.rules.specs.Meaning.{Clause, Values, LitUpTo, assign, is_unset}
use Rattle.board.specs.Boards.{Shows, trail_len, lit_at}

-- from `base` at the length `to` the first `len` literals of the buffer lead to the values vs
pub data Way (base : Values) (trail : List ℕ) (to : ℕ) : ℕ → Values → Type 0 where
  start : {len : ℕ} {vs : Values} → len ≡ to → vs ≡ base → Way base trail to len vs
  more : {len : ℕ} {vs : Values} (k : ℕ) (us : Values) → len ≡ suc k → suc k < length trail → LitUpTo (length us) (lit_at trail (suc k))
      → is_unset us (lit_at trail (suc k)) ≡ true → vs ≡ assign us (lit_at trail (suc k)) → Way base trail to k us → Way base trail to len vs

-- all of them
abbrev pub Trail : Values → List ℕ → ℕ → Values → Type 0
Trail base trail to vs = Way base trail to (trail_len trail) vs

-- wherever the trail came from, it still does
pub record Leads (before : List ℕ) (from : Values) (trail : List ℕ) (vs : Values) : Type 0 where
  pub leads : (base : Values) (to : ℕ) → Trail base before to from → Trail base trail to vs

-- ---- taking back

pub record UndoAsked (lists holders marks : List ℕ) (vs : Values) (keys hot trail : List ℕ) (to : ℕ) : Type 0 where
  pub F : List Clause
  pub shows : Shows F lists holders marks vs keys hot trail
  pub base : Values
  pub trail_is : Trail base trail to vs

-- whatever the trail led from at the length `to` is there again, and what was before that stays
pub record Undone (lists holders marks : List ℕ) (vs : Values) (keys hot trail : List ℕ) (to : ℕ) (vs2 : Values) (keys2 hot2 trail2 : List ℕ) : Type 0 where
  pub again : (base : Values) → Trail base trail to vs → vs2 ≡ base
  pub leads : (base : Values) (m : ℕ) → m ≤ to → Trail base trail m vs → Trail base trail2 m vs2
  pub shows : (F : List Clause) → Shows F lists holders marks vs keys hot trail → Shows F lists holders marks vs2 keys2 hot2 trail2
