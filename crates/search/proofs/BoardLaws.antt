-- A call over the board: what is taken back leads to the values at its start, and the choice goes on from the variable tried above.
--
--   base_of                       a trail leads from where it began
--   back_values, back_leads       taking back
--   taken_model, taken_undone     its two ways
--   set_below_mono, set_below_lowest, set_below_set     all variables below are set
--   literal_up_to, literal_unset, assign_literal     the literal of a variable and its value
--
-- Assumes nothing.
use mathlib.Core.Path.{◌≡◌, refl, sym, ◌∙◌, ap}
use mathlib.Core.Logic.{◌≢◌, ◌⊎◌, inl, inr}
use mathlib.Core.Bool.{Bool, true, false}
use mathlib.Core.List.{List}
use mathlib.Core.Option.{some}
use Prim.Native.Nat.{ℕ, zero, suc, pred, ◌≤◌, ◌<◌}
use native.Mathlib.Omega.{arith}
use lib.Dec.{eqb}
use lib.ListN.{set, length, length-set}
use lib.Seq.{get_or-set_same}
use borrow.Author.Tests.{eqb-true, eqb-false, eq-eqb}
use Rattle.rules.specs.declared.Outcome.{Outcome}
use Rattle.rules.specs.declared.Outcome.TheVariants.{Model, NoModel, Stopped}
use Rattle.rules.specs.Meaning.{Values, LitUpTo, value_at, assign, is_unset}
use Rattle.rules.specs.Models.{Extends}
use Rattle.rules.specs.Run.{literal_at}
use Rattle.rules.specs.Search.{lowest_unset}
use Rattle.rules.proofs.MeaningLaws.{set_cases}
use Rattle.rules.proofs.CallLaws.{Lowest, lowest_unset_sound}
use Rattle.formula.specs.Literals.{byte_of}
use Rattle.board.specs.Boards.{trail_len}
use Rattle.board.specs.Trails.{Trail, Leads, Undone}
use Rattle.board.specs.Trails.Way.{start}
use Rattle.board.proofs.TrailLaws.{way_le}
use Rattle.search.specs.Choices.{VarUpTo}
use Rattle.search.specs.Calls.{unless_model}
use Rattle.search.specs.Boards.{SetBelow, TakenBack}

-- ---- taking back

pub base_of : {trail trail2 : List ℕ} {vs vs2 : Values} → Leads trail vs trail2 vs2 → Trail vs trail2 (trail_len trail) vs2
base_of {trail} {trail2} {vs} l = l.leads vs (trail_len trail) (start refl refl)

module _ {trail trail1 : List ℕ} {vs vs1 : Values} (l : Leads trail vs trail1 vs1) {lists holders marks keys1 hot1 : List ℕ} {o : Outcome}
    {vs2 : Values} {keys2 hot2 trail2 : List ℕ} (d : TakenBack lists holders marks vs1 keys1 hot1 trail1 (trail_len trail) o vs2 keys2 hot2 trail2) where
  pub back_values : vs2 ≡ unless_model o vs1 vs
  back_values = d.values_are vs (base_of l)

  pub back_leads : Leads trail vs trail2 vs2
  back_leads = record { leads = λ base m t. d.leads base m (way_le t) (l.leads base m t) }

-- a model stays
pub taken_model : {lists holders marks : List ℕ} {vs : Values} {keys hot trail : List ℕ} {to : ℕ} {o : Outcome} → o ≡ Model
    → TakenBack lists holders marks vs keys hot trail to o vs keys hot trail
taken_model e = record { values_are = λ base t. rw e; leads = λ base m h t. t; shows = λ F w. w }

pub taken_undone : {lists holders marks : List ℕ} {vs : Values} {keys hot trail : List ℕ} {to : ℕ} {vs2 : Values} {keys2 hot2 trail2 : List ℕ}
    {o : Outcome} → o ≢ Model
    → Undone lists holders marks vs keys hot trail to vs2 keys2 hot2 trail2 → TakenBack lists holders marks vs keys hot trail to o vs2 keys2 hot2 trail2
taken_undone {vs = vs} {o = o} h d = record { values_are = λ base t. d.again base t ∙ go o h base; leads = d.leads; shows = d.shows }
  where
    go : (o : Outcome) → o ≢ Model → (base : Values) → base ≡ unless_model o vs base
    go Model h base = absurd (h refl)
    go NoModel h base = refl
    go Stopped h base = refl

-- ---- all variables below are set

pub set_below_lowest : {vs : Values} {i : ℕ} → lowest_unset vs ≡ some i → i < length vs → SetBelow i vs
unfolding Lowest
set_below_lowest {vs} {i} e h =
    let l : Lowest vs (some i) = rw e at (lowest_unset_sound vs) in
    record { within = omega arith; set = λ j g z. l.1 j g z }

pub set_below_mono : {from : ℕ} {vs ws : Values} → SetBelow from vs → Extends vs ws → length ws ≡ length vs → SetBelow from ws
set_below_mono {from} {vs} {ws} b x e =
    record { within = omega (arith, b.within); set = λ i h z. b.set i h (sym (x.agrees i (b.set i h)) ∙ z) }

-- ---- the literal of a variable and its value

pred_lt : (v : ℕ) → 1 ≤ v → pred v < v
pred_lt zero h = absurd (omega arith)
pred_lt (suc v) h = omega arith

value_at_in : (vs : Values) (i b : ℕ) → i < length vs → value_at (set vs i b) i ≡ b
value_at_in vs i b h = get_or-set_same vs i b 1 h

module _ (x : Bool) where
  pub assign_literal : (vs : Values) (i : ℕ) → assign vs (literal_at i (byte_of x)) ≡ set vs i (byte_of x)
  assign_literal vs i = go x
    where
      go : (x : Bool) → assign vs (literal_at i (byte_of x)) ≡ set vs i (byte_of x)
      go true = refl
      go false = refl

  pub literal_up_to : {n v : ℕ} → VarUpTo n v → LitUpTo n (literal_at (pred v) (byte_of x))
  literal_up_to {n} {v} u = go v x u.some u.most
    where
      go : (v : ℕ) (x : Bool) → 1 ≤ v → v ≤ n → LitUpTo n (literal_at (pred v) (byte_of x))
      go zero x h g = absurd (omega arith)
      go (suc v) true h g = record { some = omega arith; most = g }
      go (suc v) false h g = record { some = omega arith; most = g }

  pub literal_unset : (vs : Values) (i : ℕ) → value_at vs i ≡ 0 → is_unset vs (literal_at i (byte_of x)) ≡ true
  literal_unset vs i z = go x
    where
      go : (x : Bool) → is_unset vs (literal_at i (byte_of x)) ≡ true
      go true = eq-eqb (value_at vs i) 0 z
      go false = eq-eqb (value_at vs i) 0 z

  byte_set : byte_of x ≢ 0
  byte_set = go x
    where
      go : (x : Bool) → byte_of x ≢ 0
      go true = omega arith
      go false = omega arith

  -- the variable that is tried is set too
  pub set_below_set : {vs : Values} {v : ℕ} → VarUpTo (length vs) v → SetBelow (pred v) vs → {ws : Values} → ws ≡ set vs (pred v) (byte_of x) → SetBelow v ws
  set_below_set {vs} {v} u b {ws} e =
      rw e (record {
        within = omega (arith, length-set vs (pred v) (byte_of x), u.most);
        set = λ i h. go i h (set_cases vs (pred v) (byte_of x) i) (eqb i (pred v)) refl;
      })
    where
      below : (i v : ℕ) → i < v → i ≢ pred v → i < pred v
      below i zero h n = absurd (omega arith)
      below i (suc v) h n = omega arith

      go : (i : ℕ) → i < v → ((i ≡ pred v) × (value_at (set vs (pred v) (byte_of x)) i ≡ byte_of x)) ⊎
          (value_at (set vs (pred v) (byte_of x)) i ≡ value_at vs i)
          → (t : Bool) → eqb i (pred v) ≡ t → value_at (set vs (pred v) (byte_of x)) i ≢ 0
      go i h (inl q) t e z = byte_set (sym q.1 ∙ z)
      go i h (inr q) true e z =
          byte_set (sym (value_at_in vs (pred v) (byte_of x) (omega (arith, b.within, u.some, u.most, pred_lt v u.some))) ∙
          ap (value_at (set vs (pred v) (byte_of x))) (sym (eqb-true i (pred v) e)) ∙ z)
      go i h (inr q) false e z = b.set i (below i v h (eqb-false i (pred v) e)) (sym q ∙ z)
