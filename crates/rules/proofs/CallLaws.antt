-- How a call goes on, docs/RULES.md, "Search": the page's own words, "close; on a clash ..; all set ..; otherwise try", as an
-- equation without a bound on the depth, and an induction for calls. Calls that agree at what is tried are equal: all that is said
-- of two calls goes by `on_closed_cong`.
--
--   Lowest, lowest_unset_sound     the choice is the lowest unset variable
--   Tried                         values that a call may try
--   Onward, onward                after closing a call ends at a clash, or with all set, or tries both values of a variable
--   on_closed_cong                 two ways of going on that agree at what is tried give the same call
--   call_on_rec                    an induction for calls: closing, and then calls from values with fewer unset variables
--   go_on_enough                   more depth than there are unset variables changes nothing
--   call_on_next                   a call closes, and tries by calls
--
-- Assumes nothing.
use mathlib.Core.Path.{◌≡◌, refl, sym, ◌∙◌, ap}
use mathlib.Core.Logic.{◌≢◌}
use mathlib.Core.Bool.{Bool, true, false}
use mathlib.Core.List.{List, [], ◌∷◌}
use mathlib.Core.Option.{Option, none, some}
use Prim.Native.Nat.{ℕ, zero, suc, ◌≤◌, ◌<◌}
use native.Mathlib.Omega.{arith}
use lib.Dec.{ltb}
use lib.ListN.{set, length, length-set}
use Rattle.rules.specs.Meaning.{Clause, Values, value_at, Proper}
use Rattle.rules.specs.Closing.{Closed, clash, closed, closing, unsets}
use Rattle.rules.specs.Models.{Extends}
use Rattle.rules.specs.Search.{Call, model, no_model, stopped, next, lowest_unset, if_left, try, or_else, choose, on_closed, go_on, call_on}
use Rattle.rules.proofs.MeaningLaws.{proper_set, extends_trans, extends_set, unsets-set}
use Rattle.rules.proofs.ClosingLaws.{Settled, Ends, closing_ends}

-- ---- the choice

unfoldable pub Lowest : Values → Option ℕ → Type 0
Lowest vs none = (i : ℕ) → value_at vs i ≢ 0
Lowest vs (some i) = (value_at vs i ≡ 0) × ((j : ℕ) → j < i → value_at vs j ≢ 0)

pub lowest_unset_sound : (vs : Values) → Lowest vs (lowest_unset vs)
unfolding Lowest
lowest_unset_sound [] = λ i. omega arith
lowest_unset_sound (zero ∷ vs) = (refl, λ j h. absurd (omega arith))
lowest_unset_sound (suc b ∷ vs) = go (lowest_unset vs) (lowest_unset_sound vs)
  where
    set_all : ((i : ℕ) → value_at vs i ≢ 0) → (i : ℕ) → value_at (suc b ∷ vs) i ≢ 0
    set_all h zero = omega arith
    set_all h (suc i) = h i

    set_below : (i : ℕ) → ((j : ℕ) → j < i → value_at vs j ≢ 0) → (j : ℕ) → j < suc i → value_at (suc b ∷ vs) j ≢ 0
    set_below i h zero l = omega arith
    set_below i h (suc j) l = h j (omega arith)

    go : (o : Option ℕ) → Lowest vs o → Lowest (suc b ∷ vs) (next o)
    go none h = set_all h
    go (some i) h = (h.0, set_below i h.1)

-- ---- after closing: a clash, or all set, or both values of the lowest unset variable are tried

-- a call from vs may close and then set a variable, which leads to ds
pub record Tried (vs ds : Values) : Type 0 where
  pub ext : Extends vs ds
  pub len : length ds ≡ length vs
  pub proper : Proper vs → Proper ds
  pub fewer : unsets ds < unsets vs

-- what a call from vs, with t tries, makes of a way of going on
pub data Onward (budget : ℕ) (F : List Clause) (vs : Values) (t : ℕ) : ((Values → ℕ → Call) → Call) → Type 0 where
  clashes : closing F vs ≡ clash → Onward budget F vs t (λ next_go. no_model t)
  all_set : (ws : Values) → closing F vs ≡ closed ws → Settled F vs ws → ((i : ℕ) → value_at ws i ≢ 0)
      → Onward budget F vs t (λ next_go. model ws t)
  tries : (ws : Values) (i : ℕ) → closing F vs ≡ closed ws → Settled F vs ws → value_at ws i ≡ 0 → ((j : ℕ) → j < i → value_at ws j ≢ 0)
      → ((b : ℕ) → b < 2 → Tried vs (set ws i (suc b)))
      → Onward budget F vs t (λ next_go. or_else (try budget next_go ws i 1 t) (λ u. try budget next_go ws i 2 u))

pub onward : (budget : ℕ) (F : List Clause) (vs : Values) (t : ℕ) → Onward budget F vs t (λ next_go. on_closed (closing F vs) budget next_go t)
unfolding Lowest
onward budget F vs t = go (closing F vs) refl (closing_ends F vs)
  where
    chosen : (ws : Values) → closing F vs ≡ closed ws → Settled F vs ws → (o : Option ℕ) → Lowest ws o
        → Onward budget F vs t (λ next_go. choose o budget next_go ws t)
    chosen ws e s none l = all_set ws e s l
    chosen ws e s (some i) l = tries ws i e s l.0 l.1 tried
      where
        tried : (b : ℕ) → b < 2 → Tried vs (set ws i (suc b))
        tried b h =
            record {
              ext = extends_trans s.ext (extends_set ws i (suc b) l.0);
              len = length-set ws i (suc b) ∙ s.len;
              proper = λ p. proper_set i (suc b) h (s.proper p);
              fewer = omega (arith, unsets-set ws i b l.0, s.fewer);
            }

    go : (r : Closed) → closing F vs ≡ r → Ends F vs r → Onward budget F vs t (λ next_go. on_closed r budget next_go t)
    go clash e s = clashes e
    go (closed ws) e s = chosen ws e s (lowest_unset ws) (lowest_unset_sound ws)

or_else_cong : (o : Call) (f g : ℕ → Call) → ((u : ℕ) → f u ≡ g u) → or_else o f ≡ or_else o g
or_else_cong (model m t) f g e = refl
or_else_cong (no_model t) f g e = e t
or_else_cong (stopped t) f g e = refl

pub on_closed_cong : (budget : ℕ) (F : List Clause) (vs : Values) (f g : Values → ℕ → Call)
    → ((ds : Values) (u : ℕ) → Tried vs ds → f ds u ≡ g ds u)
    → (t : ℕ) → on_closed (closing F vs) budget f t ≡ on_closed (closing F vs) budget g t
on_closed_cong budget F vs f g e t = go (onward budget F vs t)
  where
    paid : (ds : Values) (u : ℕ) → Tried vs ds → (b : Bool) → if_left b f ds u ≡ if_left b g ds u
    paid ds u d true = e ds (suc u) d
    paid ds u d false = refl

    go : {k : (Values → ℕ → Call) → Call} → Onward budget F vs t k → k f ≡ k g
    go (clashes c) = refl
    go (all_set ws c s h) = refl
    go (tries ws i c s z low tried) =
        ap (λ (o : Call). or_else o (λ u. try budget f ws i 2 u)) (each 0 (omega arith) t) ∙
        or_else_cong (try budget g ws i 1 t) _ _ (each 1 (omega arith))
      where
        each : (b : ℕ) → b < 2 → (u : ℕ) → try budget f ws i (suc b) u ≡ try budget g ws i (suc b) u
        each b h u = paid (set ws i (suc b)) u (tried b h) (ltb u budget)

-- ---- a call: closing, and then calls from values with fewer unset variables

module _ (budget : ℕ) (F : List Clause) (P : Values → (ℕ → Call) → Type 0)
    (step : (vs : Values) (next_go : Values → ℕ → Call) → ((ds : Values) → unsets ds < unsets vs → P ds (next_go ds))
    → P vs (on_closed (closing F vs) budget next_go))
  where
    go_on_rec : (n : ℕ) (vs : Values) → unsets vs ≤ n → P vs (go_on n budget F vs)
    unfolding go_on
    go_on_rec zero vs h = step vs (λ ws u. no_model u) (λ ds u. absurd (omega arith))
    go_on_rec (suc n) vs h = step vs (λ ws u. go_on n budget F ws u) (λ ds u. go_on_rec n ds (omega arith))

    pub call_on_rec : (vs : Values) → P vs (call_on budget F vs)
    unfolding call_on
    call_on_rec vs = go_on_rec (unsets vs) vs (omega arith)

module _ (budget : ℕ) (F : List Clause) where
  pub go_on_enough : (n : ℕ) (vs : Values) (t : ℕ) → unsets vs ≤ n → go_on n budget F vs t ≡ call_on budget F vs t
  unfolding go_on
  go_on_enough n vs t h = sym (call_on_rec budget F (λ ws f. (k : ℕ) → unsets ws ≤ k → (u : ℕ) → f u ≡ go_on k budget F ws u) step vs n h t)
    where
      step : (ws : Values) (next_go : Values → ℕ → Call)
          → ((ds : Values) → unsets ds < unsets ws → (k : ℕ) → unsets ds ≤ k → (u : ℕ) → next_go ds u ≡ go_on k budget F ds u)
          → (k : ℕ) → unsets ws ≤ k → (u : ℕ) → on_closed (closing F ws) budget next_go u ≡ go_on k budget F ws u
      step ws next_go ih zero h = on_closed_cong budget F ws next_go (λ ds u. no_model u) (λ ds u d. absurd (omega (arith, d.fewer)))
      step ws next_go ih (suc k) h =
          on_closed_cong budget F ws next_go (λ ds u. go_on k budget F ds u) (λ ds u d. ih ds d.fewer k (omega (arith, d.fewer)) u)

  pub call_on_next : (vs : Values) (t : ℕ) → call_on budget F vs t ≡ on_closed (closing F vs) budget (λ ws u. call_on budget F ws u) t
  unfolding go_on
  call_on_next vs t =
      sym (go_on_enough (suc (unsets vs)) vs t (omega arith)) ∙
      on_closed_cong budget F vs (λ ws u. go_on (unsets vs) budget F ws u) (λ ws u. call_on budget F ws u)
      (λ ds u d. go_on_enough (unsets vs) ds u (omega (arith, d.fewer))) t
