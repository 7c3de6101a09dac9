-- The laws of specs/Search: what each end of a call says of the models, and what the meter of tries shows. How a call goes on
-- stands in CallLaws, whose names go on from here.
--
--   Says                          what an end of a call says
--   call_on_says                   a model found is the least; where none is found there is none
--   call_on_model, call_on_none     the same, where the end is known
--   Metered, call_on_tries         the meter goes up, and not over the budget
--   call_on_stopped                a call stops only where the budget is spent
--
-- Assumes nothing.
use mathlib.Core.Path.{◌≡◌, refl, sym, ◌∙◌}
use mathlib.Core.Logic.{◌≢◌, ◌⊎◌, inl, inr}
use mathlib.Core.Bool.{Bool, true, false}
use mathlib.Core.List.{List}
use Prim.Native.Nat.{ℕ, suc, ◌≤◌, ◌<◌}
use native.Mathlib.Omega.{arith}
use lib.Dec.{ltb}
use lib.ListN.{set, length, length-set}
use borrow.Author.Tests.{eqb-true, ltb-true, ltb-false}
use Rattle.rules.specs.declared.ClauseState.{ClauseState}
use Rattle.rules.specs.declared.ClauseState.TheVariants.{False, Unit, True, Undecided}
use Rattle.rules.specs.Meaning.{Clause, Values, index_of, value_at, has_true, satisfies, Total, Proper}
use Rattle.rules.specs.Closing.{state_of, Closed, closing, unsets}
use Rattle.rules.specs.Models.{Extends, NotAfter, same, before, LeastModel, NoModelFrom}
use Rattle.rules.specs.Visits.{Quiet}
use Rattle.rules.specs.Search.{Call, model, no_model, stopped, tries_of, if_left, try, or_else, on_closed, call_on}
use Rattle.rules.proofs.ListLaws.{apart, all_complete}
use Rattle.rules.proofs.MeaningLaws.{extends_trans, extends_set, set_extends, value_at-set_extends, total_of_set}
use Rattle.rules.proofs.ClosingLaws.{Means, means, Calm, calm_of_quiet, Keeps, closing_sound}
use Rattle.rules.proofs.CallLaws.{Onward, clashes, all_set, tries}
pub use Rattle.rules.proofs.CallLaws.{Lowest, lowest_unset_sound, Tried, onward, on_closed_cong, call_on_rec, go_on_enough, call_on_next}

-- ---- what the end of a call says

abbrev pub Says : List Clause → Values → Call → Type 0
Says F vs (model m t) = LeastModel F vs m
Says F vs (no_model t) = NoModelFrom F vs
Says F vs (stopped t) = Prim.Unit {0}

module _ (F : List Clause) where
  -- quiet values with no unset variable make every clause true
  all_true_of_quiet : (vs : Values) → Quiet vs F → ((i : ℕ) → value_at vs i ≢ 0) → satisfies vs F ≡ true
  all_true_of_quiet vs q h = all_complete (has_true vs) F (λ cl i. go cl (state_of vs cl) (calm_of_quiet cl q i) (means vs cl))
    where
      go : (cl : Clause) (s : ClauseState) → Calm s → Means vs cl s → has_true vs cl ≡ true
      go cl False c m = absurd c
      go cl (Unit l) c m = absurd c
      go cl True c m = m
      go cl Undecided c m = absurd (h (index_of m.one) (eqb-true _ _ m.one_unset))

  -- from ws to vs, if no model is lost on the way
  says_back : {vs ws : Values} → Extends vs ws → length ws ≡ length vs
      → ((m : Values) → satisfies m F ≡ true → Total m → Extends vs m → Extends ws m) → (o : Call) → Says F ws o → Says F vs o
  says_back x e k (model m t) s =
      record {
        ext = extends_trans x s.ext;
        len = s.len ∙ e;
        total = s.total;
        all_true = s.all_true;
        least = λ d y z h. s.least d (k d h z y) z h;
      }
  says_back x e k (no_model t) s = record { none_from = λ m y z h. s.none_from m (k m h z y) z h }
  says_back x e k (stopped t) s = tt

  -- one value of the lowest unset variable, and then the other
  or_else_says : (ws : Values) (i : ℕ) → value_at ws i ≡ 0 → ((j : ℕ) → j < i → value_at ws j ≢ 0) → (o : Call)
      → Says F (set ws i 1) o → (f : ℕ → Call) → ((u : ℕ) → Says F (set ws i 2) (f u)) → Says F ws (or_else o f)
  or_else_says ws i z low (stopped t) s f k = tt
  or_else_says ws i z low (no_model t) s f k =
      says_back (extends_set ws i 2 z) (length-set ws i 2) (λ m h y x. go m h y x (y.valued i)) (f t) (k t)
    where
      go : (m : Values) → satisfies m F ≡ true → Total m → Extends ws m → (value_at m i ≡ 1) ⊎ (value_at m i ≡ 2)
          → Extends (set ws i 2) m
      go m h y x (inl e) = absurd (s.none_from m (set_extends i 1 x e) y h)
      go m h y x (inr e) = set_extends i 2 x e
  or_else_says ws i z low (model m t) s f k =
      record {
        ext = ext;
        len = s.len ∙ length-set ws i 1;
        total = s.total;
        all_true = s.all_true;
        least = λ d x y h. go d x y h (y.valued i);
      }
    where
      ext : Extends ws m
      ext = extends_trans (extends_set ws i 1 z) s.ext

      go : (d : Values) → Extends ws d → Total d → satisfies d F ≡ true → (value_at d i ≡ 1) ⊎ (value_at d i ≡ 2) → NotAfter m d
      go d x y h (inl e) = s.least d (set_extends i 1 x e) y h
      go d x y h (inr e) =
          before i (λ j l. ext.agrees j (low j l) ∙ sym (x.agrees j (low j l)))
          (value_at-set_extends ws i 1 z (omega arith) m s.ext) e

pub call_on_says : (budget : ℕ) (F : List Clause) (vs : Values) (t : ℕ) → Proper vs → Says F vs (call_on budget F vs t)
call_on_says budget F vs t p = call_on_rec budget F (λ ws f. Proper ws → (u : ℕ) → Says F ws (f u)) step vs p t
  where
    step : (vs : Values) (next_go : Values → ℕ → Call)
        → ((ds : Values) → unsets ds < unsets vs → Proper ds → (u : ℕ) → Says F ds (next_go ds u))
        → Proper vs → (u : ℕ) → Says F vs (on_closed (closing F vs) budget next_go u)
    step vs next_go ih p u = go (onward budget F vs u)
      where
        paid : (ds : Values) (n : ℕ) → Tried vs ds → (b : Bool) → Says F ds (if_left b next_go ds n)
        paid ds n d true = ih ds d.fewer (d.proper p) (suc n)
        paid ds n d false = tt

        kept : {r : Closed} → closing F vs ≡ r → (m : Values) → satisfies m F ≡ true → Extends vs m → Keeps m r
        kept e m h x = rw e at (closing_sound m F h vs x)

        go : {k : (Values → ℕ → Call) → Call} → Onward budget F vs u k → Says F vs (k next_go)
        go (clashes e) = record { none_from = λ m x y h. kept e m h x }
        go (all_set ws e s h) =
            record {
              ext = s.ext;
              len = s.len;
              total = total_of_set (s.proper p) h;
              all_true = all_true_of_quiet F ws s.quiet h;
              least = λ d x y z. same (λ i. sym ((kept e d z x).agrees i (h i)));
            }
        go (tries ws i e s z low tried) =
            says_back F s.ext s.len (λ m h y x. kept e m h x) (or_else (try budget next_go ws i 1 u) (λ n. try budget next_go ws i 2 n))
            (or_else_says F ws i z low (try budget next_go ws i 1 u) (each 0 (omega arith) u) (λ n. try budget next_go ws i 2 n) (each 1 (omega arith)))
          where
            each : (b : ℕ) → b < 2 → (n : ℕ) → Says F (set ws i (suc b)) (try budget next_go ws i (suc b) n)
            each b h n = paid (set ws i (suc b)) n (tried b h) (ltb n budget)

pub call_on_model : (budget : ℕ) (F : List Clause) (vs : Values) (t : ℕ) (m : Values) (u : ℕ) → Proper vs → call_on budget F vs t ≡ model m u
    → LeastModel F vs m
call_on_model budget F vs t m u p e = rw e at (call_on_says budget F vs t p)

pub call_on_none : (budget : ℕ) (F : List Clause) (vs : Values) (t u : ℕ) → Proper vs → call_on budget F vs t ≡ no_model u → NoModelFrom F vs
call_on_none budget F vs t u p e = rw e at (call_on_says budget F vs t p)

-- ---- the meter

-- a call that began with t tries on the meter ends as c
pub record Metered (budget t : ℕ) (c : Call) : Type 0 where
  pub up : t ≤ tries_of c
  pub within : t ≤ budget → tries_of c ≤ budget
  pub spent : (u : ℕ) → c ≡ stopped u → budget ≤ u

module _ (budget : ℕ) where
  metered_now : (t : ℕ) (c : Call) → tries_of c ≡ t → ((u : ℕ) → c ≡ stopped u → budget ≤ u) → Metered budget t c
  metered_now t c e h = record { up = omega arith; within = λ k. omega arith; spent = h }

  metered_trans : {t u : ℕ} {c : Call} → t ≤ u → (t ≤ budget → u ≤ budget) → Metered budget u c → Metered budget t c
  metered_trans a b m = record { up = omega (arith, m.up); within = λ k. m.within (b k); spent = m.spent }

  if_left_metered : (next_go : Values → ℕ → Call) (ds : Values) (t : ℕ) → ((u : ℕ) → Metered budget u (next_go ds u)) → (b : Bool)
      → ltb t budget ≡ b → Metered budget t (if_left b next_go ds t)
  if_left_metered next_go ds t h true e = metered_trans (omega arith) (λ k. ltb-true t budget e) (h (suc t))
  if_left_metered next_go ds t h false e =
      metered_now t (stopped t) refl (λ u q. let z : t ≡ u = cc in omega (arith, ltb-false t budget e))

  or_else_metered : (t : ℕ) (o : Call) → Metered budget t o → (f : ℕ → Call) → ((u : ℕ) → Metered budget u (f u))
      → Metered budget t (or_else o f)
  or_else_metered t (model m u) s f k = s
  or_else_metered t (no_model u) s f k = metered_trans s.up s.within (k u)
  or_else_metered t (stopped u) s f k = s

  pub call_on_tries : (F : List Clause) (vs : Values) (t : ℕ) → Metered budget t (call_on budget F vs t)
  call_on_tries F = call_on_rec budget F (λ vs f. (t : ℕ) → Metered budget t (f t)) step
    where
      step : (vs : Values) (next_go : Values → ℕ → Call)
          → ((ds : Values) → unsets ds < unsets vs → (u : ℕ) → Metered budget u (next_go ds u))
          → (t : ℕ) → Metered budget t (on_closed (closing F vs) budget next_go t)
      step vs next_go ih t = go (onward budget F vs t)
        where
          go : {k : (Values → ℕ → Call) → Call} → Onward budget F vs t k → Metered budget t (k next_go)
          go (clashes e) = metered_now t (no_model t) refl (λ u q. apart cc)
          go (all_set ws e s h) = metered_now t (model ws t) refl (λ u q. apart cc)
          go (tries ws i e s z low tried) =
              or_else_metered t (try budget next_go ws i 1 t) (each 0 (omega arith) t) (λ u. try budget next_go ws i 2 u) (each 1 (omega arith))
            where
              each : (b : ℕ) → b < 2 → (u : ℕ) → Metered budget u (try budget next_go ws i (suc b) u)
              each b h u = if_left_metered next_go (set ws i (suc b)) u (ih (set ws i (suc b)) (tried b h).fewer) (ltb u budget) refl

  pub call_on_stopped : (F : List Clause) (vs : Values) (t u : ℕ) → call_on budget F vs t ≡ stopped u → budget ≤ u
  call_on_stopped F vs t u e = (call_on_tries F vs t).spent u e
