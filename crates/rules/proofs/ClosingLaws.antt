-- The laws of specs/Closing above those of a clause's state, which stand in StateLaws and go on from here: that closing is sound
-- for models, what it ends in, and the page's own words for it, "rounds until one sets nothing, or stops", as an equation without
-- a bound on the rounds.
--
--   round_at_false                a round that has stopped stays so
--   Went, After, round_after      what a round makes of the values extends them, and it counts what it sets
--   closing_rec                   an induction for closing: a round that stops, that sets nothing, or that sets something first
--   close_in_enough                more rounds than there are unset variables change nothing
--   closing-next                  closing is a round and, if it set anything, closing again
--   Keeps, closing_sound          a model that extends the start extends what closing ends in, and there is no clash
--   Settled, Ends, closing_ends   closing ends in values that extend the start, where nothing is left to set
--   closing_quiet                 the same, where the closed set is known
--
-- Assumes nothing.
use mathlib.Core.Path.{◌≡◌, refl, sym, ◌∙◌}
use mathlib.Core.List.Memᴰ
use mathlib.Core.List.{List, [], ◌∷◌}
use mathlib.Core.Bool.{true}
use Prim.Native.Nat.{ℕ, zero, suc, ◌+◌, ◌≤◌, ◌<◌}
use native.Mathlib.Omega.{arith}
use lib.IntN.{ℤ}
use lib.ListN.{length, length-set}
use Rattle.rules.specs.declared.ClauseState.{ClauseState}
use Rattle.rules.specs.declared.ClauseState.TheVariants.{False, Unit, True, Undecided}
use Rattle.rules.specs.Lists.{In}
use Rattle.rules.specs.Meaning.{Clause, Values, index_of, true_byte, is_unset, assign, has_true, satisfies, Proper}
use Rattle.rules.specs.Closing.{state_of, Round, under_way, at_false, met, visit, round, Closed, clash, closed, again, unsets, close_in, closing}
use Rattle.rules.specs.Models.{Extends}
use Rattle.rules.specs.Visits.{Quiet}
use Rattle.rules.proofs.ListLaws.{and_left, and_right}
use Rattle.rules.proofs.MeaningLaws.{proper_assign, extends_refl, extends_trans, extends_assign, assign_extends, unsets-assign}
pub use Rattle.rules.proofs.StateLaws.{AllFalse, OneUnset, TwoUnset, Means, means, state_unique}
pub use Rattle.rules.proofs.StateLaws.{unit_sound, false_sound, Calm, calm_of_quiet, quiet_of_calm}

-- ---- a round: what it makes of the values extends them, and it counts what it sets

-- a round over cls led from vs, with n set so far, to ws, with k
pub record Went (cls : List Clause) (vs : Values) (n : ℕ) (ws : Values) (k : ℕ) : Type 0 where
  pub ext : Extends vs ws
  pub len : length ws ≡ length vs
  pub proper : Proper vs → Proper ws
  pub counted : unsets ws + k ≡ unsets vs + n
  pub up : n ≤ k
  pub still : k ≡ n → (vs ≡ ws) × Quiet vs cls

abbrev pub After : List Clause → Values → ℕ → Round → Type 0
After cls vs n (under_way ws k) = Went cls vs n ws k
After cls vs n at_false = Prim.Unit {0}

pub round_at_false : (cls : List Clause) → round cls at_false ≡ at_false
round_at_false [] = refl
round_at_false (cl ∷ cls) = round_at_false cls

after_unit : (cl : Clause) (cls : List Clause) (vs : Values) (n : ℕ) (l : ℤ) → is_unset vs l ≡ true → (r : Round)
    → After cls (assign vs l) (suc n) r → After (cl ∷ cls) vs n r
after_unit cl cls vs n l u at_false w = tt
after_unit cl cls vs n l u (under_way ws k) w =
    let d : suc (unsets (assign vs l)) ≡ unsets vs = unsets-assign vs l u in
    record {
      ext = extends_trans (extends_assign vs l u) w.ext;
      len = w.len ∙ length-set vs (index_of l) (true_byte l);
      proper = λ p. w.proper (proper_assign l p);
      counted = omega arith;
      up = omega arith;
      still = λ e. absurd (omega (arith, w.up));
    }

quiet_cons : (cl : Clause) (cls : List Clause) (vs : Values) → Calm (state_of vs cl) → Quiet vs cls → Quiet vs (cl ∷ cls)
quiet_cons cl cls vs c q = quiet_of_calm go
  where
    go : (d : Clause) → In d (cl ∷ cls) → Calm (state_of vs d)
    go d (Memᴰ.head e) = rw e c
    go d (Memᴰ.tail i) = calm_of_quiet d q i

after_calm : (cl : Clause) (cls : List Clause) (vs : Values) (n : ℕ) → Calm (state_of vs cl) → (r : Round) → After cls vs n r
    → After (cl ∷ cls) vs n r
after_calm cl cls vs n c at_false w = tt
after_calm cl cls vs n c (under_way ws k) w =
    record {
      ext = w.ext;
      len = w.len;
      proper = w.proper;
      counted = w.counted;
      up = w.up;
      still = λ e. ((w.still e).0, quiet_cons cl cls vs c (w.still e).1);
    }

pub round_after : (cls : List Clause) (vs : Values) (n : ℕ) → After cls vs n (round cls (under_way vs n))
round_after [] vs n =
    record {
      ext = extends_refl vs;
      len = refl;
      proper = λ p. p;
      counted = refl;
      up = omega arith;
      still = λ e. (refl, quiet_of_calm (λ cl i. absurd (Memᴰ.not-nil i)));
    }
round_after (cl ∷ cls) vs n = go (state_of vs cl) refl (means vs cl) (λ ws k. round_after cls ws k)
  where
    go : (s : ClauseState) → state_of vs cl ≡ s → Means vs cl s
        → ((ws : Values) (k : ℕ) → After cls ws k (round cls (under_way ws k))) → After (cl ∷ cls) vs n (round cls (met s vs n))
    go False e m ih = rw round_at_false tt
    go (Unit l) e m ih =
        after_unit cl cls vs n l.0 m.unset (round cls (under_way (assign vs l.0) (suc n))) (ih (assign vs l.0) (suc n))
    go True e m ih = after_calm cl cls vs n (rw e tt) (round cls (under_way vs n)) (ih vs n)
    go Undecided e m ih = after_calm cl cls vs n (rw e tt) (round cls (under_way vs n)) (ih vs n)

-- ---- closing: a round that stops, or that sets nothing, or that sets something and then closing

module _ (F : List Clause) (P : Values → Closed → Type 0)
    (stop : (vs : Values) → round F (under_way vs 0) ≡ at_false → P vs clash)
    (still : (vs : Values) → round F (under_way vs 0) ≡ under_way vs 0 → Quiet vs F → P vs (closed vs))
    (on : (vs ws : Values) (n : ℕ) → round F (under_way vs 0) ≡ under_way ws (suc n) → Went F vs 0 ws (suc n)
    → (r : Closed) → P ws r → P vs r)
  where
    again_rec : (vs : Values) (more : Values → Closed) → ((ws : Values) → unsets ws < unsets vs → P ws (more ws))
        → P vs (again (round F (under_way vs 0)) more)
    again_rec vs more ih = go (round F (under_way vs 0)) refl (round_after F vs 0)
      where
        -- a round that sets nothing leaves the values
        closed_same : (ws : Values) (n : ℕ) → n ≡ 0 → round F (under_way vs 0) ≡ under_way ws n → Went F vs 0 ws n
            → P vs (closed ws)
        closed_same ws n z e w = let (d, q) = w.still z in rw (← d) (still vs (e ∙ cc) q)

        go : (r : Round) → round F (under_way vs 0) ≡ r → After F vs 0 r → P vs (again r more)
        go at_false e w = stop vs e
        go (under_way ws zero) e w = closed_same ws 0 refl e w
        go (under_way ws (suc n)) e w = on vs ws n e w (more ws) (ih ws (omega (arith, w.counted)))

    close_in_rec : (n : ℕ) (vs : Values) → unsets vs ≤ n → P vs (close_in n F vs)
    unfolding close_in
    close_in_rec zero vs h = again_rec vs closed (λ ws u. absurd (omega arith))
    close_in_rec (suc n) vs h = again_rec vs (λ ws. close_in n F ws) (λ ws u. close_in_rec n ws (omega arith))

    pub closing_rec : (vs : Values) → P vs (closing F vs)
    unfolding closing
    closing_rec vs = close_in_rec (unsets vs) vs (omega arith)

pub close_in_enough : (F : List Clause) (n : ℕ) (vs : Values) → unsets vs ≤ n → close_in n F vs ≡ closing F vs
unfolding close_in
close_in_enough F n vs h =
    closing_rec F (λ ws r. (k : ℕ) → unsets ws ≤ k → close_in k F ws ≡ r)
    (λ ws e k l. stop ws e k) (λ ws e q k l. still ws e k) on vs n h
  where
    stop : (ws : Values) → round F (under_way ws 0) ≡ at_false → (k : ℕ) → close_in k F ws ≡ clash
    stop ws e zero = rw e
    stop ws e (suc k) = rw e

    still : (ws : Values) → round F (under_way ws 0) ≡ under_way ws 0 → (k : ℕ) → close_in k F ws ≡ closed ws
    still ws e zero = rw e
    still ws e (suc k) = rw e

    on : (ws ds : Values) (n : ℕ) → round F (under_way ws 0) ≡ under_way ds (suc n) → Went F ws 0 ds (suc n) → (r : Closed)
        → ((k : ℕ) → unsets ds ≤ k → close_in k F ds ≡ r) → (k : ℕ) → unsets ws ≤ k → close_in k F ws ≡ r
    on ws ds n e w r ih zero h = absurd (omega (arith, w.counted))
    on ws ds n e w r ih (suc k) h = rw e (ih k (omega (arith, w.counted)))

pub closing-next : (F : List Clause) (vs : Values) → closing F vs ≡ again (round F (under_way vs 0)) (λ ws. closing F ws)
unfolding close_in
closing-next F vs = sym (close_in_enough F (suc (unsets vs)) vs (omega arith)) ∙ go (round F (under_way vs 0)) (round_after F vs 0)
  where
    go : (r : Round) → After F vs 0 r → again r (λ ws. close_in (unsets vs) F ws) ≡ again r (λ ws. closing F ws)
    go at_false w = refl
    go (under_way ws zero) w = refl
    go (under_way ws (suc n)) w = close_in_enough F (unsets vs) ws (omega (arith, w.counted))

-- ---- soundness

module _ (m : Values) where
  abbrev Below : Round → Type 0
  Below (under_way vs n) = Extends vs m
  Below at_false = ⊥

  -- m extends what closing ends in
  abbrev pub Keeps : Closed → Type 0
  Keeps clash = ⊥
  Keeps (closed vs) = Extends vs m

  met_below : (cl : Clause) (vs : Values) (n : ℕ) → has_true m cl ≡ true → Extends vs m → (s : ClauseState) → Means vs cl s
      → Below (met s vs n)
  met_below cl vs n h x False s = false_sound cl x h s
  met_below cl vs n h x (Unit l) s = assign_extends l.0 x (unit_sound cl l.0 x h s)
  met_below cl vs n h x True s = x
  met_below cl vs n h x Undecided s = x

  round_below : (cls : List Clause) → satisfies m cls ≡ true → (r : Round) → Below r → Below (round cls r)
  round_below [] h r x = x
  round_below (cl ∷ cls) h r x = round_below cls (and_right (has_true m cl) (satisfies m cls) h) (visit cl r) (visited r x)
    where
      visited : (r : Round) → Below r → Below (visit cl r)
      visited (under_way vs n) x = met_below cl vs n (and_left (has_true m cl) (satisfies m cls) h) x (state_of vs cl) (means vs cl)
      visited at_false x = x

  pub closing_sound : (F : List Clause) → satisfies m F ≡ true → (vs : Values) → Extends vs m → Keeps (closing F vs)
  closing_sound F h =
      closing_rec F (λ vs r. Extends vs m → Keeps r)
      (λ vs e x. rw e at (below vs x)) (λ vs e q x. x) (λ vs ws n e w r ih x. ih (rw e at (below vs x)))
    where
      below : (vs : Values) → Extends vs m → Below (round F (under_way vs 0))
      below vs x = round_below F h (under_way vs 0) x

-- ---- what closing ends in

pub record Settled (F : List Clause) (vs ws : Values) : Type 0 where
  pub ext : Extends vs ws
  pub len : length ws ≡ length vs
  pub proper : Proper vs → Proper ws
  pub fewer : unsets ws ≤ unsets vs
  pub quiet : Quiet ws F

abbrev pub Ends : List Clause → Values → Closed → Type 0
Ends F vs clash = Prim.Unit {0}
Ends F vs (closed ws) = Settled F vs ws

pub closing_ends : (F : List Clause) (vs : Values) → Ends F vs (closing F vs)
closing_ends F = closing_rec F (Ends F) (λ vs e. tt) (λ vs e q. still vs q) (λ vs ws n e w. on vs ws n w)
  where
    still : (vs : Values) → Quiet vs F → Settled F vs vs
    still vs q = record { ext = extends_refl vs; len = refl; proper = λ p. p; fewer = omega arith; quiet = q }

    on : (vs ws : Values) (n : ℕ) → Went F vs 0 ws (suc n) → (r : Closed) → Ends F ws r → Ends F vs r
    on vs ws n w clash s = tt
    on vs ws n w (closed ds) s =
        record {
          ext = extends_trans w.ext s.ext;
          len = s.len ∙ w.len;
          proper = λ p. s.proper (w.proper p);
          fewer = omega arith;
          quiet = s.quiet;
        }

pub closing_quiet : (F : List Clause) (vs ws : Values) → closing F vs ≡ closed ws → Quiet ws F
closing_quiet F vs ws e = let s : Settled F vs ws = rw e at (closing_ends F vs) in s.quiet
