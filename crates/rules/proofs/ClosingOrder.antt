-- The order of visits does not matter: visits that set units in any order end as closing does, and so closing depends only on the
-- clauses as sets of literals. Both hold because all of them compute the same: the bytes that follow from the start by the clauses.
--
--   FalseMet, Visited, VisitedBy, round_visited, closing-visits     a round visits clauses, and closing is one order of visits
--   Derived, derived_given, Refuted, Reached     what follows from the start, one literal after the other
--   visits_derived, visits_refuted     what visits set follows, and a false clause that they meet is false by what follows
--   derived_set, quiet_not_refuted     what follows is set in every quiet extension, and no clause is false there
--   ClosesTo, closing_closes, closes_unique     what follows decides what closing ends in
--   Follows, follows_refl, closing_same     two closings are the same if the same follows
--   visits_closed, visits_clash   any visits that end in quiet values, or at a false clause, end as closing does
--   closing_order                 clauses that are the same as sets of literals close alike
--
-- Assumes nothing.
use mathlib.Core.Path.{◌≡◌, refl, sym, ◌∙◌, ap}
use mathlib.Core.Logic.{◌≢◌, ◌⊎◌, inl, inr}
use mathlib.Core.Bool.{true, false}
use mathlib.Core.List.Memᴰ
use mathlib.Core.List.{List, [], ◌∷◌}
use Prim.Native.Nat.{ℕ}
use lib.IntN.{ℤ, pos}
use lib.ListN.{length, length-set}
use borrow.Author.Tests.{eqb-true, eqb-false}
use Rattle.rules.specs.declared.ClauseState.{ClauseState}
use Rattle.rules.specs.declared.ClauseState.TheVariants.{False, Unit, True, Undecided}
use Rattle.rules.specs.Lists.{In, eqz}
use Rattle.rules.specs.Meaning.{Clause, Values, index_of, value_at, true_byte, false_byte, is_true, is_unset, assign, has_true, Proper}
use Rattle.rules.specs.Closing.{state_of, Round, under_way, at_false, met, visit, round, Closed, clash, closed, closing}
use Rattle.rules.specs.Models.{Extends, Covers}
use Rattle.rules.specs.Visits.{Visits, start, unit, Quiet}
use Rattle.rules.proofs.ListLaws.{both, never, not-true, any_sound, none_of_any, eqz_sound, eqz_complete}
use Rattle.rules.proofs.MeaningLaws.{proper_assign, set_elim, extends_refl, extends_trans}
use Rattle.rules.proofs.MeaningLaws.{extends_antisym, extends_assign, false_byte_lem, not_true_of_false}
use Rattle.rules.proofs.ClosingLaws.{OneUnset, AllFalse, Means, means, Calm, calm_of_quiet, closing_rec, Ends, closing_ends}

-- ---- closing is one order of visits

-- visits led from vs to values at which a clause is false
pub record FalseMet (F : List Clause) (vs : Values) : Type 0 where
  pub values : Values
  pub clause : Clause
  pub visits : Visits F vs values
  pub is-in : In clause F
  pub false_here : state_of values clause ≡ False

abbrev pub Visited : List Clause → Values → Closed → Type 0
Visited F vs clash = FalseMet F vs
Visited F vs (closed ws) = Visits F vs ws

module _ (F : List Clause) (vs : Values) where
  abbrev pub VisitedBy : Round → Type 0
  VisitedBy (under_way ws n) = Visits F vs ws
  VisitedBy at_false = FalseMet F vs

  met_visited : (cl : Clause) → In cl F → (ws : Values) (n : ℕ) → Visits F vs ws → (s : ClauseState) → state_of ws cl ≡ s
      → VisitedBy (met s ws n)
  met_visited cl i ws n v False e = record { values = ws; clause = cl; visits = v; is-in = i; false_here = e }
  met_visited cl i ws n v (Unit l) e = unit cl l v i e
  met_visited cl i ws n v True e = v
  met_visited cl i ws n v Undecided e = v

  pub round_visited : (cls : List Clause) → ((cl : Clause) → In cl cls → In cl F) → (r : Round) → VisitedBy r
      → VisitedBy (round cls r)
  round_visited [] h r v = v
  round_visited (cl ∷ cls) h r v = round_visited cls (λ d i. h d (Memᴰ.tail i)) (visit cl r) (visited r v)
    where
      visited : (r : Round) → VisitedBy r → VisitedBy (visit cl r)
      visited (under_way ws n) v = met_visited cl (h cl (Memᴰ.head refl)) ws n v (state_of ws cl) refl
      visited at_false v = v

pub closing-visits : (F : List Clause) (vs : Values) → Visited F vs (closing F vs)
closing-visits F vs =
    closing_rec F (λ ws r. Visits F vs ws → Visited F vs r)
    (λ ws e v. rw e at (by_round ws v)) (λ ws e q v. v) (λ ws ds n e w r ih v. ih (rw e at (by_round ws v))) vs start
  where
    by_round : (ws : Values) → Visits F vs ws → VisitedBy F vs (round F (under_way ws 0))
    by_round ws v = round_visited F vs F (λ cl i. i) (under_way ws 0) v

-- ---- what follows from the start by the clauses

-- the byte at an index follows: it is there at the start, or it makes true the last literal of a clause whose others are false
pub data Derived (F : List Clause) (vs : Values) : ℕ → ℕ → Type 0 where
  given : (i : ℕ) → value_at vs i ≢ 0 → Derived F vs i (value_at vs i)
  last : (cl : Clause) (l : ℤ) → In cl F → In l cl
      → ((k : ℤ) → In k cl → eqz k l ≡ false → Derived F vs (index_of k) (false_byte k)) → Derived F vs (index_of l) (true_byte l)

pub derived_given : (F : List Clause) {vs : Values} (i b : ℕ) → value_at vs i ≡ b → b ≢ 0 → Derived F vs i b
derived_given F i b e n = rw (← e) (given i (λ z. n (sym e ∙ z)))

-- all literals of a clause are false by what follows
pub record Refuted (F : List Clause) (vs : Values) : Type 0 where
  pub clause : Clause
  pub is-in : In clause F
  pub all_false : (k : ℤ) → In k clause → Derived F vs (index_of k) (false_byte k)

-- all that is set in ws follows from vs
pub record Reached (F : List Clause) (vs ws : Values) : Type 0 where
  pub proper : Proper ws
  pub ext : Extends vs ws
  pub len : length ws ≡ length vs
  pub derived : (i : ℕ) → value_at ws i ≢ 0 → Derived F vs i (value_at ws i)

false_derived : {F : List Clause} {vs ws : Values} {cl : Clause} (k : ℤ) → Reached F vs ws → has_true ws cl ≡ false → In k cl
    → is_unset ws k ≡ false → Derived F vs (index_of k) (false_byte k)
false_derived {F} {vs} {ws} k r n i u =
    rw (false_byte_lem k r.proper (none_of_any (is_true ws) n i) u) at (r.derived (index_of k) (eqb-false _ _ u))

pub visits_derived : {F : List Clause} {vs ws : Values} → Proper vs → Visits F vs ws → Reached F vs ws
visits_derived {F} {vs} p start = record { proper = p; ext = extends_refl vs; len = refl; derived = λ i h. given i h }
visits_derived {F} {vs} p (unit {ws = ws} cl l v i e) = go (visits_derived p v) (rw e at (means ws cl))
  where
    go : Reached F vs ws → OneUnset ws cl l.0 → Reached F vs (assign ws l.0)
    go r o =
        record {
          proper = proper_assign l.0 r.proper;
          ext = extends_trans r.ext (extends_assign ws l.0 o.unset);
          len = length-set ws (index_of l.0) (true_byte l.0) ∙ r.len;
          derived = set_elim (λ j b. b ≢ 0 → Derived F vs j b) ws (index_of l.0) (true_byte l.0) (λ h. this) r.derived;
        }
      where
        set_others : (k : ℤ) → In k cl → eqz k l.0 ≡ false → is_unset ws k ≡ false
        set_others k j d = not-true (is_unset ws k) (λ u. never (eqz_complete k l.0 (o.only k j u)) d)

        this : Derived F vs (index_of l.0) (true_byte l.0)
        this = last cl l.0 i o.is-in (λ k j d. false_derived k r o.none_true j (set_others k j d))

pub visits_refuted : {F : List Clause} {vs ws : Values} {cl : Clause} → Proper vs → Visits F vs ws → In cl F
    → state_of ws cl ≡ False → Refuted F vs
visits_refuted {F} {vs} {ws} {cl} p v i e = go (visits_derived p v) (rw e at (means ws cl))
  where
    go : Reached F vs ws → AllFalse ws cl → Refuted F vs
    go r a = record { clause = cl; is-in = i; all_false = λ k j. false_derived k r a.none_true j (a.none_unset k j) }

-- ---- what follows is set in every quiet extension

-- at quiet values a clause whose literals are false, but perhaps l, has l and it is true
last_true : {F : List Clause} {ws : Values} (cl : Clause) (l : ℤ) → Quiet ws F → In cl F
    → ((k : ℤ) → In k cl → eqz k l ≡ false → value_at ws (index_of k) ≡ false_byte k) → In l cl × (is_true ws l ≡ true)
last_true {F} {ws} cl l q i f = go (state_of ws cl) (calm_of_quiet cl q i) (means ws cl)
  where
    -- a literal that is true, or unset, is l
    is-l : (k : ℤ) → In k cl → (is_true ws k ≡ false → is_unset ws k ≡ false → ⊥) → k ≡ l
    is-l k j h = which (both (eqz k l))
      where
        which : (eqz k l ≡ true) ⊎ (eqz k l ≡ false) → k ≡ l
        which (inl e) = eqz_sound k l e
        which (inr e) = let (t, u) = not_true_of_false ws k (f k j e) in absurd (h t u)

    go : (s : ClauseState) → Calm s → Means ws cl s → In l cl × (is_true ws l ≡ true)
    go False c m = absurd c
    go (Unit k) c m = absurd c
    go True c m =
        let (k, j, t) = any_sound (is_true ws) cl m in
        let e : k ≡ l = is-l k j (λ n u. never t n) in
        (rw e at j, rw e at t)
    go Undecided c m =
        let a : m.one ≡ l = is-l m.one m.one_in (λ n u. never m.one_unset u) in
        let b : m.two ≡ l = is-l m.two m.two_in (λ n u. never m.two_unset u) in
        absurd (never (eqz_complete m.one m.two (a ∙ sym b)) m.differ)

pub derived_set : {F : List Clause} {vs ws : Values} → Extends vs ws → Quiet ws F → {i b : ℕ} → Derived F vs i b
    → value_at ws i ≡ b
derived_set x q (given i h) = x.agrees i h
derived_set x q (last cl l i j f) = eqb-true _ _ (last_true cl l q i (λ k h d. derived_set x q (f k h d))).1

pub quiet_not_refuted : {F : List Clause} {vs ws : Values} → Extends vs ws → Quiet ws F → Refuted F vs → ⊥
quiet_not_refuted {F} {vs} {ws} x q r =
    let (i, t) = last_true r.clause (pos 0) q r.is-in (λ k j d. derived_set x q (r.all_false k j)) in
    never t (not_true_of_false ws (pos 0) (derived_set x q (r.all_false (pos 0) i))).0

-- ---- what follows decides what closing ends in

abbrev pub ClosesTo : List Clause → Values → Closed → Type 0
ClosesTo F vs clash = Refuted F vs
ClosesTo F vs (closed ws) = Reached F vs ws × Quiet ws F

pub closing_closes : (F : List Clause) (vs : Values) → Proper vs → ClosesTo F vs (closing F vs)
closing_closes F vs p = go (closing F vs) (closing-visits F vs) (closing_ends F vs)
  where
    go : (r : Closed) → Visited F vs r → Ends F vs r → ClosesTo F vs r
    go clash v s = visits_refuted p v.visits v.is-in v.false_here
    go (closed ws) v s = (visits_derived p v, s.quiet)

-- what F derives from vs, G derives from ws
pub record Follows (F : List Clause) (vs : Values) (G : List Clause) (ws : Values) : Type 0 where
  pub derived : (i b : ℕ) → Derived F vs i b → Derived G ws i b
  pub refuted : Refuted F vs → Refuted G ws

pub follows_refl : (F : List Clause) (vs : Values) → Follows F vs F vs
follows_refl F vs = record { derived = λ i b d. d; refuted = λ r. r }

pub closes_unique : {F G : List Clause} {vs ws : Values} → length vs ≡ length ws → Follows F vs G ws → Follows G ws F vs
    → (r s : Closed) → ClosesTo F vs r → ClosesTo G ws s → r ≡ s
closes_unique e f g clash clash x y = refl
closes_unique e f g clash (closed b) x y = absurd (quiet_not_refuted y.0.ext y.1 (f.refuted x))
closes_unique e f g (closed a) clash x y = absurd (quiet_not_refuted x.0.ext x.1 (g.refuted y))
closes_unique e f g (closed a) (closed b) x y =
    ap closed (extends_antisym (x.0.len ∙ e ∙ sym y.0.len)
    (record { agrees = λ i h. derived_set y.0.ext y.1 (f.derived i (value_at a i) (x.0.derived i h)) })
    (record { agrees = λ i h. derived_set x.0.ext x.1 (g.derived i (value_at b i) (y.0.derived i h)) }))

pub closing_same : {F G : List Clause} {vs ws : Values} → length vs ≡ length ws → Proper vs → Proper ws → Follows F vs G ws
    → Follows G ws F vs → closing F vs ≡ closing G ws
closing_same {F} {G} {vs} {ws} e p q f g =
    closes_unique e f g (closing F vs) (closing G ws) (closing_closes F vs p) (closing_closes G ws q)

-- ---- any order of visits

pub visits_closed : {F : List Clause} {vs ws : Values} → Proper vs → Visits F vs ws → Quiet ws F → closing F vs ≡ closed ws
visits_closed {F} {vs} {ws} p v q =
    closes_unique refl (follows_refl F vs) (follows_refl F vs) (closing F vs) (closed ws)
    (closing_closes F vs p) (visits_derived p v, q)

pub visits_clash : {F : List Clause} {vs ws : Values} {cl : Clause} → Proper vs → Visits F vs ws → In cl F → state_of ws cl ≡ False
    → closing F vs ≡ clash
visits_clash {F} {vs} p v i e =
    closes_unique refl (follows_refl F vs) (follows_refl F vs) (closing F vs) clash
    (closing_closes F vs p) (visits_refuted p v i e)

-- ---- any order of clauses, and of literals in them

derived_covers : {F G : List Clause} → Covers F G → (vs : Values) {i b : ℕ} → Derived F vs i b → Derived G vs i b
derived_covers c vs (given i h) = given i h
derived_covers c vs (last cl l i j f) =
    let (d, h, s) = c.like cl i in last d l h ((s l).0 j) (λ k x e. derived_covers c vs (f k ((s k).1 x) e))

follows_covers : {F G : List Clause} → Covers F G → (vs : Values) → Follows F vs G vs
follows_covers {F} {G} c vs = record { derived = λ i b d. derived_covers c vs d; refuted = refuted }
  where
    refuted : Refuted F vs → Refuted G vs
    refuted r =
        let (d, h, s) = c.like r.clause r.is-in in
        record { clause = d; is-in = h; all_false = λ k x. derived_covers c vs (r.all_false k ((s k).1 x)) }

pub closing_order : {F G : List Clause} → Covers F G → Covers G F → (vs : Values) → Proper vs → closing F vs ≡ closing G vs
closing_order c d vs p = closing_same refl p p (follows_covers c vs) (follows_covers d vs)
