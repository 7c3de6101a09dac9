-- What a call does not depend on: the order of the clauses and of the literals in them, and whether literals that are forced
-- already stand as one-literal clauses, as the page has them, or as values at the start. Both hold because the closings are the
-- same all the way down.
--
--   call_on_same                   calls are the same if the closings are, at the start and at all that is tried
--   call_on_order                  clauses that are the same as sets of literals give the same call
--   closing-units                 closing forced literals as clauses, or starting from them as values, is the same
--   call_on-units                  and so is the call: the page's form of it
--
-- Assumes nothing.
use mathlib.Core.Path.{◌≡◌, refl, sym, ◌∙◌}
use mathlib.Core.Logic.{◌≢◌, ◌⊎◌, inl, inr}
use mathlib.Core.Bool.{true, false}
use mathlib.Core.List.Memᴰ
use mathlib.Core.List.{List, [], ◌∷◌, ◌++◌}
use Prim.Native.Nat.{ℕ, ◌<◌}
use native.Mathlib.Omega.{arith}
use lib.Dec.{ltb}
use lib.IntN.{ℤ, pos, negsuc}
use lib.ListN.{length, replicate, length-replicate, get_or-eq_default}
use borrow.Author.Tests.{eqb-true, ne_eqb, ltb-true, ltb-false}
use Rattle.rules.specs.Lists.{In, eqz}
use Rattle.rules.specs.Meaning.{Clause, Values, index_of, value_at, true_byte, false_byte, is_true, Proper}
use Rattle.rules.specs.Closing.{closing, unsets}
use Rattle.rules.specs.Models.{Extends, Covers}
use Rattle.rules.specs.Search.{Call, on_closed, call_on}
use Rattle.rules.specs.Units.{units}
use Rattle.rules.proofs.ListLaws.{both, never, eqz_sound, eqz_complete}
use Rattle.rules.proofs.MeaningLaws.{true_byte-set, extends_refl, extends_trans, is_true_mono, false_byte_lem, blank_proper, blank_extends}
use Rattle.rules.proofs.ClosingOrder.{Derived, given, last, derived_given, Refuted, closing_same, closing_order}
use Rattle.rules.proofs.UnitsLaws.{LitOf, units_complete, units_true}
use Rattle.rules.proofs.SearchLaws.{Tried, on_closed_cong, call_on_rec, call_on_next}

-- ---- calls are the same if the closings are

pub call_on_same : (budget : ℕ) (F G : List Clause) (Q : Values → Type 0) → ((vs ds : Values) → Q vs → Tried vs ds → Q ds)
    → ((vs : Values) → Q vs → closing F vs ≡ closing G vs) → (vs : Values) (t : ℕ) → Q vs
    → call_on budget F vs t ≡ call_on budget G vs t
call_on_same budget F G Q down closings vs t q = call_on_rec budget G (λ ws f. Q ws → (u : ℕ) → call_on budget F ws u ≡ f u) step vs q t
  where
    step : (ws : Values) (next_go : Values → ℕ → Call)
        → ((ds : Values) → unsets ds < unsets ws → Q ds → (u : ℕ) → call_on budget F ds u ≡ next_go ds u) → Q ws → (u : ℕ)
        → call_on budget F ws u ≡ on_closed (closing G ws) budget next_go u
    step ws next_go ih q u =
        call_on_next budget F ws u ∙
        rw (closings ws q)
        (on_closed_cong budget G ws (λ ds n. call_on budget F ds n) next_go (λ ds n d. ih ds d.fewer (down ws ds q d) n) u)

pub call_on_order : (budget : ℕ) {F G : List Clause} → Covers F G → Covers G F → (vs : Values) (t : ℕ) → Proper vs
    → call_on budget F vs t ≡ call_on budget G vs t
call_on_order budget {F} {G} c d = call_on_same budget F G Proper (λ vs ds p w. w.proper p) (λ vs p. closing_order c d vs p)

-- ---- forced literals as clauses, or as values

false_byte-set : (l : ℤ) → false_byte l ≢ 0
false_byte-set (pos n) = omega arith
false_byte-set (negsuc n) = omega arith

true_byte_other : (l : ℤ) → true_byte l ≢ false_byte l
true_byte_other (pos n) = omega arith
true_byte_other (negsuc n) = omega arith

-- a byte that follows where the start has another refutes: the clause that it follows by has all its literals false
opposed : {F : List Clause} {vs : Values} → Proper vs → {i b : ℕ} → Derived F vs i b → value_at vs i ≢ 0 → value_at vs i ≢ b
    → Refuted F vs
opposed p (given i h) s n = absurd (n refl)
opposed {F} {vs} p (last cl l i j f) s n = record { clause = cl; is-in = i; all_false = λ k h. go k h (both (eqz k l)) }
  where
    go : (k : ℤ) → In k cl → (eqz k l ≡ true) ⊎ (eqz k l ≡ false) → Derived F vs (index_of k) (false_byte k)
    go k h (inl e) =
        rw (eqz_sound k l e)
        (derived_given F (index_of l) (false_byte l) (false_byte_lem l p (ne_eqb _ _ n) (ne_eqb _ _ s)) (false_byte-set l))
    go k h (inr e) = f k h e

-- from vs the clauses of U, of one literal each, make true what is set in ws
record Makes (F U G : List Clause) (vs ws : Values) : Type 0 where
  len : length vs ≡ length ws
  ext : Extends vs ws
  derived : (i : ℕ) → value_at ws i ≢ 0 → Derived (F ++ U ++ G) vs i (value_at ws i)
  ones : (cl : Clause) → In cl U → (l : ℤ) × (cl ≡ l ∷ []) × (is_true ws l ≡ true)

module _ (F U G : List Clause) (vs ws : Values) (m : Makes F U G vs ws) where
  in_more : {cl : Clause} → In cl (F ++ G) → In cl (F ++ U ++ G)
  in_more {cl} i = go (Memᴰ.append_cases F i)
    where
      go : In cl F ⊎ In cl G → In cl (F ++ U ++ G)
      go (inl j) = Memᴰ.append_left G (Memᴰ.append_left U j)
      go (inr j) = Memᴰ.append_right (F ++ U) j

  in_cases : {cl : Clause} → In cl (F ++ U ++ G) → In cl (F ++ G) ⊎ In cl U
  in_cases {cl} i = go (Memᴰ.append_cases (F ++ U) i)
    where
      left : In cl F ⊎ In cl U → In cl (F ++ G) ⊎ In cl U
      left (inl j) = inl (Memᴰ.append_left G j)
      left (inr j) = inr j

      go : In cl (F ++ U) ⊎ In cl G → In cl (F ++ G) ⊎ In cl U
      go (inl j) = left (Memᴰ.append_cases F j)
      go (inr j) = inl (Memᴰ.append_right F j)

  -- a literal of a clause of U is true in ws
  one_true : {cl : Clause} (l : ℤ) → In cl U → In l cl → value_at ws (index_of l) ≡ true_byte l
  one_true {cl} l u j =
      let (k, e, t) = m.ones cl u in
      let d : l ≡ k = Memᴰ.eq_of_singleton (rw e at j) in
      eqb-true _ _ (rw d t)

  one_in : (cl : Clause) → In cl U → (l : ℤ) × In l cl
  one_in cl u = go (m.ones cl u).0 (m.ones cl u).1
    where
      go : (l : ℤ) → cl ≡ l ∷ [] → (l : ℤ) × In l cl
      go l e = (l, rw e (Memᴰ.head refl))

  derived_less : {i b : ℕ} → Derived (F ++ U ++ G) vs i b → Derived (F ++ G) ws i b
  derived_less (given i h) = derived_given (F ++ G) i (value_at vs i) (m.ext.agrees i h) h
  derived_less (last cl l i j f) = go (in_cases i) (λ k h e. derived_less (f k h e))
    where
      go : In cl (F ++ G) ⊎ In cl U → ((k : ℤ) → In k cl → eqz k l ≡ false → Derived (F ++ G) ws (index_of k) (false_byte k))
          → Derived (F ++ G) ws (index_of l) (true_byte l)
      go (inl h) g = last cl l h j g
      go (inr h) g = derived_given (F ++ G) (index_of l) (true_byte l) (one_true l h j) (true_byte-set l)

  derived_more : {i b : ℕ} → Derived (F ++ G) ws i b → Derived (F ++ U ++ G) vs i b
  derived_more (given i h) = m.derived i h
  derived_more (last cl l i j f) = last cl l (in_more i) j (λ k h e. derived_more (f k h e))

  refuted_less : Proper ws → Refuted (F ++ U ++ G) vs → Refuted (F ++ G) ws
  refuted_less p r = go (in_cases r.is-in)
    where
      go : In r.clause (F ++ G) ⊎ In r.clause U → Refuted (F ++ G) ws
      go (inl i) = record { clause = r.clause; is-in = i; all_false = λ k h. derived_less (r.all_false k h) }
      go (inr u) =
          let (l, h) = one_in r.clause u in
          let b : value_at ws (index_of l) ≡ true_byte l = one_true l u h in
          opposed p (derived_less (r.all_false l h)) (λ z. true_byte-set l (sym b ∙ z)) (λ z. true_byte_other l (sym b ∙ z))

  refuted_more : Refuted (F ++ G) ws → Refuted (F ++ U ++ G) vs
  refuted_more r = record { clause = r.clause; is-in = in_more r.is-in; all_false = λ k h. derived_more (r.all_false k h) }

  closing_makes : Proper vs → Proper ws → closing (F ++ U ++ G) vs ≡ closing (F ++ G) ws
  closing_makes p q =
      closing_same m.len p q
      (record { derived = λ i b d. derived_less d; refuted = refuted_less q })
      (record { derived = λ i b d. derived_more d; refuted = refuted_more })

-- from values that extend f, the units of f change nothing
makes_above : (F G : List Clause) (f ds : Values) → Proper f → Extends f ds → Makes F (units 0 f) G ds ds
makes_above F G f ds p x =
    record {
      len = refl;
      ext = extends_refl ds;
      derived = λ i h. given i h;
      ones = λ cl i. let (l, e, t) = units_true f cl p i in (l, e, is_true_mono l x t);
    }

-- from blank values they make f
makes_blank : (F G : List Clause) (f : Values) → Proper f → Makes F (units 0 f) G (replicate (length f) 0) f
makes_blank F G f p =
    record {
      len = length-replicate {A = ℕ} (length f) 0;
      ext = blank_extends (length f) f refl;
      derived = λ i h. go i h (both (ltb i (length f)));
      ones = λ cl i. units_true f cl p i;
    }
  where
    blank : Values
    blank = replicate (length f) 0

    by_unit : {i b : ℕ} (l : ℤ) → In (l ∷ []) (F ++ units 0 f ++ G) → LitOf i b l → Derived (F ++ units 0 f ++ G) blank i b
    by_unit l j s =
        rw (← s.byte, ← s.index)
        (last (l ∷ []) l j (Memᴰ.head refl) (λ k x e. absurd (never (eqz_complete k l (Memᴰ.eq_of_singleton x)) e)))

    go : (i : ℕ) → value_at f i ≢ 0 → (ltb i (length f) ≡ true) ⊎ (ltb i (length f) ≡ false)
        → Derived (F ++ units 0 f ++ G) blank i (value_at f i)
    go i h (inl t) =
        let (l, j, s) = units_complete 0 f i p (ltb-true i (length f) t) h in
        by_unit l (Memᴰ.append_left G (Memᴰ.append_right F j)) (record { index = omega (arith, s.index); byte = s.byte })
    go i h (inr t) =
        derived_given (F ++ units 0 f ++ G) i (value_at f i) (outside ∙ sym (get_or-eq_default f 1 (ltb-false i (length f) t))) h
      where
        outside : value_at blank i ≡ 1
        outside = get_or-eq_default blank 1 (omega (arith, length-replicate {A = ℕ} (length f) 0, ltb-false i (length f) t))

pub closing-units : (F G : List Clause) (f : Values) → Proper f
    → closing (F ++ units 0 f ++ G) (replicate (length f) 0) ≡ closing (F ++ G) f
closing-units F G f p =
    closing_makes F (units 0 f) G (replicate (length f) 0) f (makes_blank F G f p) (blank_proper (length f)) p

pub call_on-units : (budget : ℕ) (F G : List Clause) (f : Values) (t : ℕ) → Proper f
    → call_on budget (F ++ units 0 f ++ G) (replicate (length f) 0) t ≡ call_on budget (F ++ G) f t
call_on-units budget F G f t p =
    call_on_next budget (F ++ units 0 f ++ G) (replicate (length f) 0) t ∙
    rw (closing-units F G f p)
    (on_closed_cong budget (F ++ G) f (λ ds u. call_on budget (F ++ units 0 f ++ G) ds u) (λ ds u. call_on budget (F ++ G) ds u)
    (λ ds u d. below ds u (d.ext, d.proper p)) t) ∙
    sym (call_on_next budget (F ++ G) f t)
  where
    below : (ds : Values) (u : ℕ) → Extends f ds × Proper ds
        → call_on budget (F ++ units 0 f ++ G) ds u ≡ call_on budget (F ++ G) ds u
    below = call_on_same budget (F ++ units 0 f ++ G) (F ++ G) (λ ds. Extends f ds × Proper ds)
        (λ vs ds q w. (extends_trans q.0 w.ext, w.proper q.1))
        (λ ds q. closing_makes F (units 0 f) G ds ds (makes_above F G f ds p q.0) q.1 q.1)
