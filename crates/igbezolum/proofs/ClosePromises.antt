-- What a caller of `igb_close` has by its contract, in C's numbers.
--
--   closes_in_unique          no second result and buffer meet the contract
--   close_answered close_refused_exactly     0 or 20 exactly if no rule refuses; each refusal number and place exactly
--   close_nothing close_rest  refused, it returns zeros and writes nothing; what stands behind the values always stays
--   close_no_model            20: there is no model, and V zeros are written
--   close_in_all close_held close_set     0: what is set is in all models, the held literals too, and is counted
--   close_rounds_lem close_most   rounds are at most one more than the variables set, and at most V + 1
--   close_any_order           the order of clauses, literals and held literals does not matter, rounds aside
--
-- Assumes nothing.
use mathlib.Core.Path.{◌≡◌, refl, sym, ◌∙◌, ap}
use mathlib.Core.Logic.{◌⊎◌, inl, inr, ◌↔◌}
use mathlib.Core.Bool.{true}
use mathlib.Core.List.{List}
use mathlib.Core.Option.{Option, none, some}
use Prim.Native.Nat.{ℕ, suc, ◌≤◌}
use native.Mathlib.Omega.{arith}
use lib.IntN.{ℤ}
use lib.ListN.{take, drop, replicate}
use Rattle.rules.specs.declared.Refusal.{Refusal}
use Rattle.rules.specs.declared.RunAnswer.{RunAnswer}
use Rattle.rules.specs.Lists.{In, is_set, count}
use Rattle.rules.specs.Numbers.{refusal_number, refusal_place}
use Rattle.rules.specs.Meaning.{Clause, Values, clauses, is_true, Model}
use Rattle.rules.specs.Models.{NoModel}
use Rattle.rules.specs.Closing.{Closed, clash, closed}
use Rattle.rules.specs.Held.{with_held}
use Rattle.rules.specs.RunRefusals.{Accepted, RunRefuses}
use Rattle.rules.specs.Setup.{setup_run}
use Rattle.rules.specs.Close.{CloseGiven, close_number, close_setup, close_refusal, closed_set, close_rounds, close_answer, set_by, close_values, close_report}
use Rattle.rules.specs.Close.{SameSets}
use Rattle.rules.proofs.Theorems as theorems
use Rattle.igbezolum.specs.declared.close.IgbClosing.{IgbClosing}
use Rattle.igbezolum.specs.CloseLinked.{close_numbers, ClosesIn}
use Rattle.igbezolum.proofs.Promises.{run_answer_numbers}

pub closes_in_unique : {g : CloseGiven} {n m : IgbClosing} {b c : List ℕ} → ClosesIn g n b → ClosesIn g m c → (n ≡ m) × (b ≡ c)
closes_in_unique d e = (d.result_is ∙ sym e.result_is, d.values_are ∙ sym e.values_are)

-- ---- the numbers

-- 0 or 20
abbrev pub Closing : ℕ → Type 0
Closing k = (k ≡ 0) ⊎ (k ≡ 20)

closed_number : (c : Closed) → Closing (close_number (close_answer c))
closed_number clash = inr refl
closed_number (closed ws) = inl refl

between : (a : Refusal) → (1 ≤ refusal_number a) × (refusal_number a ≤ 15)
between Refusal.ShortBuffer = (omega arith, omega arith)
between Refusal.BadLimits = (omega arith, omega arith)
between (Refusal.BadList at) = (omega arith, omega arith)
between (Refusal.EntryOverVars at) = (omega arith, omega arith)
between (Refusal.BadLiteral at) = (omega arith, omega arith)
between Refusal.NotFree = (omega arith, omega arith)
between Refusal.ManyHeld = (omega arith, omega arith)

no_refusal : (a : Refusal) {k : ℕ} → Closing k → k ≡ refusal_number a → ⊥
no_refusal a (inl z) e = let (low, high) = between a in omega (arith, z, e, low)
no_refusal a (inr z) e = let (low, high) = between a in omega (arith, z, e, high)

pub refusal_same : (a b : Refusal) → refusal_number a ≡ refusal_number b → refusal_place a ≡ refusal_place b → a ≡ b
refusal_same a b e f =
    let same : RunAnswer.Refused a ≡ RunAnswer.Refused b =
    sym (run_answer_numbers (RunAnswer.Refused a)) ∙ cc (e, f) ∙ run_answer_numbers (RunAnswer.Refused b) in
    cc

-- ---- of the contract

module _ {g : CloseGiven} {n : IgbClosing} {after : List ℕ} (w : ClosesIn g n after) where
  -- the clauses that are closed
  abbrev F : List Clause
  F = with_held (clauses g.entries) g.held

  -- what is returned where no rule refuses, and where one does
  accepted_numbers : Accepted (setup_run (close_setup g)) → n ≡ close_numbers (close_report (closed_set g) (close_rounds g))
  accepted_numbers h = w.result_is ∙ ap close_numbers (theorems.close_writes g h).0

  refused_numbers : (a : Refusal) → RunRefuses (setup_run (close_setup g)) a
      → n ≡ record { answer = refusal_number a; place = refusal_place a; rounds = 0; set = 0 }
  refused_numbers a h = w.result_is ∙ ap close_numbers (theorems.close_refused_nothing g a h).0

  -- each refusal number and place exactly when its rule says so of a run with the values in the place of the statuses
  pub close_refused_exactly : (a : Refusal) → ((n.answer ≡ refusal_number a) × (n.place ≡ refusal_place a)) ↔ RunRefuses (setup_run (close_setup g)) a
  close_refused_exactly a = (go (close_refusal g) refl, back)
    where
      back : RunRefuses (setup_run (close_setup g)) a → (n.answer ≡ refusal_number a) × (n.place ≡ refusal_place a)
      back h = let e = refused_numbers a h in (ap (λ (m : IgbClosing). m.answer) e, ap (λ (m : IgbClosing). m.place) e)

      go : (o : Option Refusal) → close_refusal g ≡ o → (n.answer ≡ refusal_number a) × (n.place ≡ refusal_place a)
          → RunRefuses (setup_run (close_setup g)) a
      go none q e =
          let said = ap (λ (m : IgbClosing). m.answer) (accepted_numbers ((theorems.close_acceptance g).0 q)) in
          absurd (no_refusal a (closed_number (closed_set g)) (sym said ∙ e.0))
      go (some b) q e =
          let h = (theorems.close_refusals g b).0 q in
          let said = refused_numbers b h in
          let same = refusal_same b a (sym (ap (λ (m : IgbClosing). m.answer) said) ∙ e.0) (sym (ap (λ (m : IgbClosing). m.place) said) ∙ e.1) in
          rw (← same) h

  -- 0 or 20 is answered exactly if no rule refuses
  pub close_answered : Closing n.answer ↔ Accepted (setup_run (close_setup g))
  close_answered = (go (close_refusal g) refl, λ h. rw (accepted_numbers h) (closed_number (closed_set g)))
    where
      go : (o : Option Refusal) → close_refusal g ≡ o → Closing n.answer → Accepted (setup_run (close_setup g))
      go none q a = (theorems.close_acceptance g).0 q
      go (some b) q a = absurd (no_refusal b a (ap (λ (m : IgbClosing). m.answer) (refused_numbers b ((theorems.close_refusals g b).0 q))))

  -- refused, it returns zeros and writes nothing
  pub close_nothing : (a : Refusal) → RunRefuses (setup_run (close_setup g)) a → (n.rounds ≡ 0) × (n.set ≡ 0) × (after ≡ g.values)
  close_nothing a h =
      let e = refused_numbers a h in (
        ap (λ (m : IgbClosing). m.rounds) e,
        ap (λ (m : IgbClosing). m.set) e,
        w.values_are ∙ (theorems.close_refused_nothing g a h).1,
      )

  -- what stands behind the first V values stays, whatever is answered
  pub close_rest : drop g.vars after ≡ drop g.vars g.values
  close_rest = go (close_refusal g) refl
    where
      go : (o : Option Refusal) → close_refusal g ≡ o → drop g.vars after ≡ drop g.vars g.values
      go none q = ap (drop g.vars) w.values_are ∙ (theorems.close_writes g ((theorems.close_acceptance g).0 q)).2
      go (some b) q = ap (drop g.vars) (close_nothing b ((theorems.close_refusals g b).0 q)).2

  module _ (a : Closing n.answer) where
    taken : Accepted (setup_run (close_setup g))
    taken = close_answered.0 a

    number_is : n.answer ≡ close_number (close_answer (closed_set g))
    number_is = ap (λ (m : IgbClosing). m.answer) (accepted_numbers taken)

    set_is : n.set ≡ set_by (closed_set g)
    set_is = ap (λ (m : IgbClosing). m.set) (accepted_numbers taken)

    rounds_are : n.rounds ≡ close_rounds g
    rounds_are = ap (λ (m : IgbClosing). m.rounds) (accepted_numbers taken)

    values_are : take g.vars after ≡ close_values g.vars (closed_set g)
    values_are = ap (take g.vars) w.values_are ∙ (theorems.close_writes g taken).1

    -- rounds are at most V + 1, a clash too
    pub close_most : n.rounds ≤ suc g.vars
    close_most = rw rounds_are (theorems.close_rounds_most g)

  -- 20: there is no model, and V zeros are written
  pub close_no_model : n.answer ≡ 20 → NoModel g.vars F × (take g.vars after ≡ replicate g.vars 0) × (n.set ≡ 0)
  close_no_model e = go (closed_set g) refl (sym (number_is (inr e)) ∙ e)
    where
      go : (c : Closed) → closed_set g ≡ c → close_number (close_answer c) ≡ 20
          → NoModel g.vars F × (take g.vars after ≡ replicate g.vars 0) × (n.set ≡ 0)
      go clash q z = (
        theorems.close_clash g q,
        values_are (inr e) ∙ ap (close_values g.vars) q,
        set_is (inr e) ∙ ap set_by q,
      )
      go (closed ws) q z = absurd (omega (arith, z))

  module _ (e : n.answer ≡ 0) where
    -- the values that are written are the closed set
    closed_is : closed_set g ≡ closed (take g.vars after)
    closed_is = go (closed_set g) refl (sym (number_is (inl e)) ∙ e)
      where
        go : (c : Closed) → closed_set g ≡ c → close_number (close_answer c) ≡ 0 → closed_set g ≡ closed (take g.vars after)
        go clash q z = absurd (omega (arith, z))
        go (closed ws) q z = q ∙ ap closed (sym (values_are (inl e) ∙ ap (close_values g.vars) q))

    -- 0: every literal that is set is in all models of the formula that have the held literals,
    pub close_in_all : (l : ℤ) → is_true (take g.vars after) l ≡ true → (m : Values) → Model g.vars F m → is_true m l ≡ true
    close_in_all = theorems.close_in_all g (take g.vars after) closed_is

    -- these are among them,
    pub close_held : (l : ℤ) → In l g.held → is_true (take g.vars after) l ≡ true
    close_held = theorems.close_held g (take g.vars after) closed_is

    -- they are counted,
    pub close_set : n.set ≡ count is_set (take g.vars after)
    close_set = set_is (inl e) ∙ ap set_by closed_is

    -- and rounds are at most one more
    pub close_rounds_lem : n.rounds ≤ suc n.set
    close_rounds_lem = rw (rounds_are (inl e), set_is (inl e)) (theorems.close_rounds_lem g (take g.vars after) closed_is)

-- The same variables, clauses and held literals, each read as a set, are answered alike, rounds aside.
pub close_any_order : {g h : CloseGiven} {n m : IgbClosing} {b c : List ℕ} → SameSets g h → ClosesIn g n b → ClosesIn h m c
    → Closing n.answer → Closing m.answer → (n.answer ≡ m.answer) × (n.set ≡ m.set) × (take g.vars b ≡ take h.vars c)
close_any_order {g} {h} s w v x y =
    let e = theorems.close_any_order s in (
      number_is w x ∙ ap (λ (c : Closed). close_number (close_answer c)) e ∙ sym (number_is v y),
      set_is w x ∙ ap set_by e ∙ sym (set_is v y),
      values_are w x ∙ ap (close_values g.vars) e ∙ ap (λ (k : ℕ). close_values k (closed_set h)) s.vars_same ∙ sym (values_are v y),
    )
