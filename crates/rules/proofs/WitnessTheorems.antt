-- What is promised of the witness of a free variable: for every task with a chunk limit of 1 or more, however the run ends; and of what is
-- asked, refused, returned and written.
--
--   run_pair              the first model and the witness of a free variable: two models that differ on it
--   free_exactly          a variable is free by its record exactly if it is by its status
--   asked_refused, asked_not_free, asked_answered     each refusal exactly
--   refused_nothing       what is refused returns zero counts and writes nothing
--   first_written, witness_written     V literals, and the rest stays
--   literal_at_lem, length_literals        which literals they are
--   witnesses_exists, witnesses_unique     one result and two buffers satisfy the contract, and no others
--
-- Assumes nothing.
use mathlib.Core.Path.{◌≡◌, refl, sym, ◌∙◌, ap}
use mathlib.Core.Logic.{◌≢◌, ◌⊎◌, inl, inr, ◌↔◌}
use mathlib.Core.Bool.{Bool, true, false, not, ◌||◌}
use mathlib.Core.List.{List, [], ◌∷◌, ◌++◌}
use mathlib.Core.Option.{Option, none, some}
use Prim.Native.Nat.{ℕ, zero, suc, pred, ◌+◌, ◌≤◌, ◌<◌}
use native.Mathlib.Omega.{arith}
use native.Mathlib.Nat.{add-zero, add-suc, suc-add}
use lib.Dec.{eqb, ltb}
use lib.IntN.{ℤ}
use lib.ListN.{length, get_or, take, drop, replicate, length-replicate, get_or-eq_default}
use lib.Seq.{take_at, drop_at, get_or-set_same}
use borrow.Author.Tests.{eqb-true, eqb-false, le-ltb}
use Rattle.rules.specs.declared.Way.{Way}
use Rattle.rules.specs.declared.Record.{Record}
use Rattle.rules.specs.declared.Refusal.{Refusal}
use Rattle.rules.specs.declared.RunAnswer.{RunAnswer}
use Rattle.rules.specs.declared.Report.{Report}
use Rattle.rules.specs.Lists.{count, first_of}
use Rattle.rules.specs.Meaning.{Clause, Values, value_at, Model}
use Rattle.rules.specs.Models.{Witness, by_model_lem, by_flip}
use Rattle.rules.specs.Records.{open_record, record_at, by_model}
use Rattle.rules.specs.Run.{Task, Progress, status_at, differs, flipped, other_byte, literal_at, after_stop, Ended, run}
use Rattle.rules.specs.Answer.{Given, log_length, taking_rules, out_of_limits, is_short, refusal_of}
use Rattle.rules.specs.RunRefusals.{Accepted, RunRefuses, bad_limits, short_buffer, list_long, not_ended, zero_over, entry_over_vars}
use Rattle.rules.specs.RunRefusals.{many_held, bad_literal}
use Rattle.rules.specs.Trace.{Ends, first_none, first_stopped, settled, next_stopped}
use Rattle.rules.specs.Witness.{says_model, model_of_call, witness_by, witness_at, free_in, shown_by, PairAt, FreeIn, Asked, asked_task, few_literals}
use Rattle.rules.specs.Witness.{else_not_free, asked_refusal, asked_report, literals_from, first_after, witness_after, Witnesses, lent_for}
use Rattle.rules.proofs.ListLaws.{apart, le_or_lt, never, not-true, in_get_d}
use Rattle.rules.proofs.KnownLaws.{Known, first_model_is, flipped_model, other_byte_valued}
use Rattle.rules.proofs.RunTrace.{known, run_ends}
use Rattle.rules.proofs.RunTheorems.{models_first, run_statuses}
use Rattle.rules.proofs.RefusedRuns.{run_refused, run_accepted}
use Rattle.rules.proofs.RecordLaws.{RecordsAt, same_length, status_was, recorded, records_stop, known_records}
use Rattle.rules.proofs.RecordTheorems.{run_records, record_status, run_recorded}
use Rattle.rules.proofs.WitnessLaws.{FoundAt, KnownModels, models_stop, known_models}

-- ---- the pair

differs_true : (first m : Values) (i : ℕ) → differs first m i ≡ true → value_at m i ≢ value_at first i
differs_true first m i h e = go (eqb (value_at m i) (value_at first i)) refl
  where
    go : (b : Bool) → eqb (value_at m i) (value_at first i) ≡ b → ⊥
    go true x = never h (ap not x)
    go false x = eqb-false _ _ x e

differs_false : (first m : Values) (i : ℕ) → differs first m i ≡ false → value_at m i ≡ value_at first i
differs_false first m i h = go (eqb (value_at m i) (value_at first i)) refl
  where
    go : (b : Bool) → eqb (value_at m i) (value_at first i) ≡ b → value_at m i ≡ value_at first i
    go true x = eqb-true _ _ x
    go false x = absurd (never (ap not x) h)

-- where models and records are known, at a variable that a model settled
module _ (k : Task) (p : Progress) (w : Known k p.first p.models p.statuses) (i : ℕ) (in-vars : i < k.vars)
    (rest : List Values) (q : p.models ≡ p.first ∷ rest) where
  abbrev n : ℕ
  n = k.vars

  abbrev F : List Clause
  F = k.formula

  pair_of : (x : Witness n F p.first p.models i) → shown_by x ≡ witness_at p i → Model n F (witness_at p i)
      → value_at (witness_at p i) i ≢ value_at p.first i → PairAt n F p i
  pair_of x e m d =
      record { first_model = first_model_is w; witness_model = m; differ = d; rest = rest; models_are = q; witness = x; shown = e }

  pair_found : FoundAt F p.first p.rows p.models i (record_at p.records i) → (way : Way) → (record_at p.records i).way ≡ way
      → by_model way ≡ true → PairAt n F p i
  pair_found f Way.Open e h = absurd (never h refl)
  pair_found f Way.Compare e h =
      let m = model_of_call p.rows p.models (record_at p.records i).call in
      let d = differs_true p.first m i (f.by_compare e) in
      let inside = in_get_d p.models (count says_model (take (pred (record_at p.records i).call) p.rows)) [] f.within in
      let same : m ≡ witness_at p i = sym (ap (λ (y : Way). witness_by y m i) e) in
      pair_of (by_model_lem m inside d) same (rw same at (w.models_are m inside)) (rw same at d)
  pair_found f Way.Flip e h =
      let m = model_of_call p.rows p.models (record_at p.records i).call in
      let (a, b) = f.by_flip e in
      let inside = in_get_d p.models (count says_model (take (pred (record_at p.records i).call) p.rows)) [] f.within in
      let x = w.models_are m inside in
      let y = flipped_model n F m i x b in
      let at : value_at (flipped m i) i ≡ other_byte (value_at m i) = get_or-set_same m i (other_byte (value_at m i)) 1 (rw x.len in-vars) in
      let d : value_at (flipped m i) i ≢ value_at p.first i =
      λ z. (other_byte_valued (value_at m i) (x.total.valued i)).1 (sym at ∙ z ∙ sym (differs_false p.first m i a)) in
      let same : flipped m i ≡ witness_at p i = sym (ap (λ (y : Way). witness_by y m i) e) in
      pair_of (by_flip m inside y d) same (rw same at y) (rw same at d)
  pair_found f Way.Chunk e h = absurd (never h refl)

  pair_at : RecordsAt p.statuses p.records p.rows → KnownModels k p → status_at p.statuses i ≡ 1 → PairAt n F p i
  pair_at r m e =
      let free = (recorded (r.shape i)).free_way.0 (status_was r i (omega (arith, same_length r, w.len)) ∙ e) in
      pair_found (m.found i free) (record_at p.records i).way refl free

blank_status : (n i : ℕ) → i < n → status_at (replicate n 0) i ≢ 1
blank_status zero i h e = absurd (omega arith)
blank_status (suc n) zero h e = absurd (omega arith)
blank_status (suc n) (suc i) h e = blank_status n i (omega arith) e

module _ (k : Task) (limit : 1 ≤ k.limit) where
  -- the first model and the witness of a free variable: two models that differ on it
  pub run_pair : (i : ℕ) → i < k.vars → status_at (run k).progress.statuses i ≡ 1 → PairAt k.vars k.formula (run k).progress i
  run_pair i h = go (run_ends k limit)
    where
      go : {e : Ended} → Ends k e → status_at e.progress.statuses i ≡ 1 → PairAt k.vars k.formula e.progress i
      go (first_none t e) z = absurd (blank_status k.vars i h z)
      go (first_stopped t e) z = absurd (blank_status k.vars i h z)
      go (settled {p = p} r o) z =
          let (rest, q) = models_first r in pair_at k p (known r) i h rest q (known_records r) (known_models r) z
      go (next_stopped {chunk = chunk} {p = p} t r o e) z =
          let (rest, q) = models_first r in
          pair_at k (after_stop p chunk t) (known r) i h rest q (records_stop p chunk t (known_records r))
          (models_stop k p chunk t (known_records r) (known_models r)) z

  -- a variable is free by its record exactly if it is by its status
  pub free_exactly : (v : ℕ) → (free_in (run k).progress v ≡ true) ↔ FreeIn k.vars (run k).progress v
  free_exactly zero = (λ e. absurd (never e refl), λ f. absurd (omega (arith, f.some)))
  free_exactly (suc i) = (sound (le_or_lt k.vars i), complete)
    where
      p : Progress
      p = (run k).progress

      sound : (k.vars ≤ i) ⊎ (i < k.vars) → by_model (record_at (run k).progress.records i).way ≡ true → FreeIn k.vars (run k).progress (suc i)
      sound (inl h) e =
          let out : record_at (run k).progress.records i ≡ open_record =
          get_or-eq_default (run k).progress.records open_record (omega (arith, same_length (run_records k limit), (run_statuses k limit).0)) in
          absurd (never e (ap (λ (r : Record). by_model r.way) out))
      sound (inr h) e =
          record { some = omega arith; most = h; free_here = sym (record_status k limit i h) ∙ (run_recorded k limit i).free_way.1 e }

      complete : FreeIn k.vars (run k).progress (suc i) → by_model (record_at (run k).progress.records i).way ≡ true
      complete f = (run_recorded k limit i).free_way.0 (record_status k limit i f.most ∙ f.free_here)

-- ---- refusals

-- 10, 1, 11, 12, 15 and 13 are those of a run that is lent buffers as long
lent_same : (a : Asked)
    → refusal_of (lent_for a)
    ≡ first_of
    (taking_rules (out_of_limits a.vars a.limit) (few_literals a.vars (length a.first) (length a.witness)) a.entries a.vars a.held)
unfolding refusal_of
lent_same a =
    ap (λ (b : Bool). first_of (taking_rules (out_of_limits a.vars a.limit) b a.entries a.vars a.held)) short
  where
    enough : (x : ℕ) → ltb (length (replicate {A = ℕ} x 0)) x ≡ false
    enough x = le-ltb (length (replicate {A = ℕ} x 0)) x (omega (arith, length-replicate {A = ℕ} x 0))

    no_more : (b : Bool) → (b || false) ≡ b
    no_more true = refl
    no_more false = refl

    short : is_short (lent_for a) ≡ few_literals a.vars (length a.first) (length a.witness)
    short =
        rw (enough a.vars, enough (log_length a.vars), length-replicate {A = ℕ} (length a.first) 0, length-replicate {A = ℕ} (length a.witness) 0)
        (ap (λ (b : Bool). ltb (length a.first) a.vars || b) (no_more (ltb (length a.witness) a.vars)))

-- no run is refused with 14
not_of_run : {g : Given} {r : Refusal} → r ≡ Refusal.NotFree → RunRefuses g r → ⊥
not_of_run e (bad_limits h) = apart cc
not_of_run e (short_buffer w h) = apart cc
not_of_run e (list_long w h) = apart cc
not_of_run e (not_ended w s front l q z) = apart cc
not_of_run e (zero_over w s d front back q c) = apart cc
not_of_run e (entry_over_vars w front l back q k h) = apart cc
not_of_run e (many_held w h) = apart cc
not_of_run e (bad_literal w h front l back q k x) = apart cc

module _ (a : Asked) where
  abbrev p : Progress
  p = (run (asked_task a)).progress

  refusal_is : asked_refusal a ≡ else_not_free (refusal_of (lent_for a)) (free_in (run (asked_task a)).progress a.variable)
  unfolding asked_refusal
  refusal_is = rw (lent_same a)

  -- each number before 14 is given exactly when a run that is lent buffers as long gives it
  pub asked_refused : (r : Refusal) → r ≢ Refusal.NotFree → (asked_refusal a ≡ some r) ↔ RunRefuses (lent_for a) r
  asked_refused r other = (
    λ e. (run_refused (lent_for a) r).0 (sound (refusal_of (lent_for a)) (free_in p a.variable) (sym refusal_is ∙ e)),
    λ h. refusal_is ∙ ap (λ (o : Option Refusal). else_not_free o (free_in p a.variable)) ((run_refused (lent_for a) r).1 h),
  )
    where
      sound : (o : Option Refusal) (b : Bool) → else_not_free o b ≡ some r → o ≡ some r
      sound (some x) b e = e
      sound none true e = apart cc
      sound none false e = absurd (other cc)

  limit_of : Accepted (lent_for a) → 1 ≤ a.limit
  limit_of w = w.listed.lent.in_limits.limit_some

  -- nothing is refused exactly if no run would be, and the variable is free in that run
  pub asked_answered : (asked_refusal a ≡ none) ↔ (Accepted (lent_for a) × FreeIn a.vars p a.variable)
  asked_answered = (λ e. sound (refusal_of (lent_for a)) refl (free_in p a.variable) refl (sym refusal_is ∙ e), complete)
    where
      sound : (o : Option Refusal) → refusal_of (lent_for a) ≡ o → (b : Bool) → free_in (run (asked_task a)).progress a.variable ≡ b
          → else_not_free o b ≡ none → Accepted (lent_for a) × FreeIn a.vars (run (asked_task a)).progress a.variable
      sound (some x) q b f e = apart cc
      sound none q true f e =
          let w = (run_accepted (lent_for a)).0 q in (w, (free_exactly (asked_task a) (limit_of w) a.variable).0 f)
      sound none q false f e = apart cc

      complete : Accepted (lent_for a) × FreeIn a.vars (run (asked_task a)).progress a.variable → asked_refusal a ≡ none
      complete (w, f) =
          refusal_is ∙ rw ((run_accepted (lent_for a)).1 w, (free_exactly (asked_task a) (limit_of w) a.variable).1 f)

  -- 14 exactly if no run would be refused and the variable is not free in that run
  pub asked_not_free : (asked_refusal a ≡ some Refusal.NotFree) ↔ (Accepted (lent_for a) × (FreeIn a.vars p a.variable → ⊥))
  asked_not_free = (λ e. sound (refusal_of (lent_for a)) refl (free_in p a.variable) refl (sym refusal_is ∙ e), complete)
    where
      sound : (o : Option Refusal) → refusal_of (lent_for a) ≡ o → (b : Bool) → free_in (run (asked_task a)).progress a.variable ≡ b
          → else_not_free o b ≡ some Refusal.NotFree
          → Accepted (lent_for a) × (FreeIn a.vars (run (asked_task a)).progress a.variable → ⊥)
      sound (some x) q b f e = absurd (not_of_run refl ((run_refused (lent_for a) Refusal.NotFree).0 (q ∙ e)))
      sound none q true f e = apart cc
      sound none q false f e =
          let w = (run_accepted (lent_for a)).0 q in
          (w, λ y. never ((free_exactly (asked_task a) (limit_of w) a.variable).1 y) f)

      complete : Accepted (lent_for a) × (FreeIn a.vars (run (asked_task a)).progress a.variable → ⊥) → asked_refusal a ≡ some Refusal.NotFree
      complete (w, f) =
          refusal_is ∙
          rw (
            (run_accepted (lent_for a)).1 w,
            not-true (free_in (run (asked_task a)).progress a.variable) (λ e. f ((free_exactly (asked_task a) (limit_of w) a.variable).0 e)),
          )

-- ---- what is returned and written

pub refused_nothing : (a : Asked) (r : Refusal) → asked_refusal a ≡ some r
    → (asked_report a ≡ record { answer = RunAnswer.Refused r; calls = 0; tries = 0; forced = 0; free = 0 })
    × (first_after a ≡ a.first) × (witness_after a ≡ a.witness)
unfolding asked_report first_after witness_after
refused_nothing a r e = (rw e, rw e, rw e)

pub length_literals : (i : ℕ) (m : Values) → length (literals_from i m) ≡ length m
length_literals i [] = refl
length_literals i (b ∷ m) = ap suc (length_literals (suc i) m)

pub literal_at_lem : (j : ℕ) (m : Values) (i : ℕ) (d : ℤ) → i < length m → get_or (literals_from j m) i d ≡ literal_at (j + i) (value_at m i)
literal_at_lem j [] i d h = absurd (omega arith)
literal_at_lem j (b ∷ m) zero d h = rw add-zero
literal_at_lem j (b ∷ m) (suc i) d h = rw (add-suc, ← suc-add) (literal_at_lem (suc j) m i d (omega arith))

-- V literals of a model, and the rest stays
written : (vars : ℕ) (m : Values) (before : List ℤ) → length m ≡ vars
    → (take vars (literals_from 0 m ++ drop vars before) ≡ literals_from 0 m) × (drop vars (literals_from 0 m ++ drop vars before) ≡ drop vars before)
written vars m before h =
    let e = length_literals 0 m ∙ h in (take_at (literals_from 0 m) (drop vars before) vars e, drop_at (literals_from 0 m) (drop vars before) vars e)

module _ (a : Asked) (w : Accepted (lent_for a)) (f : FreeIn a.vars (run (asked_task a)).progress a.variable) where
  -- the pair that is written: two models of the formula that differ on the variable
  pub asked_pair : PairAt a.vars (asked_task a).formula (run (asked_task a)).progress (pred a.variable)
  asked_pair = run_pair (asked_task a) (limit_of a w) (pred a.variable) (omega (arith, f.some, f.most)) f.free_here

  pub first_written : (take a.vars (first_after a) ≡ literals_from 0 (run (asked_task a)).progress.first)
      × (drop a.vars (first_after a) ≡ drop a.vars a.first)
  unfolding first_after
  first_written =
      rw ((asked_answered a).1 (w, f)) (written a.vars (run (asked_task a)).progress.first a.first asked_pair.first_model.len)

  pub witness_written : (take a.vars (witness_after a) ≡ literals_from 0 (witness_at (run (asked_task a)).progress (pred a.variable)))
      × (drop a.vars (witness_after a) ≡ drop a.vars a.witness)
  unfolding witness_after
  witness_written =
      rw ((asked_answered a).1 (w, f))
      (written a.vars (witness_at (run (asked_task a)).progress (pred a.variable)) a.witness asked_pair.witness_model.len)

-- ---- the contract

pub witnesses_exists : (a : Asked) → Witnesses a (asked_report a) (first_after a) (witness_after a)
witnesses_exists a = record { result_is = refl; first_is = refl; witness_is = refl }

pub witnesses_unique : {a : Asked} {r r' : Report} {x x' y y' : List ℤ} → Witnesses a r x y → Witnesses a r' x' y'
    → (r ≡ r') × (x ≡ x') × (y ≡ y')
witnesses_unique p q =
    (p.result_is ∙ sym q.result_is, p.first_is ∙ sym q.first_is, p.witness_is ∙ sym q.witness_is)
