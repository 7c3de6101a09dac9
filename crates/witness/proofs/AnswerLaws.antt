-- The laws of specs/Answer: what the buffers of a run say of a variable, and what is answered.
--
--   free_by_out, free_by_in     a variable that is free by the ways
--   free_by_records, call_at, way_at      the ways and calls are those of the records
--   way_witness_by     the witness by the byte of the way
--   ways_length, models_put, free_known, shown_by, not_shown     what is put and answered
--   witnesses_refused, witnesses_answered     the contract
--
-- Assumes nothing.
use mathlib.Core.Path.{◌≡◌, refl, sym, ◌∙◌, ap}
use mathlib.Core.Logic.{◌⊎◌, inl, inr}
use mathlib.Core.Bool.{true, false}
use mathlib.Core.List.{List}
use Prim.Native.Nat.{ℕ, zero, suc, pred, ◌+◌, ◌-◌, ◌≤◌, ◌<◌}
use native.Mathlib.Omega.{arith}
use lib.IntN.{ℤ}
use lib.ListN.{length, get_or, length-map, get_or-map, get_or-eq_default}
use Rattle.rules.specs.declared.Way.{Way}
use Rattle.rules.specs.declared.Record.{Record}
use Rattle.rules.specs.declared.Report.{Report}
use Rattle.rules.specs.Numbers.{way_number, max_clauses, max_held}
use Rattle.rules.specs.Meaning.{Values, var_of, clauses}
use Rattle.rules.specs.Search.{Call}
use Rattle.rules.specs.Records.{open_record, record_at, calls_of, ways_of, by_model}
use Rattle.rules.specs.Run.{Task, Progress, literal_at, blank, run}
use Rattle.rules.specs.Witness.{witness_by, witness_at, model_of_call, free_in, literals_from}
use Rattle.rules.proofs.ListLaws.{le_or_lt, never}
use Rattle.rules.proofs.WitnessLaws.{run_first}
use Rattle.formula.specs.Starts.{starts_of}
use Rattle.formula.specs.Formula.{Formula}
use Rattle.search.specs.Calls.{values_after}
use Rattle.calls.specs.declared.next.Limits.{Limits}
use Rattle.calls.specs.Next.{Allowed, task}
use Rattle.backbone.specs.First.{HintsDone}
use Rattle.witness.specs.Again.{CallKnown, ModelLeft}
use Rattle.witness.proofs.AgainLaws.{calls_len}
use Rattle.witness.specs.Answer.{is_model_way, free_by, way_witness, not_free, FreeKnown, ModelsPut, Answered, shown, not_free_lem}

-- ---- the literal that is true

-- its variable
pub var_of-literal : (i b : ℕ) → var_of (literal_at i b) ≡ suc i
var_of-literal i zero = refl
var_of-literal i (suc zero) = refl
var_of-literal i (suc (suc b)) = refl

-- ---- free by the ways

pub free_by_out : (ws : List ℕ) (v : ℕ) → length ws ≤ v - 1 → free_by ws v ≡ false
free_by_out ws zero h = refl
free_by_out ws (suc i) h = ap is_model_way (get_or-eq_default ws 0 {n = i} (omega arith))

pub free_by_in : (ws : List ℕ) (v : ℕ) → free_by ws v ≡ true → (1 ≤ v) × (v - 1 < length ws)
free_by_in ws zero e = absurd (never e refl)
free_by_in ws (suc i) e = go (le_or_lt (length ws) (suc i - 1))
  where
    go : (length ws ≤ suc i - 1) ⊎ (suc i - 1 < length ws) → (1 ≤ suc i) × (suc i - 1 < length ws)
    go (inl h) = absurd (never e (free_by_out ws (suc i) h))
    go (inr h) = (omega arith, h)

way_free : (w : Way) → is_model_way (way_number w) ≡ by_model w
way_free Way.Open = refl
way_free Way.Compare = refl
way_free Way.Flip = refl
way_free Way.Chunk = refl

pub way_at : (rs : List Record) (i : ℕ) → get_or (ways_of rs) i 0 ≡ way_number (record_at rs i).way
way_at rs i = get_or-map (λ (r : Record). way_number r.way) rs i open_record

pub call_at : (rs : List Record) (i : ℕ) → get_or (calls_of rs) i 0 ≡ (record_at rs i).call
call_at rs i = get_or-map (λ (r : Record). r.call) rs i open_record

pub free_by_records : (p : Progress) (v : ℕ) → free_by (ways_of p.records) v ≡ free_in p v
free_by_records p zero = refl
free_by_records p (suc i) = ap is_model_way (way_at p.records i) ∙ way_free (record_at p.records i).way

-- ---- the witness

way_witness_by : (w : Way) (m : Values) (i : ℕ) → way_witness (way_number w) m i ≡ witness_by w m i
way_witness_by Way.Open m i = refl
way_witness_by Way.Compare m i = refl
way_witness_by Way.Flip m i = refl
way_witness_by Way.Chunk m i = refl

pub ways_length : {es : List ℤ} {limits : Limits} {v : ℕ} {model : Values} {status calls ways log : List ℕ} {values : Values} {first witness : List ℤ}
    → FreeKnown es limits v model status calls ways log values first witness → length ways ≡ length status
ways_length {es} {limits} {status = status} w =
    let p = (run (task es (length status) limits)).progress in
    ap length w.ways_are ∙ length-map p.records (λ (r : Record). way_number r.way) ∙
    sym (ap length w.call.calls_are ∙ length-map p.records (λ (r : Record). r.call)) ∙ calls_len w.call

-- what is put: the first model, and the witness by the call's model and the way
pub models_put : {es : List ℤ} {limits : Limits} {v : ℕ} {model : Values} {status calls ways log : List ℕ} {values : Values} {first witness : List ℤ}
    → FreeKnown es limits v model status calls ways log values first witness → {left : Values} {first' witness' : List ℤ}
    → first' ≡ literals_from 0 model → ModelLeft es limits (length status) (get_or calls (v - 1) 0) left
    → witness' ≡ literals_from 0 (way_witness (get_or ways (v - 1) 0) left (v - 1)) → ModelsPut es limits (length status) v first' witness'
models_put {es} {limits} {v} {model} {status} {calls} {ways} w {left} a b c =
    record { first_is = a ∙ ap (literals_from 0) w.call.first_is; witness_is = c ∙ ap (literals_from 0) same }
  where
    p : Progress
    p = (run (task es (length status) limits)).progress

    way_is : get_or ways (v - 1) 0 ≡ way_number (record_at p.records (v - 1)).way
    way_is = ap (λ (ws : List ℕ). get_or ws (v - 1) 0) w.ways_are ∙ way_at p.records (v - 1)

    call_is : get_or calls (v - 1) 0 ≡ (record_at p.records (v - 1)).call
    call_is = ap (λ (cs : List ℕ). get_or cs (v - 1) 0) w.call.calls_are ∙ call_at p.records (v - 1)

    index : v - 1 ≡ pred v
    index = omega (arith, w.some)

    left_is : left ≡ model_of_call p.rows p.models (record_at p.records (v - 1)).call
    left_is = b.model_is ∙ ap (model_of_call p.rows p.models) call_is

    same : way_witness (get_or ways (v - 1) 0) left (v - 1) ≡ witness_at p (pred v)
    same =
        ap (λ (y : ℕ). way_witness y left (v - 1)) way_is ∙ ap (λ (m : Values). way_witness (way_number (record_at p.records (v - 1)).way) m (v - 1)) left_is ∙
        way_witness_by (record_at p.records (v - 1)).way (model_of_call p.rows p.models (record_at p.records (v - 1)).call) (v - 1) ∙
        ap (witness_at p) index

-- ---- what a run left

module _ {es : List ℤ} {vars : ℕ} {limits : Limits} {report : Report} {model status calls ways hints log : List ℕ}
    (d : HintsDone es vars limits report model status calls ways hints log) (allowed : Allowed limits) where
  abbrev k : Task
  k = task es vars limits

  abbrev p : Progress
  p = (run k).progress

  pub free_is : (v : ℕ) → free_by ways v ≡ free_in p v
  free_is v = ap (λ (ws : List ℕ). free_by ws v) d.run_done.records.ways_are ∙ free_by_records p v

  module _ (v : ℕ) (free : free_by ways v ≡ true) where
    abbrev i : ℕ
    i = v - 1

    at_v : v ≡ suc i
    at_v = omega (arith, free_by_in ways v free)

    by_model_lem : by_model (record_at p.records i).way ≡ true
    by_model_lem = rw at_v at (sym (free_is v) ∙ free)

    pub first_is : model ≡ p.first
    first_is =
        let (t, e) = run_first k allowed.some i by_model_lem in
        d.run_done.first_is ∙ ap (λ (c : Call). values_after c (blank vars)) e

    pub call_known : {values : Values} → length status ≡ vars → length values ≡ vars → Formula vars es (starts_of es)
        → length (clauses es) ≤ max_clauses + max_held → CallKnown es limits model status calls log values (get_or calls (v - 1) 0)
    call_known n m f c =
        record {
          formula = rw n f;
          clauses_most = c;
          allowed = allowed;
          values_len = m ∙ sym n;
          first_is = rw n first_is;
          status_is = rw n d.run_done.done.status_is;
          calls_are = rw n d.run_done.records.calls_are;
          log_is = rw n d.run_done.done.log_is;
          index = i;
          free = rw n by_model_lem;
          call_is = rw n (ap (λ (cs : List ℕ). get_or cs i 0) d.run_done.records.calls_are ∙ call_at p.records i);
        }

    pub free_known : {values : Values} {first witness : List ℤ} → length status ≡ vars → length values ≡ vars → length first ≡ vars
        → length witness ≡ vars → length ways ≡ vars → Formula vars es (starts_of es) → length (clauses es) ≤ max_clauses + max_held
        → FreeKnown es limits v model status calls ways log values first witness
    free_known n m a b y f c =
        record {
          call = call_known n m f c;
          some = (free_by_in ways v free).0;
          within = omega (arith, (free_by_in ways v free).1);
          ways_are = rw n d.run_done.records.ways_are;
          first_len = a ∙ sym n;
          witness_len = b ∙ sym n;
        }

    pub shown_by_lem : {first witness first' witness' : List ℤ} → ModelsPut es limits vars v first' witness'
        → Answered es limits vars v first witness report first' witness'
    shown_by_lem x = rw (d.run_done.done.result_is, x.first_is, x.witness_is) (shown (sym (free_is v) ∙ free))

  pub not_shown : (v : ℕ) → free_by ways v ≡ false → {first witness : List ℤ} {r : Report} → r ≡ not_free
      → Answered es limits vars v first witness r first witness
  not_shown v free e = rw e (not_free_lem (sym (free_is v) ∙ free))
