-- The laws of specs/Records: what `put_records` leaves behind a call shows the records that rules/specs/Run defines.
--
--   Agrees, shown_from     records after a call, as a buffer shows them
--   records_model, records_none     after a model, after none
--   records_next      after a call that goes on
--   records_end       a call that ends the run changes no record
--
-- Assumes nothing.
use mathlib.Core.Path.{◌≡◌, refl, sym, ◌∙◌, ap}
use mathlib.Core.Logic.{◌≢◌, ◌⊎◌, inl, inr, ◌↔◌}
use mathlib.Core.List.Memᴰ
use mathlib.Core.List.{List, [], ◌∷◌, ◌++◌, map}
use Prim.Native.Nat.{ℕ, zero, suc, pred, ◌+◌, ◌≤◌, ◌<◌, min}
use native.Mathlib.Omega.{arith}
use native.Mathlib.Nat.{add-zero, add-suc, suc-add}
use lib.ListN.{length, get_or, length-append, get_or-eq_default}
use Rattle.rules.specs.declared.Outcome.{Outcome}
use Rattle.rules.specs.declared.RunAnswer.{RunAnswer}
use Rattle.rules.specs.declared.Way.{Way}
use Rattle.rules.specs.declared.Record.{Record}
use Rattle.rules.specs.Lists.{In}
use Rattle.rules.specs.Numbers.{way_number}
use Rattle.rules.specs.Meaning.{Values}
use Rattle.rules.specs.Search.{Call, model, no_model, stopped}
use Rattle.rules.specs.Records.{record_at, settled_if, records_from, way_if, ways_of}
use Rattle.rules.specs.Run.{Task, Row, Progress, status_at, opens, differs, filtered, force_first, forced_values, chunk_call}
use Rattle.rules.specs.Run.{model_row, row_after, after_model, after_none, Ended, ended_by, on_call, on_open}
use Rattle.rules.proofs.ListLaws.{le_or_lt, apart, get_d_default}
use Rattle.rules.proofs.RecordLaws.{KnownRecords, Changes, IsOne, IsForced, length-filtered, filtered_changes, forced_changes, in_shape}
use Rattle.rules.proofs.RecordLaws.{recorded, same_length, status_was}
use Rattle.rules.proofs.StatusLaws.{length-force_first}
use Rattle.steps.specs.Records.{is_new, new_if, new_from, way_byte, RecordsPut}
use Rattle.steps.proofs.RecordLaws.{way_now_high}
use Rattle.search.specs.Calls.{values_after}
use Rattle.calls.specs.Records.{ShowsRecords}
use Rattle.calls.proofs.CallLaws.{call_next}
use Rattle.calls.proofs.NextLaws.{suc_pred}

-- ---- a record is open exactly if its way says so

way_number_open : (w : Way) → (w ≡ Way.Open) ↔ (way_number w ≡ 0)
way_number_open Way.Open = (λ e. refl, λ e. refl)
way_number_open Way.Compare = (λ e. apart cc, λ e. absurd (omega arith))
way_number_open Way.Flip = (λ e. apart cc, λ e. absurd (omega arith))
way_number_open Way.Chunk = (λ e. apart cc, λ e. absurd (omega arith))

pub record Agrees (r : Record) : Type 0 where
  pub to_way : r.status ≡ 0 → way_number r.way ≡ 0
  pub of_way : way_number r.way ≡ 0 → r.status ≡ 0

agrees : (p : Progress) → KnownRecords p → (r : Record) → In r p.records → Agrees r
agrees p w r i =
    let x = (recorded (in_shape w.shape r i)).open_way in
    let y = way_number_open r.way in
    record { to_way = λ e. y.0 (x.0 e); of_way = λ e. x.1 (y.1 e) }

-- ---- records after a call, as a buffer shows them

module _ (f : Record → ℕ) where
  one : (s : ℕ) (new old : Record) (n : ℕ) → Agrees old → (s ≢ 0 → old.status ≡ 0 → f new ≡ n)
      → f (settled_if old.status s new old) ≡ new_if (is_new s (way_number old.way)) n (f old)
  one s new old n a h = go old.status refl s refl (way_number old.way) refl
    where
      go : (q : ℕ) → old.status ≡ q → (t : ℕ) → s ≡ t → (w : ℕ) → way_number old.way ≡ w → f (settled_if q t new old) ≡ new_if (is_new t w) n (f old)
      go zero z zero y w x = refl
      go zero z (suc t) y zero x = h (omega arith) z
      go zero z (suc t) y (suc w) x = absurd (omega (arith, a.to_way z))
      go (suc q) z zero y w x = refl
      go (suc q) z (suc t) y zero x = absurd (omega (arith, a.of_way x))
      go (suc q) z (suc t) y (suc w) x = refl

  pub shown_from : (new : ℕ → ℕ → ℕ) (j call : ℕ) (way : ℕ → Way) (ss : List ℕ) (rs : List Record) → length ss ≡ length rs
      → ((r : Record) → In r rs → Agrees r)
      → ((i : ℕ) → get_or ss i 0 ≢ 0 → (record_at rs i).status ≡ 0
      → f (record { status = get_or ss i 0; call = call; way = way (j + i) }) ≡ new (j + i) (get_or ss i 0))
      → map f (records_from j call way ss rs) ≡ new_from j new ss (ways_of rs) (map f rs)
  shown_from new j call way [] [] e a h = refl
  shown_from new j call way [] (r ∷ rs) e a h = absurd (omega arith)
  shown_from new j call way (s ∷ ss) [] e a h = absurd (omega arith)
  shown_from new j call way (s ∷ ss) (r ∷ rs) e a h =
      cc (
        one s (record { status = s; call = call; way = way j }) r (new j s) (a r (Memᴰ.head refl)) (rw add-zero at (h 0)),
        shown_from new (suc j) call way ss rs (omega arith) (λ q i. a q (Memᴰ.tail i)) (λ i. rw (suc-add, ← add-suc) (h (suc i))),
      )

-- ---- after a call

-- statuses of one kind take the records' place of the open ones: the way of that kind is what code writes
module _ (P : ℕ → Type 0) (p : Progress) (known : KnownRecords p) (ts : List ℕ) (len : length ts ≡ length p.statuses)
    (changes : Changes P p.statuses ts) (call : ℕ) (way : ℕ → Way) (m : Values)
    (same : (i s : ℕ) → P s → way_number (way i) ≡ way_byte p.first m i s) where
  shows_after : {calls ways calls-after ways-after : List ℕ} → ShowsRecords p.records calls ways
      → RecordsPut call p.first m ts calls ways calls-after ways-after
      → ShowsRecords (records_from 0 call way ts p.records) calls-after ways-after
  shows_after x y =
      record {
        calls_are =
            y.calls_are ∙
            rw (x.calls_are, x.ways_are)
            (sym (shown_from (λ (r : Record). r.call) (λ i s. call) 0 call way ts p.records lens (agrees p known) (λ i h z. refl)));
        ways_are =
            y.ways_are ∙
            rw x.ways_are
            (sym (shown_from (λ (r : Record). way_number r.way) (way_byte p.first m) 0 call way ts p.records lens (agrees p known) new));
      }
    where
      lens : length ts ≡ length p.records
      lens = len ∙ sym (same_length known)

      new : (i : ℕ) → get_or ts i 0 ≢ 0 → (record_at p.records i).status ≡ 0 → way_number (way (0 + i)) ≡ way_byte p.first m (0 + i) (get_or ts i 0)
      new i h z = go (le_or_lt (length ts) i)
        where
          at : i < length ts → get_or ts i 0 ≡ status_at ts i
          at l = get_d_default ts i 0 1 l

          by_change : i < length ts → (status_at ts i ≡ status_at p.statuses i) ⊎ ((status_at p.statuses i ≡ 0) × P (status_at ts i))
              → way_number (way (0 + i)) ≡ way_byte p.first m (0 + i) (get_or ts i 0)
          by_change l (inl e) = absurd (h (at l ∙ e ∙ sym (status_was known i (omega (arith, lens))) ∙ z))
          by_change l (inr (e, q)) = rw (at l) (same (0 + i) (status_at ts i) q)

          go : (length ts ≤ i) ⊎ (i < length ts) → way_number (way (0 + i)) ≡ way_byte p.first m (0 + i) (get_or ts i 0)
          go (inl l) = absurd (h (get_or-eq_default ts 0 l))
          go (inr l) = by_change l (changes i)

-- a model
pub records_model : (k : Task) (p : Progress) (chunk : ℕ) (m : Values) (t : ℕ) → KnownRecords p → {calls ways calls-after ways-after : List ℕ}
    → ShowsRecords p.records calls ways
    → RecordsPut (suc (length p.rows)) p.first m (filtered k p m) calls ways calls-after ways-after
    → ShowsRecords (after_model k p chunk m t).records calls-after ways-after
records_model k p chunk m t known x y =
    shows_after IsOne p known (filtered k p m) (length-filtered k p m) (filtered_changes k p m) (suc (length p.rows))
    (λ i. way_if (differs p.first m i)) m (λ i s e. rw e) x y

-- none
pub records_none : (p : Progress) (chunk t : ℕ) (m : Values) → KnownRecords p → {calls ways calls-after ways-after : List ℕ}
    → ShowsRecords p.records calls ways
    → RecordsPut (suc (length p.rows)) p.first m (force_first p.first p.statuses chunk) calls ways calls-after ways-after
    → ShowsRecords (after_none p chunk t).records calls-after ways-after
records_none p chunk t m known x y =
    shows_after IsForced p known (force_first p.first p.statuses chunk) (length-force_first p.first p.statuses chunk)
    (forced_changes p.first p.statuses chunk) (suc (length p.rows)) (λ i. Way.Chunk) m
    (λ i s h. ap way_number (sym (way_now_high s (differs p.first m i) h))) x y

-- ---- a call that goes on, whatever it ended with

snoc_length : (rows : List Row) (r : Row) → length (rows ++ (r ∷ [])) ≡ suc (length rows)
snoc_length rows r = length-append rows (r ∷ []) ∙ omega arith

pub records_next : (k : Task) (size : ℕ) (p : Progress) (next-size : ℕ) (there : Progress) → KnownRecords p → 1 ≤ opens p.statuses
    → ((next : ℕ → Progress → Ended) → on_open (opens p.statuses) k size p next ≡ next next-size there)
    → {values : Values} → values ≡ values_after (chunk_call k p (min size (opens p.statuses))) (forced_values p.statuses)
    → {calls ways calls-after ways-after : List ℕ} → ShowsRecords p.records calls ways
    → RecordsPut (length there.rows) p.first values there.statuses calls ways calls-after ways-after
    → ShowsRecords there.records calls-after ways-after
records_next k size p next-size there known some goes {values} left {calls} {ways} {calls-after} {ways-after} x =
    go (chunk_call k p (min size (suc n))) refl
  where
    n : ℕ
    n = pred (opens p.statuses)

    opens_are : opens p.statuses ≡ suc n
    opens_are = suc_pred (opens p.statuses) some

    values_are : values ≡ values_after (chunk_call k p (min size (suc n))) (forced_values p.statuses)
    values_are = rw opens_are at left

    -- what the run would end with if this call were its last
    ended : {c : Call} → chunk_call k p (min size (suc n)) ≡ c
        → on_call c k p size (min size (suc n)) (λ s q. ended_by RunAnswer.Settled q) ≡ ended_by RunAnswer.Settled there
    ended e = sym (call_next k size p opens_are e (λ s q. ended_by RunAnswer.Settled q)) ∙ goes (λ s q. ended_by RunAnswer.Settled q)

    Goal : Type 0
    Goal =
        RecordsPut (length there.rows) p.first values there.statuses calls ways calls-after ways-after
        → ShowsRecords there.records calls-after ways-after

    go : (c : Call) → chunk_call k p (min size (suc n)) ≡ c → Goal
    go (model m t) e y =
        let q = ap (λ (z : Ended). z.progress) (ended e) in
        let row = model_row k p (min size (suc n)) m t in
        let z : RecordsPut (suc (length p.rows)) p.first m (filtered k p m) calls ways calls-after ways-after =
        rw (sym q, snoc_length p.rows row, values_are, e) at y in
        rw (sym q) (records_model k p (min size (suc n)) m t known x z)
    go (no_model t) e y =
        let q = ap (λ (z : Ended). z.progress) (ended e) in
        let row = row_after p Outcome.NoModel (min size (suc n)) 0 0 t in
        let ts = force_first p.first p.statuses (min size (suc n)) in
        let z : RecordsPut (suc (length p.rows)) p.first values ts calls ways calls-after ways-after =
        rw (sym q, snoc_length p.rows row) at y in
        rw (sym q) (records_none p (min size (suc n)) t values known x z)
    go (stopped t) e y = let q = ap (λ (z : Ended). z.answer) (ended e) in apart cc

-- ---- a call that ends the run

pub records_end : (k : Task) (size : ℕ) (p : Progress) (e : Ended) → 1 ≤ opens p.statuses
    → ((next : ℕ → Progress → Ended) → on_open (opens p.statuses) k size p next ≡ e) → e.progress.records ≡ p.records
records_end k size p e some ends = go (chunk_call k p (min size (suc n))) refl
  where
    n : ℕ
    n = pred (opens p.statuses)

    -- whatever came next, the run would end so
    ended : {c : Call} → chunk_call k p (min size (suc n)) ≡ c → (a : RunAnswer)
        → on_call c k p size (min size (suc n)) (λ s q. ended_by a q) ≡ e
    ended x a = sym (call_next k size p (suc_pred (opens p.statuses) some) x (λ s q. ended_by a q)) ∙ ends (λ s q. ended_by a q)

    never_both : {c : Call} → chunk_call k p (min size (suc n)) ≡ c
        → (on_call c k p size (min size (suc n)) (λ s q. ended_by RunAnswer.Settled q)).answer ≡ RunAnswer.Settled
        → (on_call c k p size (min size (suc n)) (λ s q. ended_by RunAnswer.NoModel q)).answer ≡ RunAnswer.NoModel → e.progress.records ≡ p.records
    never_both x a b =
        let y = ap (λ (z : Ended). z.answer) (ended x RunAnswer.Settled) in
        let z = ap (λ (z : Ended). z.answer) (ended x RunAnswer.NoModel) in
        let w : RunAnswer.Settled ≡ RunAnswer.NoModel = sym a ∙ y ∙ sym z ∙ b in
        apart cc

    go : (c : Call) → chunk_call k p (min size (suc n)) ≡ c → e.progress.records ≡ p.records
    go (model m t) x = never_both x refl refl
    go (no_model t) x = never_both x refl refl
    go (stopped t) x = ap (λ (z : Ended). z.progress.records) (sym (ended x RunAnswer.Settled))
