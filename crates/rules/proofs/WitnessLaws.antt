-- The laws of specs/Witness: the model of the call that settled a free variable, and how that call can be made again.
--
--   FoundAt, ModelsAt, known_models     what is known of these models at every progress that a run reaches
--   statuses_before_more, statuses_before_all     the statuses before a call, read off the records
--   Before, call_before     the progress before a call after the first, and what the call found
--   Repeats, run_repeats    what a call has to be given in order to be made again, read off the records and the rows of a run
--   run_first               where a variable is free, the first model of the run is that of its first call; first_of_calls: and of call 1
--
-- Assumes nothing.
use mathlib.Core.Path.{◌≡◌, refl, sym, ◌∙◌, ap}
use mathlib.Core.Logic.{◌⊎◌, inl, inr}
use mathlib.Core.Bool.{Bool, true, false}
use mathlib.Core.List.Memᴰ
use mathlib.Core.List.{List, [], ◌∷◌, ◌++◌, append-nil, append_assoc}
use Prim.Native.Nat.{ℕ, zero, suc, pred, ◌+◌, ◌≤◌, ◌<◌}
use native.Mathlib.Omega.{arith}
use native.Mathlib.Nat.{zero-add}
use lib.Dec.{ltb}
use lib.ListN.{length, get_or, take, replicate, length-append, get_or-append, get_or-eq_default}
use lib.Seq.{take-append-le, take-append_seam, get_or-append_seam}
use borrow.Author.Tests.{lt-ltb, le-ltb}
use Rattle.rules.specs.declared.Outcome.{Outcome}
use Rattle.rules.specs.declared.Way.{Way}
use Rattle.rules.specs.declared.Record.{Record}
use Rattle.rules.specs.Lists.{In, count, sum_of}
use Rattle.rules.specs.Meaning.{Clause, Values}
use Rattle.rules.specs.Search.{model, call_on}
use Rattle.rules.specs.Records.{open_record, record_at, statuses_of, settled_if, records_from, way_if, by_model}
use Rattle.rules.specs.Run.{Task, Row, Progress, status_at, differs, can_flip, compared, filtered, model_row, row_after, force_first}
use Rattle.rules.specs.Run.{opens, candidates_from, constraint, forced_values, begun, after_model, after_none, after_stop, chunk_call, first_call, Ended, run}
use Rattle.rules.specs.Witness.{says_model, model_of_call, status_if_before, statuses_before}
use Rattle.rules.specs.Trace.{Reached, first_model, next_model, next_none, Takes, Ends, first_none, first_stopped, settled, next_stopped}
use Rattle.rules.proofs.ListLaws.{apart, le_or_lt, never, count_append}
use Rattle.rules.proofs.StatusLaws.{freed_at, length-force_first}
use Rattle.rules.proofs.RecordLaws.{KnownRecords, IsOne, IsForced, length-filtered, filtered_changes, forced_changes, length-records_from}
use Rattle.rules.proofs.RecordLaws.{Shape, shape_free, Cases, stays, changed, cases, new_at, shape_call, in_shape, open_records, records_begun}
use Rattle.rules.proofs.RecordLaws.{first_none_records, records_same, known_records}
use Rattle.rules.proofs.RunTrace.{run_ends, takes_some}
use Rattle.rules.proofs.LogLaws.{logged}

-- ---- the models of the calls that settled free variables

-- the model of a record's call is one of the run's, and differs at the index, or can be flipped there
pub record FoundAt (F : List Clause) (first : Values) (rows : List Row) (models : List Values) (i : ℕ) (r : Record) : Type 0 where
  pub within : count says_model (take (pred r.call) rows) < length models
  pub says : (d : Row) → says_model (get_or rows (pred r.call) d) ≡ true
  pub by_compare : r.way ≡ Way.Compare → differs first (model_of_call rows models r.call) i ≡ true
  pub by_flip : r.way ≡ Way.Flip
      → (differs first (model_of_call rows models r.call) i ≡ false) × (can_flip F (model_of_call rows models r.call) i ≡ true)

-- a row more, and models behind those that there were
module _ (rows : List Row) (models : List Values) (row : Row) (more : List Values) (n : ℕ) (h : pred n ≤ length rows) where
  rows_before : count says_model (take (pred n) (rows ++ (row ∷ []))) ≡ count says_model (take (pred n) rows)
  rows_before = ap (count says_model) (take-append-le (pred n) rows (row ∷ []) h)

  model_before : count says_model (take (pred n) rows) < length models → model_of_call (rows ++ (row ∷ [])) (models ++ more) n ≡ model_of_call rows models n
  model_before l = ap (λ (j : ℕ). get_or (models ++ more) j []) rows_before ∙ get_or-append models more [] (count says_model (take (pred n) rows)) l

found_more : {F : List Clause} {first : Values} {rows : List Row} {models : List Values} {i : ℕ} {r : Record} (row : Row) (more : List Values)
    → (1 ≤ r.call) × (r.call ≤ length rows) → FoundAt F first rows models i r → FoundAt F first (rows ++ (row ∷ [])) (models ++ more) i r
found_more {F} {first} {rows} {models} {i} {r} row more h w =
    record {
      within = omega (arith, w.within, rows_before rows models row more r.call l, length-append models more);
      says = λ d. rw (get_or-append rows (row ∷ []) d (pred r.call) (omega (arith, h.0, h.1))) (w.says d);
      by_compare = λ e. rw (model_before rows models row more r.call l w.within) (w.by_compare e);
      by_flip = λ e. rw (model_before rows models row more r.call l w.within) (w.by_flip e);
    }
  where
    l : pred r.call ≤ length rows
    l = omega (arith, h.1)

-- of every record that a model settled; and there are as many models as rows that say so
pub record ModelsAt (F : List Clause) (first : Values) (rows : List Row) (models : List Values) (rs : List Record) : Type 0 where
  pub as_many : count says_model rows ≡ length models
  pub found : (i : ℕ) → by_model (record_at rs i).way ≡ true → FoundAt F first rows models i (record_at rs i)

way_if_compare : (b : Bool) → way_if b ≡ Way.Compare → b ≡ true
way_if_compare true e = refl
way_if_compare false e = apart cc

way_if_flip : (b : Bool) → way_if b ≡ Way.Flip → b ≡ false
way_if_flip true e = apart cc
way_if_flip false e = refl

-- an open variable that is free afterwards, and whose value does not differ, can be flipped
filtered_flip : (k : Task) (p : Progress) (m : Values) (i : ℕ) → status_at p.statuses i ≡ 0 → status_at (filtered k p m) i ≡ 1
    → differs p.first m i ≡ false → can_flip k.formula m i ≡ true
filtered_flip k p m i z o d = go (freed_at 0 (can_flip k.formula m) cs i) (freed_at 0 (differs p.first m) p.statuses i)
  where
    cs : List ℕ
    cs = compared p.first m p.statuses

    go : (status_at (filtered k p m) i ≡ status_at cs i) ⊎ ((status_at cs i ≡ 0) × (status_at (filtered k p m) i ≡ 1) × (can_flip k.formula m (0 + i) ≡ true))
        → (status_at cs i ≡ status_at p.statuses i) ⊎ ((status_at p.statuses i ≡ 0) × (status_at cs i ≡ 1) × (differs p.first m (0 + i) ≡ true))
        → can_flip k.formula m i ≡ true
    go (inr (x, y, f)) b = rw zero-add at f
    go (inl a) (inl b) = absurd (omega arith)
    go (inl a) (inr (x, y, f)) = absurd (never (rw zero-add at f) d)

abbrev pub KnownModels : Task → Progress → Type 0
KnownModels k p = ModelsAt k.formula p.first p.rows p.models p.records

outside : (rs : List Record) (i : ℕ) → length rs ≤ i → by_model (record_at rs i).way ≡ false
outside rs i h = rw (get_or-eq_default rs open_record {n = i} h)

models_model : (k : Task) (p : Progress) (chunk : ℕ) (m : Values) (t : ℕ) → KnownRecords p → KnownModels k p → KnownModels k (after_model k p chunk m t)
models_model k p chunk m t w x =
    record {
      as_many =
          count_append says_model p.rows (row ∷ []) ∙ omega (arith, x.as_many, length-append p.models (m ∷ []));
      found = λ i h. go i h (le_or_lt (length p.records) i);
    }
  where
    row : Row
    row = model_row k p chunk m t

    rows' : List Row
    rows' = p.rows ++ (row ∷ [])

    models' : List Values
    models' = p.models ++ (m ∷ [])

    c : ℕ
    c = suc (length p.rows)

    way : ℕ → Way
    way i = way_if (differs p.first m i)

    after : List Record
    after = records_from 0 c way (filtered k p m) p.records

    Goal : ℕ → Record → Type 0
    Goal i r = FoundAt k.formula p.first rows' models' i r

    index : count says_model (take (length p.rows) rows') ≡ length p.models
    index = ap (count says_model) (take-append_seam p.rows (row ∷ [])) ∙ x.as_many

    this : model_of_call rows' models' c ≡ m
    this = ap (λ (j : ℕ). get_or models' j []) index ∙ get_or-append_seam p.models m [] []

    new : (i : ℕ) → status_at p.statuses i ≡ 0 → status_at (filtered k p m) i ≡ 1 → Goal i (new_at 0 c way (filtered k p m) i)
    new i z o =
        record {
          within = omega (arith, index, length-append p.models (m ∷ []));
          says = λ d. rw (get_or-append_seam p.rows row [] d);
          by_compare = λ e. rw this (way_if_compare (differs p.first m i) (rw zero-add at e));
          by_flip =
              λ e. rw this (
                way_if_flip (differs p.first m i) (rw zero-add at e),
                filtered_flip k p m i z o (way_if_flip (differs p.first m i) (rw zero-add at e)),
              );
        }

    by_cases : (i : ℕ) → by_model (record_at after i).way ≡ true
        → Cases IsOne w c way (filtered k p m) (length-filtered k p m) (filtered_changes k p m) i → Goal i (record_at after i)
    by_cases i h (stays e q) = rw e (found_more row (m ∷ []) (shape_free (w.shape i) (rw e at h)) (x.found i (rw e at h)))
    by_cases i h (changed e z q) = rw e (new i z q)

    go : (i : ℕ) → by_model (record_at after i).way ≡ true → (length p.records ≤ i) ⊎ (i < length p.records) → Goal i (record_at after i)
    go i h (inl l) = absurd (never h (outside after i (omega (arith, length-records_from 0 c way (filtered k p m) p.records))))
    go i h (inr l) = by_cases i h (cases IsOne w c way (filtered k p m) (length-filtered k p m) (filtered_changes k p m) i l)

-- a row that says no model, and the records that a chunk settled
models_row : {F : List Clause} {first : Values} {rows : List Row} {models : List Values} {rs rs' : List Record} (row : Row) → says_model row ≡ false
    → ((i : ℕ) → Shape (length rows) (record_at rs i))
    → ((i : ℕ) → by_model (record_at rs' i).way ≡ true → record_at rs' i ≡ record_at rs i)
    → ModelsAt F first rows models rs → ModelsAt F first (rows ++ (row ∷ [])) models rs'
models_row {F} {first} {rows} {models} {rs} {rs'} row z l same x =
    record {
      as_many = count_append says_model rows (row ∷ []) ∙ rw z (omega (arith, x.as_many));
      found = λ i h. rw (same i h) (rw append-nil at (found_more row [] (shape_free (l i) (rw (same i h) at h)) (x.found i (rw (same i h) at h))));
    }

models_none : (k : Task) (p : Progress) (chunk t : ℕ) → KnownRecords p → KnownModels k p → KnownModels k (after_none p chunk t)
models_none k p chunk t w x =
    models_row (row_after p Outcome.NoModel chunk 0 0 t) refl w.shape (λ i h. go i h (le_or_lt (length p.records) i)) x
  where
    c : ℕ
    c = suc (length p.rows)

    ts : List ℕ
    ts = force_first p.first p.statuses chunk

    way : ℕ → Way
    way i = Way.Chunk

    after : List Record
    after = records_from 0 c way ts p.records

    lens : length ts ≡ length p.statuses
    lens = length-force_first p.first p.statuses chunk

    by_cases : (i : ℕ) → by_model (record_at after i).way ≡ true
        → Cases IsForced w c way ts lens (forced_changes p.first p.statuses chunk) i → record_at after i ≡ record_at p.records i
    by_cases i h (stays e q) = e
    by_cases i h (changed e z q) = absurd (never h (ap (λ (r : Record). by_model r.way) e))

    go : (i : ℕ) → by_model (record_at after i).way ≡ true → (length p.records ≤ i) ⊎ (i < length p.records)
        → record_at after i ≡ record_at p.records i
    go i h (inl l) = absurd (never h (outside after i (omega (arith, length-records_from 0 c way ts p.records))))
    go i h (inr l) = by_cases i h (cases IsForced w c way ts lens (forced_changes p.first p.statuses chunk) i l)

pub models_stop : (k : Task) (p : Progress) (chunk t : ℕ) → KnownRecords p → KnownModels k p → KnownModels k (after_stop p chunk t)
models_stop k p chunk t w x = models_row (row_after p Outcome.Stopped chunk 0 0 t) refl w.shape (λ i h. refl) x

-- no record is settled yet
pub models_begun : (F : List Clause) (first : Values) (n : ℕ) → ModelsAt F first [] [] (replicate n open_record)
models_begun F first n =
    record { as_many = refl; found = λ i h. absurd (never h (ap (λ (r : Record). by_model r.way) (open_records n i))) }

pub known_models : {k : Task} {size : ℕ} {p : Progress} → Reached k size p → KnownModels k p
known_models {k} (first_model m t e) =
    models_model k (begun k m) 0 m t (records_begun k.vars) (models_begun k.formula m k.vars)
known_models {k} (next_model {chunk = chunk} {p = p} m t r o e) = models_model k p chunk m t (known_records r) (known_models r)
known_models {k} (next_none {chunk = chunk} {p = p} t r o e d) = models_none k p chunk t (known_records r) (known_models r)

-- ---- the statuses before a call, read off the records

before_one : (n call s q : ℕ) (way : Way) (r : Record) → n ≤ call → r.status ≡ q
    → status_if_before (ltb (settled_if q s (record { status = s; call = call; way = way }) r).call n)
    (settled_if q s (record { status = s; call = call; way = way }) r).status
    ≡ status_if_before (ltb r.call n) r.status
before_one n call zero zero way r h e = refl
before_one n call (suc s) zero way r h e = rw (le-ltb call n h, e) (sym (none (ltb r.call n)))
  where
    none : (b : Bool) → status_if_before b 0 ≡ 0
    none true = refl
    none false = refl
before_one n call s (suc q) way r h e = refl

-- what a later call settles was open before
pub statuses_before_more : (n j call : ℕ) (way : ℕ → Way) (ss : List ℕ) (rs : List Record) → n ≤ call
    → statuses_before n (records_from j call way ss rs) ≡ statuses_before n rs
statuses_before_more n j call way ss [] h = refl
statuses_before_more n j call way [] (r ∷ rs) h = refl
statuses_before_more n j call way (s ∷ ss) (r ∷ rs) h =
    cc (before_one n call s r.status (way j) r h refl, statuses_before_more n (suc j) call way ss rs h)

-- before a call that is still to come the statuses are those that there are
pub statuses_before_all : (n : ℕ) (rs : List Record) → ((r : Record) → In r rs → r.call < n) → statuses_before n rs ≡ statuses_of rs
statuses_before_all n [] h = refl
statuses_before_all n (r ∷ rs) h =
    cc (one (lt-ltb r.call n (h r (Memᴰ.head refl))), statuses_before_all n rs (λ q i. h q (Memᴰ.tail i)))
  where
    one : ltb r.call n ≡ true → status_if_before (ltb r.call n) r.status ≡ r.status
    one e = rw e

-- ---- the progress before call n, and the call

pub record Before (k : Task) (p : Progress) (n : ℕ) : Type 0 where
  pub size : ℕ
  pub chunk : ℕ
  pub then : Progress
  pub row : Row
  pub rows_behind : List Row
  pub models_behind : List Values
  pub reached : Reached k size then
  pub takes : Takes size then chunk
  pub number : suc (length then.rows) ≡ n
  pub rows_are : p.rows ≡ then.rows ++ row ∷ rows_behind
  pub first_same : then.first ≡ p.first
  pub statuses_are : then.statuses ≡ statuses_before n p.records
  pub chunk_is : row.chunk ≡ chunk
  pub models_are : p.models ≡ then.models ++ models_behind
  pub model_is : says_model row ≡ true → (m : Values) × (t : ℕ) × (rest : List Values) × (chunk_call k then chunk ≡ model m t) × (models_behind ≡ m ∷ rest)

-- the call that has just been made
here : (k : Task) {size : ℕ} (p : Progress) (chunk : ℕ) (row : Row) (way : ℕ → Way) (ts : List ℕ) (models : List Values) → Reached k size p → Takes size p chunk
    → row.chunk ≡ chunk
    → (says_model row ≡ true → (m : Values) × (t : ℕ) × (rest : List Values) × (chunk_call k p chunk ≡ model m t) × (models ≡ m ∷ rest))
    → (q : Progress) → q.first ≡ p.first → q.rows ≡ p.rows ++ (row ∷ []) → q.models ≡ p.models ++ models
    → q.records ≡ records_from 0 (suc (length p.rows)) way ts p.records → Before k q (suc (length p.rows))
here k {size} p chunk row way ts models r o e f q a b c d =
    record {
      size = size;
      chunk = chunk;
      then = p;
      row = row;
      rows_behind = [];
      models_behind = models;
      reached = r;
      takes = o;
      number = refl;
      rows_are = b;
      first_same = sym a;
      statuses_are =
          sym (known_records r).same ∙
          sym (ap (statuses_before n) d ∙ statuses_before_more n 0 n way ts p.records (omega arith) ∙ statuses_before_all n p.records settled);
      chunk_is = e;
      models_are = c;
      model_is = f;
    }
  where
    n : ℕ
    n = suc (length p.rows)

    settled : (x : Record) → In x p.records → x.call < n
    settled x i = omega (arith, shape_call (in_shape (known_records r).shape x i))

-- and one before it
there : {k : Task} {p : Progress} {n : ℕ} (row : Row) (call : ℕ) (way : ℕ → Way) (ts : List ℕ) (models : List Values) → Before k p n → n ≤ call
    → (q : Progress) → q.first ≡ p.first → q.rows ≡ p.rows ++ (row ∷ []) → q.models ≡ p.models ++ models
    → q.records ≡ records_from 0 call way ts p.records → Before k q n
there {k} {p} {n} row call way ts models w l q a b c d =
    record {
      size = w.size;
      chunk = w.chunk;
      then = w.then;
      row = w.row;
      rows_behind = w.rows_behind ++ (row ∷ []);
      models_behind = w.models_behind ++ models;
      reached = w.reached;
      takes = w.takes;
      number = w.number;
      rows_are = b ∙ ap (λ (rs : List Row). rs ++ (row ∷ [])) w.rows_are ∙ append_assoc w.then.rows (w.row ∷ w.rows_behind) (row ∷ []);
      first_same = w.first_same ∙ sym a;
      statuses_are = w.statuses_are ∙ sym (ap (statuses_before n) d ∙ statuses_before_more n 0 call way ts p.records l);
      chunk_is = w.chunk_is;
      models_are = c ∙ ap (λ (ms : List Values). ms ++ models) w.models_are ∙ append_assoc w.then.models w.models_behind models;
      model_is =
          λ s. let (m, t, rest, e, f) = w.model_is s in (m, t, rest ++ models, e, ap (λ (ms : List Values). ms ++ models) f);
    }

pub call_before : {k : Task} {size : ℕ} {p : Progress} (n : ℕ) → 2 ≤ n → n ≤ length p.rows → Reached k size p → Before k p n
call_before {k} n h l (first_model m t e) = absurd (omega arith)
call_before {k} n h l (next_model {size = size} {chunk = chunk} {p = p} m t r o e) = go (le_or_lt n (length p.rows)) (λ g. call_before n h g r)
  where
    row : Row
    row = model_row k p chunk m t

    way : ℕ → Way
    way i = way_if (differs p.first m i)

    go : (n ≤ length p.rows) ⊎ (length p.rows < n) → (n ≤ length p.rows → Before k p n) → Before k (after_model k p chunk m t) n
    go (inl g) ih = there row (suc (length p.rows)) way (filtered k p m) (m ∷ []) (ih g) (omega arith) (after_model k p chunk m t) refl refl refl refl
    go (inr g) ih =
        let same : n ≡ suc (length p.rows) = omega (arith, length-append p.rows (row ∷ [])) in
        rw same (here k p chunk row way (filtered k p m) (m ∷ []) r o refl (λ s. (m, t, [], e, refl)) (after_model k p chunk m t) refl refl refl refl)
call_before {k} n h l (next_none {size = size} {chunk = chunk} {p = p} t r o e d) = go (le_or_lt n (length p.rows)) (λ g. call_before n h g r)
  where
    row : Row
    row = row_after p Outcome.NoModel chunk 0 0 t

    ts : List ℕ
    ts = force_first p.first p.statuses chunk

    go : (n ≤ length p.rows) ⊎ (length p.rows < n) → (n ≤ length p.rows → Before k p n) → Before k (after_none p chunk t) n
    go (inl g) ih =
        there row (suc (length p.rows)) (λ i. Way.Chunk) ts [] (ih g) (omega arith) (after_none p chunk t) refl refl (sym (append-nil p.models)) refl
    go (inr g) ih =
        let same : n ≡ suc (length p.rows) = omega (arith, length-append p.rows (row ∷ [])) in
        rw same
        (here k p chunk row (λ i. Way.Chunk) ts [] r o refl (λ s. absurd (never s refl)) (after_none p chunk t) refl refl (sym (append-nil p.models)) refl)

-- the model of call 1 is the first one
pub first_of_calls : (rows : List Row) {models rest : List Values} {first : Values} → models ≡ first ∷ rest → model_of_call rows models 1 ≡ first
first_of_calls rows e = rw e

-- ---- a call made again

-- read off records and rows: the statuses before the call, its chunk, and the tries of the calls before it
pub record Repeats (k : Task) (p : Progress) (n : ℕ) : Type 0 where
  pub front : List Row
  pub row : Row
  pub back : List Row
  pub rows_are : p.rows ≡ front ++ row ∷ back
  pub number : suc (length front) ≡ n
  pub chunk_most : row.chunk ≤ opens (statuses_before n p.records)
  pub spent : ℕ
  pub call_is :
      call_on k.budget (k.formula ++ constraint (take row.chunk (candidates_from 0 p.first (statuses_before n p.records))) ∷ [])
      (forced_values (statuses_before n p.records)) (sum_of (λ (r : Row). r.tries) front)
      ≡ model (model_of_call p.rows p.models n) spent

module _ {k : Task} (limit : 1 ≤ k.limit) {p : Progress} {n : ℕ} (w : Before k p n) where
  found_there : {m : Values} {rest : List Values} → w.models_behind ≡ m ∷ rest → model_of_call p.rows p.models n ≡ m
  found_there {m} {rest} e =
      rw (w.rows_are, w.models_are, e, sym w.number)
      (ap (λ (j : ℕ). get_or (w.then.models ++ m ∷ rest) j [])
      (ap (count says_model) (take-append_seam w.then.rows (w.row ∷ w.rows_behind)) ∙ (known_models w.reached).as_many) ∙
      get_or-append_seam w.then.models m rest [])

  repeats : says_model w.row ≡ true → Repeats k p n
  unfolding chunk_call
  repeats s =
      let (m, t, rest, e, f) = w.model_is s in
      record {
        front = w.then.rows;
        row = w.row;
        back = w.rows_behind;
        rows_are = w.rows_are;
        number = w.number;
        chunk_most = rw (sym w.statuses_are, w.chunk_is) (takes_some limit w.reached w.takes).1;
        spent = t;
        call_is =
            rw (found_there f, sym w.statuses_are, sym w.first_same, w.chunk_is, (logged limit w.reached).tries_sum) e;
      }

  -- where the record of a variable says that this call freed it
  repeats_of : {F : List Clause} {first : Values} {i : ℕ} {r : Record} → r.call ≡ n → FoundAt F first p.rows p.models i r → Repeats k p n
  repeats_of e f =
      repeats (rw (e, w.rows_are, sym w.number, get_or-append_seam w.then.rows w.row w.rows_behind w.row) at (f.says w.row))

module _ (k : Task) (limit : 1 ≤ k.limit) (i : ℕ) where
  pub run_repeats : by_model (record_at (run k).progress.records i).way ≡ true → 2 ≤ (record_at (run k).progress.records i).call
      → Repeats k (run k).progress (record_at (run k).progress.records i).call
  run_repeats = go (run_ends k limit)
    where
      none : (n : ℕ) → by_model (record_at (replicate n open_record) i).way ≡ false
      none n = ap (λ (r : Record). by_model r.way) (open_records n i)

      go : {e : Ended} → Ends k e → by_model (record_at e.progress.records i).way ≡ true → 2 ≤ (record_at e.progress.records i).call
          → Repeats k e.progress (record_at e.progress.records i).call
      go (first_none t e) h l = absurd (never h (rw (first_none_records k t) (none k.vars)))
      go (first_stopped t e) h l = absurd (never h (none k.vars))
      go (settled {p = p} r o) h l =
          repeats_of limit (call_before (record_at p.records i).call l (shape_free ((known_records r).shape i) h).1 r) refl ((known_models r).found i h)
      go (next_stopped {chunk = chunk} {p = p} t r o e) h l =
          let w = known_records r in
          let n = (record_at p.records i).call in
          let q = after_stop p chunk t in
          let row = row_after p Outcome.Stopped chunk 0 0 t in
          let b = call_before n l (shape_free (w.shape i) h).1 r in
          let later = there row n (λ j. Way.Chunk) (statuses_of p.records) [] b (omega arith) q refl refl (sym (append-nil p.models))
          (sym (records_same n 0 (λ j. Way.Chunk) p.records)) in
          repeats_of limit later refl ((models_stop k p chunk t w (known_models r)).found i h)

  -- where a variable is free the first call found a model, and that is the run's first one
  pub run_first : by_model (record_at (run k).progress.records i).way ≡ true → (t : ℕ) × (first_call k ≡ model (run k).progress.first t)
  run_first = go (run_ends k limit)
    where
      reached_first : {size : ℕ} {p : Progress} → Reached k size p → (t : ℕ) × (first_call k ≡ model p.first t)
      reached_first (first_model m t e) = (t, e)
      reached_first (next_model m t r o e) = reached_first r
      reached_first (next_none t r o e d) = reached_first r

      none : (n : ℕ) → by_model (record_at (replicate n open_record) i).way ≡ false
      none n = ap (λ (r : Record). by_model r.way) (open_records n i)

      go : {e : Ended} → Ends k e → by_model (record_at e.progress.records i).way ≡ true → (t : ℕ) × (first_call k ≡ model e.progress.first t)
      go (first_none t e) h = absurd (never h (rw (first_none_records k t) (none k.vars)))
      go (first_stopped t e) h = absurd (never h (none k.vars))
      go (settled r o) h = reached_first r
      go (next_stopped t r o e) h = reached_first r
