-- The laws of specs/Again: what is read off the records and the log of a run is what a call has to be given in order to be made again.
--
--   kept_before_records     the statuses before a call, by the records
--   Keeping, keeping_step, keeping_done     the loop of `keep_before`
--   copied_values          a copy of the first model
--   tries_more, tries_in_mono     one row more; fewer rows, no more tries
--   column                 a number of a row in the log
--   tries_in_rows           the tries of the first rows
--   calls_len, first_len, call_first     call 1 left the first model
--   again, again_at, again_chunk, tries_over, again_over, again_model     another call is made again, and what it leaves
--
-- Assumes nothing.
use mathlib.Core.Path.{◌≡◌, refl, sym, ◌∙◌, ap}
use mathlib.Core.Logic.{◌⊎◌, inl, inr}
use mathlib.Core.List.{List, [], ◌∷◌, ◌++◌, map}
use Prim.Native.Nat.{ℕ, zero, suc, ◌+◌, ◌-◌, ◌*◌, ◌≤◌, ◌<◌}
use native.Mathlib.Omega.{arith}
use native.Mathlib.Numerals.{add-one}
use lib.Dec.{ltb}
use lib.IntN.{ℤ}
use lib.ListN.{length, get_or, set, take, drop, replicate, length-set, length-map, length-append}
use lib.Seq.{take-suc, split_at, length-take-le, take-append_seam}
use Rattle.rules.specs.declared.Outcome.{Outcome}
use Rattle.rules.specs.declared.Record.{Record}
use Rattle.rules.specs.Lists.{joined, sum_of}
use Rattle.rules.specs.Meaning.{Values, clauses}
use Rattle.rules.specs.Records.{statuses_of, calls_of}
use Rattle.rules.specs.Search.{Call}
use Rattle.rules.specs.Run.{Task, Row, Progress, forced_values, run}
use Rattle.rules.specs.Answer.{row_numbers, log_length, log_of_rows}
use Rattle.rules.specs.Witness.{status_if_before, statuses_before, FreeIn, PairAt}
use Rattle.rules.proofs.ListLaws.{le_or_lt, sum_of_append}
use Rattle.rules.proofs.RecordLaws.{shape_free}
use Rattle.rules.proofs.RecordTheorems.{run_records, record_statuses}
use Rattle.rules.proofs.CallTheorems.{run_log, run_tries}
use Rattle.rules.proofs.WitnessLaws.{Repeats, run_repeats, first_of_calls}
use Rattle.rules.proofs.WitnessTheorems.{run_pair, free_exactly}
use Rattle.buffers.proofs.FillLaws.{part, get_d_part, part_done, copied_more}
use Rattle.search.specs.Calls.{values_after}
use Rattle.calls.specs.declared.next.Limits.{Limits}
use Rattle.calls.specs.Next.{task, chunk_on}
use Rattle.calls.proofs.AfterLaws.{length-log_of_rows}
use Rattle.backbone.proofs.FirstLaws.{copied_whole}
use Rattle.witness.specs.Again.{kept_before, tries_in, TriesOver, AgainOver, CalledAgain, CallKnown, ModelLeft}

-- ---- the statuses before a call

pub kept_before_records : (n : ℕ) (rs : List Record) → kept_before n (statuses_of rs) (calls_of rs) ≡ statuses_before n rs
kept_before_records n [] = refl
kept_before_records n (r ∷ rs) = ap (λ (ss : List ℕ). status_if_before (ltb r.call n) r.status ∷ ss) (kept_before_records n rs)

pub length-kept_before : (n : ℕ) (ss cs : List ℕ) → length (kept_before n ss cs) ≡ length ss
length-kept_before n [] cs = refl
length-kept_before n (s ∷ ss) [] = refl
length-kept_before n (s ∷ ss) (c ∷ cs) = ap suc (length-kept_before n ss cs)

kept_before_at : (n : ℕ) (ss cs : List ℕ) (i : ℕ) → length cs ≡ length ss → i < length ss
    → get_or (kept_before n ss cs) i 0 ≡ status_if_before (ltb (get_or cs i 0) n) (get_or ss i 0)
kept_before_at n [] cs i e h = absurd (omega arith)
kept_before_at n (s ∷ ss) [] i e h = absurd (omega arith)
kept_before_at n (s ∷ ss) (c ∷ cs) zero e h = refl
kept_before_at n (s ∷ ss) (c ∷ cs) (suc i) e h = kept_before_at n ss cs i (omega arith) (omega arith)

-- the first i statuses are those before the call, the others as they were
pub record Keeping (n : ℕ) (calls before : List ℕ) (i : ℕ) (now : List ℕ) : Type 0 where
  pub within : i ≤ length now
  pub len : length now ≡ length before
  pub now_is : now ≡ part (kept_before n before calls) before i

pub keeping_step : {n : ℕ} {calls before : List ℕ} {i : ℕ} {now : List ℕ} {byte : ℕ} → length calls ≡ length before → Keeping n calls before i now
    → i < length now → byte ≡ status_if_before (ltb (get_or calls i 0) n) (get_or now i 0) → Keeping n calls before (i + 1) (set now i byte)
keeping_step {n} {calls} {before} {i} {now} {byte} e w h b =
    record {
      within = omega (arith, length-set now i byte);
      len = length-set now i byte ∙ w.len;
      now_is =
          ap (set now i) (b ∙ ap (status_if_before (ltb (get_or calls i 0) n)) same ∙ sym (kept_before_at n before calls i e inside)) ∙
          ap (λ (xs : List ℕ). set xs i (get_or target i 0)) w.now_is ∙ copied_more target before i (omega (arith, length-kept_before n before calls)) inside;
    }
  where
    target : List ℕ
    target = kept_before n before calls

    inside : i < length before
    inside = omega (arith, w.len)

    same : get_or now i 0 ≡ get_or before i 0
    same = ap (λ (xs : List ℕ). get_or xs i 0) w.now_is ∙ get_d_part target before i (omega (arith, length-kept_before n before calls)) inside

pub keeping_done : {n : ℕ} {calls before : List ℕ} {i : ℕ} {now : List ℕ} → Keeping n calls before i now → length now ≤ i → now ≡ kept_before n before calls
keeping_done {n} {calls} {before} {i} w h =
    w.now_is ∙ part_done (kept_before n before calls) before i (length-kept_before n before calls) (omega (arith, w.len))

-- all of one list put over another of its length
pub copied_values : (xs ys : List ℕ) {zs : List ℕ} → length xs ≡ length ys → zs ≡ take (length ys) xs ++ drop (length ys) ys → zs ≡ xs
copied_values xs ys e f = copied_whole xs ys (sym e) (rw (sym e) at f)

-- ---- the log

pub tries_more : (log : List ℕ) (i : ℕ) {sum : ℕ} → sum ≡ tries_in log i → sum + get_or log (6 * i + 5) 0 ≡ tries_in log (i + 1)
tries_more log i e = rw (add-one i, e)

pub tries_in_mono : (log : List ℕ) (n m : ℕ) → n ≤ m → tries_in log n ≤ tries_in log m
tries_in_mono log n zero h = let e : n ≡ 0 = omega arith in rw e (omega arith)
tries_in_mono log n (suc m) h = go (le_or_lt n m) (λ l. tries_in_mono log n m l)
  where
    go : (n ≤ m) ⊎ (m < n) → (n ≤ m → tries_in log n ≤ tries_in log m) → tries_in log n ≤ tries_in log (suc m)
    go (inl l) ih = omega (arith, ih l)
    go (inr l) ih = let e : n ≡ suc m = omega arith in rw e (omega arith)

-- a number of a row
row_at : (row : Row) (rest : List ℕ) (j : ℕ) → j < 6 → get_or (row_numbers row ++ rest) j 0 ≡ get_or (row_numbers row) j 0
row_at row rest zero h = refl
row_at row rest (suc zero) h = refl
row_at row rest (suc (suc zero)) h = refl
row_at row rest (suc (suc (suc zero))) h = refl
row_at row rest (suc (suc (suc (suc zero)))) h = refl
row_at row rest (suc (suc (suc (suc (suc zero))))) h = refl
row_at row rest (suc (suc (suc (suc (suc (suc j)))))) h = absurd (omega arith)

column_in : (front : List Row) (row : Row) (back : List Row) (zs : List ℕ) (j : ℕ) → j < 6
    → get_or (joined (map row_numbers (front ++ row ∷ back)) ++ zs) (6 * length front + j) 0 ≡ get_or (row_numbers row) j 0
column_in [] row back zs j h =
    let e : 6 * 0 + j ≡ j = omega arith in
    rw e (row_at row (joined (map row_numbers back) ++ zs) j h)
column_in (f ∷ front) row back zs j h =
    let e : 6 * suc (length front) + j ≡ suc (suc (suc (suc (suc (suc (6 * length front + j)))))) = omega arith in
    rw e (column_in front row back zs j h)

pub column : (vars : ℕ) (front : List Row) (row : Row) (back : List Row) (j : ℕ) → j < 6
    → get_or (log_of_rows vars (front ++ row ∷ back)) (6 * length front + j) 0 ≡ get_or (row_numbers row) j 0
column vars front row back j h =
    column_in front row back (replicate (log_length vars - 6 * length (front ++ row ∷ back)) 0) j h

no_row : Row
no_row = record { call = 0; outcome = Outcome.Stopped; chunk = 0; by_compare = 0; by_flip = 0; tries = 0 }

pub tries_in_rows : (vars : ℕ) (rows : List Row) (n : ℕ) → n ≤ length rows → tries_in (log_of_rows vars rows) n ≡ sum_of (λ (r : Row). r.tries) (take n rows)
tries_in_rows vars rows zero h = refl
tries_in_rows vars rows (suc n) h =
    omega (
      arith,
      tries_in_rows vars rows n (omega arith),
      at,
      ap (sum_of (λ (r : Row). r.tries)) (take-suc rows n no_row h) ∙ sum_of_append (λ (r : Row). r.tries) (take n rows) (get_or rows n no_row ∷ []),
    )
  where
    at : get_or (log_of_rows vars rows) (6 * n + 5) 0 ≡ (get_or rows n no_row).tries
    at =
        ap (λ (rs : List Row). get_or (log_of_rows vars rs) (6 * n + 5) 0) (split_at rows n no_row h) ∙
        ap (λ (m : ℕ). get_or (log_of_rows vars (take n rows ++ get_or rows n no_row ∷ drop (suc n) rows)) (6 * m + 5) 0)
        (sym (length-take-le n rows (omega arith))) ∙
        column vars (take n rows) (get_or rows n no_row) (drop (suc n) rows) 5 (omega arith)

-- ---- the call that is made again

-- a call by equal parts
same_call : (es : List ℤ) (budget : ℕ) {first first' : Values} {kept kept' : List ℕ} {chunk chunk' spent spent' : ℕ}
    → first ≡ first' → kept ≡ kept' → chunk ≡ chunk' → spent ≡ spent'
    → values_after (chunk_on es first kept chunk (record { budget = budget; spent = spent })) (forced_values kept)
    ≡ values_after (chunk_on es first' kept' chunk' (record { budget = budget; spent = spent' })) (forced_values kept')
same_call es budget a b c d = rw (a, b, c, d)

sum_le : (xs ys : List Row) → sum_of (λ (r : Row). r.tries) xs ≤ sum_of (λ (r : Row). r.tries) (xs ++ ys)
sum_le xs ys = omega (arith, sum_of_append (λ (r : Row). r.tries) xs ys)

module _ {es : List ℤ} {limits : Limits} {first : Values} {status calls log : List ℕ} {values : Values} {call : ℕ}
    (w : CallKnown es limits first status calls log values call) where
  abbrev k : Task
  k = task es (length status) limits

  abbrev p : Progress
  p = (run k).progress

  limit : 1 ≤ k.limit
  limit = w.allowed.some

  -- the statuses before the call
  pub statuses_before_lem : {kept : List ℕ} → kept ≡ kept_before call status calls → kept ≡ statuses_before call p.records
  statuses_before_lem e =
      e ∙ ap (λ (ss : List ℕ). kept_before call ss calls) (w.status_is ∙ sym (record_statuses k limit)) ∙
      ap (kept_before call (statuses_of p.records)) w.calls_are ∙ kept_before_records call p.records

  pub calls_len : length calls ≡ length status
  calls_len =
      ap length w.calls_are ∙ length-map p.records (λ (r : Record). r.call) ∙
      sym (length-map p.records (λ (r : Record). r.status)) ∙ ap length (record_statuses k limit) ∙ sym (ap length w.status_is)

  pub first_len : length first ≡ length status
  first_len = ap length w.first_is ∙ run_pair_at.first_model.len
    where
      free : FreeIn (length status) p (suc w.index)
      free = (free_exactly k limit (suc w.index)).0 w.free

      run_pair_at : PairAt (length status) (clauses es) p w.index
      run_pair_at = run_pair k limit w.index free.most free.free_here

  -- call 1 left the first model
  pub call_first : call < 2 → {after : Values} → after ≡ first → ModelLeft es limits (length status) call after
  call_first h e = record { model_is = e ∙ w.first_is ∙ sym (rw one (first_of_calls p.rows run_pair_at.models_are)) }
    where
      free : FreeIn (length status) p (suc w.index)
      free = (free_exactly k limit (suc w.index)).0 w.free

      run_pair_at : PairAt (length status) (clauses es) p w.index
      run_pair_at = run_pair k limit w.index free.most free.free_here

      one : call ≡ 1
      one = omega (arith, w.call_is, (shape_free ((run_records k limit).shape w.index) w.free).0)

  module _ (later : 2 ≤ call) where
    pub again : Repeats k p call
    again = rw w.call_is (run_repeats k limit w.index w.free (rw w.call_is at later))

    rows_fit : 6 * call ≤ length log
    rows_fit =
        omega (
          arith,
          ap length w.log_is,
          length-log_of_rows (length status) p.rows,
          again.number,
          ap length again.rows_are,
          length-append again.front (again.row ∷ again.back),
        )

    before_is : call - 1 ≡ length again.front
    before_is = omega (arith, again.number)

    pub again_at : 6 * (call - 1) + 2 < length log
    again_at = omega (arith, rows_fit)

    pub again_chunk : get_or log (6 * (call - 1) + 2) 0 ≡ again.row.chunk
    again_chunk =
        ap (λ (l : List ℕ). get_or l (6 * (call - 1) + 2) 0) (w.log_is ∙ ap (log_of_rows (length status)) again.rows_are) ∙
        ap (λ (n : ℕ). get_or (log_of_rows (length status) (again.front ++ again.row ∷ again.back)) (6 * n + 2) 0) before_is ∙
        column (length status) again.front again.row again.back 2 (omega arith)

    pub again_tries : tries_in log (call - 1) ≡ sum_of (λ (r : Row). r.tries) again.front
    again_tries =
        ap (λ (l : List ℕ). tries_in l (call - 1)) (w.log_is ∙ ap (log_of_rows (length status)) again.rows_are) ∙
        ap (tries_in (log_of_rows (length status) (again.front ++ again.row ∷ again.back))) before_is ∙
        tries_in_rows (length status) (again.front ++ again.row ∷ again.back) (length again.front)
        (omega (arith, length-append again.front (again.row ∷ again.back))) ∙
        ap (sum_of (λ (r : Row). r.tries)) (take-append_seam again.front (again.row ∷ again.back))

    pub tries_over : limits.budget < 4294967296 → TriesOver log (call - 1)
    tries_over h =
        record {
          within = omega (arith, rows_fit);
          fits =
              omega (
                arith,
                again_tries,
                sum_le again.front (again.row ∷ again.back),
                ap (sum_of (λ (r : Row). r.tries)) again.rows_are,
                (run_log k limit).tries_sum,
                run_tries k limit,
              );
        }

    pub again_over : {kept : List ℕ} {chunk : ℕ} → kept ≡ kept_before call status calls → chunk ≡ get_or log (6 * (call - 1) + 2) 0
        → AgainOver es first kept values chunk
    again_over {kept} {chunk} e c =
        let len = ap length e ∙ length-kept_before call status calls in
        record {
          formula = rw w.values_len w.formula;
          clauses_most = w.clauses_most;
          first_len = first_len ∙ sym w.values_len;
          status_len = len ∙ sym w.values_len;
          chunk_most = rw (c ∙ again_chunk, statuses_before_lem e) again.chunk_most;
        }

    pub again_model : {kept : List ℕ} {chunk spent : ℕ} {after : Values} → kept ≡ kept_before call status calls
        → chunk ≡ get_or log (6 * (call - 1) + 2) 0 → spent ≡ tries_in log (call - 1)
        → CalledAgain es first kept chunk (record { budget = limits.budget; spent = spent }) after → ModelLeft es limits (length status) call after
    again_model {kept} {chunk} {spent} {after} e c t x =
        let kept_is = statuses_before_lem e in
        record {
          model_is =
              x.values_are ∙ same_call es limits.budget w.first_is kept_is (c ∙ again_chunk) (t ∙ again_tries) ∙
              ap (λ (d : Call). values_after d (forced_values (statuses_before call p.records))) again.call_is;
        }
