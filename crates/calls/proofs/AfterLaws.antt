-- The laws of specs/After: one row more, and what each end of a call leaves shows the progress that rules/specs/Run defines.
--
--   log_of_rows_put     a row put behind the others is the log with that row
--   length-log_of_rows  its length
--   rows_room         where there is room for a row, it is one of V + 1
--   shows_model, shows_none     after a model, after none
--   shows-row         one row more, and no status changed
--   ends_shown        a run that has ended where the tally and the buffers show it
--   ends_row          after a row that ends the run
--
-- Assumes nothing.
use mathlib.Core.Path.{◌≡◌, refl, sym, ◌∙◌, ap}
use mathlib.Core.List.{List, [], ◌∷◌, ◌++◌, map, append_assoc}
use Prim.Native.Nat.{ℕ, zero, suc, ◌+◌, ◌-◌, ◌*◌, ◌≤◌}
use native.Mathlib.Omega.{arith}
use lib.ListN.{length, drop, replicate, length-append, length-replicate}
use lib.Seq.{sets, sets-eq, take_at, drop-append-add}
use Rattle.rules.specs.declared.Outcome.{Outcome}
use Rattle.rules.specs.declared.Report.{Report}
use Rattle.rules.specs.Lists.{joined}
use Rattle.rules.specs.Numbers.{outcome_number}
use Rattle.rules.specs.Meaning.{Clause, Values}
use Rattle.rules.specs.Run.{Task, Row, Progress, opens, differs, can_flip, compared, flips, filtered, force_first}
use Rattle.rules.specs.Run.{model_row, row_after, after_model, after_none, Ended, ended_by}
use Rattle.rules.specs.Answer.{log_length, row_numbers, log_of_rows, report_of_run}
use Rattle.rules.proofs.StatusLaws.{Freed, freed_counts, force_first_counts}
use Rattle.rules.proofs.BufferTheorems.{length_rows}
use Rattle.calls.specs.declared.after.Tally.{Tally}
use Rattle.calls.specs.declared.after.Made.{Made}
use Rattle.steps.specs.Filter.{Drops}
use Rattle.steps.specs.Flip.{Flips}
use Rattle.calls.specs.After.{Shows, EndsAt, answer_of, row_put, doubled, ModelLeft, NoneLeft, RowLeft}

-- ---- one row more

joined_snoc : (rows : List Row) (r : Row) → joined (map row_numbers (rows ++ (r ∷ []))) ≡ joined (map row_numbers rows) ++ row_numbers r
joined_snoc [] r = refl
joined_snoc (q ∷ rows) r =
    ap (λ (xs : List ℕ). row_numbers q ++ xs) (joined_snoc rows r) ∙ sym (append_assoc (row_numbers q) (joined (map row_numbers rows)) (row_numbers r))

drop_zeros : (k n : ℕ) → drop {A = ℕ} k (replicate n 0) ≡ replicate (n - k) 0
drop_zeros zero n = ap (λ (m : ℕ). replicate m 0) none
  where
    none : n ≡ n - 0
    none = omega arith
drop_zeros (suc k) zero = ap (λ (m : ℕ). replicate m 0) none
  where
    none : 0 ≡ 0 - suc k
    none = omega arith
drop_zeros (suc k) (suc n) = drop_zeros k n ∙ ap (λ (m : ℕ). replicate m 0) less
  where
    less : n - k ≡ suc n - suc k
    less = omega arith

pub length-log_of_rows : (vars : ℕ) (rows : List Row) → length (log_of_rows vars rows) ≡ 6 * length rows + (log_length vars - 6 * length rows)
length-log_of_rows vars rows =
    length-append (joined (map row_numbers rows)) (replicate (log_length vars - 6 * length rows) 0) ∙
    omega (arith, length_rows rows, length-replicate {A = ℕ} (log_length vars - 6 * length rows) 0)

pub rows_room : (vars : ℕ) (rows : List Row) → 6 * (length rows + 1) ≤ length (log_of_rows vars rows) → length rows ≤ vars
rows_room vars rows h = omega (arith, length-log_of_rows vars rows)

pub log_of_rows_put : (vars : ℕ) (rows : List Row) (r : Row) → length rows ≤ vars
    → sets (log_of_rows vars rows) (6 * length rows) (row_numbers r) ≡ log_of_rows vars (rows ++ (r ∷ []))
log_of_rows_put vars rows r h =
    sets-eq (row_numbers r) (log_of_rows vars rows) i (omega (arith, length-log_of_rows vars rows)) ∙
    ap (λ (xs : List ℕ). xs ++ row_numbers r ++ drop (i + 6) (log_of_rows vars rows)) (take_at J Z i (length_rows rows)) ∙
    ap (λ (xs : List ℕ). J ++ row_numbers r ++ xs) rest ∙
    ap (λ (xs : List ℕ). xs ++ replicate (log_length vars - 6 * length (rows ++ (r ∷ []))) 0) (sym (joined_snoc rows r))
  where
    i : ℕ
    i = 6 * length rows

    J : List ℕ
    J = joined (map row_numbers rows)

    Z : List ℕ
    Z = replicate (log_length vars - 6 * length rows) 0

    left : log_length vars - 6 * length rows - 6 ≡ log_length vars - 6 * length (rows ++ (r ∷ []))
    left = omega (arith, length-append rows (r ∷ []))

    rest : drop (i + 6) (log_of_rows vars rows) ≡ replicate (log_length vars - 6 * length (rows ++ (r ∷ []))) 0
    rest =
        ap (λ (n : ℕ). drop (n + 6) (J ++ Z)) (sym (length_rows rows)) ∙ drop-append-add J Z 6 ∙ drop_zeros 6 (log_length vars - 6 * length rows) ∙
        ap (λ (n : ℕ). replicate n 0) left

-- the row of a call, where its numbers are those of code
put_is : (vars : ℕ) (p : Progress) (t : Tally) (r : Row) {first status log after : List ℕ} → Shows vars p t first status log
    → 6 * (t.calls + 1) ≤ length log → {xs : List ℕ} → after ≡ sets log (6 * t.calls) xs → xs ≡ row_numbers r
    → after ≡ log_of_rows vars (p.rows ++ (r ∷ []))
put_is vars p t r {log = log} w h {xs} e q =
    e ∙ ap (sets log (6 * t.calls)) q ∙ ap (λ (l : List ℕ). sets l (6 * t.calls) (row_numbers r)) w.log_is ∙
    ap (λ (n : ℕ). sets (log_of_rows vars p.rows) (6 * n) (row_numbers r)) w.calls_is ∙
    log_of_rows_put vars p.rows r (rows_room vars p.rows room)
  where
    room : 6 * (length p.rows + 1) ≤ length (log_of_rows vars p.rows)
    room = omega (arith, w.calls_is, ap length w.log_is)

-- one row more, and nothing else but the tries
abbrev pub with_row : Progress → Outcome → ℕ → ℕ → Progress
with_row p o chunk spent =
    record {
      first = p.first;
      statuses = p.statuses;
      records = p.records;
      tries = spent;
      rows = p.rows ++ (row_after p o chunk 0 0 spent ∷ []);
      models = p.models;
    }

-- ---- the end

-- what the run returns where the tally stands so
abbrev pub report_at : Ended → Tally → Report
report_at e t = record { answer = e.answer; calls = t.calls; tries = t.tries; forced = t.forced; free = t.free }

pub ends_shown : {vars : ℕ} (e : Ended) {t : Tally} {r : Report} {first status log : List ℕ} → r ≡ report_at e t
    → Shows vars e.progress t first status log → EndsAt vars e r status log
ends_shown e {t} q w = record { result_is = q ∙ same; status_is = w.status_is; log_is = w.log_is }
  where
    same : report_at e t ≡ report_of_run e
    same = cc (w.calls_is, w.tries_is, w.forced_is, w.free_is)

-- ---- after a model

module _ (k : Task) (p : Progress) (t : Tally) {first status log : List ℕ} (w : Shows k.vars p t first status log)
    (room : 6 * (t.calls + 1) ≤ length log)
  where
    pub shows_model : {F : List Clause} → k.formula ≡ F → {made : Made} {m m' : Values} {r : Tally} {last log' : List ℕ}
        → ModelLeft F first m status log t made r m' last log'
        → (r.size ≡ 1) × Shows k.vars (after_model k p made.chunk m made.spent) r first last log'
    shows_model {F} e {made} {m} {m'} {r} {last} {log'} x =
        rw x.result_is (
          refl,
          record {
            first_is = w.first_is;
            status_is = last_is;
            log_is = put_is k.vars p t (model_row k p made.chunk m made.spent) w room x.log_is row_is;
            candidates_are = omega (arith, w.candidates_are, compared-opens, d.counted, g.drops.counted, ap opens last_is, ap opens w.status_is);
            calls_is = omega (arith, w.calls_is, length-append p.rows (model_row k p made.chunk m made.spent ∷ []));
            tries_is = refl;
            free_is = omega (
              arith,
              w.free_is,
              by_compare.free_more,
              by_flip.free_more,
              compared-opens,
              d.counted,
              g.drops.counted,
              ap opens last_is,
              ap opens w.status_is,
            );
            forced_is = w.forced_is ∙ sym (by_flip.forced_same ∙ by_compare.forced_same);
          },
        )
      where
        c : ℕ
        c = x.by_compare

        f : ℕ
        f = x.by_flip

        after : List ℕ
        after = x.between

        d : Drops (differs first m) status c after
        d = x.compares

        g : Flips F m after f m' last
        g = x.flips

        after_is : after ≡ compared p.first m p.statuses
        after_is = d.freed ∙ ap (λ (x : Values). compared x m status) w.first_is ∙ ap (compared p.first m) w.status_is

        last_is : last ≡ filtered k p m
        last_is = g.drops.freed ∙ ap (λ (G : List Clause). flips G m after) (sym e) ∙ ap (flips k.formula m) after_is

        compared-opens : opens after ≡ opens (compared p.first m p.statuses)
        compared-opens = ap opens after_is

        by_compare : Freed p.statuses (compared p.first m p.statuses)
        by_compare = freed_counts 0 (differs p.first m) p.statuses

        by_flip : Freed (compared p.first m p.statuses) (filtered k p m)
        by_flip = freed_counts 0 (can_flip k.formula m) (compared p.first m p.statuses)

        row_is :
            ◌≡◌ {A = List ℕ} ((t.calls + 1) ∷ 1 ∷ made.chunk ∷ c ∷ f ∷ (made.spent - t.tries) ∷ [])
            (row_numbers (model_row k p made.chunk m made.spent))
        row_is =
            let a : t.calls + 1 ≡ suc (length p.rows) = omega (arith, w.calls_is) in
            let b : c ≡ opens p.statuses - opens (compared p.first m p.statuses) =
            omega (arith, d.counted, ap opens w.status_is, compared-opens) in
            let h : f ≡ opens (compared p.first m p.statuses) - opens (filtered k p m) =
            omega (arith, g.drops.counted, compared-opens, ap opens last_is) in
            let s : made.spent - t.tries ≡ made.spent - p.tries = omega (arith, w.tries_is) in
            cc (a, b, h, s)

    -- ---- a row without drops

    row_is : (o : Outcome) (made : Made)
        → ◌≡◌ {A = List ℕ} ((t.calls + 1) ∷ outcome_number o ∷ made.chunk ∷ 0 ∷ 0 ∷ (made.spent - t.tries) ∷ [])
        (row_numbers (row_after p o made.chunk 0 0 made.spent))
    row_is o made =
        let a : t.calls + 1 ≡ suc (length p.rows) = omega (arith, w.calls_is) in
        let s : made.spent - t.tries ≡ made.spent - p.tries = omega (arith, w.tries_is) in
        cc (a, s)

    calls_are : (r : Row) → t.calls + 1 ≡ length (p.rows ++ (r ∷ []))
    calls_are r = omega (arith, w.calls_is, length-append p.rows (r ∷ []))

    log_put : (o : Outcome) (made : Made) {log' : List ℕ} → log' ≡ row_put log t o made 0 0
        → log' ≡ log_of_rows k.vars (p.rows ++ (row_after p o made.chunk 0 0 made.spent ∷ []))
    log_put o made l = put_is k.vars p t (row_after p o made.chunk 0 0 made.spent) w room l (row_is o made)

    pub shows_none : {made : Made} {limit : ℕ} {r : Tally} {after log' : List ℕ} → length p.first ≡ length p.statuses
        → made.chunk ≤ opens p.statuses → NoneLeft first status log t made limit r after log'
        → (r.size ≡ doubled t.size limit) × Shows k.vars (after_none p made.chunk made.spent) r first after log'
    shows_none {made} {limit} {r} e h x =
        let n = force_first_counts p.first p.statuses made.chunk e h in
        rw x.result_is (
          refl,
          record {
            first_is = w.first_is;
            status_is =
                x.status_is ∙ ap (λ (m : Values). force_first m status made.chunk) w.first_is ∙
                ap (λ (ss : List ℕ). force_first p.first ss made.chunk) w.status_is;
            log_is = log_put Outcome.NoModel made x.log_is;
            candidates_are = omega (arith, w.candidates_are, n.opens_less);
            calls_is = calls_are (row_after p Outcome.NoModel made.chunk 0 0 made.spent);
            tries_is = refl;
            free_is = w.free_is ∙ sym n.free_same;
            forced_is = omega (arith, w.forced_is, n.forced_more);
          },
        )

    -- and the run ends with it
    pub ends_row : (o : Outcome) {made : Made} {r : Report} {log' : List ℕ} → RowLeft log t o made r log'
        → EndsAt k.vars (ended_by (answer_of o) (with_row p o made.chunk made.spent)) r status log'
    ends_row o {made} x =
        ends_shown (ended_by (answer_of o) (with_row p o made.chunk made.spent))
        {t = record { size = t.size; candidates = t.candidates; calls = t.calls + 1; tries = made.spent; free = t.free; forced = t.forced }}
        x.result_is
        (record {
          first_is = w.first_is;
          status_is = w.status_is;
          log_is = log_put o made x.log_is;
          candidates_are = w.candidates_are;
          calls_is = calls_are (row_after p o made.chunk 0 0 made.spent);
          tries_is = refl;
          free_is = w.free_is;
          forced_is = w.forced_is;
        })
