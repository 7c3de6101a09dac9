-- The laws of the table: by the number of the answer it is the lines that are put, and what a run or a reading leaves is what it is of.
--
--   table_refusal, ran_of         the table of a refused run; any other has run
--   table_lines       the table after 0 and 21
--   counted_le, status_len        how many variables are counted, and statuses left
--   run_ready, run_table, run_same, statuses_same     what a run with buffers of just the size leaves, and its table
--   read_list, read_line          what a reading leaves: an entry list, or the line of its refusal
--   list_long, list_table         what is handed on of an accepted text, and what is put for it
--   prints_short, prints_table    the contract, in a short buffer and in others
--   whole_room        a buffer of 9,216 bytes has room for every table
--   prints_le         how many bytes are put at most
--
-- Assumes nothing.
use mathlib.Core.Path.{◌≡◌, refl, sym, ◌∙◌, ap, ap₂}
use mathlib.Core.Logic.{◌≢◌, ◌⊎◌, inl, inr}
use mathlib.Core.Bool.{Bool, true, false}
use mathlib.Core.List.{List, [], ◌∷◌, ◌++◌}
use mathlib.Core.Option.{Option, none, some}
use Prim.Native.Nat.{ℕ, suc, ◌+◌, ◌≤◌, ◌<◌}
use native.Mathlib.Omega.{arith}
use lib.IntN.{ℤ}
use lib.Dec.{eqb, leb}
use lib.ListN.{length, take, length-replicate, drop_of_length-le}
use lib.Seq.{length-take-le}
use borrow.Author.Tests.{leb-true, eqb-true, lt-ltb}
use Rattle.rules.specs.declared.Reading.{Reading}
use Rattle.rules.specs.declared.ReadAnswer.{ReadAnswer}
use Rattle.rules.specs.declared.Refusal.{Refusal}
use Rattle.rules.specs.declared.RunAnswer.{RunAnswer}
use Rattle.rules.specs.declared.Report.{Report}
use Rattle.rules.specs.Lists.{count, count_if}
use Rattle.rules.specs.Numbers.{max_entries, read_number, read_place, refusal_number, run_number, run_place}
use Rattle.texts.specs.Reading.{Judged, Reads}
use Rattle.rules.specs.Run.{run}
use Rattle.rules.specs.Hints.{hints_of}
use Rattle.rules.specs.Answer.{Given, Buffers, given, refusal_of, task_of, is_free, is_forced, report_of_run, report_if, report_of, status_after, hints_after}
use Rattle.rules.specs.Answer.{Runs}
use Rattle.rules.specs.RunRefusals.{Formed, Accepted}
use Rattle.texts.specs.Printed.{refused_line, answer_line, status_lines, table_by, table_of_run}
use Rattle.texts.specs.Printed.{table_budget, table_chunk, table_of_judged, table_of, max_table, count_if_room, Prints}
use Rattle.rules.proofs.ListLaws.{never}
use Rattle.rules.proofs.RunTheorems.{run_statuses}
use Rattle.rules.proofs.RefusedRuns.{run_refused, run_accepted, by_held}
use Rattle.rules.proofs.BufferTheorems.{refused_writes_nothing, length_status_after, length_hints_after}
use Rattle.texts.proofs.ReadList as reading
use Rattle.texts.proofs.PrintedLaws.{table_formed}
use Rattle.texts.proofs.TableLaws.{length-table_of}
use Rattle.lines.proofs.LineLaws.{refused_some}
use Rattle.buffers.specs.Put.{Room, Put}
use Rattle.printed.specs.Table.{is_refusal, list_given, table_of_list, Sized, Ran, TableReady}
use Rattle.buffers.proofs.PutLaws.{room_same}
use Rattle.buffers.proofs.RoomLaws.{short_count, short_bytes, whole_count, whole_bytes}

-- ---- by the number of the answer

refusal_number_lem : (b : Refusal) → (1 ≤ refusal_number b) × (refusal_number b < 20)
refusal_number_lem Refusal.ShortBuffer = (omega arith, omega arith)
refusal_number_lem Refusal.BadLimits = (omega arith, omega arith)
refusal_number_lem (Refusal.BadList at) = (omega arith, omega arith)
refusal_number_lem (Refusal.EntryOverVars at) = (omega arith, omega arith)
refusal_number_lem (Refusal.BadLiteral at) = (omega arith, omega arith)
refusal_number_lem Refusal.NotFree = (omega arith, omega arith)
refusal_number_lem Refusal.ManyHeld = (omega arith, omega arith)

pub table_refusal : (a : RunAnswer) (vars : ℕ) (r : Report) (ss hs : List ℕ) → is_refusal (run_number a) ≡ true
    → table_by a vars r ss hs ≡ refused_line (run_number a) (run_place a)
table_refusal RunAnswer.Settled vars r ss hs h = absurd (never h refl)
table_refusal RunAnswer.NoModel vars r ss hs h = absurd (never h refl)
table_refusal RunAnswer.Stopped vars r ss hs h = absurd (never h refl)
table_refusal (RunAnswer.Refused b) vars r ss hs h = refl

pub ran_of : (a : RunAnswer) → is_refusal (run_number a) ≡ false → Ran a
ran_of RunAnswer.Settled h = inl refl
ran_of RunAnswer.NoModel h = inr (inl refl)
ran_of RunAnswer.Stopped h = inr (inr refl)
ran_of (RunAnswer.Refused b) h =
    let (least, most) = refusal_number_lem b in
    absurd (never (rw (lt-ltb 0 (refusal_number b) least, lt-ltb (refusal_number b) 20 most) refl) h)

pub table_lines : (vars : ℕ) (r : Report) (ss hs : List ℕ) → (r.answer ≡ RunAnswer.Settled) ⊎ (r.answer ≡ RunAnswer.Stopped)
    → answer_line vars r ++ status_lines 1 ss hs ≡ table_of_run vars r ss hs
table_lines vars r ss hs (inl e) = sym (ap (λ (a : RunAnswer). table_by a vars r ss hs) e)
table_lines vars r ss hs (inr e) = sym (ap (λ (a : RunAnswer). table_by a vars r ss hs) e)

-- ---- the run

-- a variable is forced, or free, or neither
count_both : (ss : List ℕ) → count is_forced ss + count is_free ss ≤ length ss
count_both [] = omega arith
count_both (s ∷ ss) = go (leb 2 s) (eqb s 1) refl refl (count_both ss)
  where
    go : (b c : Bool) → leb 2 s ≡ b → eqb s 1 ≡ c → count is_forced ss + count is_free ss ≤ length ss
        → count_if b (count is_forced ss) + count_if c (count is_free ss) ≤ suc (length ss)
    go true true e f ih = absurd (omega (arith, leb-true 2 s e, eqb-true s 1 f))
    go true false e f ih = omega (arith, ih)
    go false true e f ih = omega (arith, ih)
    go false false e f ih = omega (arith, ih)

-- what an accepted run returns, and what it leaves in buffers of just the size
run_report_lem : (g : Given) → Accepted g → report_of g ≡ report_of_run (run (task_of g))
unfolding report_of
run_report_lem g w = rw ((run_accepted g).1 w)

run_status : (g : Given) → Accepted g → length g.status ≡ g.vars → status_after g ≡ (run (task_of g)).progress.statuses ++ []
unfolding status_after
run_status g w e =
    rw ((run_accepted g).1 w)
    (ap (λ (xs : List ℕ). (run (task_of g)).progress.statuses ++ xs) (drop_of_length-le g.status {i = g.vars} (omega (arith, e))))

run_hints : (g : Given) → Accepted g → length g.hints ≡ g.vars → hints_after g ≡ hints_of (task_of g) ++ []
unfolding hints_after
run_hints g w e =
    rw ((run_accepted g).1 w) (ap (λ (xs : List ℕ). hints_of (task_of g) ++ xs) (drop_of_length-le g.hints {i = g.vars} (omega (arith, e))))

-- a refused run leaves its buffers, and an accepted one their lengths
pub status_len : (g : Given) → length (status_after g) ≡ length g.status
status_len g = go (refusal_of g) refl
  where
    go : (o : Option Refusal) → refusal_of g ≡ o → length (status_after g) ≡ length g.status
    go none e = length_status_after g ((run_accepted g).0 e)
    go (some a) e = ap length (refused_writes_nothing g a ((run_refused g a).0 e)).1

hints_len : (g : Given) → length (hints_after g) ≡ length g.hints
hints_len g = go (refusal_of g) refl
  where
    go : (o : Option Refusal) → refusal_of g ≡ o → length (hints_after g) ≡ length g.hints
    go none e = length_hints_after g ((run_accepted g).0 e)
    go (some a) e = ap length (refused_writes_nothing g a ((run_refused g a).0 e)).4

pub counted_le : (g : Given) → (report_of g).forced + (report_of g).free ≤ g.vars
counted_le g = go (refusal_of g) refl
  where
    go : (o : Option Refusal) → refusal_of g ≡ o → (report_of g).forced + (report_of g).free ≤ g.vars
    go none e =
        let w = (run_accepted g).0 e in
        let k = task_of g in
        rw (run_report_lem g w)
        (omega (arith, count_both (run k).progress.statuses, (run_statuses k w.listed.lent.in_limits.limit_some).0))
    go (some a) e = rw (refused_writes_nothing g a ((run_refused g a).0 e)).0 (omega arith)

module _ {vars : ℕ} {es held : List ℤ} {room : Buffers} (w : Formed (list_given vars es held)) (z : Sized vars room) where
  -- the run with these buffers
  abbrev lent : Given
  lent = given es vars held table_budget table_chunk room

  lent_formed : Formed lent
  lent_formed =
      let l = w.listed in
      record {
        listed = record {
          lent = record {
            in_limits = record { vars_fit = l.lent.in_limits.vars_fit; limit_some = omega arith; limit_fits = omega arith };
            status_fits = omega (arith, z.status_len);
            calls_fit = omega (arith, z.calls_len);
            ways_fit = omega (arith, z.ways_len);
            hints_fit = omega (arith, z.hints_len);
            log_fits = omega (arith, z.log_len);
          };
          entries_fit = l.entries_fit;
          ended = l.ended;
          clauses_fit = l.clauses_fit;
        };
        up_to = w.up_to;
      }

  same_refusal : refusal_of lent ≡ refusal_of (list_given vars es held)
  same_refusal = by_held lent lent_formed ∙ sym (by_held (list_given vars es held) w)

  same_report : report_of lent ≡ report_of (list_given vars es held)
  unfolding report_of
  same_report = ap (λ (o : Option Refusal). report_if o (task_of (list_given vars es held))) same_refusal

  -- the table of a refused run has its refusal alone, and any other has the same statuses and hints
  same_table : table_of_run vars (report_of (list_given vars es held)) (status_after lent) (hints_after lent) ≡ table_of_list vars es held
  same_table = go (refusal_of lent) refl
    where
      go : (o : Option Refusal) → refusal_of lent ≡ o
          → table_of_run vars (report_of (list_given vars es held)) (status_after lent) (hints_after lent) ≡ table_of_list vars es held
      go none e =
          let own = (run_accepted lent).0 e in
          let other = (run_accepted (list_given vars es held)).0 (sym same_refusal ∙ e) in
          ap₂ (table_of_run vars (report_of (list_given vars es held)))
          (run_status lent own z.status_len ∙ sym (run_status (list_given vars es held) other (length-replicate {A = ℕ} vars 0)))
          (run_hints lent own z.hints_len ∙ sym (run_hints (list_given vars es held) other (length-replicate {A = ℕ} vars 0)))
      go (some a) e =
          let other = (run_refused (list_given vars es held) a).0 (sym same_refusal ∙ e) in
          let said = (refused_writes_nothing (list_given vars es held) a other).0 in
          ap (λ (q : Report). table_of_run vars q (status_after lent) (hints_after lent)) said ∙
          sym
          (ap (λ (q : Report). table_of_run vars q (status_after (list_given vars es held)) (hints_after (list_given vars es held))) said)

  module _ {r : Report} {left : Buffers} (d : Runs lent r left) where
    pub run_table : table_of_run vars r left.status left.hints ≡ table_of_list vars es held
    run_table =
        ap (λ (q : Report). table_of_run vars q left.status left.hints) (d.result_is ∙ same_report) ∙
        ap₂ (table_of_run vars (report_of (list_given vars es held))) d.status_is d.hints_are ∙
        same_table

    -- the report of a run is that of the table, and so are the statuses of one that is not refused
    pub run_same : r ≡ report_of (list_given vars es held)
    run_same = d.result_is ∙ same_report

    pub statuses_same : Accepted (list_given vars es held) → left.status ≡ status_after (list_given vars es held)
    statuses_same a =
        let own = (run_accepted lent).0 (same_refusal ∙ (run_accepted (list_given vars es held)).1 a) in
        d.status_is ∙ run_status lent own z.status_len ∙
        sym (run_status (list_given vars es held) a (length-replicate {A = ℕ} vars 0))

    pub run_ready : {out : List ℕ} → Room 0 (table_of_list vars es held) out → TableReady vars r left.status left.hints out
    run_ready {out} m =
        record {
          counted = rw d.result_is (counted_le lent);
          vars_fit = omega (arith, ap length d.status_is, status_len lent, z.status_len, w.listed.lent.in_limits.vars_fit);
          hints_fit =
              omega (
                arith,
                ap length d.status_is,
                status_len lent,
                z.status_len,
                ap length d.hints_are,
                hints_len lent,
                z.hints_len,
              );
          room = room_same (sym run_table) m;
        }

-- ---- the reading

-- an accepted reading: the entries are the front of the buffer
pub record ReadList (text : List ℕ) (r : Reading) (after held : List ℤ) : Type 0 where
  pub counted : r.entries ≤ length after
  pub runs : Formed (list_given r.vars (take r.entries after) held)
  pub table_is : table_of text held ≡ table_of_list r.vars (take r.entries after) held

module _ {text : List ℕ} {before : List ℤ} {r : Reading} {after : List ℤ} (d : Reads text before r after) (z : length before ≡ max_entries)
    (held : List ℤ) where
  pub read_line : r.answer ≢ ReadAnswer.Accepted → table_of text held ≡ refused_line (read_number r.answer) (read_place r.answer)
  unfolding table_of
  read_line h = ap (λ (j : Judged). table_of_judged j held) (reading.read_refused d z (refused_some r.answer h))

  pub read_list : r.answer ≡ ReadAnswer.Accepted → ReadList text r after held
  unfolding table_of
  read_list h =
      let w = reading.read_list d z (ap read_number h) in
      record {
        counted = w.counted;
        runs = rw w.vars_are (table_formed max_entries text w.judged held);
        table_is =
            ap (λ (j : Judged). table_of_judged j held) w.judged ∙ ap (λ (v : ℕ). table_of_list v (take r.entries after) held) (sym w.vars_are);
      }

-- an accepted text: how long the list is that is handed on, and what is put for it

pub list_long : {text : List ℕ} {before : List ℤ} {r : Reading} {after : List ℤ} → Reads text before r after → length before ≡ max_entries
    → r.answer ≡ ReadAnswer.Accepted → r.entries ≡ length (take r.entries after)
list_long d z h = sym (length-take-le _ _ (read_list d z [] h).counted)

pub list_table : (text : List ℕ) (held : List ℤ) {before : List ℤ} {r : Reading} {after : List ℤ} → Reads text before r after → length before ≡ max_entries
    → r.answer ≡ ReadAnswer.Accepted → table_of text held ≡ table_of_list r.vars (take r.entries after) held
list_table text held d z h = (read_list d z held h).table_is

-- ---- the contract

pub prints_short : (text : List ℕ) (held : List ℤ) (before : List ℕ) → length before < max_table → Prints text held before 0 before
prints_short text held before h =
    record { count_is = short_count max_table (table_of text held) before h; after_is = short_bytes max_table (table_of text held) before h }

pub whole_room : (text : List ℕ) (held : List ℤ) (out : List ℕ) → max_table ≤ length out → Room 0 (table_of text held) out
whole_room text held out h = record { fits = omega (arith, length-table_of text held) }

pub prints_table : {text : List ℕ} {held : List ℤ} {before : List ℕ} {n : ℕ} {after : List ℕ} → max_table ≤ length before
    → Put 0 (table_of text held) before n after → Prints text held before n after
prints_table {text} {held} {before} h p =
    record {
      count_is = whole_count max_table (table_of text held) before (length-table_of text held) h p;
      after_is = whole_bytes max_table (table_of text held) before (length-table_of text held) h p;
    }

pub prints_le : {text : List ℕ} {held : List ℤ} {before : List ℕ} {n : ℕ} {after : List ℕ} → Prints text held before n after → n ≤ max_table
prints_le {text} {held} {before} {n} p = go (leb max_table (length before)) p.count_is
  where
    go : (b : Bool) → n ≡ count_if_room b (table_of text held) → n ≤ max_table
    go true e = omega (arith, e, length-table_of text held)
    go false e = omega (arith, e)
