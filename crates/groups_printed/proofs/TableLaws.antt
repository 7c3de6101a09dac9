-- The laws of the table of groups: by the number of the answer it is the lines that are put, and what a run or a reading leaves is what it is of.
--
--   table_lines       the table after 0 and 21
--   run_ready, run_table          what a run with buffers of just the size leaves, and its table
--   ReadList, read_list, read_line     what a reading leaves: an expanded list, or the line of its refusal
--   prints_short, whole_room, prints_table     the contract, in a short buffer and in others
--   prints_le         how many bytes are put at most
--
-- Assumes nothing.
use mathlib.Core.Path.{◌≡◌, sym, ◌∙◌, ap, ap₂, subst}
use mathlib.Core.Logic.{◌≢◌, inl, inr}
use mathlib.Core.Bool.{Bool, true, false}
use mathlib.Core.List.{List, [], ◌++◌, append_assoc}
use Prim.Native.Nat.{ℕ, ◌-◌, ◌≤◌, ◌<◌}
use native.Mathlib.Omega.{arith}
use lib.Dec.{leb}
use lib.IntN.{ℤ, pos}
use lib.ListN.{length, take, drop, replicate, length-append, length-replicate}
use lib.Seq.{take_at}
use Rattle.rules.specs.declared.GroupsAnswer.{GroupsAnswer}
use Rattle.rules.specs.declared.GroupsReading.{GroupsReading}
use Rattle.rules.specs.declared.RunAnswer.{RunAnswer}
use Rattle.rules.specs.declared.Report.{Report}
use Rattle.rules.specs.Numbers.{max_entries, groups_number, groups_place}
use Rattle.rules.specs.Answer.{Buffers, given, report_of, status_after, Runs}
use Rattle.rules.specs.RunRefusals.{Formed, Accepted}
use Rattle.texts.specs.Printed.{refused_line, answer_line, table_budget, table_chunk, count_if_room}
use Rattle.texts.specs.Groups.{max_groups, vars_in, expanded_entries}
use Rattle.texts.specs.GroupsReading.{GroupsGiven, groups_given, ReadsGroups}
use Rattle.texts.specs.GroupsRefusals.{GroupsRefuses}
use Rattle.texts.specs.GroupsPrinted.{group_lines, groups_table_by, groups_table_of_run, groups_run, groups_table_of_list, groups_table_of}
use Rattle.texts.specs.GroupsPrinted.{max_groups_table, PrintsGroups}
use Rattle.texts.proofs.TableLaws.{run_bounded}
use Rattle.texts.proofs.GroupsRead.{Roomy, FileOf, groups_accepts, groups_accepted, groups_refuses}
use Rattle.texts.proofs.GroupsText.{groups_run_accepted, groups_table_refused, groups_table_list, length-groups_table_of}
use Rattle.buffers.specs.Put.{Room, Put}
use Rattle.buffers.proofs.PutLaws.{room_same}
use Rattle.buffers.proofs.RoomLaws.{short_count, short_bytes, whole_count, whole_bytes}
use Rattle.printed.specs.Table.{Sized, Ran}
use Rattle.printed.proofs.TableLaws.{counted_le, run_same, statuses_same}
use Rattle.groups_printed.specs.Table.{TableReady, ListReady}

-- ---- by the number of the answer

pub table_lines : {sizes : List ℕ} {vars : ℕ} {r : Report} {ss out : List ℕ} → TableReady sizes vars r ss out → r.answer ≢ RunAnswer.NoModel
    → answer_line vars r ++ group_lines 1 sizes ss ≡ groups_table_of_run sizes r ss
table_lines {sizes} {vars} {r} {ss} w h = ap (λ (v : ℕ). answer_line v r ++ group_lines 1 sizes ss) w.vars_are ∙ go w.ran
  where
    go : Ran r.answer → answer_line (vars_in sizes) r ++ group_lines 1 sizes ss ≡ groups_table_of_run sizes r ss
    go (inl e) = sym (ap (λ (b : RunAnswer). groups_table_by b sizes r ss) e)
    go (inr (inl e)) = absurd (h e)
    go (inr (inr e)) = sym (ap (λ (b : RunAnswer). groups_table_by b sizes r ss) e)

-- ---- the run

module _ {sizes : List ℕ} {vars : ℕ} {list : List ℤ} {out : List ℕ} {room : Buffers} (w : ListReady sizes vars list out) (z : Sized vars room)
    {r : Report} {left : Buffers} (d : Runs (given list vars [] table_budget table_chunk room) r left) where
  formed : Formed (groups_run sizes list)
  formed = record { listed = w.runs.listed; up_to = w.runs.up_to }

  sized : Sized (vars_in sizes) room
  sized = subst (λ (v : ℕ). Sized v room) w.vars_are z

  ran : Runs (given list (vars_in sizes) [] table_budget table_chunk room) r left
  ran = subst (λ (v : ℕ). Runs (given list v [] table_budget table_chunk room) r left) w.vars_are d

  report_is : r ≡ report_of (groups_run sizes list)
  report_is = run_same formed sized ran

  status_is : left.status ≡ status_after (groups_run sizes list)
  status_is = statuses_same formed sized ran w.runs

  pub run_table : groups_table_of_run sizes r left.status ≡ groups_table_of_list sizes list
  run_table = ap₂ (groups_table_of_run sizes) report_is status_is

  pub run_ready : TableReady sizes vars r left.status out
  run_ready =
      let g = groups_run sizes list in
      let b = run_bounded g w.runs (omega arith) (length-replicate {A = ℕ} (vars_in sizes) 0) (length-replicate {A = ℕ} (vars_in sizes) 0) in
      record {
        ran = rw report_is b.answer_is;
        vars_are = w.vars_are;
        counted = rw report_is (omega (arith, counted_le g, w.vars_are));
        few = w.few;
        statuses_are = ap length status_is ∙ b.lines;
        vars_fit = omega (arith, ap length status_is, b.lines, b.vars_fit);
        room = room_same (sym run_table) w.room;
      }

-- ---- the reading

-- an accepted reading: the expanded list and the sizes are the fronts of the buffers
pub record ReadList (text : List ℕ) (r : GroupsReading) (entries : List ℤ) (sizes : List ℕ) : Type 0 where
  pub counted : r.entries ≤ length entries
  pub groups_counted : r.groups ≤ length sizes
  pub runs : Accepted (groups_run (take r.groups sizes) (take r.entries entries))
  pub vars_are : r.vars ≡ vars_in (take r.groups sizes)
  pub few : length (take r.groups sizes) ≤ max_groups
  pub table_is : groups_table_of text ≡ groups_table_of_list (take r.groups sizes) (take r.entries entries)

module _ {text : List ℕ} {eb : List ℤ} {sb : List ℕ} {r : GroupsReading} {ea : List ℤ} {sa : List ℕ}
    (d : ReadsGroups (groups_given text eb sb) r ea sa) (z : length eb ≡ max_entries) (y : length sb ≡ max_groups) where
  abbrev g : GroupsGiven
  g = groups_given text eb sb

  pub read_line : r.answer ≢ GroupsAnswer.Accepted → groups_table_of text ≡ refused_line (groups_number r.answer) (groups_place r.answer)
  read_line h =
      groups_table_refused text r.answer
      (subst (λ (n : ℕ). GroupsRefuses n max_groups text r.answer) z (subst (λ (n : ℕ). GroupsRefuses (length eb) n text r.answer) y
      ((groups_refuses g r.answer h).0 (ap (λ (q : GroupsReading). q.answer) (sym d.result_is)))))

  pub read_list : r.answer ≡ GroupsAnswer.Accepted → ReadList text r ea sa
  read_list h =
      let (roomy, file) = (groups_accepted g).0 (ap (λ (q : GroupsReading). q.answer) (sym d.result_is) ∙ h) in
      made file roomy
    where
      made : FileOf text → Roomy g → ReadList text r ea sa
      made file roomy =
          let ss = file.sizes in
          let es = file.entries in
          let t = file.says in
          let (result, entries, sizes) = groups_accepts g ss file.clauses es roomy t in
          let list = expanded_entries ss es in
          let returned = d.result_is ∙ result in
          let n : r.entries ≡ length list = ap (λ (q : GroupsReading). q.entries) returned in
          let k : r.groups ≡ length ss = ap (λ (q : GroupsReading). q.groups) returned in
          let front : take r.entries ea ≡ list =
          ap (take r.entries) (d.entries_are ∙ entries ∙ append_assoc list (replicate (max_entries - length list) (pos 0)) (drop max_entries eb)) ∙
          take_at list (replicate (max_entries - length list) (pos 0) ++ drop max_entries eb) r.entries (sym n) in
          let ahead : take r.groups sa ≡ ss =
          ap (take r.groups) (d.sizes_are ∙ sizes ∙ append_assoc ss (replicate (max_groups - length ss) 0) (drop max_groups sb)) ∙
          take_at ss (replicate (max_groups - length ss) 0 ++ drop max_groups sb) r.groups (sym k) in
          record {
            counted =
                omega (
                  arith,
                  n,
                  ap length (d.entries_are ∙ entries),
                  length-append (list ++ replicate (max_entries - length list) (pos 0)) (drop max_entries eb),
                  length-append list (replicate (max_entries - length list) (pos 0)),
                );
            groups_counted =
                omega (
                  arith,
                  k,
                  ap length (d.sizes_are ∙ sizes),
                  length-append (ss ++ replicate (max_groups - length ss) 0) (drop max_groups sb),
                  length-append ss (replicate (max_groups - length ss) 0),
                );
            runs = rw (front, ahead) (groups_run_accepted t);
            vars_are = rw ahead (ap (λ (q : GroupsReading). q.vars) returned);
            few = omega (arith, ap length ahead, t.sizes_fit.groups_fit);
            table_is = groups_table_list t ∙ ap₂ groups_table_of_list (sym ahead) (sym front);
          }

-- ---- the contract

pub prints_short : (text before : List ℕ) → length before < max_groups_table → PrintsGroups text before 0 before
prints_short text before h =
    record { count_is = short_count max_groups_table (groups_table_of text) before h; after_is = short_bytes max_groups_table (groups_table_of text) before h }

pub whole_room : (text out : List ℕ) → max_groups_table ≤ length out → Room 0 (groups_table_of text) out
whole_room text out h = record { fits = omega (arith, length-groups_table_of text) }

pub prints_table : {text before : List ℕ} {n : ℕ} {after : List ℕ} → max_groups_table ≤ length before → Put 0 (groups_table_of text) before n after
    → PrintsGroups text before n after
prints_table {text} {before} h p =
    record {
      count_is = whole_count max_groups_table (groups_table_of text) before (length-groups_table_of text) h p;
      after_is = whole_bytes max_groups_table (groups_table_of text) before (length-groups_table_of text) h p;
    }

pub prints_le : {text before : List ℕ} {n : ℕ} {after : List ℕ} → PrintsGroups text before n after → n ≤ max_groups_table
prints_le {text} {before} {n} p = go (leb max_groups_table (length before)) p.count_is
  where
    go : (b : Bool) → n ≡ count_if_room b (groups_table_of text) → n ≤ max_groups_table
    go true e = omega (arith, e, length-groups_table_of text)
    go false e = omega (arith, e)
