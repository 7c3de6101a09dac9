-- The laws of a reading of groups (src/lib.rt): what each part of it leaves, and that the whole is what rules defines.
--
--   finished_long_clauses, finished_long_entries, finished_fits     what is returned of a file that is complete
--   own_le, base_low, base_is     how many entries the groups have
--   put_placed, not_placed        the clauses of groups in front, if there is room for them
--   list_refused, list_finished   the list behind the number of clauses
--   stores_of, sizes_of_lem           a judgement that is another
--   clauses_refused, clauses_complete, sizes_refused, sizes_counted     how they were read
--   body_refused, sizes_judged, sizes_small, sizes_stored     the sizes and what is behind them
--   sizes-cleared                 zeros behind the sizes
--   read_short_entries, read_short_sizes, read_long, read_done     the ways a reading ends; stores_entries, stores_groups: its counts
--
-- Assumes nothing.
use mathlib.Core.Path.{◌≡◌, refl, sym, ◌∙◌, ap, ap₂, subst}
use mathlib.Core.Bool.{Bool, true, false}
use mathlib.Core.List.{List, [], ◌∷◌, ◌++◌, append_assoc}
use mathlib.Core.Option.{Option, none, some}
use Prim.Native.Nat.{ℕ, zero, suc, ◌+◌, ◌-◌, ◌*◌, ◌≤◌, ◌<◌}
use native.Mathlib.Omega.{arith}
use lib.Dec.{ltb}
use lib.IntN.{ℤ, pos}
use lib.ListN.{length, take, drop, replicate, length-append}
use lib.Seq.{length-sets, sets-eq, take_at, length-take-le, drop-append-add, drop-drop}
use borrow.Author.Tests.{ltb-false, lt-ltb, le-ltb}
use borrow.Rule.Slice.PartMut.{mid_of, put_mid, mid_len, Post-is}
use Rattle.std.specs.Prelude.{Result, Ok, Err}
use Rattle.rules.specs.declared.GroupsAnswer.{GroupsAnswer}
use Rattle.rules.specs.declared.GroupsReading.{GroupsReading}
use Rattle.rules.specs.Lists.{all, count, Check, or_next, first_of, is_zero}
use Rattle.rules.specs.Numbers.{max_text, max_clauses, max_entries}
use Rattle.rules.specs.Meaning.{var_of}
use Rattle.texts.specs.Text.{Piece, entry_of}
use Rattle.texts.specs.Plain.{entries_of}
use Rattle.texts.specs.Reading.{filled}
use Rattle.texts.specs.Groups.{max_groups, vars_in, groups_from, expanded_entries}
use Rattle.texts.specs.GroupsReading.{Part, groups_due, sizes_due, entries_due, next, number_rules, GroupsJudged, accepted, refused, unless, end_rules}
use Rattle.texts.specs.GroupsReading.{judge_token, judge_parts, judge_groups, groups_returned, sizes_filled, clears, cleared_if}
use Rattle.texts.specs.GroupsReading.{entries_written, sizes_written, GroupsGiven, groups_given, judged_of, groups_reading_of, groups_entries_after}
use Rattle.texts.specs.GroupsReading.{groups_sizes_after, ReadsGroups}
use Rattle.rules.proofs.ListLaws.{and_left, and_right}
use Rattle.reader.specs.Stores.{cleared}
use Rattle.held.specs.Stored.{Fits, Stored}
use Rattle.groups.specs.Steps.{left_at, Counted, Sizing, JudgesSizes, SizesAt}
use Rattle.groups.specs.Clauses.{Complete, JudgesClauses, ClausesAt}
use Rattle.groups.specs.Counts.{SizesSmall}
use Rattle.groups.proofs.CountLaws.{clauses_le, entries_are}
use Rattle.groups.specs.Lists.{list_of, sizes_of, ListStores, SizesStore, finished_if, finished_of, Placed, SizesRead}

-- ---- a file that is complete

module _ (groups vars clauses n : ℕ) where
  pub finished_long_clauses : max_clauses < clauses → groups_returned (refused GroupsAnswer.LongList) ≡ finished_of groups vars clauses n
  finished_long_clauses h = rw (lt-ltb max_clauses clauses h)

  pub finished_long_entries : clauses ≤ max_clauses → max_entries < n → groups_returned (refused GroupsAnswer.LongList) ≡ finished_of groups vars clauses n
  finished_long_entries h k = rw (le-ltb max_clauses clauses h, lt-ltb max_entries n k)

  pub finished_fits : clauses ≤ max_clauses → n ≤ max_entries
      → record { answer = GroupsAnswer.Accepted; groups = groups; vars = vars; clauses = clauses; entries = n } ≡ finished_of groups vars clauses n
  finished_fits h k = rw (le-ltb max_clauses clauses h, le-ltb max_entries n k)

-- ---- how many entries the groups have

module _ {text ss : List ℕ} {at vars : ℕ} {entries : List ℤ} (w : SizesRead text ss at vars entries) (own : ℕ) (e : own ≡ length (groups_from 0 ss)) where
  pub own_le : own ≤ 32896
  own_le = omega (arith, e, clauses_le w.small, w.small.few)

  pub base_low : 2 * length ss ≤ 3 * own + vars
  base_low = omega (arith, e, w.vars_are, entries_are 0 ss)

  pub base_is : 3 * own + vars - 2 * length ss ≡ length (entries_of (groups_from 0 ss))
  base_is = omega (arith, e, w.vars_are, entries_are 0 ss)

-- ---- the clauses of groups in front

module _ (ss : List ℕ) {before : List ℤ} (room : max_entries ≤ length before) (n : ℕ) (e : n ≡ length (entries_of (groups_from 0 ss))) where
  pub groups_fit : n ≤ max_entries → Fits (entries_of (groups_from 0 ss)) 0 before
  groups_fit h = record { fits = omega (arith, e) }

  pub put_placed : n ≤ max_entries → {next : ℕ} {after : List ℤ} → Stored (entries_of (groups_from 0 ss)) 0 before next after → Placed ss before after
  put_placed h {next} {after} s =
      let es = entries_of (groups_from 0 ss) in
      let seam : 0 + length es ≡ length es = omega arith in
      let whole : after ≡ es ++ drop (length es) before =
      s.after_is ∙ sets-eq es before 0 (omega (arith, e)) ∙ ap (λ (k : ℕ). es ++ drop k before) seam in
      record {
        len = ap length s.after_is ∙ length-sets before 0 es;
        rest_is = ap (drop max_entries) whole ∙ behind es (omega (arith, e));
        groups_are = λ k. ap (take (length es)) whole ∙ take_at es (drop (length es) before) (length es) refl;
      }
    where
      behind : (es : List ℤ) → length es ≤ max_entries → drop max_entries (es ++ drop (length es) before) ≡ drop max_entries before
      behind es k =
          let all : length es + (max_entries - length es) ≡ max_entries = omega arith in
          ap (λ (m : ℕ). drop m (es ++ drop (length es) before)) (sym all) ∙
          drop-append-add es (drop (length es) before) (max_entries - length es) ∙
          drop-drop (max_entries - length es) (length es) before ∙
          ap (λ (m : ℕ). drop m before) all

  pub not_placed : max_entries < n → Placed ss before before
  not_placed h = record { len = refl; rest_is = refl; groups_are = λ k. absurd (omega (arith, e)) }

-- ---- the list

pub list_refused : {j : GroupsJudged} {a : GroupsAnswer} {before after : List ℤ} → j ≡ refused a → drop max_entries after ≡ drop max_entries before
    → {r : GroupsReading} → r ≡ groups_returned (refused a) → ListStores j before r after
list_refused e d q = rw e (record { result_is = q; list_is = refl; most = omega arith; rest_is = d })

pub clauses_refused : {text : List ℕ} {at vars clauses base : ℕ} {before : List ℤ} {r : Result ℕ GroupsAnswer} {after : List ℤ}
    → ClausesAt text at vars clauses base before r after → (a : GroupsAnswer) → r ≡ Err a → (ss : List ℕ) → vars_in ss ≡ vars
    → left_at text (entries_due ss clauses []) at ≡ refused a
clauses_refused {text} {at} {vars} {clauses} {base} {before} {r} {after} w a e =
    subst (λ (x : Result ℕ GroupsAnswer). JudgesClauses text at vars clauses base before x after) e w.judges

pub clauses_complete : {text : List ℕ} {at vars clauses base : ℕ} {before : List ℤ} {r : Result ℕ GroupsAnswer} {after : List ℤ}
    → ClausesAt text at vars clauses base before r after → (n : ℕ) → r ≡ Ok n → Complete text at vars clauses base before n after
clauses_complete {text} {at} {vars} {clauses} {base} {before} {r} {after} w n e =
    subst (λ (x : Result ℕ GroupsAnswer). JudgesClauses text at vars clauses base before x after) e w.judges

module _ {text ss : List ℕ} {at vars clauses base : ℕ} {before between after : List ℤ} {n : ℕ}
    (v : vars_in ss ≡ vars) (base_is : base ≡ length (entries_of (groups_from 0 ss))) (p : Placed ss before between)
    (w : Complete text at vars clauses base between n after) (d : drop max_entries after ≡ drop max_entries between) where
  abbrev own : ℕ
  own = length (groups_from 0 ss) + clauses

  count_is : length (expanded_entries ss w.read) ≡ n
  unfolding expanded_entries
  count_is = omega (arith, w.counted, base_is, length-append (entries_of (groups_from 0 ss)) w.read)

  end_is : (b c : Bool) → ltb max_clauses own ≡ b → ltb max_entries n ≡ c → {r : GroupsReading}
      → r ≡ finished_if b c (record { answer = GroupsAnswer.Accepted; groups = length ss; vars = vars; clauses = own; entries = n })
      → ListStores (left_at text (entries_due ss clauses []) at) before r after
  unfolding expanded_entries
  end_is true c p1 p2 q = list_refused (w.judged ss v ∙ rw (le-ltb (count is_zero w.read) clauses w.enough, p1)) (d ∙ p.rest_is) q
  end_is false true p1 p2 q =
      list_refused (w.judged ss v ∙ rw (le-ltb (count is_zero w.read) clauses w.enough, p1, count_is, p2)) (d ∙ p.rest_is) q
  end_is false false p1 p2 q =
      let fits : n ≤ max_entries = ltb-false max_entries n p2 in
      let j : left_at text (entries_due ss clauses []) at ≡ accepted ss clauses w.read =
      w.judged ss v ∙ rw (le-ltb (count is_zero w.read) clauses w.enough, p1, count_is, p2) in
      rw j (record {
        result_is = q ∙ rw (sym v, sym count_is);
        list_is = ap (λ (k : ℕ). take k after) count_is ∙ list fits;
        most = omega (arith, count_is);
        rest_is = d ∙ p.rest_is;
      })
    where
      list : n ≤ max_entries → take n after ≡ expanded_entries ss w.read
      list fits =
          w.stored fits ∙
          ap (λ (es : List ℤ). es ++ w.read) (ap (λ (k : ℕ). take k between) base_is ∙ p.groups_are (omega (arith, w.counted, base_is)))

  pub list_finished : {r : GroupsReading} → r ≡ finished_of (length ss) vars own n
      → ListStores (left_at text (entries_due ss clauses []) at) before r after
  list_finished q = end_is (ltb max_clauses own) (ltb max_entries n) refl refl q

-- ---- a judgement by another

pub stores_of : {j k : GroupsJudged} {before : List ℤ} {r : GroupsReading} {after : List ℤ} → j ≡ k → ListStores k before r after → ListStores j before r after
stores_of e s = rw e s

pub sizes_of_lem : {j k : GroupsJudged} {before after : List ℕ} → j ≡ k → SizesStore k before after → SizesStore j before after
sizes_of_lem e s = rw e s

-- ---- the sizes are those that stand before the number of clauses

-- sizes of a file that is accepted
KeepsSizes : List ℕ → GroupsJudged → Type 0
KeepsSizes ss (accepted ns c es) = ns ≡ ss
KeepsSizes ss (refused a) = Prim.Unit {0}

keeps_unless : (ss : List ℕ) (o : Option GroupsAnswer) (j : GroupsJudged) → KeepsSizes ss j → KeepsSizes ss (unless o j)
unfolding KeepsSizes
keeps_unless ss none j k = k
keeps_unless ss (some a) j k = Prim.tt {0}

keeps_entries : (end : ℕ) (ss : List ℕ) (c : ℕ) (es : List ℤ) (ts : List Piece) → KeepsSizes ss (judge_parts end (entries_due ss c es) ts)
unfolding judge_parts KeepsSizes
keeps_entries end ss c es [] = keeps_unless ss (first_of (end_rules end ss c es)) (accepted ss c es) refl
keeps_entries end ss c es (t ∷ ts) = go (entry_of t.bytes) (λ l. keeps_entries end ss c (es ++ l ∷ []) ts)
  where
    go : (o : Option ℤ) → ((l : ℤ) → KeepsSizes ss (judge_parts end (entries_due ss c (es ++ l ∷ [])) ts))
        → KeepsSizes ss (judge_token o (entries_due ss c es) t.at (λ q. judge_parts end q ts))
    go none ih = Prim.tt {0}
    go (some l) ih =
        keeps_unless ss (first_of (number_rules (entries_due ss c es) t.at l)) (judge_parts end (next (entries_due ss c es) l) ts) (ih l)

keeps_sizes : (end : ℕ) (ss : List ℕ) (ts : List Piece) → KeepsSizes ss (judge_parts end (sizes_due 0 ss) ts)
unfolding judge_parts KeepsSizes
keeps_sizes end ss [] = Prim.tt {0}
keeps_sizes end ss (t ∷ ts) = go (entry_of t.bytes)
  where
    go : (o : Option ℤ) → KeepsSizes ss (judge_token o (sizes_due 0 ss) t.at (λ q. judge_parts end q ts))
    go none = Prim.tt {0}
    go (some l) =
        keeps_unless ss (first_of (number_rules (sizes_due 0 ss) t.at l)) (judge_parts end (next (sizes_due 0 ss) l) ts)
        (keeps_entries end ss (var_of l) [] ts)

pub sizes_refused : {text : List ℕ} {at groups : ℕ} {before : List ℕ} {r : Counted} {after : List ℕ} → SizesAt text at groups before r after
    → (a : GroupsAnswer) → r ≡ Err a → left_at text (sizes_due groups []) at ≡ refused a
sizes_refused {text} {at} {groups} {before} {r} {after} w a e = subst (JudgesSizes text at groups before after) e w.judges

pub sizes_counted : {text : List ℕ} {at groups : ℕ} {before : List ℕ} {r : Counted} {after : List ℕ} → SizesAt text at groups before r after
    → (to vars : ℕ) → r ≡ Ok (to, vars) → Sizing text at groups before groups to vars after
sizes_counted {text} {at} {groups} {before} {r} {after} w to vars e = subst (JudgesSizes text at groups before after) e w.judges

pub body_refused : {j : GroupsJudged} {a : GroupsAnswer} {before after : List ℕ} → j ≡ refused a → drop max_groups after ≡ drop max_groups before
    → SizesStore j before after
body_refused e d = rw e (record { sizes_are = refl; few = omega arith; rest_is = d })

module _ {text : List ℕ} {at groups : ℕ} {before : List ℕ} {to vars : ℕ} {now : List ℕ} (w : Sizing text at groups before groups to vars now)
    (few : groups ≤ max_groups) (room : max_groups ≤ length before) where
  pub sizes_judged : left_at text (sizes_due groups []) at ≡ left_at text (sizes_due 0 (take groups now)) to
  sizes_judged = w.judged 0 (omega arith)

  long : length (take groups now) ≡ groups
  long = length-take-le groups now (omega (arith, w.len))

  pub sizes_small : SizesSmall (take groups now)
  sizes_small = record { few = omega (arith, long); small = w.small }

  pub sizes_stored : SizesStore (left_at text (sizes_due groups []) at) before now
  unfolding KeepsSizes
  sizes_stored = sizes_of_lem sizes_judged (go (left_at text (sizes_due 0 (take groups now)) to) (keeps_sizes (length text) (take groups now) _))
    where
      go : (j : GroupsJudged) → KeepsSizes (take groups now) j → SizesStore j before now
      go (accepted ss c es) k =
          record {
            sizes_are = ap (λ (ns : List ℕ). take (length ns) now) k ∙ ap (λ (m : ℕ). take m now) long ∙ sym k;
            few = omega (arith, ap length k, long);
            rest_is = w.rest_is;
          }
      go (refused a) k = record { sizes_are = refl; few = omega arith; rest_is = w.rest_is }

-- ---- zeros behind the sizes

pub sizes-cleared : (before : List ℕ) (from : ℕ) → from ≤ max_groups → max_groups ≤ length before → {part : List ℕ}
    → part ≡ replicate (length (mid_of from (max_groups - from) before)) 0
    → put_mid from (max_groups - from) before part ≡ sizes_filled (take from before) before
sizes-cleared before from h k {part} e =
    let many : length (mid_of from (max_groups - from) before) ≡ max_groups - length (take from before) =
    mid_len from max_groups before k ∙ ap (λ (n : ℕ). max_groups - n) (sym (length-take-le from before (omega arith))) in
    ap₂ (λ (xs ys : List ℕ). take from before ++ (xs ++ ys)) (e ∙ ap (λ (n : ℕ). replicate n 0) many) (Post-is from max_groups before h) ∙
    sym (append_assoc (take from before) (replicate (max_groups - length (take from before)) 0) (drop max_groups before))

-- ---- the text itself is never refused with 1 or 2

is_late : GroupsJudged → Bool
is_late (accepted ss c es) = true
is_late (refused a) = clears a

late_unless : (l : List (Check GroupsAnswer)) (j : GroupsJudged) → all (λ c. clears c.answer) l ≡ true
    → is_late j ≡ true → is_late (unless (first_of l) j) ≡ true
unfolding is_late
late_unless [] j h k = k
late_unless (c ∷ cs) j h k = go c.passes (late_unless cs j (and_right (clears c.answer) (all (λ d. clears d.answer) cs) h) k)
  where
    go : (b : Bool) → is_late (unless (first_of cs) j) ≡ true → is_late (unless (or_next b c.answer (first_of cs)) j) ≡ true
    go true ih = and_left (clears c.answer) (all (λ d. clears d.answer) cs) h
    go false ih = ih

rules_late : (p : Part) (at : ℕ) (l : ℤ) → all (λ c. clears c.answer) (number_rules p at l) ≡ true
rules_late groups_due at l = refl
rules_late (sizes_due zero ss) at l = refl
rules_late (sizes_due (suc n) ss) at l = refl
rules_late (entries_due ss c es) at l = refl

late_parts : (end : ℕ) (p : Part) (ts : List Piece) → is_late (judge_parts end p ts) ≡ true
unfolding judge_parts is_late
late_parts end groups_due [] = refl
late_parts end (sizes_due n ss) [] = refl
late_parts end (entries_due ss c es) [] = late_unless (end_rules end ss c es) (accepted ss c es) refl refl
late_parts end p (t ∷ ts) = go (entry_of t.bytes) (λ q. late_parts end q ts)
  where
    go : (o : Option ℤ) → ((q : Part) → is_late (judge_parts end q ts) ≡ true) → is_late (judge_token o p t.at (λ q. judge_parts end q ts)) ≡ true
    go none ih = refl
    go (some l) ih = late_unless (number_rules p t.at l) (judge_parts end (next p l) ts) (rules_late p t.at l) (ih (next p l))

written_late : (j : GroupsJudged) (entries : List ℤ) (sizes : List ℕ) → is_late j ≡ true
    → (entries_written j entries ≡ filled (list_of j) entries) × (sizes_written j sizes ≡ sizes_filled (sizes_of j) sizes)
unfolding is_late
written_late (accepted ss c es) entries sizes h = (refl, refl)
written_late (refused a) entries sizes h = (
  ap (λ (b : Bool). cleared_if b (filled [] entries) entries) h,
  ap (λ (b : Bool). cleared_if b (sizes_filled [] sizes) sizes) h,
)

-- ---- the ways a reading ends

module _ (text : List ℕ) (entries : List ℤ) (sizes : List ℕ) where
  abbrev given : GroupsGiven
  given = groups_given text entries sizes

  ends_with : (a : GroupsAnswer) → clears a ≡ false → judge_groups (length entries) (length sizes) text ≡ refused a → (r : GroupsReading)
      → r ≡ groups_returned (refused a) → ReadsGroups given r entries sizes
  unfolding judged_of groups_reading_of groups_entries_after groups_sizes_after
  ends_with a k j r e =
      record {
        result_is = e ∙ ap groups_returned (sym j);
        entries_are = ap (λ (b : Bool). cleared_if b (filled [] entries) entries) (sym k) ∙ ap (λ (d : GroupsJudged). entries_written d entries) (sym j);
        sizes_are = ap (λ (b : Bool). cleared_if b (sizes_filled [] sizes) sizes) (sym k) ∙ ap (λ (d : GroupsJudged). sizes_written d sizes) (sym j);
      }

  pub read_short_entries : length entries < max_entries → (r : GroupsReading) → r ≡ groups_returned (refused GroupsAnswer.ShortBuffer)
      → ReadsGroups given r entries sizes
  unfolding judge_groups
  read_short_entries h = ends_with GroupsAnswer.ShortBuffer refl (rw (lt-ltb (length entries) max_entries h))

  pub read_short_sizes : max_entries ≤ length entries → length sizes < max_groups → (r : GroupsReading)
      → r ≡ groups_returned (refused GroupsAnswer.ShortBuffer) → ReadsGroups given r entries sizes
  unfolding judge_groups
  read_short_sizes h k =
      ends_with GroupsAnswer.ShortBuffer refl (rw (le-ltb (length entries) max_entries h, lt-ltb (length sizes) max_groups k))

  module _ (room : max_entries ≤ length entries) (sizes_room : max_groups ≤ length sizes) where
    pub read_long : max_text < length text → (r : GroupsReading) → r ≡ groups_returned (refused GroupsAnswer.LongText) → ReadsGroups given r entries sizes
    unfolding judge_groups
    read_long h =
        ends_with GroupsAnswer.LongText refl
        (rw (le-ltb (length entries) max_entries room, le-ltb (length sizes) max_groups sizes_room, lt-ltb max_text (length text) h))

    judge_is : length text ≤ max_text → judge_groups (length entries) (length sizes) text ≡ left_at text groups_due 0
    unfolding judge_groups
    judge_is h = rw (le-ltb (length entries) max_entries room, le-ltb (length sizes) max_groups sizes_room, le-ltb max_text (length text) h)

    pub read_done : length text ≤ max_text → {r : GroupsReading} {es : List ℤ} {ss : List ℕ} → ListStores (left_at text groups_due 0) entries r es
        → SizesStore (left_at text groups_due 0) sizes ss → {es' : List ℤ} → es' ≡ cleared es r.entries max_entries
        → {ss' : List ℕ} → ss' ≡ sizes_filled (take r.groups ss) ss → ReadsGroups given r es' ss'
    unfolding judged_of groups_reading_of groups_entries_after groups_sizes_after
    read_done h {r} {es} {ss} s z {es'} e {ss'} f =
        let j = left_at text groups_due 0 in
        let (we, wz) = written_late j entries sizes (late_parts (length text) groups_due _) in
        let whole = sym (judge_is h) in
        record {
          result_is = s.result_is ∙ ap groups_returned whole;
          entries_are =
              e ∙
              ap (λ (n : ℕ). cleared es n max_entries) (ap (λ (q : GroupsReading). q.entries) s.result_is ∙ (counts j).0) ∙
              ap₂ (λ (xs ys : List ℤ). xs ++ replicate (max_entries - length (list_of j)) (pos 0) ++ ys) s.list_is s.rest_is ∙
              sym we ∙ ap (λ (d : GroupsJudged). entries_written d entries) whole;
          sizes_are =
              f ∙
              ap (λ (n : ℕ). sizes_filled (take n ss) ss) (ap (λ (q : GroupsReading). q.groups) s.result_is ∙ (counts j).1) ∙
              ap₂ (λ (xs ys : List ℕ). xs ++ replicate (max_groups - length xs) 0 ++ ys) z.sizes_are z.rest_is ∙
              sym wz ∙ ap (λ (d : GroupsJudged). sizes_written d sizes) whole;
        }
      where
        counts : (j : GroupsJudged) → ((groups_returned j).entries ≡ length (list_of j)) × ((groups_returned j).groups ≡ length (sizes_of j))
        counts (accepted ns c xs) = (refl, refl)
        counts (refused a) = (refl, refl)

-- its counts are at most 4,096 and 128
pub stores_entries : {j : GroupsJudged} {before : List ℤ} {r : GroupsReading} {after : List ℤ} → ListStores j before r after → r.entries ≤ max_entries
stores_entries {j} s = go j s.most (ap (λ (q : GroupsReading). q.entries) s.result_is)
  where
    go : (k : GroupsJudged) → length (list_of k) ≤ max_entries → {n : ℕ} → n ≡ (groups_returned k).entries → n ≤ max_entries
    go (accepted ss c es) m e = omega (arith, m, e)
    go (refused a) m e = omega (arith, e)

pub stores_groups : {j : GroupsJudged} {before : List ℤ} {r : GroupsReading} {after : List ℤ} {sb sa : List ℕ} → ListStores j before r after
    → SizesStore j sb sa → r.groups ≤ max_groups
stores_groups {j} s z = go j z.few (ap (λ (q : GroupsReading). q.groups) s.result_is)
  where
    go : (k : GroupsJudged) → length (sizes_of k) ≤ max_groups → {n : ℕ} → n ≡ (groups_returned k).groups → n ≤ max_groups
    go (accepted ss c es) m e = omega (arith, m, e)
    go (refused a) m e = omega (arith, e)
