-- The laws of the loop over the entries of a file's own clauses (src/clauses.rt).
--
--   clausing_start, clausing_far, clausing_next, clausing_step     so many entries are read, and stored if there is room
--   clausing_refused, clausing_short, clausing_done     the ways it ends
--   stepped           a step where the entry is stored as the machine holds it
--
-- Assumes nothing.
use mathlib.Core.Path.{◌≡◌, refl, sym, ◌∙◌, ap}
use mathlib.Core.Bool.{Bool, true, false}
use mathlib.Core.List.{List, [], ◌∷◌, ◌++◌, append-nil, append_assoc}
use Prim.Native.Nat.{ℕ, ◌+◌, ◌≤◌, ◌<◌}
use native.Mathlib.Omega.{arith}
use native.Mathlib.Numerals.{add-one}
use lib.Dec.{ltb}
use lib.IntN.{ℤ}
use lib.ListN.{length, take, drop, length-append, length-set}
use lib.Seq.{take-suc-set, drop-set-lt}
use mir.Syntax.{w32}
use mir.Val.{to_z, of_z}
use borrow.Author.Tests.{ltb-true, lt-ltb, eq-eqb, ne_eqb}
use Rattle.std.specs.Prelude.{Some, None, Ok, Err}
use Rattle.rules.specs.declared.GroupsAnswer.{GroupsAnswer}
use Rattle.rules.specs.Lists.{count, count_if, is_zero}
use Rattle.rules.specs.Numbers.{max_vars, max_entries}
use Rattle.rules.specs.Meaning.{var_of}
use Rattle.texts.specs.Groups.{vars_in}
use Rattle.texts.specs.GroupsReading.{Part, entries_due, refused, judge_end}
use Rattle.texts.specs.GroupsRefusals.{Fits, entry}
use Rattle.rules.proofs.ListLaws.{count_append}
use Rattle.reader.specs.declared.token.Entry.{Entry}
use Rattle.reader.specs.Words.{value_of}
use Rattle.reader.proofs.StepLaws.{var_is, zero_is, value_back}
use Rattle.groups.specs.declared.step.Due.{Due}
use Rattle.groups.specs.Steps.{due_of, left_at, Step, Taken, Steps}
use Rattle.groups.specs.Clauses.{set_if, stored_if, Clausing, Complete}
use Rattle.groups.proofs.StepLaws.{step_says}

-- ---- an entry that is stored if there is room

length-stored_if : (n : ℕ) (x : ℤ) (es : List ℤ) → length (stored_if n x es) ≡ length es
length-stored_if n x es = go (ltb n max_entries)
  where
    go : (b : Bool) → length (set_if b n x es) ≡ length es
    go true = length-set es n x
    go false = refl

rest_stored_if : (n : ℕ) (x : ℤ) (es : List ℤ) → drop max_entries (stored_if n x es) ≡ drop max_entries es
rest_stored_if n x es = go (ltb n max_entries) refl
  where
    go : (b : Bool) → ltb n max_entries ≡ b → drop max_entries (set_if b n x es) ≡ drop max_entries es
    go true e = drop-set-lt max_entries es n x (ltb-true n max_entries e)
    go false e = refl

-- ---- the loop

-- variables enough to speak of: some sizes have so many
sizes_with : (vars : ℕ) → vars_in (vars ∷ []) ≡ vars
sizes_with vars = omega arith

pub clausing_start : (text : List ℕ) (at vars clauses base : ℕ) (before : List ℤ) → at ≤ length text
    → Clausing text at vars clauses base before at 0 base before
clausing_start text at vars clauses base before h =
    record {
      read = [];
      judged = λ ss e. refl;
      complete_are = refl;
      counted = omega arith;
      far = omega arith;
      within = h;
      len = refl;
      rest_is = refl;
      stored = λ k. sym (append-nil (take base before));
    }

entry_fits : {ss : List ℕ} {c : ℕ} {es : List ℤ} {l : ℤ} → Fits (entries_due ss c es) l → (count is_zero es < c) × (var_of l ≤ vars_in ss)
entry_fits (entry h u) = (h, u)

module _ {text : List ℕ} {at vars clauses base : ℕ} {before : List ℤ} {to complete n : ℕ} {now : List ℤ}
    (w : Clausing text at vars clauses base before to complete n now) {r : Step} (s : Steps text to (Due.Entry vars clauses complete) r) where
  abbrev due : List ℕ → Part
  due ss = entries_due ss clauses w.read

  due_is : (ss : List ℕ) → vars_in ss ≡ vars → due_of (due ss) ≡ Due.Entry vars clauses complete
  due_is ss e = rw (e, w.complete_are)

  pub clausing_refused : (a : GroupsAnswer) → r ≡ Err a → (ss : List ℕ) → vars_in ss ≡ vars
      → left_at text (entries_due ss clauses []) at ≡ refused a
  clausing_refused a e ss v = w.judged ss v ∙ step_says (Err a) s e (due ss) (due_is ss v)

  ended : r ≡ Ok None → (ss : List ℕ) → vars_in ss ≡ vars → left_at text (entries_due ss clauses []) at ≡ judge_end (length text) (due ss)
  ended e ss v = w.judged ss v ∙ step_says (Ok None) s e (due ss) (due_is ss v)

  pub clausing_short : r ≡ Ok None → complete < clauses → (ss : List ℕ) → vars_in ss ≡ vars
      → left_at text (entries_due ss clauses []) at ≡ refused (GroupsAnswer.ShortText (length text))
  clausing_short e h ss v = ended e ss v ∙ rw (lt-ltb (count is_zero w.read) clauses (omega (arith, w.complete_are)))

  pub clausing_done : r ≡ Ok None → clauses ≤ complete → Complete text at vars clauses base before n now
  clausing_done e h =
      record {
        read = w.read;
        judged = ended e;
        enough = omega (arith, w.complete_are);
        counted = w.counted;
        stored = w.stored;
      }

  module _ (next : ℕ) (e : Entry) (q : r ≡ Ok (Some (next, e))) where
    taken : (ss : List ℕ) → vars_in ss ≡ vars → Taken text (due ss) to next (value_of e)
    taken ss v = step_says (Ok (Some (next, e))) s q (due ss) (due_is ss v)

    -- the number of its variable, and room for one more clause
    pub clausing_next : (e.number ≤ vars) × (complete < clauses) × (to < next) × (next ≤ length text)
    clausing_next =
        let t = taken (vars ∷ []) (sizes_with vars) in
        let (a, b) = entry_fits t.fits in
        (omega (arith, b, var_is e, sizes_with vars), omega (arith, a, w.complete_are), t.onward, t.within)

    pub clausing_step : max_entries ≤ length now → {after : List ℤ} → after ≡ stored_if n (value_of e) now
        → {complete' : ℕ} → complete' ≡ count_if (is_zero (value_of e)) complete
        → Clausing text at vars clauses base before next complete' (n + 1) after
    clausing_step room {after} stored {complete'} more =
        let (a, b, onward, within) = clausing_next in
        record {
          read = w.read ++ value_of e ∷ [];
          judged = λ ss v. w.judged ss v ∙ (taken ss v).judged;
          complete_are = more ∙ ap (count_if (is_zero (value_of e))) w.complete_are ∙ snoc (is_zero (value_of e)) refl;
          counted = omega (arith, w.counted, length-append w.read (value_of e ∷ []));
          far = omega (arith, w.far, onward, length-append w.read (value_of e ∷ []));
          within = within;
          len = ap length stored ∙ length-stored_if n (value_of e) now ∙ w.len;
          rest_is = ap (drop max_entries) stored ∙ rest_stored_if n (value_of e) now ∙ w.rest_is;
          stored = λ fits.
              ap (take (n + 1)) (stored ∙ ap (λ (b : Bool). set_if b n (value_of e) now) (lt-ltb n max_entries (omega arith))) ∙
              rw (add-one n) (take-suc-set now n (value_of e) (omega arith)) ∙
              ap (λ (es : List ℤ). es ++ value_of e ∷ []) (w.stored (omega arith)) ∙ append_assoc (take base before) w.read (value_of e ∷ []);
        }
      where
        snoc : (z : Bool) → is_zero (value_of e) ≡ z → count_if z (count is_zero w.read) ≡ count is_zero (w.read ++ value_of e ∷ [])
        snoc true z = omega (arith, count_append is_zero w.read (value_of e ∷ []), ap (λ (b : Bool). count_if b 0) z)
        snoc false z = omega (arith, count_append is_zero w.read (value_of e ∷ []), ap (λ (b : Bool). count_if b 0) z)

-- the number of complete clauses behind an entry: one more behind a zero
pub complete_zero : (e : Entry) (n : ℕ) → e.number ≡ 0 → n + 1 ≡ count_if (is_zero (value_of e)) n
complete_zero e n h = rw (zero_is e, eq-eqb e.number 0 h) (add-one n)

pub complete_other : (e : Entry) (n : ℕ) → (e.number ≡ 0 → ⊥) → n ≡ count_if (is_zero (value_of e)) n
complete_other e n h = rw (zero_is e, ne_eqb e.number 0 h)

-- the step of the loop, where the entry is stored as the machine holds it
module _ {text : List ℕ} {at vars clauses base : ℕ} {before : List ℤ} {to complete n : ℕ} {now : List ℤ}
    (w : Clausing text at vars clauses base before to complete n now) {r : Step} (s : Steps text to (Due.Entry vars clauses complete) r)
    (next : ℕ) (e : Entry) (q : r ≡ Ok (Some (next, e))) where
  pub stepped : max_entries ≤ length now → vars ≤ max_vars → {x : ℤ} → x ≡ value_of e → {after : List ℤ} → after ≡ stored_if n (to_z w32 (of_z w32 x)) now
      → {complete' : ℕ} → complete' ≡ count_if (is_zero (value_of e)) complete
      → Clausing text at vars clauses base before next complete' (n + 1) after
  stepped room small {x} v stored more =
      let facts = clausing_next w s next e q in
      let back : to_z w32 (of_z w32 x) ≡ value_of e = ap (λ (z : ℤ). to_z w32 (of_z w32 z)) v ∙ value_back e (omega (arith, facts.0, small)) in
      clausing_step w s next e q room (stored ∙ ap (λ (z : ℤ). stored_if n z now) back) more
