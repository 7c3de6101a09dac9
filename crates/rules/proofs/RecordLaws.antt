-- The laws of records (specs/Records): what a call does to them at each index, what they count, and what is known of them at every
-- progress that a run reaches.
--
--   length-records_from, records_at     a record for each variable still, and what an index holds then
--   length-filtered, Changes, filtered_changes, forced_changes     what compare, flip and a chunk change: open variables alone
--   count_old                     a row of an earlier call counts the same records
--   count_compare, count_flip, count_chunk, count_none     the row of this call counts what it settled
--   Shape                         the three kinds of records; shape_call, shape_open, shape_free: what each says of its call
--   recorded                      what is said of them follows
--   RecordsAt         what is known of the records; same_length, status_was, in_shape: there are as many, with these statuses
--   Cases, cases      what an index holds after a call
--   records_begun, records_more, records_row     it is known before the first call, and goes on
--   records_model, records_none, records_stop, first_none_records, records_first_none     the ends of a call
--   known_records                 it is known at every progress that a run reaches
--
-- Assumes nothing.
use mathlib.Core.Path.{◌≡◌, refl, sym, ◌∙◌, ap}
use mathlib.Core.Logic.{◌≢◌, ◌⊎◌, inl, inr}
use mathlib.Core.Bool.{Bool, true, false}
use mathlib.Core.List.Memᴰ
use mathlib.Core.List.{List, [], ◌∷◌, ◌++◌}
use Prim.Native.Nat.{ℕ, zero, suc, ◌+◌, ◌≤◌, ◌<◌}
use native.Mathlib.Omega.{arith}
use native.Mathlib.Nat.{add-zero, add-suc, suc-add}
use lib.Dec.{eqb}
use lib.ListN.{length, get_or, replicate, length-map, length-append, length-replicate, get_or-replicate, get_or-map, get_or-eq_default}
use lib.Seq.{ext_get_or}
use borrow.Author.Tests.{eq-eqb, ne_eqb}
use Rattle.rules.specs.declared.Outcome.{Outcome}
use Rattle.rules.specs.declared.Way.{Way}
use Rattle.rules.specs.declared.Record.{Record}
use Rattle.rules.specs.Lists.{In, count, count_if}
use Rattle.rules.specs.Numbers.{way_number}
use Rattle.rules.specs.Meaning.{Values}
use Rattle.rules.specs.Records.{open_record, record_at, statuses_of, settled_if, records_from, way_if, settled_by, by_model}
use Rattle.rules.specs.Run.{Task, Row, Progress, status_at, is_open, opens, freed_if, freed_from, differs, can_flip, compared}
use Rattle.rules.specs.Run.{filtered, model_row, row_after, forced_by, force_first, begun, after_model, after_none, after_stop}
use Rattle.rules.specs.Log.{forced_in}
use Rattle.rules.specs.Recorded.{Recorded, Counted}
use Rattle.rules.specs.Trace.{Reached, first_model, next_model, next_none}
use Rattle.rules.proofs.ListLaws.{le_or_lt, never, apart, get_d_in, get_d_default, count_of_none}
use Rattle.rules.proofs.StatusLaws.{count_if_add, length-freed_from, freed_at, length-force_first}
use Rattle.rules.proofs.KnownLaws.{first_model_is}
use Rattle.rules.proofs.RunTrace.{known, taken_is, none_forces}

-- ---- what an index holds

pub length-records_from : (j call : ℕ) (way : ℕ → Way) (ss : List ℕ) (rs : List Record) → length (records_from j call way ss rs) ≡ length rs
length-records_from j call way ss [] = refl
length-records_from j call way [] (r ∷ rs) = refl
length-records_from j call way (s ∷ ss) (r ∷ rs) = ap suc (length-records_from (suc j) call way ss rs)

-- the record that a call would write at an index
abbrev pub new_at : ℕ → ℕ → (ℕ → Way) → List ℕ → ℕ → Record
new_at j call way ss i = record { status = status_at ss i; call = call; way = way (j + i) }

pub records_at : (j call : ℕ) (way : ℕ → Way) (ss : List ℕ) (rs : List Record) (i : ℕ) → length ss ≡ length rs → i < length rs
    → record_at (records_from j call way ss rs) i ≡ settled_if (record_at rs i).status (status_at ss i) (new_at j call way ss i) (record_at rs i)
records_at j call way ss [] i e h = absurd (omega arith)
records_at j call way [] (r ∷ rs) i e h = absurd (omega arith)
records_at j call way (s ∷ ss) (r ∷ rs) zero e h = rw add-zero refl
records_at j call way (s ∷ ss) (r ∷ rs) (suc i) e h =
    rw (add-suc, ← suc-add) (records_at (suc j) call way ss rs i (omega arith) (omega arith))

-- ---- what a call changes: open variables alone

-- a status is what it was, or its variable was open and the new one is of this kind
abbrev pub Changes : (ℕ → Type 0) → List ℕ → List ℕ → Type 0
Changes P ss ts = (i : ℕ) → (status_at ts i ≡ status_at ss i) ⊎ ((status_at ss i ≡ 0) × P (status_at ts i))

abbrev pub IsOne : ℕ → Type 0
IsOne s = s ≡ 1

abbrev pub IsForced : ℕ → Type 0
IsForced s = 2 ≤ s

pub length-filtered : (k : Task) (p : Progress) (m : Values) → length (filtered k p m) ≡ length p.statuses
length-filtered k p m =
    length-freed_from 0 (can_flip k.formula m) (compared p.first m p.statuses) ∙ length-freed_from 0 (differs p.first m) p.statuses

pub filtered_changes : (k : Task) (p : Progress) (m : Values) → Changes IsOne p.statuses (filtered k p m)
filtered_changes k p m i = go (freed_at 0 (can_flip k.formula m) cs i) (freed_at 0 (differs p.first m) ss i)
  where
    ss : List ℕ
    ss = p.statuses

    cs : List ℕ
    cs = compared p.first m ss

    go : (status_at (filtered k p m) i ≡ status_at cs i) ⊎ ((status_at cs i ≡ 0) × (status_at (filtered k p m) i ≡ 1) × (can_flip k.formula m (0 + i) ≡ true))
        → (status_at cs i ≡ status_at ss i) ⊎ ((status_at ss i ≡ 0) × (status_at cs i ≡ 1) × (differs p.first m (0 + i) ≡ true))
        → (status_at (filtered k p m) i ≡ status_at ss i) ⊎ ((status_at ss i ≡ 0) × (status_at (filtered k p m) i ≡ 1))
    go (inl a) (inl b) = inl (a ∙ b)
    go (inl a) (inr (z, o, d)) = inr (z, a ∙ o)
    go (inr (z, o, d)) (inl b) = inr (sym b ∙ z, o)
    go (inr (z, o, d)) (inr (y, q, e)) = absurd (omega arith)

forced_by_le : (b : ℕ) → 2 ≤ forced_by b
forced_by_le zero = omega arith
forced_by_le (suc zero) = omega arith
forced_by_le (suc (suc b)) = omega arith

pub forced_changes : (m : Values) (ss : List ℕ) (n : ℕ) → Changes IsForced ss (force_first m ss n)
forced_changes [] ss n i = inl refl
forced_changes (b ∷ m) [] n i = inl refl
forced_changes (b ∷ m) (zero ∷ ss) zero i = inl refl
forced_changes (b ∷ m) (zero ∷ ss) (suc n) zero = inr (refl, forced_by_le b)
forced_changes (b ∷ m) (zero ∷ ss) (suc n) (suc i) = forced_changes m ss n i
forced_changes (b ∷ m) (suc s ∷ ss) n zero = inl refl
forced_changes (b ∷ m) (suc s ∷ ss) n (suc i) = forced_changes m ss n i

-- ---- what is counted

settled_by_other : (n : ℕ) (way : Way) (r : Record) → r.call ≢ n → settled_by n way r ≡ false
settled_by_other n way r h = rw (ne_eqb r.call n h)

-- a row of an earlier call counts what it counted: a record that changes was open, and takes another call's number
pub count_old : (n : ℕ) (w : Way) (j call : ℕ) (way : ℕ → Way) (ss : List ℕ) (rs : List Record) → n ≢ call → n ≢ 0
    → ((r : Record) → In r rs → r.status ≡ 0 → r.call ≡ 0) → count (settled_by n w) (records_from j call way ss rs) ≡ count (settled_by n w) rs
count_old n w j call way ss [] a b h = refl
count_old n w j call way [] (r ∷ rs) a b h = refl
count_old n w j call way (s ∷ ss) (r ∷ rs) a b h =
    cc (one r.status refl s, count_old n w (suc j) call way ss rs a b (λ q i. h q (Memᴰ.tail i)))
  where
    new : ℕ → Record
    new t = record { status = t; call = call; way = way j }

    one : (q : ℕ) → r.status ≡ q → (t : ℕ) → settled_by n w (settled_if q t (new t) r) ≡ settled_by n w r
    one zero e zero = refl
    one zero e (suc t) =
        let z = h r (Memᴰ.head refl) e in
        settled_by_other n w (new (suc t)) (λ c. a (sym c)) ∙ sym (settled_by_other n w r (λ c. b (sym c ∙ z)))
    one (suc q) e t = refl

-- the row of this call counts none where no index has the way
pub count_none : (w : Way) (j call : ℕ) (way : ℕ → Way) (ss : List ℕ) (rs : List Record)
    → ((i : ℕ) → eqb (way_number (way i)) (way_number w) ≡ false) → ((r : Record) → In r rs → r.call ≢ call)
    → count (settled_by call w) (records_from j call way ss rs) ≡ 0
count_none w j call way ss [] f h = refl
count_none w j call way [] (r ∷ rs) f h = count_of_none (settled_by call w) (r ∷ rs) (λ q i. settled_by_other call w q (h q i))
count_none w j call way (s ∷ ss) (r ∷ rs) f h =
    rw (one r.status s) (count_none w (suc j) call way ss rs f (λ q i. h q (Memᴰ.tail i)))
  where
    new : ℕ → Record
    new t = record { status = t; call = call; way = way j }

    old : settled_by call w r ≡ false
    old = settled_by_other call w r (h r (Memᴰ.head refl))

    one : (q t : ℕ) → settled_by call w (settled_if q t (new t) r) ≡ false
    one zero zero = old
    one zero (suc t) = rw (eq-eqb call call refl) (f j)
    one (suc q) t = old

-- what compare drops, and then flip, and what is forced, is what this call's row counts of its records
module _ (call : ℕ) where
  new : ℕ → Way → Record
  new s way = record { status = s; call = call; way = way }

  -- one record, whose status was s: what is counted of it, and whether it was open and still is
  one_compare : (b d : Bool) (s : ℕ) (r : Record) → r.call ≢ call
      → count_if (settled_by call Way.Compare (settled_if s (freed_if d (freed_if b s)) (new (freed_if d (freed_if b s)) (way_if b)) r)) 0 +
      count_if (is_open (freed_if b s)) 0
      ≡ count_if (is_open s) 0
  unfolding new
  one_compare true true zero r h = rw (eq-eqb call call refl)
  one_compare true false zero r h = rw (eq-eqb call call refl)
  one_compare false true zero r h = rw (eq-eqb call call refl)
  one_compare false false zero r h = rw (settled_by_other call Way.Compare r h)
  one_compare true d (suc s) r h = rw (settled_by_other call Way.Compare r h)
  one_compare false d (suc s) r h = rw (settled_by_other call Way.Compare r h)

  one_flip : (b d : Bool) (s : ℕ) (r : Record) → r.call ≢ call
      → count_if (settled_by call Way.Flip (settled_if s (freed_if d (freed_if b s)) (new (freed_if d (freed_if b s)) (way_if b)) r)) 0 +
      count_if (is_open (freed_if d (freed_if b s))) 0
      ≡ count_if (is_open (freed_if b s)) 0
  unfolding new
  one_flip true true zero r h = rw (eq-eqb call call refl)
  one_flip true false zero r h = rw (eq-eqb call call refl)
  one_flip false true zero r h = rw (eq-eqb call call refl)
  one_flip false false zero r h = rw (settled_by_other call Way.Flip r h)
  one_flip true true (suc s) r h = rw (settled_by_other call Way.Flip r h)
  one_flip true false (suc s) r h = rw (settled_by_other call Way.Flip r h)
  one_flip false true (suc s) r h = rw (settled_by_other call Way.Flip r h)
  one_flip false false (suc s) r h = rw (settled_by_other call Way.Flip r h)

  abbrev Elsewhere : List Record → Type 0
  Elsewhere rs = (r : Record) → In r rs → r.call ≢ call

  module _ (p q : ℕ → Bool) where
    pub count_compare : (j : ℕ) (rs : List Record) → Elsewhere rs
        → count (settled_by call Way.Compare) (records_from j call (λ i. way_if (p i)) (freed_from j q (freed_from j p (statuses_of rs))) rs) +
        opens (freed_from j p (statuses_of rs))
        ≡ opens (statuses_of rs)
    unfolding new
    count_compare j [] h = refl
    count_compare j (r ∷ rs) h =
        let s = r.status in
        let ss = statuses_of rs in
        omega (
          arith,
          one_compare (p j) (q j) s r (h r (Memᴰ.head refl)),
          count_compare (suc j) rs (λ x i. h x (Memᴰ.tail i)),
          count_if_add (settled_by call Way.Compare (settled_if s (freed_if (q j) (freed_if (p j) s))
              (new (freed_if (q j) (freed_if (p j) s)) (way_if (p j))) r))
              (count (settled_by call Way.Compare) (records_from (suc j) call (λ i. way_if (p i)) (freed_from (suc j) q (freed_from (suc j) p ss)) rs)),
          count_if_add (is_open (freed_if (p j) s)) (opens (freed_from (suc j) p ss)),
          count_if_add (is_open s) (opens ss),
        )

    pub count_flip : (j : ℕ) (rs : List Record) → Elsewhere rs
        → count (settled_by call Way.Flip) (records_from j call (λ i. way_if (p i)) (freed_from j q (freed_from j p (statuses_of rs))) rs) +
        opens (freed_from j q (freed_from j p (statuses_of rs)))
        ≡ opens (freed_from j p (statuses_of rs))
    unfolding new
    count_flip j [] h = refl
    count_flip j (r ∷ rs) h =
        let s = r.status in
        let ss = statuses_of rs in
        omega (
          arith,
          one_flip (p j) (q j) s r (h r (Memᴰ.head refl)),
          count_flip (suc j) rs (λ x i. h x (Memᴰ.tail i)),
          count_if_add (settled_by call Way.Flip (settled_if s (freed_if (q j) (freed_if (p j) s)) (new (freed_if (q j) (freed_if (p j) s)) (way_if (p j))) r))
              (count (settled_by call Way.Flip) (records_from (suc j) call (λ i. way_if (p i)) (freed_from (suc j) q (freed_from (suc j) p ss)) rs)),
          count_if_add (is_open (freed_if (q j) (freed_if (p j) s))) (opens (freed_from (suc j) q (freed_from (suc j) p ss))),
          count_if_add (is_open (freed_if (p j) s)) (opens (freed_from (suc j) p ss)),
        )

  -- where the statuses stay, the records do
  pub records_same : (j : ℕ) (way : ℕ → Way) (rs : List Record) → records_from j call way (statuses_of rs) rs ≡ rs
  records_same j way [] = refl
  records_same j way (r ∷ rs) = cc (one r.status, records_same (suc j) way rs)
    where
      one : (s : ℕ) → settled_if s s (record { status = s; call = call; way = way j }) r ≡ r
      one zero = refl
      one (suc s) = refl

  pub count_chunk : (j : ℕ) (m : Values) (rs : List Record) (n : ℕ) → Elsewhere rs → length m ≡ length rs
      → count (settled_by call Way.Chunk) (records_from j call (λ i. Way.Chunk) (force_first m (statuses_of rs) n) rs) +
      opens (force_first m (statuses_of rs) n)
      ≡ opens (statuses_of rs)
  count_chunk j [] [] n h e = refl
  count_chunk j [] (r ∷ rs) n h e = absurd (omega arith)
  count_chunk j (b ∷ m) [] n h e = absurd (omega arith)
  count_chunk j (b ∷ m) (r ∷ rs) n h e =
      go r.status refl n (λ k. count_chunk (suc j) m rs k (λ x i. h x (Memᴰ.tail i)) (omega arith))
    where
      chunked : List ℕ → ℕ
      chunked ts = count (settled_by call Way.Chunk) (records_from (suc j) call (λ i. Way.Chunk) ts rs)

      old : settled_by call Way.Chunk r ≡ false
      old = settled_by_other call Way.Chunk r (h r (Memᴰ.head refl))

      none_yet : count (settled_by call Way.Chunk) rs ≡ 0
      none_yet = count_of_none (settled_by call Way.Chunk) rs (λ x i. settled_by_other call Way.Chunk x (h x (Memᴰ.tail i)))

      -- the new record of an open variable that is forced
      forced : (t c o : ℕ) → r.status ≡ 0 → 2 ≤ t → c + o ≡ opens (statuses_of rs)
          → count_if (settled_by call Way.Chunk (settled_if r.status t (record { status = t; call = call; way = Way.Chunk }) r)) c + count_if (is_open t) o
          ≡ suc (opens (statuses_of rs))
      forced zero c o z l i = absurd (omega arith)
      forced (suc t) c o z l i = rw (z, eq-eqb call call refl) (omega arith)

      go : (s : ℕ) → r.status ≡ s → (n : ℕ)
          → ((k : ℕ) → chunked (force_first m (statuses_of rs) k) + opens (force_first m (statuses_of rs) k) ≡ opens (statuses_of rs))
          → count (settled_by call Way.Chunk) (records_from j call (λ i. Way.Chunk) (force_first (b ∷ m) (s ∷ statuses_of rs) n) (r ∷ rs)) +
          opens (force_first (b ∷ m) (s ∷ statuses_of rs) n)
          ≡ opens (s ∷ statuses_of rs)
      go zero z zero ih = rw (z, old, records_same (suc j) (λ i. Way.Chunk) rs) (omega (arith, none_yet))
      go zero z (suc n) ih = forced (forced_by b) (chunked (force_first m (statuses_of rs) n)) (opens (force_first m (statuses_of rs) n)) z
          (forced_by_le b) (ih n)
      go (suc s) z n ih = rw (z, old) (ih n)

-- ---- the three kinds of records

-- after so many calls
pub data Shape (calls : ℕ) (r : Record) : Type 0 where
  open_here : r.status ≡ 0 → r.call ≡ 0 → r.way ≡ Way.Open → Shape calls r
  free_here : r.status ≡ 1 → 1 ≤ r.call → r.call ≤ calls → by_model r.way ≡ true → Shape calls r
  is-forced : 2 ≤ r.status → 1 ≤ r.call → r.call ≤ calls → r.way ≡ Way.Chunk → Shape calls r

shape_mono : {n m : ℕ} {r : Record} → n ≤ m → Shape n r → Shape m r
shape_mono h (open_here s c w) = open_here s c w
shape_mono h (free_here s a b w) = free_here s a (omega arith) w
shape_mono h (is-forced s a b w) = is-forced s a (omega arith) w

pub shape_open : {n : ℕ} {r : Record} → Shape n r → r.status ≡ 0 → r.call ≡ 0
shape_open (open_here s c w) e = c
shape_open (free_here s a b w) e = absurd (omega arith)
shape_open (is-forced s a b w) e = absurd (omega arith)

pub shape_call : {n : ℕ} {r : Record} → Shape n r → r.call ≤ n
shape_call (open_here s c w) = omega arith
shape_call (free_here s a b w) = b
shape_call (is-forced s a b w) = b

-- a free one was settled by a call
pub shape_free : {n : ℕ} {r : Record} → Shape n r → by_model r.way ≡ true → (1 ≤ r.call) × (r.call ≤ n)
shape_free (open_here s c w) e = absurd (never e (ap by_model w))
shape_free (free_here s a b w) e = (a, b)
shape_free (is-forced s a b w) e = absurd (never e (ap by_model w))

pub recorded : {n : ℕ} {r : Record} → Shape n r → Recorded n r
recorded {n} {r} (open_here s c w) =
    record {
      open_call = (λ e. c, λ e. s);
      open_way = (λ e. w, λ e. s);
      free_way = (λ e. absurd (omega arith), λ e. absurd (never e (ap by_model w)));
      forced_way = (λ e. absurd (omega arith), λ e. apart cc);
      call_most = omega arith;
    }
recorded {n} {r} (free_here s a b w) =
    record {
      open_call = (λ e. absurd (omega arith), λ e. absurd (omega arith));
      open_way = (λ e. absurd (omega arith), λ e. absurd (never w (ap by_model e)));
      free_way = (λ e. w, λ e. s);
      forced_way = (λ e. absurd (omega arith), λ e. absurd (never w (ap by_model e)));
      call_most = b;
    }
recorded {n} {r} (is-forced s a b w) =
    record {
      open_call = (λ e. absurd (omega arith), λ e. absurd (omega arith));
      open_way = (λ e. absurd (omega arith), λ e. apart cc);
      free_way = (λ e. absurd (omega arith), λ e. absurd (never e (ap by_model w)));
      forced_way = (λ e. w, λ e. s);
      call_most = b;
    }

-- ---- what is known of the records

-- they have the statuses, each is of a kind, and each row counts them
pub record RecordsAt (ss : List ℕ) (rs : List Record) (rows : List Row) : Type 0 where
  pub same : statuses_of rs ≡ ss
  pub shape : (i : ℕ) → Shape (length rows) (record_at rs i)
  pub numbered : (r : Row) → In r rows → (1 ≤ r.call) × (r.call ≤ length rows)
  pub counts : (r : Row) → In r rows → Counted rs r

pub same_length : {ss : List ℕ} {rs : List Record} {rows : List Row} → RecordsAt ss rs rows → length rs ≡ length ss
same_length {ss} {rs} w = sym (length-map rs (λ (r : Record). r.status)) ∙ ap length w.same

pub status_was : {ss : List ℕ} {rs : List Record} {rows : List Row} → RecordsAt ss rs rows → (i : ℕ) → i < length rs
    → (record_at rs i).status ≡ status_at ss i
status_was {ss} {rs} w i h =
    sym (get_or-map (λ (r : Record). r.status) rs i open_record) ∙ ap (λ (qs : List ℕ). get_or qs i 0) w.same ∙
    get_d_default ss i 0 1 (omega (arith, same_length w))

-- the same of the records themselves
pub in_shape : {n : ℕ} {rs : List Record} → ((i : ℕ) → Shape n (record_at rs i)) → (r : Record) → In r rs → Shape n r
in_shape {n} h r i = let (x, l, e) = get_d_in open_record i in go e (h x)
  where
    go : {q : Record} → q ≡ r → Shape n q → Shape n r
    go e s = rw (sym e) s

module _ (n : ℕ) where
  pub open_records : (i : ℕ) → record_at (replicate n open_record) i ≡ open_record
  open_records i = go (le_or_lt n i)
    where
      go : (n ≤ i) ⊎ (i < n) → record_at (replicate n open_record) i ≡ open_record
      go (inl h) = get_or-eq_default (replicate n open_record) open_record (omega (arith, length-replicate n open_record))
      go (inr h) = get_or-replicate n i open_record open_record h

open_statuses : (n : ℕ) → statuses_of (replicate n open_record) ≡ replicate n 0
open_statuses zero = refl
open_statuses (suc n) = ap (λ (ss : List ℕ). 0 ∷ ss) (open_statuses n)

pub records_begun : (n : ℕ) → RecordsAt (replicate n 0) (replicate n open_record) []
records_begun n =
    record {
      same = open_statuses n;
      shape = λ i. rw (open_records n i) (open_here refl refl refl);
      numbered = λ r h. absurd (Memᴰ.not-nil h);
      counts = λ r h. absurd (Memᴰ.not-nil h);
    }

-- one call more changes open variables alone, to statuses of one kind
module _ (P : ℕ → Type 0) {ss : List ℕ} {rs : List Record} {rows : List Row} (w : RecordsAt ss rs rows)
    (call : ℕ) (way : ℕ → Way) (ts : List ℕ) (len : length ts ≡ length ss) (changes : Changes P ss ts) where
  -- what an index holds then: the old record, with its status, or a new one
  pub data Cases (i : ℕ) : Type 0 where
    stays : record_at (records_from 0 call way ts rs) i ≡ record_at rs i → status_at ts i ≡ (record_at rs i).status → Cases i
    changed : record_at (records_from 0 call way ts rs) i ≡ new_at 0 call way ts i → status_at ss i ≡ 0 → P (status_at ts i) → Cases i

  pub cases : (i : ℕ) → i < length rs → Cases i
  cases i h = go (changes i) (record_at rs i).status refl (status_at ts i) refl
    where
      at : record_at (records_from 0 call way ts rs) i ≡ settled_if (record_at rs i).status (status_at ts i) (new_at 0 call way ts i) (record_at rs i)
      at = records_at 0 call way ts rs i (len ∙ sym (same_length w)) h

      go : (status_at ts i ≡ status_at ss i) ⊎ ((status_at ss i ≡ 0) × P (status_at ts i))
          → (q : ℕ) → (record_at rs i).status ≡ q → (t : ℕ) → status_at ts i ≡ t → Cases i
      go (inl e) zero z zero y = stays (rw (z, y) at at) (y ∙ sym z)
      go (inl e) zero z (suc t) y = absurd (omega (arith, status_was w i h))
      go (inl e) (suc q) z t y = stays (rw z at at) (e ∙ sym (status_was w i h))
      go (inr (e, f)) zero z zero y = stays (rw (z, y) at at) (y ∙ sym z)
      go (inr (e, f)) zero z (suc t) y = changed (at ∙ rw (z, y)) e f
      go (inr (e, f)) (suc q) z t y = absurd (omega (arith, status_was w i h))

-- and its way goes with that kind
module _ (P : ℕ → Type 0) {ss : List ℕ} {rs : List Record} {rows : List Row} (w : RecordsAt ss rs rows)
    (way : ℕ → Way) (ts : List ℕ) (row : Row) (numbered : row.call ≡ suc (length rows)) (len : length ts ≡ length ss) (changes : Changes P ss ts)
    (kind : (i s : ℕ) → P s → Shape (suc (length rows)) (record { status = s; call = suc (length rows); way = way i })) where
  c : ℕ
  c = suc (length rows)

  after : List Record
  after = records_from 0 (suc (length rows)) way ts rs

  rs_len : length rs ≡ length ss
  rs_len = same_length w

  more_same : statuses_of after ≡ ts
  unfolding c after
  more_same =
      ext_get_or 0 (statuses_of after) ts (length-map after (λ (r : Record). r.status) ∙ lens)
      (λ i h. at i (rw (length-map after (λ (r : Record). r.status), length-records_from 0 c way ts rs) at h))
    where
      lens : length after ≡ length ts
      lens = length-records_from 0 c way ts rs ∙ rs_len ∙ sym len

      go : (i : ℕ) → Cases P w c way ts len changes i → (record_at after i).status ≡ status_at ts i
      go i (stays e q) = ap (λ (r : Record). r.status) e ∙ sym q
      go i (changed e z q) = ap (λ (r : Record). r.status) e

      at : (i : ℕ) → i < length rs → get_or (statuses_of after) i 0 ≡ get_or ts i 0
      at i h =
          get_or-map (λ (r : Record). r.status) after i open_record ∙ go i (cases P w c way ts len changes i h) ∙
          get_d_default ts i 1 0 (omega (arith, rs_len))

  more_shape : (i : ℕ) → Shape (suc (length rows)) (record_at after i)
  unfolding c after
  more_shape i = go (le_or_lt (length rs) i)
    where
      by_cases : Cases P w c way ts len changes i → Shape (suc (length rows)) (record_at after i)
      by_cases (stays e q) = rw e (shape_mono (omega arith) (w.shape i))
      by_cases (changed e z q) = rw e (kind (0 + i) (status_at ts i) q)

      go : (length rs ≤ i) ⊎ (i < length rs) → Shape (suc (length rows)) (record_at after i)
      go (inl h) =
          rw (get_or-eq_default after open_record {n = i} (omega (arith, length-records_from 0 c way ts rs))) (open_here refl refl refl)
      go (inr h) = by_cases (cases P w c way ts len changes i h)

  more_numbered : (r : Row) → In r (rows ++ (row ∷ [])) → (1 ≤ r.call) × (r.call ≤ length (rows ++ (row ∷ [])))
  more_numbered r h = go (Memᴰ.append_cases rows h)
    where
      go : In r rows ⊎ In r (row ∷ []) → (1 ≤ r.call) × (r.call ≤ length (rows ++ (row ∷ [])))
      go (inl i) = ((w.numbered r i).0, omega (arith, (w.numbered r i).1, length-append rows (row ∷ [])))
      go (inr i) = rw (Memᴰ.eq_of_singleton i) (omega arith, omega (arith, length-append rows (row ∷ [])))

  -- no record has this call's number yet
  pub not_yet : (r : Record) → In r rs → r.call ≢ suc (length rows)
  not_yet r h e = absurd (omega (arith, shape_call (in_shape w.shape r h)))

  pub records_more : Counted (records_from 0 (suc (length rows)) way ts rs) row
      → RecordsAt ts (records_from 0 (suc (length rows)) way ts rs) (rows ++ (row ∷ []))
  unfolding c after
  records_more this =
      record {
        same = more_same;
        shape = λ i. shape_mono (omega (arith, length-append rows (row ∷ []))) (more_shape i);
        numbered = more_numbered;
        counts = λ r h. counts r (Memᴰ.append_cases rows h);
      }
    where
      opened : (q : Record) → In q rs → q.status ≡ 0 → q.call ≡ 0
      opened q x e = shape_open (in_shape w.shape q x) e

      counts : (r : Row) → In r rows ⊎ In r (row ∷ []) → Counted after r
      counts r (inl i) =
          let (some, most) = w.numbered r i in
          let other : r.call ≢ c = omega arith in
          let any : r.call ≢ 0 = omega arith in
          record {
            by_compare = (w.counts r i).by_compare ∙ sym (count_old r.call Way.Compare 0 c way ts rs other any opened);
            by_flip = (w.counts r i).by_flip ∙ sym (count_old r.call Way.Flip 0 c way ts rs other any opened);
            by_chunk = (w.counts r i).by_chunk ∙ sym (count_old r.call Way.Chunk 0 c way ts rs other any opened);
          }
      counts r (inr i) = rw (Memᴰ.eq_of_singleton i) this

-- ---- at every progress

abbrev pub KnownRecords : Progress → Type 0
KnownRecords p = RecordsAt p.statuses p.records p.rows

-- a model
pub records_model : (k : Task) (p : Progress) (chunk : ℕ) (m : Values) (t : ℕ) → KnownRecords p → KnownRecords (after_model k p chunk m t)
records_model k p chunk m t w =
    records_more IsOne w way ts (model_row k p chunk m t) refl lens (filtered_changes k p m) kind
    record {
      by_compare = omega (arith, rw w.same at (count_compare c (differs p.first m) (can_flip k.formula m) 0 p.records not_now));
      by_flip = omega (arith, rw w.same at (count_flip c (differs p.first m) (can_flip k.formula m) 0 p.records not_now));
      by_chunk = sym (count_none Way.Chunk 0 c way ts p.records (λ i. other (differs p.first m i)) not_now);
    }
  where
    c : ℕ
    c = suc (length p.rows)

    ts : List ℕ
    ts = filtered k p m

    way : ℕ → Way
    way i = way_if (differs p.first m i)

    lens : length ts ≡ length p.statuses
    lens = length-filtered k p m

    by_way : (b : Bool) → by_model (way_if b) ≡ true
    by_way true = refl
    by_way false = refl

    other : (b : Bool) → eqb (way_number (way_if b)) (way_number Way.Chunk) ≡ false
    other true = refl
    other false = refl

    kind : (i s : ℕ) → IsOne s → Shape c (record { status = s; call = c; way = way i })
    kind i s e = free_here e (omega arith) (omega arith) (by_way (differs p.first m i))

    not_now : (r : Record) → In r p.records → r.call ≢ c
    not_now = not_yet IsOne w way ts (model_row k p chunk m t) refl lens (filtered_changes k p m) kind

-- none
pub records_none : (p : Progress) (chunk t : ℕ) → length p.first ≡ length p.statuses
    → opens (force_first p.first p.statuses chunk) + chunk ≡ opens p.statuses
    → KnownRecords p → KnownRecords (after_none p chunk t)
records_none p chunk t len less w =
    records_more IsForced w way ts (row_after p Outcome.NoModel chunk 0 0 t) refl lens (forced_changes p.first p.statuses chunk) kind
    record {
      by_compare = sym (count_none Way.Compare 0 c way ts p.records (λ i. refl) not_now);
      by_flip = sym (count_none Way.Flip 0 c way ts p.records (λ i. refl) not_now);
      by_chunk = omega (arith, rw w.same at (count_chunk c 0 p.first p.records chunk not_now (len ∙ sym (same_length w))));
    }
  where
    c : ℕ
    c = suc (length p.rows)

    ts : List ℕ
    ts = force_first p.first p.statuses chunk

    way : ℕ → Way
    way i = Way.Chunk

    lens : length ts ≡ length p.statuses
    lens = length-force_first p.first p.statuses chunk

    kind : (i s : ℕ) → IsForced s → Shape c (record { status = s; call = c; way = way i })
    kind i s e = is-forced e (omega arith) (omega arith) refl

    not_now : (r : Record) → In r p.records → r.call ≢ c
    not_now = not_yet IsForced w way ts (row_after p Outcome.NoModel chunk 0 0 t) refl lens (forced_changes p.first p.statuses chunk) kind

-- one row more that counts nothing, and the records as they were
pub records_row : {ss : List ℕ} {rs : List Record} {rows : List Row} (row : Row) → row.call ≡ suc (length rows)
    → row.by_compare ≡ 0 → row.by_flip ≡ 0 → forced_in row ≡ 0 → RecordsAt ss rs rows → RecordsAt ss rs (rows ++ (row ∷ []))
records_row {ss} {rs} {rows} row n a b d w =
    record {
      same = w.same;
      shape = λ i. shape_mono (omega (arith, length-append rows (row ∷ []))) (w.shape i);
      numbered = λ r h. numbered r (Memᴰ.append_cases rows h);
      counts = λ r h. counts r (Memᴰ.append_cases rows h);
    }
  where
    numbered : (r : Row) → In r rows ⊎ In r (row ∷ []) → (1 ≤ r.call) × (r.call ≤ length (rows ++ (row ∷ [])))
    numbered r (inl i) = ((w.numbered r i).0, omega (arith, (w.numbered r i).1, length-append rows (row ∷ [])))
    numbered r (inr i) = rw (Memᴰ.eq_of_singleton i) (omega arith, omega (arith, length-append rows (row ∷ [])))

    none_counted : (way : Way) → count (settled_by row.call way) rs ≡ 0
    none_counted way =
        count_of_none (settled_by row.call way) rs
        (λ r h. settled_by_other row.call way r (λ e. absurd (omega (arith, shape_call (in_shape w.shape r h)))))

    counts : (r : Row) → In r rows ⊎ In r (row ∷ []) → Counted rs r
    counts r (inl i) = w.counts r i
    counts r (inr i) =
        rw (Memᴰ.eq_of_singleton i)
        record {
          by_compare = a ∙ sym (none_counted Way.Compare);
          by_flip = b ∙ sym (none_counted Way.Flip);
          by_chunk = d ∙ sym (none_counted Way.Chunk);
        }

pub records_stop : (p : Progress) (chunk t : ℕ) → KnownRecords p → KnownRecords (after_stop p chunk t)
records_stop p chunk t w = records_row (row_after p Outcome.Stopped chunk 0 0 t) refl refl refl refl w

-- before there is a model: every variable is open
pub first_none_records : (k : Task) (t : ℕ) → (after_none (begun k []) 0 t).records ≡ replicate k.vars open_record
first_none_records k t =
    rw (sym (open_statuses k.vars)) (records_same 1 0 (λ i. Way.Chunk) (replicate k.vars open_record))

pub records_first_none : (k : Task) (t : ℕ) → KnownRecords (after_none (begun k []) 0 t)
records_first_none k t =
    rw (first_none_records k t) (records_row (row_after (begun k []) Outcome.NoModel 0 0 0 t) refl refl refl refl (records_begun k.vars))

pub known_records : {k : Task} {size : ℕ} {p : Progress} → Reached k size p → KnownRecords p
known_records {k} (first_model m t e) = records_model k (begun k m) 0 m t (records_begun k.vars)
known_records {k} (next_model {chunk = chunk} {p = p} m t r o e) = records_model k p chunk m t (known_records r)
known_records {k} (next_none {chunk = chunk} {p = p} t r o e d) =
    let w = known r in
    records_none p chunk t ((first_model_is w).len ∙ sym w.len) (none_forces chunk r (omega (arith, taken_is o.taken))).opens_less (known_records r)
