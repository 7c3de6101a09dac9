-- The laws of specs/Stored: entries stored one behind the other.
--
--   entries_stored    a copy of the entries
--   Holding, holding_room, holding_done     the loop over held literals, two entries a turn
--   list_put          a list, and the held literals behind it
--   sets_append       one part behind the other
--   put_front         the list is the front of the buffer
--
-- Assumes nothing.
use mathlib.Core.Path.{◌≡◌, sym, ◌∙◌, ap}
use mathlib.Core.List.{List, [], ◌∷◌, ◌++◌}
use Prim.Native.Nat.{ℕ, suc, ◌+◌, ◌≤◌, ◌<◌}
use native.Mathlib.Omega.{arith}
use lib.IntN.{ℤ}
use lib.ListN.{set, length, take, drop, length-append, drop_of_length-le}
use lib.Seq.{take_at, sets, sets-eq}
use Rattle.rules.specs.Held.{held_entries, list_with}
use Rattle.rules.proofs.HeldLaws.{length-held_entries}
use Rattle.held.specs.Stored.{Fits, Stored, ListPut}

-- ---- entries

-- the front of the buffer is copied
pub entries_stored : (es before : List ℤ) {front : List ℤ} → Fits es 0 before → front ≡ es → Stored es 0 before (length es) (front ++ drop (length es) before)
entries_stored es before r e =
    record {
      next_is = omega arith;
      after_is = rw e (ap (λ (n : ℕ). es ++ drop n before) (omega arith) ∙ sym (sets-eq es before 0 r.fits));
    }

-- ---- held literals

pub record Holding (held : List ℤ) (at : ℕ) (before : List ℤ) (i next : ℕ) (now : List ℤ) : Type 0 where
  pub within : i ≤ length held
  pub next_is : next ≡ at + (i + i)
  pub len : length now ≡ length before
  pub rest : sets now next (held_entries (drop i held)) ≡ sets before at (held_entries held)

module _ {held : List ℤ} {at : ℕ} {before : List ℤ} {i next : ℕ} {now : List ℤ} (w : Holding held at before i next now) where
  -- room for a literal and its zero
  pub holding_room : Fits (held_entries held) at before → i < length held → next + 1 < length now
  holding_room r h = omega (arith, r.fits, w.len, w.next_is, length-held_entries held)

  pub holding_done : length held ≤ i → Stored (held_entries held) at before next now
  holding_done h =
      record {
        next_is = omega (arith, w.within, w.next_is, length-held_entries held);
        after_is = sym (ap (λ (ls : List ℤ). sets now next (held_entries ls)) (drop_of_length-le held h)) ∙ w.rest;
      }

-- ---- both

-- one part behind the other
pub sets_append : (l : List ℤ) (i : ℕ) (xs ys : List ℤ) → sets l i (xs ++ ys) ≡ sets (sets l i xs) (i + length xs) ys
sets_append l i [] ys = ap (λ (k : ℕ). sets l k ys) (omega arith)
sets_append l i (x ∷ xs) ys = sets_append (set l i x) (suc i) xs ys ∙ ap (λ (k : ℕ). sets (sets (set l i x) (suc i) xs) k ys) (omega arith)

module _ (es held : List ℤ) {before : List ℤ} (r : Fits (list_with es held) 0 before) where
  module _ {next : ℕ} {between : List ℤ} (p : Stored es 0 before next between) where
    pub list_put : {last : ℕ} {after : List ℤ} → Stored (held_entries held) next between last after → ListPut es held before last after
    list_put {last} {after} q =
        record {
          count_is = count;
          after_is =
              q.after_is ∙
              rw (p.after_is, p.next_is) (sym (sets_append before 0 es (held_entries held))) ∙
              sets-eq (list_with es held) before 0 r.fits ∙
              ap (λ (n : ℕ). list_with es held ++ drop n before) seam;
        }
      where
        count : last ≡ length (list_with es held)
        count = omega (arith, p.next_is, q.next_is, length-append es (held_entries held))

        seam : 0 + length (list_with es held) ≡ last
        seam = omega (arith, count)

pub put_front : {es held before after : List ℤ} {n : ℕ} → ListPut es held before n after → take n after ≡ list_with es held
put_front {es} {held} {before} {n = n} p = rw p.after_is (take_at (list_with es held) (drop n before) n (sym p.count_is))
