-- The laws of the starts (specs/Starts): there is one more than clauses, the part of the entry list between two of them, less the
-- zero, is the clause; and the scan of `find_starts` as an invariant.
--
--   length-starts_behind, length-starts_of     one more than clauses
--   Part, part                    between two starts stands the clause
--   Scan                          what is written, and what is left to write, are the starts
--   scan_start, scan_zero, scan_other, scan_done     the invariant begins, goes on, pays off
--   scan_room                     a zero that is met has room for its start
--   found_front                   the starts are the front of the buffer
--   found_unique                  no second result meets the promise
--
-- Assumes nothing.
use mathlib.Core.Path.{◌≡◌, refl, sym, ◌∙◌, ap}
use mathlib.Core.Logic.{◌≢◌}
use mathlib.Core.List.{List, [], ◌∷◌, ◌++◌, append-nil}
use Prim.Native.Nat.{ℕ, zero, suc, ◌+◌, ◌-◌, ◌<◌, ◌≤◌}
use native.Mathlib.Omega.{arith}
use native.Mathlib.Numerals.{add-one}
use lib.IntN.{ℤ, pos, negsuc}
use lib.ListN.{get_or, set, length, take, drop, length-set, take-append-drop, drop_of_length-le}
use lib.Seq.{take_at, drop-cons, drop-drop, take-suc-set, drop-set-lt, append_snoc}
use Rattle.rules.specs.Meaning.{Clause, leading, clauses}
use Rattle.rules.proofs.ClauseLaws.{length-leading}
use Rattle.formula.specs.Starts.{starts_behind, starts_of, StartsFound}

-- ---- how many

pub length-starts_behind : (i : ℕ) (es : List ℤ) → length (starts_behind i es) ≡ length (clauses es)
length-starts_behind i [] = refl
length-starts_behind i (pos zero ∷ es) = ap suc (length-starts_behind (suc i) es)
length-starts_behind i (pos (suc n) ∷ es) = length-starts_behind (suc i) es ∙ sym (length-leading (pos (suc n)) (clauses es))
length-starts_behind i (negsuc n ∷ es) = length-starts_behind (suc i) es ∙ sym (length-leading (negsuc n) (clauses es))

pub length-starts_of : (es : List ℤ) → length (starts_of es) ≡ suc (length (clauses es))
unfolding starts_of
length-starts_of es = ap suc (length-starts_behind 0 es)

-- ---- between two starts

-- of a list whose first entry has index i, what stands from one index to the zero before another
pub record Part (i : ℕ) (es : List ℤ) (from to : ℕ) (cl : Clause) : Type 0 where
  pub after : i ≤ from
  pub spans : from < to
  pub within : to ≤ i + length es
  pub is : take (to - 1 - from) (drop (from - i) es) ≡ cl

part_none : (i : ℕ) (l : ℤ) (es : List ℤ) → Part i (l ∷ es) i (suc i) []
part_none i l es =
    let e : suc i - 1 - i ≡ 0 = omega arith in
    record { after = omega arith; spans = omega arith; within = omega arith; is = rw e }

part_behind : {i : ℕ} {es : List ℤ} {from to : ℕ} {cl : Clause} (l : ℤ) → Part (suc i) es from to cl → Part i (l ∷ es) from to cl
part_behind {i} {es} {from} l p =
    let e : from - i ≡ suc (from - suc i) = omega (arith, p.after) in
    record { after = omega (arith, p.after); spans = p.spans; within = omega (arith, p.within); is = rw e p.is }

part_leading : {i : ℕ} {es : List ℤ} {to : ℕ} {cl : Clause} (l : ℤ) → Part (suc i) es (suc i) to cl → Part i (l ∷ es) i to (l ∷ cl)
part_leading {i} {es} {to} {cl} l p =
    let d : i - i ≡ 0 = omega arith in
    let e : suc i - suc i ≡ 0 = omega arith in
    let t : to - 1 - i ≡ suc (to - 1 - suc i) = omega (arith, p.spans) in
    record {
      after = omega arith;
      spans = omega (arith, p.spans);
      within = omega (arith, p.within);
      is = rw (d, t) (ap (λ (xs : List ℤ). l ∷ xs) (rw e at p.is));
    }

-- a literal in front of the first clause moves only where that one starts
part_lead : (i : ℕ) (l : ℤ) (es : List ℤ) (cls : List Clause) (k : ℕ) → k < length (leading l cls)
    → ((k : ℕ) → k < length cls → Part (suc i) es (get_or (suc i ∷ starts_behind (suc i) es) k 0) (get_or (starts_behind (suc i) es) k 0) (get_or cls k []))
    → Part i (l ∷ es) (get_or (i ∷ starts_behind (suc i) es) k 0) (get_or (starts_behind (suc i) es) k 0) (get_or (leading l cls) k [])
part_lead i l es [] k h f = absurd (omega arith)
part_lead i l es (cl ∷ cls) zero h f = part_leading l (f 0 h)
part_lead i l es (cl ∷ cls) (suc k) h f = part_behind l (f (suc k) h)

pub part : (i : ℕ) (es : List ℤ) (k : ℕ) → k < length (clauses es)
    → Part i es (get_or (i ∷ starts_behind i es) k 0) (get_or (starts_behind i es) k 0) (get_or (clauses es) k [])
part i [] k h = absurd (omega arith)
part i (pos zero ∷ es) zero h = part_none i (pos zero) es
part i (pos zero ∷ es) (suc k) h = part_behind (pos zero) (part (suc i) es k (omega arith))
part i (pos (suc n) ∷ es) k h = part_lead i (pos (suc n)) es (clauses es) k h (part (suc i) es)
part i (negsuc n ∷ es) k h = part_lead i (negsuc n) es (clauses es) k h (part (suc i) es)

-- ---- the scan

-- n clauses found in the first i entries; the buffer was `before` and is `now`
pub record Scan (es : List ℤ) (before now : List ℕ) (n i : ℕ) : Type 0 where
  pub passed : i ≤ length es
  pub len : length now ≡ length before
  pub counted : n + length (clauses (drop i es)) ≡ length (clauses es)
  pub written : take (suc n) now ++ starts_behind i (drop i es) ≡ starts_of es
  pub rest : drop (suc n) now ≡ drop (suc n) before

pub scan_start : (es : List ℤ) (before : List ℕ) → 0 < length before → Scan es (set before 0 0) (set before 0 0) 0 0
unfolding starts_of
scan_start es [] h = absurd (omega arith)
scan_start es (b ∷ before) h = record { passed = omega arith; len = refl; counted = omega arith; written = refl; rest = refl }

module _ (es : List ℤ) (before now : List ℕ) (n i : ℕ) (h : i < length es) (w : Scan es before now n i) where
  here : drop i es ≡ get_or es i (pos 0) ∷ drop (suc i) es
  here = drop-cons es i (pos 0) h

  module _ (e : get_or es i (pos 0) ≡ pos 0) where
    zero_here : drop i es ≡ pos 0 ∷ drop (suc i) es
    zero_here = here ∙ ap (λ (l : ℤ). l ∷ drop (suc i) es) e

    counted_zero : n + 1 + length (clauses (drop (suc i) es)) ≡ length (clauses es)
    counted_zero = omega (arith, rw zero_here at w.counted)

    pub scan_room : length (clauses es) < length before → n + 1 < length now
    scan_room r = omega (arith, counted_zero, w.len)

    pub scan_zero : length (clauses es) < length before → Scan es before (set now (n + 1) (i + 1)) (n + 1) (i + 1)
    scan_zero r =
        let room : suc n < length now = omega (arith, scan_room r) in
        record {
          passed = omega arith;
          len = length-set now (n + 1) (i + 1) ∙ w.len;
          counted = rw (add-one i) counted_zero;
          written =
              rw (add-one n, add-one i, take-suc-set now (suc n) (suc i) room)
              (append_snoc (take (suc n) now) (suc i) (starts_behind (suc i) (drop (suc i) es)) ∙ rw zero_here at w.written);
          rest = rw (add-one n) (drop-set-lt (suc (suc n)) now (suc n) (i + 1) (omega arith) ∙ behind w.rest);
        }
      where
        behind : drop (suc n) now ≡ drop (suc n) before → drop (suc (suc n)) now ≡ drop (suc (suc n)) before
        behind q =
            let e : suc (suc n) ≡ suc n + 1 = omega arith in
            rw (e, ← drop-drop 1 (suc n) now, ← drop-drop 1 (suc n) before) (ap (λ (xs : List ℕ). drop 1 xs) q)

  pub scan_other : get_or es i (pos 0) ≢ pos 0 → Scan es before now n (i + 1)
  scan_other d = go (get_or es i (pos 0)) here d
    where
      further : n + length (clauses (drop (suc i) es)) ≡ length (clauses es)
          → take (suc n) now ++ starts_behind (suc i) (drop (suc i) es) ≡ starts_of es → Scan es before now n (i + 1)
      further p q = record { passed = omega arith; len = w.len; counted = rw (add-one i) p; written = rw (add-one i) q; rest = w.rest }

      go : (l : ℤ) → drop i es ≡ l ∷ drop (suc i) es → l ≢ pos 0 → Scan es before now n (i + 1)
      go (pos zero) e d = absurd (d refl)
      go (pos (suc m)) e d = further (rw (e, length-leading) at w.counted) (rw e at w.written)
      go (negsuc m) e d = further (rw (e, length-leading) at w.counted) (rw e at w.written)

-- the first store of the code, at index 0, lies in what is written
pub scan_done : (es : List ℤ) (before now : List ℕ) (n i : ℕ) → length es ≤ i → Scan es (set before 0 0) now n i → StartsFound es before n now
scan_done es before now n i h w =
    let d : drop i es ≡ [] = drop_of_length-le es h in
    let c : n ≡ length (clauses es) = omega (arith, rw d at w.counted) in
    record {
      count_is = c;
      starts_are = rw (← c) (sym (take-append-drop (suc n) now)
          ∙ both (sym (append-nil (take (suc n) now)) ∙ rw d at w.written) (w.rest ∙ drop-set-lt (suc n) before 0 0 (omega arith)));
    }
  where
    both : {xs ys us vs : List ℕ} → xs ≡ us → ys ≡ vs → xs ++ ys ≡ us ++ vs
    both e f = cc

-- ---- the starts in a longer buffer

pub found_front : {es : List ℤ} {before after : List ℕ} {n : ℕ} → StartsFound es before n after → take (n + 1) after ≡ starts_of es
found_front {es} {before} {n} f =
    rw f.starts_are (take_at (starts_of es) (drop (suc (length (clauses es))) before) (n + 1) (omega (arith, length-starts_of es, f.count_is)))

-- no second result, and no other buffer, meet the promise
pub found_unique : {es : List ℤ} {before : List ℕ} {m n : ℕ} {xs ys : List ℕ} → StartsFound es before m xs → StartsFound es before n ys
    → (m ≡ n) × (xs ≡ ys)
found_unique p q = (p.count_is ∙ sym q.count_is, p.starts_are ∙ sym q.starts_are)
