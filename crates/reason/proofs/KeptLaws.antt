-- The laws of specs/Kept: the entries of the marked clauses.
--
--   clauses-marked    their clauses are the marked ones
--   marked_in, length-markedEntries, length_marked     they are entries of the list, and no more
--   Puts, puts_clause, puts_room, puts_zero, puts_other, puts_done     the loop that puts them
--
-- Assumes nothing.
use mathlib.Core.Path.{◌≡◌, refl, sym, ◌∙◌, ap}
use mathlib.Core.Logic.{◌≢◌}
use mathlib.Core.Bool.{true}
use mathlib.Core.List.Memᴰ
use mathlib.Core.List.{List, [], ◌∷◌, ◌++◌, append-nil}
use Prim.Native.Nat.{ℕ, zero, suc, ◌+◌, ◌≤◌, ◌<◌}
use native.Mathlib.Omega.{arith}
use native.Mathlib.Numerals.{add-one}
use lib.IntN.{ℤ, pos, negsuc}
use lib.ListN.{get_or, length, take, drop, length-set, drop_of_length-le}
use lib.Seq.{drop-cons, take-suc-set, append_snoc}
use Rattle.rules.specs.Lists.{In}
use Rattle.rules.specs.Meaning.{Clause, leading, clauses}
use Rattle.rules.specs.Answer.{is_ended}
use Rattle.rules.specs.Why.{marked}
use Rattle.rules.proofs.ListLaws.{eqz_sound}
use Rattle.rules.proofs.ClauseLaws.{length-leading}
use Rattle.reason.specs.Kept.{entry_if, marked_entries, next_if, put_if, PutsIf, MarkRoom, MarkedPut}

-- ---- the clauses of the marked entries

-- a literal in front of the first clause
leading-marked : (l : ℤ) (m : ℕ) (ms : List ℕ) (es rest : List ℤ) → clauses rest ≡ marked (m ∷ ms) (clauses es)
    → clauses (l ∷ rest) ≡ leading l (clauses rest) → clauses (entry_if m l rest) ≡ marked (m ∷ ms) (leading l (clauses es))
leading-marked l zero ms es rest h k = go (clauses es) h
  where
    go : (F : List Clause) → clauses rest ≡ marked (zero ∷ ms) F → clauses rest ≡ marked (zero ∷ ms) (leading l F)
    go [] h = h
    go (cl ∷ F) h = h
leading-marked l (suc m) ms es rest h k = k ∙ ap (leading l) h ∙ go (clauses es)
  where
    go : (F : List Clause) → leading l (marked (suc m ∷ ms) F) ≡ marked (suc m ∷ ms) (leading l F)
    go [] = refl
    go (cl ∷ F) = refl

pub clauses-marked : (ms : List ℕ) (es : List ℤ) → clauses (marked_entries ms es) ≡ marked ms (clauses es)
clauses-marked [] es = refl
clauses-marked (m ∷ ms) [] = refl
clauses-marked (zero ∷ ms) (pos zero ∷ es) = clauses-marked ms es
clauses-marked (suc m ∷ ms) (pos zero ∷ es) = ap (λ (F : List Clause). [] ∷ F) (clauses-marked ms es)
clauses-marked (m ∷ ms) (pos (suc n) ∷ es) = leading-marked (pos (suc n)) m ms es (marked_entries (m ∷ ms) es) (clauses-marked (m ∷ ms) es) refl
clauses-marked (m ∷ ms) (negsuc n ∷ es) = leading-marked (negsuc n) m ms es (marked_entries (m ∷ ms) es) (clauses-marked (m ∷ ms) es) refl

-- ---- no more than the list has

in_entry_if : {l : ℤ} (m : ℕ) (e : ℤ) (rest es : List ℤ) → (In l rest → In l es) → In l (entry_if m e rest) → In l (e ∷ es)
in_entry_if zero e rest es f h = Memᴰ.tail (f h)
in_entry_if (suc m) e rest es f (Memᴰ.head q) = Memᴰ.head q
in_entry_if (suc m) e rest es f (Memᴰ.tail h) = Memᴰ.tail (f h)

pub marked_in : {l : ℤ} (ms : List ℕ) (es : List ℤ) → In l (marked_entries ms es) → In l es
marked_in [] es h = absurd (Memᴰ.not-nil h)
marked_in (m ∷ ms) [] h = h
marked_in (m ∷ ms) (pos zero ∷ es) h = in_entry_if m (pos zero) (marked_entries ms es) es (marked_in ms es) h
marked_in (m ∷ ms) (pos (suc n) ∷ es) h = in_entry_if m (pos (suc n)) (marked_entries (m ∷ ms) es) es (marked_in (m ∷ ms) es) h
marked_in (m ∷ ms) (negsuc n ∷ es) h = in_entry_if m (negsuc n) (marked_entries (m ∷ ms) es) es (marked_in (m ∷ ms) es) h

pub length_marked : (ms : List ℕ) (F : List Clause) → length (marked ms F) ≤ length F
length_marked [] F = omega arith
length_marked (m ∷ ms) [] = omega arith
length_marked (zero ∷ ms) (cl ∷ F) = omega (arith, length_marked ms F)
length_marked (suc m ∷ ms) (cl ∷ F) = omega (arith, length_marked ms F)

-- ---- an ended list that is not empty has a clause

ended_tail : (e : ℤ) (es : List ℤ) → is_ended (e ∷ es) ≡ true → is_ended es ≡ true
ended_tail e [] h = refl
ended_tail e (f ∷ es) h = h

ended_some : (e : ℤ) (es : List ℤ) → is_ended (e ∷ es) ≡ true → 1 ≤ length (clauses (e ∷ es))
ended_some e [] h = rw (eqz_sound e (pos 0) h) (omega arith)
ended_some (pos zero) (f ∷ es) h = omega arith
ended_some (pos (suc n)) (f ∷ es) h = omega (arith, ended_some f es h, length-leading (pos (suc n)) (clauses (f ∷ es)))
ended_some (negsuc n) (f ∷ es) h = omega (arith, ended_some f es h, length-leading (negsuc n) (clauses (f ∷ es)))

-- ---- the loop

-- the first i entries are passed, of k clauses whole, and n of them are put; the buffer was `before` and is `now`
pub record Puts (es : List ℤ) (ms : List ℕ) (before now : List ℤ) (k n i : ℕ) : Type 0 where
  pub passed : i ≤ length es
  pub few : n ≤ i
  pub len : length now ≡ length before
  pub ended : is_ended (drop i es) ≡ true
  pub counted : k + length (clauses (drop i es)) ≡ length (clauses es)
  pub written : take n now ++ marked_entries (drop k ms) (drop i es) ≡ marked_entries ms es

-- one entry is put, or not
put_one : (m : ℕ) (e : ℤ) (n : ℕ) (now rest : List ℤ) → n < length now
    → take (next_if m n) (put_if m e n now) ++ rest ≡ take n now ++ entry_if m e rest
put_one zero e n now rest h = refl
put_one (suc m) e n now rest h = rw (add-one n, take-suc-set now n e h) (append_snoc (take n now) e rest)

put_len : (m : ℕ) (e : ℤ) (n : ℕ) (now : List ℤ) → length (put_if m e n now) ≡ length now
put_len zero e n now = refl
put_len (suc m) e n now = length-set now n e

next_few : (m n i : ℕ) → n ≤ i → next_if m n ≤ i + 1
next_few zero n i h = omega arith
next_few (suc m) n i h = omega arith

module _ {es : List ℤ} {ms : List ℕ} {before now : List ℤ} {k n i : ℕ} (r : MarkRoom es ms before) (w : Puts es ms before now k n i) (h : i < length es) where
  here : drop i es ≡ get_or es i (pos 0) ∷ drop (suc i) es
  here = drop-cons es i (pos 0) h

  -- the clause has a mark
  pub puts_clause : k < length ms
  puts_clause = omega (arith, ended_some (get_or es i (pos 0)) (drop (suc i) es) (rw here at w.ended), rw here at w.counted, r.marks_fit)

  -- and there is room for the entry
  pub puts_room : n < length now
  puts_room = omega (arith, w.few, w.len, r.room)

  mark_here : drop k ms ≡ get_or ms k 0 ∷ drop (suc k) ms
  mark_here = drop-cons ms k 0 puts_clause

  ended_next : is_ended (drop (suc i) es) ≡ true
  ended_next = ended_tail (get_or es i (pos 0)) (drop (suc i) es) (rw here at w.ended)

  module _ {next : ℕ} {after : List ℤ} (p : PutsIf (get_or ms k 0) es i n now next after) where
    few_next : next ≤ i + 1
    few_next = rw p.next_is (next_few (get_or ms k 0) n i w.few)

    len_next : length after ≡ length before
    len_next = ap length p.after_is ∙ put_len (get_or ms k 0) (get_or es i (pos 0)) n now ∙ w.len

    put_next : (rest : List ℤ) → take next after ++ rest ≡ take n now ++ entry_if (get_or ms k 0) (get_or es i (pos 0)) rest
    put_next rest = rw (p.next_is, p.after_is) (put_one (get_or ms k 0) (get_or es i (pos 0)) n now rest puts_room)

    pub puts_zero : get_or es i (pos 0) ≡ pos 0 → Puts es ms before after (k + 1) next (i + 1)
    puts_zero z =
        record {
          passed = omega arith;
          few = few_next;
          len = len_next;
          ended = rw (add-one i) ended_next;
          counted = rw (add-one i) (omega (arith, rw (here, z) at w.counted));
          written =
              rw (add-one i, add-one k)
              (put_next (marked_entries (drop (suc k) ms) (drop (suc i) es)) ∙
              rw z (rw (here, mark_here, z) at w.written));
        }

    pub puts_other : get_or es i (pos 0) ≢ pos 0 → Puts es ms before after k next (i + 1)
    puts_other d = go (get_or es i (pos 0)) refl d
      where
        go : (l : ℤ) → get_or es i (pos 0) ≡ l → l ≢ pos 0 → Puts es ms before after k next (i + 1)
        go (pos zero) e d = absurd (d refl)
        go (pos (suc m)) e d =
            record {
              passed = omega arith;
              few = few_next;
              len = len_next;
              ended = rw (add-one i) ended_next;
              counted = rw (add-one i) (omega (arith, rw (here, e) at w.counted, length-leading (pos (suc m)) (clauses (drop (suc i) es))));
              written =
                  rw (add-one i, mark_here)
                  (put_next (marked_entries (get_or ms k 0 ∷ drop (suc k) ms) (drop (suc i) es)) ∙ rw e (rw (here, mark_here, e) at w.written));
            }
        go (negsuc m) e d =
            record {
              passed = omega arith;
              few = few_next;
              len = len_next;
              ended = rw (add-one i) ended_next;
              counted = rw (add-one i) (omega (arith, rw (here, e) at w.counted, length-leading (negsuc m) (clauses (drop (suc i) es))));
              written =
                  rw (add-one i, mark_here)
                  (put_next (marked_entries (get_or ms k 0 ∷ drop (suc k) ms) (drop (suc i) es)) ∙ rw e (rw (here, mark_here, e) at w.written));
            }

marked_none : (ms : List ℕ) → marked_entries ms [] ≡ []
marked_none [] = refl
marked_none (m ∷ ms) = refl

pub puts_done : {es : List ℤ} {ms : List ℕ} {before now : List ℤ} {k n i : ℕ} → Puts es ms before now k n i → length es ≤ i
    → MarkedPut es ms before n now
puts_done {es} {ms} {now = now} {k} {n} {i} w h =
    record {
      front =
          sym (append-nil (take n now)) ∙ ap (λ (xs : List ℤ). take n now ++ xs) (sym (marked_none (drop k ms))) ∙
          rw (drop_of_length-le es h) at w.written;
      within = omega (arith, w.few, w.passed);
    }
