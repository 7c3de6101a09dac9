-- The laws of src/expand.rt: a list stored piece by piece.
--
--   literal_is, literal_back, literal_stored, pair_stored     a literal as the machine holds it, and stored
--   Putting, putting_start, putting_fits, putting_step, putting_done     what is stored, and what is still to store, are the whole list
--   entries_of-append, pairs_next, values_next, pairs_later, groups_later     the pieces of a list of clauses
--   sizes-next                    the variables of the sizes that are left
--   length_stored, group_values_fit, group_zero_fits, group_pairs_fit, group_stored     one group
--
-- Assumes nothing.
use mathlib.Core.Path.{◌≡◌, refl, sym, ◌∙◌, ap}
use mathlib.Core.Bool.{Bool, true, false}
use mathlib.Core.List.{List, [], ◌∷◌, ◌++◌, append-nil, append_assoc}
use Prim.Native.Nat.{ℕ, zero, suc, ◌+◌, ◌-◌, ◌<◌}
use native.Mathlib.Omega.{arith}
use native.Mathlib.Numerals.{add-one}
use lib.IntN.{ℤ, pos, negsuc}
use lib.ListN.{length, get_or, set, drop, length-append}
use lib.Seq.{sets, length-sets, drop-cons}
use mir.Syntax.{w32}
use mir.Val.{to_z, of_z}
use Rattle.rules.specs.Numbers.{max_vars}
use Rattle.rules.specs.Meaning.{Clause}
use Rattle.texts.specs.Plain.{entries_of}
use Rattle.texts.specs.Groups.{vars_in, values_from, pairs_from, pairs_with, group_clauses, groups_from}
use Rattle.reader.specs.Words.{signed_value}
use Rattle.reader.proofs.StepLaws.{held}
use Rattle.held.specs.Stored.{Fits, Stored}
use Rattle.held.proofs.StoredLaws.{sets_append}
use Rattle.groups.specs.Expand.{literal_at}

-- ---- a literal

pub literal_is : (i : ℕ) (minus : Bool) → signed_value minus (i + 1) ≡ literal_at i minus
literal_is i true = rw (add-one i)
literal_is i false = rw (add-one i)

pub literal_back : (i : ℕ) (minus : Bool) → i < max_vars → to_z w32 (of_z w32 (literal_at i minus)) ≡ literal_at i minus
literal_back i true h = held (negsuc i) (omega arith)
literal_back i false h = held (pos (suc i)) (omega arith)

-- a literal as it is read back, and stored
pub literal_stored : (out : List ℤ) (at i : ℕ) (minus : Bool) (x : ℤ) → i < max_vars → x ≡ literal_at i minus
    → set out at (to_z w32 (of_z w32 x)) ≡ set out at (literal_at i minus)
literal_stored out at i minus x h e = ap (λ (z : ℤ). set out at z) (ap (λ (z : ℤ). to_z w32 (of_z w32 z)) e ∙ literal_back i minus h)

pub pair_stored : (out : List ℤ) (at low high : ℕ) (x y : ℤ) → low < max_vars → high < max_vars → x ≡ literal_at low true → y ≡ literal_at high true
    → Stored (negsuc low ∷ negsuc high ∷ pos 0 ∷ []) at out (at + 3)
    (set (set (set out at (to_z w32 (of_z w32 x))) (at + 1) (to_z w32 (of_z w32 y))) (at + 2) (pos 0))
pair_stored out at low high x y h k e f =
    let one : at + 1 ≡ suc at = omega arith in
    let two : at + 2 ≡ suc (suc at) = omega arith in
    record {
      next_is = refl;
      after_is = rw (e, f, literal_back low true h, literal_back high true k, one, two);
    }

-- ---- a list, piece by piece

pub record Putting (whole : List ℤ) (at : ℕ) (before : List ℤ) (next : ℕ) (now rest : List ℤ) : Type 0 where
  pub len : length now ≡ length before
  pub room : next + length rest ≡ at + length whole
  pub rest_is : sets now next rest ≡ sets before at whole

pub putting_start : (whole : List ℤ) (at : ℕ) (before : List ℤ) → Putting whole at before at before whole
putting_start whole at before = record { len = refl; room = refl; rest_is = refl }

module _ {whole : List ℤ} {at : ℕ} {before : List ℤ} {next : ℕ} {now rest : List ℤ} (w : Putting whole at before next now rest) where
  pub putting_fits : Fits whole at before → (piece more : List ℤ) → rest ≡ piece ++ more → Fits piece next now
  putting_fits f piece more e =
      record { fits = omega (arith, f.fits, w.len, w.room, ap length e ∙ length-append piece more) }

  pub putting_step : (piece more : List ℤ) → rest ≡ piece ++ more → {next' : ℕ} {now' : List ℤ} → Stored piece next now next' now'
      → Putting whole at before next' now' more
  putting_step piece more e {next'} {now'} s =
      record {
        len = ap length s.after_is ∙ length-sets now next piece ∙ w.len;
        room = omega (arith, s.next_is, w.room, ap length e ∙ length-append piece more);
        rest_is =
            rw (s.after_is, s.next_is) (sym (sets_append now next piece more) ∙ ap (sets now next) (sym e) ∙ w.rest_is);
      }

  pub putting_done : rest ≡ [] → Stored whole at before next now
  putting_done e =
      record { next_is = omega (arith, w.room, ap length e); after_is = sym (ap (sets now next) e) ∙ w.rest_is }

-- ---- the pieces

pub entries_of-append : (F G : List Clause) → entries_of (F ++ G) ≡ entries_of F ++ entries_of G
entries_of-append [] G = refl
entries_of-append (cl ∷ F) G =
    ap (λ (es : List ℤ). cl ++ pos 0 ∷ es) (entries_of-append F G) ∙ sym (append_assoc cl (pos 0 ∷ entries_of F) (entries_of G))

-- one pair, and those of a value with the values behind it
pub pairs_next : (low high n : ℕ) → 0 < n
    → entries_of (pairs_with low high n) ≡ (negsuc low ∷ negsuc high ∷ pos 0 ∷ []) ++ entries_of (pairs_with low (suc high) (n - 1))
pairs_next low high zero h = absurd (omega arith)
pairs_next low high (suc n) h =
    let e : n ≡ suc n - 1 = omega arith in
    ap (λ (k : ℕ). (negsuc low ∷ negsuc high ∷ pos 0 ∷ []) ++ entries_of (pairs_with low (suc high) k)) e

-- one value, and those behind it
pub values_next : (i n : ℕ) → 0 < n → values_from i n ≡ (literal_at i false ∷ []) ++ values_from (suc i) (n - 1)
values_next i zero h = absurd (omega arith)
values_next i (suc n) h = let e : n ≡ suc n - 1 = omega arith in ap (λ (k : ℕ). pos (suc i) ∷ values_from (suc i) k) e

-- one value and its pairs, and those of the values behind it
pub pairs_later : (i n : ℕ) → 0 < n
    → entries_of (pairs_from i n) ≡ entries_of (pairs_with i (suc i) (n - 1)) ++ entries_of (pairs_from (suc i) (n - 1))
pairs_later i zero h = absurd (omega arith)
pairs_later i (suc n) h =
    let e : n ≡ suc n - 1 = omega arith in
    entries_of-append (pairs_with i (suc i) n) (pairs_from (suc i) n) ∙
    ap (λ (k : ℕ). entries_of (pairs_with i (suc i) k) ++ entries_of (pairs_from (suc i) k)) e

-- one group, and those behind it
pub groups_later : (first : ℕ) (sizes : List ℕ) (i : ℕ) → i < length sizes
    → entries_of (groups_from first (drop i sizes))
    ≡ entries_of (group_clauses first (get_or sizes i 0)) ++ entries_of (groups_from (first + get_or sizes i 0) (drop (i + 1) sizes))
groups_later first sizes i h =
    rw (add-one i)
    (ap (λ (ns : List ℕ). entries_of (groups_from first ns)) (drop-cons sizes i 0 h) ∙
    entries_of-append (group_clauses first (get_or sizes i 0)) (groups_from (first + get_or sizes i 0) (drop (suc i) sizes)))

pub sizes-next : (sizes : List ℕ) (i : ℕ) → i < length sizes → vars_in (drop i sizes) ≡ get_or sizes i 0 + vars_in (drop (i + 1) sizes)
sizes-next sizes i h = rw (add-one i) (ap vars_in (drop-cons sizes i 0 h))

-- ---- one group: the values, the zero that closes their clause, the pairs

pub length_stored : {es : List ℤ} {at : ℕ} {before : List ℤ} {next : ℕ} {after : List ℤ} → Stored es at before next after → length after ≡ length before
length_stored {es} {at} {before} s = ap length s.after_is ∙ length-sets before at es

module _ (first n at : ℕ) (before : List ℤ) (f : Fits (entries_of (group_clauses first n)) at before) where
  pub group_values_fit : Fits (values_from first n) at before
  group_values_fit =
      putting_fits (putting_start (entries_of (group_clauses first n)) at before) f (values_from first n) (pos 0 ∷ entries_of (pairs_from first n)) refl

  module _ {next : ℕ} {out : List ℤ} (s : Stored (values_from first n) at before next out) where
    with_values : Putting (entries_of (group_clauses first n)) at before next out (pos 0 ∷ entries_of (pairs_from first n))
    with_values =
        putting_step (putting_start (entries_of (group_clauses first n)) at before) (values_from first n) (pos 0 ∷ entries_of (pairs_from first n)) refl s

    pub group_zero_fits : next < length out
    group_zero_fits = omega (arith, (putting_fits with_values f (pos 0 ∷ []) (entries_of (pairs_from first n)) refl).fits)

    with_zero : Putting (entries_of (group_clauses first n)) at before (next + 1) (set out next (pos 0)) (entries_of (pairs_from first n))
    with_zero = putting_step with_values (pos 0 ∷ []) (entries_of (pairs_from first n)) refl (record { next_is = refl; after_is = refl })

    pub group_pairs_fit : Fits (entries_of (pairs_from first n)) (next + 1) (set out next (pos 0))
    group_pairs_fit = putting_fits with_zero f (entries_of (pairs_from first n)) [] (sym (append-nil (entries_of (pairs_from first n))))

    pub group_stored : {last : ℕ} {after : List ℤ} → Stored (entries_of (pairs_from first n)) (next + 1) (set out next (pos 0)) last after
        → Stored (entries_of (group_clauses first n)) at before last after
    group_stored t =
        putting_done (putting_step with_zero (entries_of (pairs_from first n)) [] (sym (append-nil (entries_of (pairs_from first n)))) t) refl
