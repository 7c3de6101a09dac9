-- The laws of `put_at`, `Room` and `Put` of specs/Put.
--
--   length-put_at      a buffer keeps its length
--   put_at-append      bytes behind bytes
--   put_at_front       from the start: the bytes, and then what was there
--   room_first, room_then     room for both parts is room for the first, and then for the second
--   put_then          one part behind the other
--   room_same, put_same     by an equation of the bytes
--   put_none, length_put    nothing is put; a buffer keeps its length
--   put_part          bytes written over a part of the buffer
--
-- Assumes nothing.
use mathlib.Core.Path.{◌≡◌, refl, sym, ◌∙◌, ap}
use mathlib.Core.List.{List, [], ◌∷◌, ◌++◌, append_assoc}
use Prim.Native.Nat.{ℕ, suc, ◌+◌, ◌≤◌}
use native.Mathlib.Omega.{arith}
use lib.ListN.{length, set, take, drop, take-append-drop, length-append, length-set, length-drop}
use borrow.Rule.Slice.PartMut.{put_mid}
use lib.Seq.{set-append_seam, length-take-le}
use Rattle.buffers.specs.Put.{put_at, Room, Put}

pub length-put_at : (out : List ℕ) (at : ℕ) (bs : List ℕ) → length (put_at out at bs) ≡ length out
length-put_at out at [] = refl
length-put_at out at (b ∷ bs) = length-put_at (set out at b) (suc at) bs ∙ length-set out at b

pub put_at-append : (out : List ℕ) (at : ℕ) (xs ys : List ℕ) → put_at out at (xs ++ ys) ≡ put_at (put_at out at xs) (at + length xs) ys
put_at-append out at [] ys = ap (λ (k : ℕ). put_at out k ys) (omega arith)
put_at-append out at (x ∷ xs) ys =
    put_at-append (set out at x) (suc at) xs ys ∙
    ap (λ (k : ℕ). put_at (put_at (set out at x) (suc at) xs) k ys) (omega arith)

put_at_behind : (xs bs ys : List ℕ) → length bs ≤ length ys → put_at (xs ++ ys) (length xs) bs ≡ xs ++ (bs ++ drop (length bs) ys)
put_at_behind xs [] ys h = refl
put_at_behind xs (b ∷ bs) [] h = absurd (omega arith)
put_at_behind xs (b ∷ bs) (y ∷ ys) h =
    ap (λ (o : List ℕ). put_at o (suc (length xs)) bs) (set-append_seam xs y ys b ∙ sym (append_assoc xs (b ∷ []) ys)) ∙
    ap (λ (k : ℕ). put_at ((xs ++ (b ∷ [])) ++ ys) k bs) (omega (arith, length-append xs (b ∷ []))) ∙
    put_at_behind (xs ++ (b ∷ [])) bs ys (omega arith) ∙
    append_assoc xs (b ∷ []) (bs ++ drop (length bs) ys)

pub put_at_front : (out bs : List ℕ) → length bs ≤ length out → put_at out 0 bs ≡ bs ++ drop (length bs) out
put_at_front out bs h = put_at_behind [] bs out h

-- ---- room

pub room_first : {at : ℕ} {out : List ℕ} (xs ys : List ℕ) → Room at (xs ++ ys) out → Room at xs out
room_first xs ys w = record { fits = omega (arith, w.fits, length-append xs ys) }

pub room_then : {at next : ℕ} {before after : List ℕ} (xs ys : List ℕ) → Room at (xs ++ ys) before → Put at xs before next after → Room next ys after
room_then {at} {next} {before} {after} xs ys w p =
    record { fits = omega (arith, w.fits, length-append xs ys, p.next_is, ap length p.after_is ∙ length-put_at before at xs) }

-- ---- put

pub put_then : {at next last : ℕ} {before between after xs ys : List ℕ} → Put at xs before next between
    → Put next ys between last after → Put at (xs ++ ys) before last after
put_then {at} {next} {last} {before} {between} {after} {xs} {ys} p q =
    record {
      next_is = omega (arith, p.next_is, q.next_is, length-append xs ys);
      after_is =
          q.after_is ∙
          ap (λ (o : List ℕ). put_at o next ys) p.after_is ∙
          ap (λ (k : ℕ). put_at (put_at before at xs) k ys) p.next_is ∙
          sym (put_at-append before at xs ys);
    }

pub put_same : {at next : ℕ} {before after xs ys : List ℕ} → xs ≡ ys → Put at xs before next after → Put at ys before next after
put_same e p = rw e at p

pub room_same : {at : ℕ} {out xs ys : List ℕ} → xs ≡ ys → Room at xs out → Room at ys out
room_same e w = rw e at w

pub put_none : (at : ℕ) (out : List ℕ) → Put at [] out at out
put_none at out = record { next_is = omega arith; after_is = refl }

pub length_put : {at next : ℕ} {before after xs : List ℕ} → Put at xs before next after → length after ≡ length before
length_put {at} {next} {before} {after} {xs} p = ap length p.after_is ∙ length-put_at before at xs

-- ---- a word as a whole

-- the bytes written over a part of the buffer, as long as they are
pub put_part : (out bs : List ℕ) (at : ℕ) {k : ℕ} {ys : List ℕ} → at + length bs ≤ length out → k ≡ length bs → ys ≡ bs → put_mid at k out ys ≡ put_at out at bs
put_part out bs at h k e =
    rw (k, e) (sym (ap (λ (o : List ℕ). put_at o at bs) (sym (take-append-drop at out)) ∙
    ap (λ (i : ℕ). put_at (take at out ++ drop at out) i bs) (sym (length-take-le at out (omega arith))) ∙
    put_at_behind (take at out) bs (drop at out) (omega (arith, length-drop at out))))
