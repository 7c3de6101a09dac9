-- The laws of a trail as a way: its last literal is true, and unsetting it leads back.
--
--   way_le, way_frame             a way is no shorter than where it starts; what is written behind it does no harm
--   leads_refl, leads_trans, leads_set     setting a literal, and one function after another
--   Undoing, undoing_start, undo_asks, undoing_step, undoing_done     what is left of the trail, as an invariant
--
-- Assumes nothing.
use mathlib.Core.Path.{◌≡◌, sym, ◌∙◌, ap}
use mathlib.Core.Bool.{true}
use mathlib.Core.List.{List}
use Prim.Native.Nat.{ℕ, suc, ◌+◌, ◌-◌, ◌≤◌, ◌<◌}
use native.Mathlib.Omega.{arith}
use native.Mathlib.Numerals.{add-one}
use lib.IntN.{ℤ}
use lib.ListN.{get_or, set, length, length-set}
use lib.Seq.{set-set, set-get_or, get_or-set_same, get_or-set_other}
use borrow.Author.Tests.{eqb-true}
use Rattle.rules.specs.Meaning.{Clause, Values, LitUpTo, index_of, true_byte, assign, is_unset, is_true}
use Rattle.rules.proofs.MeaningLaws.{is_true-assign}
use Rattle.board.specs.Holders.{code_of, lit_of}
use Rattle.board.specs.Boards.{Shows, Settable, Unsettable, UnsetDone, unassign, trail_len, lit_at, pushed}
use Rattle.board.specs.Trails.{Way, Trail, Leads, UndoAsked, Undone}
use Rattle.board.specs.Trails.Way.{start, more}
use Rattle.board.proofs.CodeLaws.{lit_of-code_of}
use Rattle.board.proofs.BoardLaws.{trail_len-pushed, length-pushed, trail_len-popped, set_room}

pub way_le : {base : Values} {trail : List ℕ} {to len : ℕ} {vs : Values} → Way base trail to len vs → to ≤ len
way_le (start e q) = omega arith
way_le (more k us e b u s q t) = omega (arith, way_le t)

pub way_frame : {base : Values} {trail trail2 : List ℕ} {to len : ℕ} {vs : Values} → length trail2 ≡ length trail
    → ((j : ℕ) → 1 ≤ j → j ≤ len → get_or trail2 j 0 ≡ get_or trail j 0) → Way base trail to len vs → Way base trail2 to len vs
way_frame same kept (start e q) = start e q
way_frame {base} {trail} {trail2} {to} {len} {vs} same kept (more k us e b u s q t) =
    let at : lit_at trail2 (suc k) ≡ lit_at trail (suc k) = ap lit_of (kept (suc k) (omega arith) (omega arith)) in
    more {vs = vs} k us e (omega (arith, same)) (rw at u) (rw at s) (rw at q) (way_frame same (λ j a h. kept j a (omega arith)) t)

-- ---- setting a literal

pub leads_refl : {trail : List ℕ} {vs : Values} → Leads trail vs trail vs
leads_refl = record { leads = λ base to t. t }

pub leads_trans : {trail trail2 trail3 : List ℕ} {vs vs2 vs3 : Values} → Leads trail vs trail2 vs2 → Leads trail2 vs2 trail3 vs3 → Leads trail vs trail3 vs3
leads_trans a b = record { leads = λ base to t. b.leads base to (a.leads base to t) }

module _ (trail : List ℕ) (k : ℕ) (h : trail_len trail + 1 < length trail) where
  pushed_other : (j : ℕ) → 1 ≤ j → j ≤ trail_len trail → get_or (pushed trail k) j 0 ≡ get_or trail j 0
  pushed_other j a b =
      get_or-set_other (set trail (trail_len trail + 1) k) 0 j (trail_len trail + 1) 0 (omega arith) ∙
      get_or-set_other trail (trail_len trail + 1) j k 0 (omega arith)

  pushed_last : get_or (pushed trail k) (suc (trail_len trail)) 0 ≡ k
  pushed_last =
      get_or-set_other (set trail (trail_len trail + 1) k) 0 (suc (trail_len trail)) (trail_len trail + 1) 0 (omega arith) ∙
      rw (add-one (trail_len trail)) (get_or-set_same trail (suc (trail_len trail)) k 0 (omega arith))

pub leads_set : {F : List Clause} {lists holders marks : List ℕ} {vs : Values} {keys hot trail : List ℕ} {l : ℤ}
    → Settable F lists holders marks vs keys hot trail l
    → {vs2 : Values} {trail2 : List ℕ} → vs2 ≡ assign vs l → trail2 ≡ pushed trail (code_of l) → Leads trail vs trail2 vs2
leads_set {F} {lists} {holders} {marks} {vs} {keys} {hot} {trail} {l} s {vs2} {trail2} e q = record { leads = λ base to t. go base to t }
  where
    room : trail_len trail + 1 < length trail
    room = set_room s

    at : lit_at (pushed trail (code_of l)) (suc (trail_len trail)) ≡ l
    at = ap lit_of (pushed_last trail (code_of l) room) ∙ lit_of-code_of l s.literal.some

    go : (base : Values) (to : ℕ) → Trail base trail to vs → Trail base trail2 to vs2
    go base to t =
        rw q
        (more {vs = vs2} (trail_len trail) vs (trail_len-pushed trail (code_of l) s.shows.room ∙ add-one (trail_len trail))
        (omega (arith, room, length-pushed trail (code_of l))) (rw at s.literal) (rw at s.unset) (rw at e)
        (way_frame (length-pushed trail (code_of l)) (pushed_other trail (code_of l) room) t))

-- ---- taking back

unassign-assign : (us : Values) (l : ℤ) → is_unset us l ≡ true → unassign (assign us l) l ≡ us
unassign-assign us l u =
    set-set us (index_of l) (true_byte l) 0 ∙ ap (set us (index_of l)) (sym (eqb-true _ _ u)) ∙ set-get_or us (index_of l) 1

-- the last literal of a way stands at n
record Last (base : Values) (trail : List ℕ) (to n : ℕ) (vs : Values) : Type 0 where
  pub up_to : LitUpTo (length vs) (lit_at trail n)
  pub true_here : is_true vs (lit_at trail n) ≡ true
  pub before : Way base trail to (n - 1) (unassign vs (lit_at trail n))

last : {base : Values} {trail : List ℕ} {to n : ℕ} {vs : Values} → to < n → Way base trail to n vs → Last base trail to n vs
last h (start e q) = absurd (omega arith)
last {base} {trail} {to} {n} {vs} h (more k us e b u s q t) =
    let at : n - 1 ≡ k = omega arith in
    let same : length us ≡ length vs = sym (ap length q ∙ length-set us (index_of (lit_at trail (suc k))) (true_byte (lit_at trail (suc k)))) in
    record {
      up_to = rw e (rw same at u);
      true_here = rw (e, q) (is_true-assign us (lit_at trail (suc k)) s);
      before = rw (at, e, q, unassign-assign us (lit_at trail (suc k)) s) t;
    }

over : {base : Values} {trail : List ℕ} {to n : ℕ} {vs : Values} → n ≤ to → Way base trail to n vs → vs ≡ base
over h (start e q) = q
over h (more k us e b u s q t) = absurd (omega (arith, way_le t))

pub record Undoing (lists holders marks : List ℕ) (from : Values) (keys_from hot-from trail-from : List ℕ) (to : ℕ) (vs : Values)
    (keys hot trail : List ℕ) : Type 0 where
  pub F : List Clause
  pub shown : Shows F lists holders marks vs keys hot trail
  pub base : Values
  pub left : Trail base trail to vs
  pub back : (b : Values) (m : ℕ) → m ≤ to → Trail b trail-from m from → Trail b trail m vs
  pub shows : (G : List Clause) → Shows G lists holders marks from keys_from hot-from trail-from → Shows G lists holders marks vs keys hot trail

pub undoing_start : {lists holders marks : List ℕ} {from : Values} {keys_from hot-from trail-from : List ℕ} {to : ℕ}
    → UndoAsked lists holders marks from keys_from hot-from trail-from to
    → Undoing lists holders marks from keys_from hot-from trail-from to from keys_from hot-from trail-from
undoing_start a =
    record {
      F = a.F;
      shown = a.shows;
      base = a.base;
      left = a.trail_is;
      back = λ b m h t. t;
      shows = λ G w. w;
    }

module _ {lists holders marks : List ℕ} {from : Values} {keys_from hot-from trail-from : List ℕ} {to : ℕ} {vs : Values} {keys hot trail : List ℕ}
    (w : Undoing lists holders marks from keys_from hot-from trail-from to vs keys hot trail) where
  pub undo_asks : to < trail_len trail → Unsettable w.F lists holders marks vs keys hot trail
  undo_asks h =
      record { shows = w.shown; some = omega arith; literal = (last h w.left).up_to; true_here = (last h w.left).true_here }

  module _ (h : to < trail_len trail) {vs2 : Values} {keys2 hot2 trail2 : List ℕ}
      (d : UnsetDone lists holders marks vs keys hot trail vs2 keys2 hot2 trail2) where
    len_popped : trail_len trail2 ≡ trail_len trail - 1
    len_popped = ap trail_len d.trail_is ∙ trail_len-popped trail w.shown.room

    pub undoing_falls : trail_len trail2 < trail_len trail
    undoing_falls = omega (arith, len_popped)

    shorter : (b : Values) (m : ℕ) → m ≤ to → Trail b trail m vs → Trail b trail2 m vs2
    shorter b m g t =
        rw (len_popped, d.values_are)
        (way_frame (ap length d.trail_is ∙ length-set trail 0 (trail_len trail - 1))
        (λ j a l. ap (λ (xs : List ℕ). get_or xs j 0) d.trail_is ∙ get_or-set_other trail 0 j (trail_len trail - 1) 0 (omega arith))
        (last (omega arith) t).before)

    pub undoing_step : Undoing lists holders marks from keys_from hot-from trail-from to vs2 keys2 hot2 trail2
    undoing_step =
        record {
          F = w.F;
          shown = d.shows w.F w.shown;
          base = w.base;
          left = shorter w.base to (omega arith) w.left;
          back = λ b m g t. shorter b m g (w.back b m g t);
          shows = λ G t. d.shows G (w.shows G t);
        }

  pub undoing_done : trail_len trail ≤ to → Undone lists holders marks from keys_from hot-from trail-from to vs keys hot trail
  undoing_done h =
      record { again = λ b t. over h (w.back b to (omega arith) t); leads = λ b m g t. w.back b m g t; shows = w.shows }
