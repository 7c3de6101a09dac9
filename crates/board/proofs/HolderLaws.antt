-- The laws of specs/Holders: a change of the keys of all clauses that hold a literal.
--
--   Step, walk                    the keys go from `map f F` to `map g F`, if each clause that holds l goes from f to g by the change
--   change_all-append, changeable_front, changeable_behind, length-change_all     one list behind another
--   Walking, walking_start, walking_now, walking_step, walking_done     the loop over the list: what is left gives what all gives
--   asked_list, marked_turn, changed_alone, changed_marked     the list of a literal, and then the constraint
--
-- Assumes nothing.
use mathlib.Core.Path.{◌≡◌, refl, sym, ◌∙◌, ap}
use mathlib.Core.Bool.{Bool, true, false}
use mathlib.Core.List.Memᴰ
use mathlib.Core.List.{List, [], ◌∷◌, ◌++◌, map, append-nil}
use Prim.Native.Nat.{ℕ, suc, ◌+◌, ◌-◌, ◌≤◌, ◌<◌}
use native.Mathlib.Omega.{arith}
use lib.IntN.{ℤ}
use native.Mathlib.Numerals.{add-one}
use lib.ListN.{get_or, set, length, drop, length-append, length-set, drop_of_length-le}
use lib.Seq.{set_at, get_or_at, append_snoc, drop-cons}
use Rattle.rules.specs.Lists.{In, keep_if}
use Rattle.rules.specs.Meaning.{Clause}
use Rattle.board.specs.Blocks.{HotBlocks}
use Rattle.board.specs.Keys.{holds}
use Rattle.board.specs.Holders.{holding, part_at, is_marked, holders_at, changed, change_all, Changes, Changeable, ChangesAsked, ChangeAsked, Changed}
use Rattle.board.specs.Holders.Changeable.{none, one}

-- what the change does to the key of one clause
pub record Step (add less : ℕ) (l : ℤ) (old new : ℕ) (cl : Clause) : Type 0 where
  pub can : holds l cl ≡ true → Changes add less old
  pub held : holds l cl ≡ true → new ≡ changed add less old
  pub other : holds l cl ≡ false → new ≡ old

module _ (add less : ℕ) (l : ℤ) (f g : Clause → ℕ) where
  pub walk : (F : List Clause) → ((cl : Clause) → In cl F → Step add less l (f cl) (g cl) cl) → (front : List ℕ) (i : ℕ) → length front ≡ i
      → Changeable add less (holding l i F) (front ++ map f F) × (change_all add less (holding l i F) (front ++ map f F) ≡ front ++ map g F)
  walk [] steps front i e = (none, refl)
  walk (cl ∷ F) steps front i e =
      go (holds l cl) refl (steps cl (Memᴰ.head refl)) (λ fr n. walk F (λ k j. steps k (Memᴰ.tail j)) fr (suc i) n)
    where
      go : (b : Bool) → holds l cl ≡ b → Step add less l (f cl) (g cl) cl
          → ((front : List ℕ) → length front ≡ suc i → Changeable add less (holding l (suc i) F) (front ++ map f F) ×
          (change_all add less (holding l (suc i) F) (front ++ map f F) ≡ front ++ map g F))
          → Changeable add less (keep_if b i (holding l (suc i) F)) (front ++ f cl ∷ map f F) ×
          (change_all add less (keep_if b i (holding l (suc i) F)) (front ++ f cl ∷ map f F) ≡ front ++ g cl ∷ map g F)
      go true t s ih =
          let read : get_or (front ++ f cl ∷ map f F) i 0 ≡ f cl = get_or_at front (f cl) (map f F) 0 i e in
          let wrote : set (front ++ f cl ∷ map f F) i (changed add less (get_or (front ++ f cl ∷ map f F) i 0)) ≡ (front ++ (g cl ∷ [])) ++ map f F
          = ap (λ (n : ℕ). set (front ++ f cl ∷ map f F) i (changed add less n)) read ∙
          set_at front (f cl) (map f F) (changed add less (f cl)) i e ∙
          ap (λ (n : ℕ). front ++ n ∷ map f F) (sym (s.held t)) ∙
          sym (append_snoc front (g cl) (map f F)) in
          let (can, is) = ih (front ++ (g cl ∷ [])) (omega (arith, length-append front (g cl ∷ []))) in
          let within : i < length (front ++ f cl ∷ map f F) = omega (arith, length-append front (f cl ∷ map f F)) in (
            one {is = holding l (suc i) F} {keys = front ++ f cl ∷ map f F} within (rw read (s.can t)) (rw wrote can),
            ap (change_all add less (holding l (suc i) F)) wrote ∙ is ∙ append_snoc front (g cl) (map g F),
          )
      go false t s ih =
          let (can, is) = ih (front ++ (f cl ∷ [])) (omega (arith, length-append front (f cl ∷ []))) in
          (rw (append_snoc front (f cl) (map f F)) at can, rw (s.other t) (rw (append_snoc front (f cl) (map f F), append_snoc front (f cl) (map g F)) at is))

-- ---- one list behind another

pub change_all-append : (add less : ℕ) (is js keys : List ℕ) → change_all add less (is ++ js) keys ≡ change_all add less js (change_all add less is keys)
change_all-append add less [] js keys = refl
change_all-append add less (i ∷ is) js keys = change_all-append add less is js (set keys i (changed add less (get_or keys i 0)))

pub changeable_front : {add less : ℕ} (is js : List ℕ) {keys : List ℕ} → Changeable add less (is ++ js) keys → Changeable add less is keys
changeable_front [] js d = none
changeable_front (i ∷ is) js (one a b d) = one a b (changeable_front is js d)

pub changeable_behind : {add less : ℕ} (is js : List ℕ) {keys : List ℕ} → Changeable add less (is ++ js) keys
    → Changeable add less js (change_all add less is keys)
changeable_behind [] js d = d
changeable_behind (i ∷ is) js (one a b d) = changeable_behind is js d

pub length-change_all : (add less : ℕ) (is keys : List ℕ) → length (change_all add less is keys) ≡ length keys
length-change_all add less [] keys = refl
length-change_all add less (i ∷ is) keys =
    length-change_all add less is (set keys i (changed add less (get_or keys i 0))) ∙ length-set keys i (changed add less (get_or keys i 0))

-- ---- the loop

pub record Walking (add less : ℕ) (clauses before hot-before : List ℕ) (k : ℕ) (keys hot : List ℕ) : Type 0 where
  pub within : k ≤ length clauses
  pub same_keys : length keys ≡ length before
  pub same_hot : length hot ≡ length hot-before
  pub hot_right : HotBlocks keys hot
  pub can : Changeable add less (drop k clauses) keys
  pub todo : change_all add less (drop k clauses) keys ≡ change_all add less clauses before

pub walking_start : {add less : ℕ} {clauses keys hot : List ℕ} → HotBlocks keys hot → Changeable add less clauses keys
    → Walking add less clauses keys hot 0 keys hot
walking_start w d =
    record { within = omega arith; same_keys = refl; same_hot = refl; hot_right = w; can = d; todo = refl }

-- the turn of index i
pub record Turn (add less i : ℕ) (is keys : List ℕ) : Type 0 where
  pub at_key : i < length keys
  pub now_can : Changes add less (get_or keys i 0)
  pub then_can : Changeable add less is (set keys i (changed add less (get_or keys i 0)))

pub turn : {add less i : ℕ} {is keys : List ℕ} → Changeable add less (i ∷ is) keys → Turn add less i is keys
turn (one a b d) = record { at_key = a; now_can = b; then_can = d }

module _ {add less k : ℕ} {clauses before hot-before keys hot : List ℕ} (h : k < length clauses)
    (w : Walking add less clauses before hot-before k keys hot) where
  pub walking_now : Turn add less (get_or clauses k 0) (drop (suc k) clauses) keys
  walking_now = turn (rw (drop-cons clauses k 0 h) at w.can)

  pub walking_step : {new hot-new : List ℕ} → length hot-new ≡ length hot → new ≡ set keys (get_or clauses k 0)
      (changed add less (get_or keys (get_or clauses k 0) 0))
      → HotBlocks new hot-new → Walking add less clauses before hot-before (k + 1) new hot-new
  walking_step {new} {hot-new} s e b =
      record {
        within = omega arith;
        same_keys = ap length e ∙ length-set keys _ _ ∙ w.same_keys;
        same_hot = s ∙ w.same_hot;
        hot_right = b;
        can = rw (add-one k, e) walking_now.then_can;
        todo = rw (add-one k, e) (rw (drop-cons clauses k 0 h) at w.todo);
      }

pub walking_done : {add less k : ℕ} {clauses before hot-before keys hot : List ℕ} → length clauses ≤ k → Walking add less clauses before hot-before k keys hot
    → keys ≡ change_all add less clauses before
walking_done {add} {less} {k} {clauses} h w = rw (drop_of_length-le clauses h) at w.todo

-- ---- the list of a literal, and then the constraint

module _ {add less k : ℕ} {lists holders marks keys hot : List ℕ} (a : ChangeAsked add less k lists holders marks keys hot) where
  pub asked_list : ChangesAsked add less (part_at lists holders k) keys hot
  asked_list =
      record {
        hot_right = a.asked.hot_right;
        can = changeable_front (part_at lists holders k) (keep_if (is_marked marks k) (length keys - 1) [])
            a.asked.can;
      }

  module _ {keys1 hot1 : List ℕ} (d : Changed add less (part_at lists holders k) keys keys1 hot1) where
    same_keys : length keys1 ≡ length keys
    same_keys = ap length d.keys_are ∙ length-change_all add less (part_at lists holders k) keys

    pub changed_alone : is_marked marks k ≡ false → Changed add less (holders_at lists holders marks (length keys - 1) k) keys keys1 hot1
    changed_alone m =
        record {
          keys_are = rw (m, append-nil (part_at lists holders k)) d.keys_are;
          hot_right = d.hot_right;
        }

    module _ (m : is_marked marks k ≡ true) where
      pub marked_turn : Turn add less (length keys1 - 1) [] keys1
      marked_turn =
          rw same_keys
          (turn (rw (sym d.keys_are, m) at (changeable_behind (part_at lists holders k) (keep_if (is_marked marks k) (length keys - 1) []) a.asked.can)))

      pub changed_marked : {keys2 hot2 : List ℕ} → keys2 ≡ set keys1 (length keys1 - 1) (changed add less (get_or keys1 (length keys1 - 1) 0))
          → HotBlocks keys2 hot2
          → Changed add less (holders_at lists holders marks (length keys - 1) k) keys keys2 hot2
      changed_marked e h =
          record {
            keys_are =
                rw m (rw (same_keys, d.keys_are) at e ∙ sym (change_all-append add less (part_at lists holders k) ((length keys - 1) ∷ []) keys));
            hot_right = h;
          }
