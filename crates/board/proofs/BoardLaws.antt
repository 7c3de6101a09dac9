-- The laws of specs/Boards: what setting a literal, and unsetting the last one, does to every key, as two changes, and to the trail.
--
--   set_asks, set_asks_other, set_done     setting a literal: each change can be made, and then the keys are those under the new values
--   unset_asks, unset_asks_other, unset_done     unsetting it
--
-- Assumes nothing.
use mathlib.Core.Path.{◌≡◌, refl, sym, ◌∙◌, ap, subst}
use mathlib.Core.Bool.{Bool, true, false}
use mathlib.Core.List.{List, [], map}
use Prim.Native.Nat.{ℕ, ◌+◌, ◌-◌, ◌*◌, ◌/◌, ◌≤◌, ◌<◌}
use native.Mathlib.Omega.{arith}
use lib.IntN.{ℤ}
use lib.ListN.{get_or, length, set, length-set, length-map}
use lib.Seq.{get_or-set_same, set-set, set-get_or}
use borrow.Author.Tests.{eqb-true, eq-eqb}
use Rattle.rules.specs.Lists.{In, count_if}
use Rattle.rules.specs.Numbers.{max_vars}
use Rattle.rules.specs.Meaning.{Clause, Values, LitUpTo, var_of, negated, index_of, true_byte, assign, is_unset}
use Rattle.rules.proofs.MeaningLaws.{unsets-assign}
use Rattle.formula.proofs.LiteralLaws.{index_of_var}
use Rattle.board.specs.Blocks.{HotBlocks}
use Rattle.board.specs.Keys.{holds, true_count, unset_count, key_of}
use Rattle.board.specs.Holders.{code_of, lit_of, other_code, holders_at, Indexed, change_all, Changeable, ChangeAsked, Changed}
use Rattle.board.specs.Boards.{Small, Shows, Settable, Unsettable, unassign, trail_len, last_of, pushed, popped}
use Rattle.board.proofs.CodeLaws.{code_of_lt, code_of-lit_of, index_of-lit_of, other_code-code_of}
use Rattle.board.proofs.CountLaws.{key_of_le}
use Rattle.board.proofs.KeyLaws.{var_of-negated, true_count_assign, unset_count_assign}
use Rattle.board.proofs.HolderLaws.{Step, walk}

-- ---- one clause: a and b say whether it holds l and the negation of l

abbrev more_if : Bool → ℕ → ℕ → ℕ
more_if true n key = key + n
more_if false n key = key

abbrev less_if : Bool → ℕ → ℕ → ℕ
less_if true n key = key - n
less_if false n key = key

-- t true and u unset literals, and then t2 and u2
balance : (a b : Bool) (t t2 u u2 : ℕ) → t2 ≡ count_if a t → u ≡ count_if a (count_if b u2)
    → 65536 * t2 + u2 + count_if b 0 ≡ more_if a 65535 (65536 * t + u)
balance true true t t2 u u2 p q = omega arith
balance true false t t2 u u2 p q = omega arith
balance false true t t2 u u2 p q = omega arith
balance false false t t2 u u2 p q = omega arith

balance_back : (a b : Bool) (t t2 u u2 : ℕ) → t2 ≡ count_if a t → u ≡ count_if a (count_if b u2)
    → less_if a 65535 (65536 * t2 + u2) + count_if b 0 ≡ 65536 * t + u
balance_back true true t t2 u u2 p q = omega arith
balance_back true false t t2 u u2 p q = omega arith
balance_back false true t t2 u u2 p q = omega arith
balance_back false false t t2 u u2 p q = omega arith

module _ (F : List Clause) (n : ℕ) (small : Small n F) (vs : Values) (l : ℤ) (u : is_unset vs l ≡ true) (h : 1 ≤ var_of l) where
  -- the keys between the two changes, on the way up and on the way back
  abbrev midway : Clause → ℕ
  midway cl = more_if (holds l cl) 65535 (key_of vs cl)

  abbrev midway_back : Clause → ℕ
  midway_back cl = less_if (holds l cl) 65535 (key_of (assign vs l) cl)

  module _ (cl : Clause) (i : In cl F) where
    trues : true_count (assign vs l) cl ≡ count_if (holds l cl) (true_count vs cl)
    trues = true_count_assign vs l u h cl (λ k j. ((small.up_to cl i).each k j).some)

    unsets : unset_count vs cl ≡ count_if (holds l cl) (count_if (holds (negated l) cl) (unset_count (assign vs l) cl))
    unsets = unset_count_assign vs l u h cl (λ k j. ((small.up_to cl i).each k j).some)

    key_le : (ws : Values) → key_of ws cl ≤ 65537 * 512
    key_le ws = key_of_le n cl ws (small.up_to cl i) small.vars_fit

    key_ge : holds l cl ≡ true → 65536 ≤ key_of (assign vs l) cl
    unfolding key_of
    key_ge t = omega (arith, rw t at trues)

    up : key_of (assign vs l) cl + count_if (holds (negated l) cl) 0 ≡ midway cl
    unfolding key_of
    up = balance (holds l cl) (holds (negated l) cl) _ _ _ _ trues unsets

    back : midway_back cl + count_if (holds (negated l) cl) 0 ≡ key_of vs cl
    unfolding key_of
    back = balance_back (holds l cl) (holds (negated l) cl) _ _ _ _ trues unsets

    up_step : Step 65535 0 l (key_of vs cl) (midway cl) cl
    up_step =
        record {
          can = λ t. record { fits = omega (arith, key_le vs); enough = omega arith };
          held = λ t. rw t (omega arith);
          other = λ t. rw t;
        }

    up_other : Step 0 1 (negated l) (midway cl) (key_of (assign vs l) cl) cl
    up_other =
        record {
          can = λ t. record { fits = omega (arith, key_le (assign vs l), rw t at up); enough = omega (arith, rw t at up) };
          held = λ t. omega (arith, rw t at up);
          other = λ t. omega (arith, rw t at up);
        }

    back_step : Step 0 65535 l (key_of (assign vs l) cl) (midway_back cl) cl
    back_step =
        record {
          can = λ t. record { fits = omega (arith, key_le (assign vs l)); enough = omega (arith, key_ge t) };
          held = λ t. rw t (omega arith);
          other = λ t. rw t;
        }

    back_other : Step 1 0 (negated l) (midway_back cl) (key_of vs cl) cl
    back_other =
        record {
          can = λ t. record { fits = omega (arith, key_le vs, rw t at back); enough = omega arith };
          held = λ t. omega (arith, rw t at back);
          other = λ t. omega (arith, rw t at back);
        }

-- ---- the trail

pub trail_len-pushed : (trail : List ℕ) (k : ℕ) {n : ℕ} → n < length trail → trail_len (pushed trail k) ≡ trail_len trail + 1
trail_len-pushed trail k h =
    get_or-set_same (set trail (trail_len trail + 1) k) 0 (trail_len trail + 1) 0 (omega (arith, length-set trail (trail_len trail + 1) k))

pub length-pushed : (trail : List ℕ) (k : ℕ) → length (pushed trail k) ≡ length trail
length-pushed trail k =
    length-set (set trail (trail_len trail + 1) k) 0 (trail_len trail + 1) ∙ length-set trail (trail_len trail + 1) k

pub trail_len-popped : (trail : List ℕ) {n : ℕ} → n < length trail → trail_len (popped trail) ≡ trail_len trail - 1
trail_len-popped trail h = get_or-set_same trail 0 (trail_len trail - 1) 0 (omega arith)

-- ---- all clauses

module _ {add less : ℕ} {l : ℤ} {F : List Clause} {n : ℕ} {lists holders marks keys : List ℕ} (f g : Clause → ℕ)
    (steps : (cl : Clause) → In cl F → Step add less l (f cl) (g cl) cl)
    (index : Indexed n F lists holders marks) (some : LitUpTo n l) (e : keys ≡ map f F) where
  keys_length : length keys ≡ length F
  keys_length = ap length e ∙ length-map F f

  walked_at : (last : ℕ) → last ≡ length F - 1
      → Changeable add less (holders_at lists holders marks last (code_of l)) keys ×
      (change_all add less (holders_at lists holders marks last (code_of l)) keys ≡ map g F)
  walked_at last q = rw (q, (index.held l some).holders_are, e) (walk add less l f g F steps [] 0 refl)

  walked : Changeable add less (holders_at lists holders marks (length keys - 1) (code_of l)) keys ×
      (change_all add less (holders_at lists holders marks (length keys - 1) (code_of l)) keys ≡ map g F)
  walked = walked_at (length keys - 1) (omega (arith, keys_length))

  pub asked_of : {hot : List ℕ} → n ≤ max_vars → HotBlocks keys hot → ChangeAsked add less (code_of l) lists holders marks keys hot
  asked_of h w =
      record {
        small = omega (arith, code_of_lt l some);
        some = omega (arith, keys_length, index.some);
        part = (index.held l some).part;
        mark_room = (index.held l some).mark_room;
        asked = record { hot_right = w; can = walked.0 };
      }

  pub keys_after : {new hot-new : List ℕ} → Changed add less (holders_at lists holders marks (length keys - 1) (code_of l)) keys new hot-new → new ≡ map g F
  keys_after d = d.keys_are ∙ walked.1

negated_up_to : {n : ℕ} (l : ℤ) → LitUpTo n l → LitUpTo n (negated l)
negated_up_to l h =
    record { some = omega (arith, var_of-negated l, h.some); most = omega (arith, var_of-negated l, h.most) }

-- ---- setting a literal

module _ {F : List Clause} {lists holders marks : List ℕ} {vs : Values} {keys hot trail : List ℕ} {l : ℤ}
    (s : Settable F lists holders marks vs keys hot trail l) where
  abbrev between : Clause → ℕ
  between = midway F (length vs) s.shows.small vs l s.unset s.literal.some

  up_first : (cl : Clause) → In cl F → Step 65535 0 l (key_of vs cl) (between cl) cl
  up_first = up_step F (length vs) s.shows.small vs l s.unset s.literal.some

  up_second : (cl : Clause) → In cl F → Step 0 1 (negated l) (between cl) (key_of (assign vs l) cl) cl
  up_second = up_other F (length vs) s.shows.small vs l s.unset s.literal.some

  pub set_asks : ChangeAsked 65535 0 (code_of l) lists holders marks keys hot
  set_asks =
      asked_of _ _ up_first s.shows.index s.literal s.shows.keys_are s.shows.small.vars_fit s.shows.hot_are

  module _ {keys1 hot1 : List ℕ} (d : Changed 65535 0 (holders_at lists holders marks (length keys - 1) (code_of l)) keys keys1 hot1) where
    keys_between : keys1 ≡ map between F
    keys_between = keys_after _ _ up_first s.shows.index s.literal s.shows.keys_are d

    pub set_asks_other : ChangeAsked 0 1 (other_code (code_of l)) lists holders marks keys1 hot1
    set_asks_other =
        rw (other_code-code_of l s.literal.some)
        (asked_of _ _ up_second s.shows.index (negated_up_to l s.literal) keys_between s.shows.small.vars_fit d.hot_right)

    pub set_done : {keys2 hot2 trail2 : List ℕ} → Changed 0 1 (holders_at lists holders marks (length keys1 - 1) (other_code (code_of l))) keys1 keys2 hot2
        → trail2 ≡ pushed trail (code_of l) → Shows F lists holders marks (assign vs l) keys2 hot2 trail2
    set_done {keys2} {hot2} {trail2} d2 e =
        let same : length (assign vs l) ≡ length vs = length-set vs (index_of l) (true_byte l) in
        record {
          small = rw same s.shows.small;
          index = rw same s.shows.index;
          keys_are = keys_after _ _ up_second s.shows.index (negated_up_to l s.literal) keys_between (rw (other_code-code_of l s.literal.some) at d2);
          hot_are = d2.hot_right;
          counted = omega (arith, ap trail_len e, trail_len-pushed trail (code_of l) s.shows.room, unsets-assign vs l s.unset, s.shows.counted, same);
          room = omega (arith, ap length e, length-pushed trail (code_of l), s.shows.room, same);
        }

  -- room on the trail, and a number that it holds
  pub set_room : trail_len trail + 1 < length trail
  set_room = omega (arith, unsets-assign vs l s.unset, s.shows.counted, s.shows.room)

  pub set_few : trail_len trail < 65535
  set_few = omega (arith, s.shows.counted, s.shows.small.vars_fit)

-- ---- and back

pub unassign_code : (vs : Values) (k : ℕ) → set vs (k / 2) 0 ≡ unassign vs (lit_of k)
unassign_code vs k = rw (index_of-lit_of k)

module _ {F : List Clause} {lists holders marks : List ℕ} {vs : Values} {keys hot trail : List ℕ} (s : Unsettable F lists holders marks vs keys hot trail) where
  abbrev last : ℤ
  last = last_of trail

  place : index_of last < length vs
  place = omega (arith, index_of_var last s.literal.some, s.literal.most)

  -- where it stands on the trail, and where its variable has its byte
  pub last_room : trail_len trail < length trail
  last_room = omega (arith, s.shows.counted, s.shows.room)

  pub last_place : get_or trail (trail_len trail) 0 / 2 < length vs
  last_place = omega (arith, index_of-lit_of (get_or trail (trail_len trail) 0), place)

  unset_now : is_unset (unassign vs last) last ≡ true
  unset_now = eq-eqb _ _ (get_or-set_same vs (index_of last) 0 1 place)

  assign-unassign : assign (unassign vs last) last ≡ vs
  assign-unassign =
      set-set vs (index_of last) 0 (true_byte last) ∙ ap (set vs (index_of last)) (sym (eqb-true _ _ s.true_here)) ∙ set-get_or vs (index_of last) 1

  abbrev midway_down : Clause → ℕ
  midway_down = midway_back F (length vs) s.shows.small (unassign vs last) last unset_now s.literal.some

  back_first : (cl : Clause) → In cl F → Step 0 65535 last (key_of vs cl) (midway_down cl) cl
  back_first cl i =
      ap_step (back_step F (length vs) s.shows.small (unassign vs last) last unset_now s.literal.some cl i)
    where
      ap_step : Step 0 65535 last (key_of (assign (unassign vs last) last) cl) (midway_down cl) cl → Step 0 65535 last (key_of vs cl) (midway_down cl) cl
      ap_step t = subst (λ (ws : Values). Step 0 65535 last (key_of ws cl) (midway_down cl) cl) assign-unassign t

  back_second : (cl : Clause) → In cl F → Step 1 0 (negated last) (midway_down cl) (key_of (unassign vs last) cl) cl
  back_second = back_other F (length vs) s.shows.small (unassign vs last) last unset_now s.literal.some

  -- the number on the trail is that of the literal
  code_is : code_of last ≡ get_or trail (trail_len trail) 0
  code_is = code_of-lit_of (get_or trail (trail_len trail) 0)

  pub unset_asks : ChangeAsked 0 65535 (get_or trail (trail_len trail) 0) lists holders marks keys hot
  unset_asks =
      rw code_is at (asked_of _ _ back_first s.shows.index s.literal s.shows.keys_are s.shows.small.vars_fit s.shows.hot_are)

  other_is : other_code (get_or trail (trail_len trail) 0) ≡ code_of (negated last)
  other_is = ap other_code (sym code_is) ∙ other_code-code_of last s.literal.some

  module _ {keys1 hot1 : List ℕ} (d : Changed 0 65535 (holders_at lists holders marks (length keys - 1) (get_or trail (trail_len trail) 0)) keys keys1
      hot1) where
    keys_down : keys1 ≡ map midway_down F
    keys_down = keys_after _ _ back_first s.shows.index s.literal s.shows.keys_are (rw (sym code_is) at d)

    pub unset_asks_other : ChangeAsked 1 0 (other_code (get_or trail (trail_len trail) 0)) lists holders marks keys1 hot1
    unset_asks_other =
        rw other_is (asked_of _ _ back_second s.shows.index (negated_up_to last s.literal) keys_down s.shows.small.vars_fit d.hot_right)

    pub unset_done : {keys2 hot2 trail2 : List ℕ}
        → Changed 1 0 (holders_at lists holders marks (length keys1 - 1) (other_code (get_or trail (trail_len trail) 0))) keys1 keys2 hot2
        → trail2 ≡ popped trail → Shows F lists holders marks (unassign vs last) keys2 hot2 trail2
    unset_done {keys2} {hot2} {trail2} d2 e =
        let same : length (unassign vs last) ≡ length vs = length-set vs (index_of last) 0 in
        record {
          small = rw same s.shows.small;
          index = rw same s.shows.index;
          keys_are = keys_after _ _ back_second s.shows.index (negated_up_to last s.literal) keys_down (rw other_is at d2);
          hot_are = d2.hot_right;
          counted = omega (
            arith,
            ap trail_len e,
            trail_len-popped trail s.shows.room,
            s.some,
            rw assign-unassign at
                (unsets-assign (unassign vs last) last unset_now),
            s.shows.counted,
            same,
          );
          room = omega (arith, ap length e, length-set trail 0 (trail_len trail - 1), s.shows.room, same);
        }
