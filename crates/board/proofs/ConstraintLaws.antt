-- The laws of specs/Constraints: the marks and the key of a constraint, literal by literal from its last; and who holds a literal, in
-- the formula by its lists and in the constraint by its mark.
--
--   key_of_cons                    the key with one literal more in front
--   marks_nil, marks_cons         its marks
--   mark_again, mark_true, mark_unset, mark_false     what marking one literal comes to
--   Marking, marking_start, mark_asks, marking_step, marking_done     what is marked and counted, as an invariant
--   indexed_of                    lists and marks together
--   renew_asks, renewed           the board with the new constraint
--
-- Assumes nothing.
use mathlib.Core.Path.{◌≡◌, refl, sym, ◌∙◌, ap}
use mathlib.Core.Logic.{◌≢◌}
use mathlib.Core.Bool.{Bool, true, false, not, ◌||◌}
use mathlib.Core.List.Memᴰ
use mathlib.Core.List.{List, [], ◌∷◌, ◌++◌, map}
use Prim.Native.Nat.{ℕ, zero, suc, ◌+◌, ◌-◌, ◌*◌, ◌≤◌, ◌<◌}
use native.Mathlib.Omega.{arith}
use native.Mathlib.Nat.{add-zero}
use lib.Dec.{eqb}
use lib.IntN.{ℤ, pos}
use lib.ListN.{get_or, set, length, drop, length-set, length-append, replicate, length-replicate}
use lib.Seq.{drop-cons, drop-length, get_or-set_same, get_or-set_other, set_at}
use borrow.Author.Tests.{eq-eqb, ne_eqb}
use Rattle.rules.specs.Lists.{In, count, count_if, keep_if, eqz}
use Rattle.rules.specs.Meaning.{Clause, Values, LitUpTo, is_true, is_unset}
use Rattle.rules.proofs.ListLaws.{eqz_sound, eqz_complete, never, in_get_d}
use Rattle.rules.proofs.MeaningLaws.{is_unset_of_is_true}
use Rattle.formula.specs.Clauses.{ClauseUpTo}
use Rattle.board.specs.Keys.{holds, distinct, true_count, unset_count, key_of}
use Rattle.board.specs.Blocks.{HotBlocks}
use Rattle.board.specs.Holders.{code_of, holding, is_marked, Marks, Holders, Indexed}
use Rattle.board.specs.Boards.{Small}
use Rattle.board.specs.Constraints.{key_with, MarkAsked, MarkDone, MarksAsked, MarksDone, RenewAsked, Renewed}
use Rattle.board.proofs.CodeLaws.{code_of_same, code_of_lt}
use Rattle.board.proofs.CountLaws.{key_of_le}

-- ---- one literal more

pub key_of_cons : (vs : Values) (l : ℤ) (cl : Clause) → key_of vs (l ∷ cl) ≡ key_with (holds l cl) vs l (key_of vs cl)
unfolding key_of true_count unset_count
key_of_cons vs l cl = go (holds l cl)
  where
    sum : (a b : Bool) (m n : ℕ) → 65536 * count_if a m + count_if b n ≡ 65536 * m + n + (65536 * count_if a 0 + count_if b 0)
    sum true true m n = omega arith
    sum true false m n = omega arith
    sum false true m n = omega arith
    sum false false m n = omega arith

    go : (h : Bool) → 65536 * count (is_true vs) (keep_if (not h) l (distinct cl)) + count (is_unset vs) (keep_if (not h) l (distinct cl))
        ≡ key_with h vs l (65536 * count (is_true vs) (distinct cl) + count (is_unset vs) (distinct cl))
    go true = refl
    go false = sum (is_true vs l) (is_unset vs l) (count (is_true vs) (distinct cl)) (count (is_unset vs) (distinct cl))

pub marks_nil : {n : ℕ} {marks : List ℕ} → 2 * n ≤ length marks → ((k : ℕ) → get_or marks k 0 ≡ 0) → Marks n [] marks
marks_nil {n} {marks} h b = record { room = h; each = λ l u. rw (b (code_of l)) }

pub marks_cons : {n : ℕ} {cl : Clause} {marks : List ℕ} (l : ℤ) → LitUpTo n l → Marks n cl marks → Marks n (l ∷ cl) (set marks (code_of l) 1)
marks_cons {n} {cl} {marks} l u w =
    record { room = omega (arith, length-set marks (code_of l) 1, w.room); each = λ k v. go k v (eqz k l) refl }
  where
    go : (k : ℤ) → LitUpTo n k → (b : Bool) → eqz k l ≡ b → is_marked (set marks (code_of l) 1) (code_of k) ≡ (b || holds k cl)
    go k v true e =
        rw (eqz_sound k l e) (eq-eqb _ _ (get_or-set_same marks (code_of l) 1 0 (omega (arith, code_of_lt l u, w.room))))
    go k v false e =
        ap (λ (x : ℕ). eqb x 1) (get_or-set_other marks (code_of l) (code_of k) 1 0 (λ t. never (eqz_complete k l (code_of_same k l v.some u.some t)) e)) ∙
        w.each k v

-- what marking one literal comes to, where it was marked, and where it was not
pub mark_again : {vs : Values} {marks : List ℕ} {l : ℤ} {key k : ℕ} → k ≡ code_of l → get_or marks k 0 ≡ 1 → MarkDone vs marks l key key (set marks k 1)
mark_again {vs} {marks} {l} {key} {k} e m = record { key_is = rw (← e, m); marks_are = rw e }

module _ {vs : Values} {marks : List ℕ} {l : ℤ} {key k : ℕ} (e : k ≡ code_of l) (m : get_or marks k 0 ≢ 1) where
  mark_new : {r : ℕ} → r ≡ key + (65536 * count_if (is_true vs l) 0 + count_if (is_unset vs l) 0) → MarkDone vs marks l key r (set marks k 1)
  mark_new q = record { key_is = rw (← e, ne_eqb (get_or marks k 0) 1 m) q; marks_are = rw e }

  pub mark_true : is_true vs l ≡ true → MarkDone vs marks l key (key + 65536) (set marks k 1)
  mark_true t = mark_new (rw (t, is_unset_of_is_true vs l t) (omega arith))

  pub mark_unset : is_true vs l ≡ false → is_unset vs l ≡ true → MarkDone vs marks l key (key + 1) (set marks k 1)
  mark_unset t u = mark_new (rw (t, u) (omega arith))

  pub mark_false : is_true vs l ≡ false → is_unset vs l ≡ false → MarkDone vs marks l key key (set marks k 1)
  mark_false t u = mark_new (rw (t, u) (omega arith))

-- ---- all literals

in_drop : (i : ℕ) (xs : List ℤ) (x : ℤ) → In x (drop i xs) → In x xs
in_drop zero xs x h = h
in_drop (suc i) [] x h = h
in_drop (suc i) (y ∷ xs) x h = Memᴰ.tail (in_drop i xs x h)

pub record Marking (con : Clause) (vs : Values) (before : List ℕ) (key i : ℕ) (marks : List ℕ) : Type 0 where
  pub within : i ≤ length con
  pub same : length marks ≡ length before
  pub key_is : key ≡ key_of vs (drop i con)
  pub marks_are : Marks (length vs) (drop i con) marks

module _ {con : Clause} {vs : Values} {before : List ℕ} (a : MarksAsked con vs before) where
  pub marking_start : Marking con vs before 0 (length con) before
  unfolding key_of true_count unset_count
  marking_start =
      record { within = omega arith; same = refl; key_is = rw (drop-length con); marks_are = rw (drop-length con) (marks_nil a.room a.blank) }

  module _ {key i : ℕ} {marks : List ℕ} (h : 0 < i) (w : Marking con vs before key i marks) where
    abbrev here : ℤ
    here = get_or con (i - 1) (pos 0)

    drops : drop (i - 1) con ≡ here ∷ drop i con
    drops = let t : suc (i - 1) ≡ i = omega arith in rw t at (drop-cons con (i - 1) (pos 0) (omega (arith, w.within)))

    pub here_up_to : LitUpTo (length vs) here
    here_up_to = a.up_to.each here (in_get_d con (i - 1) (pos 0) (omega (arith, w.within)))

    pub mark_asks : MarkAsked vs marks here key
    mark_asks =
        record {
          vars_fit = a.vars_fit;
          literal = here_up_to;
          room = w.marks_are.room;
          fits = omega (arith, w.key_is, key_of_le (length vs) (drop i con) vs (record { each = λ l j. a.up_to.each l (in_drop i con l j) }) a.vars_fit);
        }

    pub marking_step : {r : ℕ} {marks2 : List ℕ} → MarkDone vs marks here key r marks2 → length marks2 ≡ length marks → Marking con vs before r (i - 1) marks2
    marking_step {r} {marks2} d s =
        record {
          within = omega (arith, w.within);
          same = s ∙ w.same;
          key_is = rw drops (d.key_is ∙ rw (w.marks_are.each here here_up_to, w.key_is) (sym (key_of_cons vs here (drop i con))));
          marks_are = rw (drops, d.marks_are) (marks_cons here here_up_to w.marks_are);
        }

  pub marking_done : {key i : ℕ} {marks : List ℕ} → i ≤ 0 → Marking con vs before key i marks → MarksDone con vs key marks
  marking_done {key} {i} {marks} h w =
      let e : i ≡ 0 = omega arith in record { key_is = rw e at w.key_is; marks_are = rw e at w.marks_are }

-- ---- lists and marks together

holding-append : (l : ℤ) (i : ℕ) (F : List Clause) (con : Clause) → holding l i (F ++ (con ∷ [])) ≡ holding l i F ++ keep_if (holds l con) (i + length F) []
holding-append l i [] con = rw (add-zero i)
holding-append l i (cl ∷ F) con =
    let e : suc i + length F ≡ i + suc (length F) = omega arith in
    go (holds l cl) (rw e at (holding-append l (suc i) F con))
  where
    go : (b : Bool) → holding l (suc i) (F ++ (con ∷ [])) ≡ holding l (suc i) F ++ keep_if (holds l con) (i + suc (length F)) []
        → keep_if b i (holding l (suc i) (F ++ (con ∷ []))) ≡ keep_if b i (holding l (suc i) F) ++ keep_if (holds l con) (i + suc (length F)) []
    go true e = ap (λ (is : List ℕ). i ∷ is) e
    go false e = e

pub indexed_of : {n : ℕ} {F : List Clause} {con : Clause} {lists holders marks : List ℕ} → Holders n F lists holders → Marks n con marks
    → Indexed n (F ++ (con ∷ [])) lists holders marks
indexed_of {n} {F} {con} {lists} {holders} {marks} h m =
    record {
      some = omega (arith, length-append F (con ∷ []));
      held = λ l u.
          let last : length (F ++ (con ∷ [])) - 1 ≡ 0 + length F = omega (arith, length-append F (con ∷ [])) in
          record {
            part = (h.listed l u).part;
            mark_room = omega (arith, code_of_lt l u, m.room);
            holders_are = rw (last, (h.listed l u).part_is, m.each l u) (sym (holding-append l 0 F con));
          };
    }

-- ---- the board

map_last : (f : Clause → ℕ) (F : List Clause) (cl : Clause) → map f (F ++ (cl ∷ [])) ≡ map f F ++ (f cl ∷ [])
map_last f [] cl = refl
map_last f (c ∷ F) cl = ap (λ (ks : List ℕ). f c ∷ ks) (map_last f F cl)

-- of n clauses all but the last one are as before
small_last : {n : ℕ} (F : List Clause) (old con : Clause) → ClauseUpTo n con → Small n (F ++ (old ∷ [])) → Small n (F ++ (con ∷ []))
small_last {n} F old con u s = record { vars_fit = s.vars_fit; up_to = λ cl i. go F (λ c j. s.up_to c j) cl i }
  where
    go : (F : List Clause) → ((c : Clause) → In c (F ++ (old ∷ [])) → ClauseUpTo n c) → (cl : Clause) → In cl (F ++ (con ∷ [])) → ClauseUpTo n cl
    go [] h cl (Memᴰ.head e) = rw e u
    go [] h cl (Memᴰ.tail i) = h cl (Memᴰ.tail i)
    go (c ∷ F) h cl (Memᴰ.head e) = h cl (Memᴰ.head e)
    go (c ∷ F) h cl (Memᴰ.tail i) = go F (λ d j. h d (Memᴰ.tail j)) cl i

pub blank_at : (n k : ℕ) → get_or {A = ℕ} (replicate n 0) k 0 ≡ 0
blank_at zero k = refl
blank_at (suc n) zero = refl
blank_at (suc n) (suc k) = blank_at n k

-- the marks are cleared
pub renew_asks : {con : Clause} {marks : List ℕ} {vs : Values} {keys hot marks1 : List ℕ} → RenewAsked con marks vs keys hot
    → marks1 ≡ replicate (length marks) 0
    → MarksAsked con vs marks1
renew_asks {con} {marks} {vs} {keys} {hot} {marks1} a e =
    record {
      vars_fit = a.vars_fit;
      up_to = a.up_to;
      room = omega (arith, ap length e, length-replicate {A = ℕ} (length marks) 0, a.room);
      blank = λ k. ap (λ (ms : List ℕ). get_or ms k 0) e ∙ blank_at (length marks) k;
    }

pub renewed : {con : Clause} {marks : List ℕ} {vs : Values} {keys hot marks2 keys2 hot2 : List ℕ} {key : ℕ} → RenewAsked con marks vs keys hot
    → MarksDone con vs key marks2
    → keys2 ≡ set keys (length keys - 1) key → HotBlocks keys2 hot2 → Renewed con marks vs keys hot marks2 keys2 hot2
renewed {con} {marks} {vs} {keys} {hot} {marks2} {keys2} {hot2} {key} a d e h =
    record {
      shows = λ F old lists holders trail l s.
          let before : keys ≡ map (key_of vs) F ++ (key_of vs old ∷ []) = s.keys_are ∙ map_last (key_of vs) F old in
          let last : length (map (key_of vs) F) ≡ length keys - 1 = omega (arith, ap length before, length-append (map (key_of vs) F) (key_of vs old ∷ [])) in
          record {
            small = small_last F old con a.up_to s.small;
            index = indexed_of l d.marks_are;
            keys_are =
                e ∙ ap (λ (ks : List ℕ). set ks (length keys - 1) key) before ∙
                set_at (map (key_of vs) F) (key_of vs old) [] key (length keys - 1) last ∙
                ap (λ (k : ℕ). map (key_of vs) F ++ (k ∷ [])) d.key_is ∙
                sym (map_last (key_of vs) F con);
            hot_are = h;
            counted = s.counted;
            room = s.room;
          };
    }
