-- The laws of specs/Held: models of a formula with held literals, its entries, and both signs of a variable held.
--
--   has_true_unit                  a clause of one literal is true if that is
--   held_sound, held_complete     a model of the formula with the held literals is one of the formula that has them all, and back
--   with_held_nil, with_held-append, length-with_held     no held literal; a longer list; how many clauses
--   clauses-append, clauses_held  the entries of the held literals behind a list that is empty or ended by 0
--   length-held_entries, length-list_with, list_with_up_to     two entries for each held literal; the whole list, and its variables
--   unit_calm                     a clause of one literal that neither stops a round nor sets anything is true
--   not_both                      no values make both signs true
--   closing_signs, call_on_signs   both signs of a variable held: a clash, and no try
--
-- Assumes nothing.
use mathlib.Core.Path.{◌≡◌, refl, sym, ◌∙◌, ap}
use mathlib.Core.Logic.{◌≢◌, ◌⊎◌, inl, inr}
use mathlib.Core.Bool.{true, false, or-false}
use mathlib.Core.List.Memᴰ
use mathlib.Core.List.{List, [], ◌∷◌, ◌++◌, map, map-append, append-nil, append_assoc}
use Prim.Native.Nat.{ℕ, zero, suc, ◌+◌, ◌≤◌}
use native.Mathlib.Omega.{arith}
use lib.IntN.{ℤ, pos, negsuc}
use lib.ListN.{length, length-append, length-map}
use borrow.Author.Tests.{eqb-true, ne_eqb}
use Rattle.rules.specs.declared.ClauseState.{ClauseState}
use Rattle.rules.specs.declared.ClauseState.TheVariants.{False, Unit, True, Undecided}
use Rattle.rules.specs.Lists.{In, is_zero}
use Rattle.rules.specs.Meaning.{Clause, Values, var_of, negated, LitUpTo, leading, clauses, value_at, is_true, has_true, Model}
use Rattle.rules.specs.Closing.{state_of, Closed, clash, closed, closing}
use Rattle.rules.specs.Search.{no_model, on_closed, call_on}
use Rattle.rules.specs.Answer.{is_ended}
use Rattle.rules.specs.Held.{unit_clause, with_held, held_entries, list_with, HeldModel}
use Rattle.rules.proofs.ListLaws.{never, all_sound, all_complete, in_map, map_in, eqz_complete}
use Rattle.rules.proofs.MeaningLaws.{satisfies-append, satisfies-left, satisfies_right}
use Rattle.rules.proofs.ClosingLaws.{Means, means, Calm, calm_of_quiet, Ends, closing_ends}
use Rattle.rules.proofs.CallLaws.{call_on_next}

-- ---- models

-- a clause of one literal is true if that literal is
pub has_true_unit : (m : Values) (l : ℤ) → has_true m (unit_clause l) ≡ is_true m l
has_true_unit m l = or-false (is_true m l)

module _ {n : ℕ} {F : List Clause} {held : List ℤ} {m : Values} where
  pub held_sound : Model n (with_held F held) m → HeldModel n F held m
  held_sound x =
      record {
        is-model = record { len = x.len; total = x.total; all_true = satisfies-left m F (map unit_clause held) x.all_true };
        all_held =
            λ l i. sym (has_true_unit m l)
            ∙ all_sound (has_true m) (satisfies_right m F (map unit_clause held) x.all_true) (in_map unit_clause i);
      }

  pub held_complete : HeldModel n F held m → Model n (with_held F held) m
  held_complete x =
      record {
        len = x.is-model.len;
        total = x.is-model.total;
        all_true = satisfies-append m F (map unit_clause held) x.is-model.all_true (all_complete (has_true m) (map unit_clause held) each);
      }
    where
      each : (cl : Clause) → In cl (map unit_clause held) → has_true m cl ≡ true
      each cl i = let (l, j, e) = map_in unit_clause held i in rw e (has_true_unit m l ∙ x.all_held l j)

-- ---- no held literal, and a longer list

pub with_held_nil : (F : List Clause) → with_held F [] ≡ F
with_held_nil F = append-nil F

pub with_held-append : (F : List Clause) (held more : List ℤ) → with_held F (held ++ more) ≡ with_held (with_held F held) more
with_held-append F held more =
    ap (λ (cls : List Clause). F ++ cls) (map-append unit_clause held more) ∙ sym (append_assoc F (map unit_clause held) (map unit_clause more))

pub length-with_held : (F : List Clause) (held : List ℤ) → length (with_held F held) ≡ length F + length held
length-with_held F held = length-append F (map unit_clause held) ∙ ap (λ (n : ℕ). length F + n) (length-map held unit_clause)

-- ---- entries

leading-append : (l : ℤ) (cls ds : List Clause) → cls ≢ [] → leading l (cls ++ ds) ≡ leading l cls ++ ds
leading-append l [] ds h = absurd (h refl)
leading-append l (cl ∷ cls) ds h = refl

some_of_cons : {A : Type 0} {x : A} {xs : List A} → x ∷ xs ≢ []
some_of_cons {xs = xs} q = let z : suc (length xs) ≡ 0 = ap length q in omega arith

leading_some : (l : ℤ) (cls : List Clause) → cls ≢ [] → leading l cls ≢ []
leading_some l [] h q = h refl
leading_some l (cl ∷ cls) h q = some_of_cons q

not_zero : (n : ℕ) → is_zero (pos (suc n)) ≡ false
not_zero n = ne_eqb (suc n) 0 (omega arith)

-- a list that is ended by 0 has a clause
some_clause : (es : List ℤ) → es ≢ [] → is_ended es ≡ true → clauses es ≢ []
some_clause [] d h q = d refl
some_clause (pos zero ∷ es) d h q = some_of_cons q
some_clause (pos (suc n) ∷ []) d h q = never h (not_zero n)
some_clause (negsuc n ∷ []) d h q = never h refl
some_clause (pos (suc n) ∷ e ∷ es) d h q = leading_some (pos (suc n)) (clauses (e ∷ es)) (some_clause (e ∷ es) some_of_cons h) q
some_clause (negsuc n ∷ e ∷ es) d h q = leading_some (negsuc n) (clauses (e ∷ es)) (some_clause (e ∷ es) some_of_cons h) q

pub clauses-append : (es ds : List ℤ) → is_ended es ≡ true → clauses (es ++ ds) ≡ clauses es ++ clauses ds
clauses-append [] ds h = refl
clauses-append (pos zero ∷ []) ds h = refl
clauses-append (pos (suc n) ∷ []) ds h = absurd (never h (not_zero n))
clauses-append (negsuc n ∷ []) ds h = absurd (never h refl)
clauses-append (pos zero ∷ e ∷ es) ds h = ap (λ (cls : List Clause). [] ∷ cls) (clauses-append (e ∷ es) ds h)
clauses-append (pos (suc n) ∷ e ∷ es) ds h =
    ap (leading (pos (suc n))) (clauses-append (e ∷ es) ds h)
    ∙ leading-append (pos (suc n)) (clauses (e ∷ es)) (clauses ds) (some_clause (e ∷ es) some_of_cons h)
clauses-append (negsuc n ∷ e ∷ es) ds h =
    ap (leading (negsuc n)) (clauses-append (e ∷ es) ds h)
    ∙ leading-append (negsuc n) (clauses (e ∷ es)) (clauses ds) (some_clause (e ∷ es) some_of_cons h)

clauses-held_entries : (held : List ℤ) → ((l : ℤ) → In l held → 1 ≤ var_of l) → clauses (held_entries held) ≡ map unit_clause held
clauses-held_entries [] h = refl
clauses-held_entries (l ∷ ls) h = go l (h l (Memᴰ.head refl)) (clauses-held_entries ls (λ k i. h k (Memᴰ.tail i)))
  where
    go : (l : ℤ) → 1 ≤ var_of l → clauses (held_entries ls) ≡ map unit_clause ls → clauses (l ∷ pos 0 ∷ held_entries ls) ≡ unit_clause l ∷ map unit_clause ls
    go (pos zero) h e = absurd (omega arith)
    go (pos (suc n)) h e = ap (λ (cls : List Clause). unit_clause (pos (suc n)) ∷ cls) e
    go (negsuc n) h e = ap (λ (cls : List Clause). unit_clause (negsuc n) ∷ cls) e

pub clauses_held : (es held : List ℤ) → is_ended es ≡ true → ((l : ℤ) → In l held → 1 ≤ var_of l)
    → clauses (list_with es held) ≡ with_held (clauses es) held
clauses_held es held h some =
    clauses-append es (held_entries held) h ∙ ap (λ (cls : List Clause). clauses es ++ cls) (clauses-held_entries held some)

pub length-held_entries : (held : List ℤ) → length (held_entries held) ≡ length held + length held
length-held_entries [] = refl
length-held_entries (l ∷ ls) = omega (arith, length-held_entries ls)

pub length-list_with : (es held : List ℤ) → length (list_with es held) ≡ length es + (length held + length held)
length-list_with es held = length-append es (held_entries held) ∙ ap (λ (n : ℕ). length es + n) (length-held_entries held)

-- the variables of the list and of the held literals bound those of both
pub list_with_up_to : {n : ℕ} (es held : List ℤ) → ((l : ℤ) → In l es → var_of l ≤ n) → ((l : ℤ) → In l held → LitUpTo n l)
    → (l : ℤ) → In l (list_with es held) → var_of l ≤ n
list_with_up_to {n} es held h k l i = go (Memᴰ.append_cases es i)
  where
    behind : (ls : List ℤ) → ((j : ℤ) → In j ls → LitUpTo n j) → In l (held_entries ls) → var_of l ≤ n
    behind [] f i = absurd (Memᴰ.not-nil i)
    behind (j ∷ ls) f (Memᴰ.head e) = (f l (Memᴰ.head e)).most
    behind (j ∷ ls) f (Memᴰ.tail (Memᴰ.head e)) = rw e (omega arith)
    behind (j ∷ ls) f (Memᴰ.tail (Memᴰ.tail i)) = behind ls (λ m x. f m (Memᴰ.tail x)) i

    go : In l es ⊎ In l (held_entries held) → var_of l ≤ n
    go (inl i) = h l i
    go (inr i) = behind held k i

-- ---- both signs of a variable

-- a clause of one literal that neither stops a round nor sets anything is true
pub unit_calm : (vs : Values) (l : ℤ) → Calm (state_of vs (unit_clause l)) → is_true vs l ≡ true
unit_calm vs l c = go (state_of vs (unit_clause l)) (means vs (unit_clause l)) c
  where
    go : (s : ClauseState) → Means vs (unit_clause l) s → Calm s → is_true vs l ≡ true
    go False m c = absurd c
    go (Unit k) m c = absurd c
    go True m c = sym (has_true_unit vs l) ∙ m
    go Undecided m c =
        let a : m.one ≡ l = Memᴰ.eq_of_singleton m.one_in in
        let b : m.two ≡ l = Memᴰ.eq_of_singleton m.two_in in
        absurd (never (eqz_complete m.one m.two (a ∙ sym b)) m.differ)

-- no values make both signs true
pub not_both : (vs : Values) (l : ℤ) → 1 ≤ var_of l → is_true vs l ≡ true → is_true vs (negated l) ≡ true → ⊥
not_both vs (pos zero) h a b = omega arith
not_both vs (pos (suc n)) h a b =
    let two : value_at vs n ≡ 2 = eqb-true (value_at vs n) 2 a in
    let one : value_at vs n ≡ 1 = eqb-true (value_at vs n) 1 b in
    omega arith
not_both vs (negsuc n) h a b =
    let one : value_at vs n ≡ 1 = eqb-true (value_at vs n) 1 a in
    let two : value_at vs n ≡ 2 = eqb-true (value_at vs n) 2 b in
    omega arith

module _ (F : List Clause) (held : List ℤ) {l : ℤ} (some : 1 ≤ var_of l) (this : In l held) (other : In (negated l) held) where
  pub closing_signs : (vs : Values) → closing (with_held F held) vs ≡ clash
  closing_signs vs = go (closing (with_held F held) vs) (closing_ends (with_held F held) vs)
    where
      true_there : {ws : Values} {k : ℤ} → In k held → Ends (with_held F held) vs (closed ws) → is_true ws k ≡ true
      true_there {ws} {k} i s = unit_calm ws k (calm_of_quiet (unit_clause k) s.quiet (Memᴰ.append_right F (in_map unit_clause i)))

      go : (r : Closed) → Ends (with_held F held) vs r → r ≡ clash
      go clash s = refl
      go (closed ws) s = absurd (not_both ws l some (true_there this s) (true_there other s))

  pub call_on_signs : (budget : ℕ) (vs : Values) (t : ℕ) → call_on budget (with_held F held) vs t ≡ no_model t
  call_on_signs budget vs t =
      call_on_next budget (with_held F held) vs t ∙
      ap (λ (r : Closed). on_closed r budget (λ ws u. call_on budget (with_held F held) ws u) t) (closing_signs vs)
