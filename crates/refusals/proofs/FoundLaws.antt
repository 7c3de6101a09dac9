-- What code finds is the refusal of specs/Answer: a law for each rule of a list, from what code knows where it gives that number.
--
--   held_found, bad_held_found, held_found     the held literals, in the order of their rules
--   after_list, of_list     the rules of the list before those of the held literals
--   list_found, list_long_found, zero_over_found, above_found, list_found_lem     the list, in the order of its rules
--
-- Assumes nothing.
use mathlib.Core.Path.{◌≡◌, refl, sym, ◌∙◌, ap}
use mathlib.Core.Bool.{true, false}
use mathlib.Core.List.{List, ◌++◌}
use mathlib.Core.Option.{Option, none, some}
use Rattle.std.specs.Prelude.{Some, None, Result, Ok, Err}
use Prim.Native.Nat.{ℕ, ◌≤◌, ◌<◌}
use native.Mathlib.Omega.{arith}
use lib.IntN.{ℤ}
use lib.ListN.{length}
use Rattle.rules.specs.declared.Refusal.{Refusal}
use Rattle.rules.specs.Lists.{count, Check, first_of, is_zero}
use Rattle.rules.specs.Numbers.{max_clauses, max_entries, max_held}
use Rattle.rules.specs.Held.{is_no_literal, held_rules}
use Rattle.rules.specs.Answer.{is_ended, is_above, list_rules, taking_rules}
use Rattle.rules.proofs.ListLaws.{any_of_count, count_zero}
use Rattle.rules.proofs.AnswerLaws.{nth_index_below, nth_index_above}
use Rattle.rules.proofs.AnswerLaws.{list_long_first, zero_over_first, above_first, list_first}
use Rattle.rules.proofs.AnswerLaws.{first_front, first_back, bad_held_first, held_first}
use Rattle.refusals.specs.Refuse.{found, or_rest, nth_within}
use Rattle.refusals.proofs.RefuseLaws.{found_within, none_within}

-- ---- the list

module _ (es : List ℤ) (vars : ℕ) where
  -- what `refuse_list` finds
  abbrev pub list_found : Result (Unit {0}) Refusal
  list_found = found (first_of (list_rules es vars))

  pub list_long_found : max_entries < length es → Err (Refusal.BadList max_entries) ≡ list_found
  list_long_found h = ap found (sym (list_long_first es vars h))

  module _ (short : length es ≤ max_entries) where
    module _ (ended : is_ended es ≡ true) where
      pub zero_over_found : (i : ℕ) → nth_within is_zero es max_clauses ≡ Some i → Err (Refusal.BadList i) ≡ list_found
      zero_over_found i e =
          let w = found_within is_zero es max_clauses i e in
          rw w.0 (ap found (sym (zero_over_first es vars short ended (nth_index_below is_zero es max_clauses w.1))))

      module _ (few : nth_within is_zero es max_clauses ≡ None) where
        few_zeros : count is_zero es ≤ max_clauses
        few_zeros = nth_index_above is_zero es max_clauses (none_within is_zero es max_clauses few)

        pub above_found : (i : ℕ) → nth_within (is_above vars) es 0 ≡ Some i → Err (Refusal.EntryOverVars i) ≡ list_found
        above_found i e =
            let w = found_within (is_above vars) es 0 i e in
            rw w.0
            (ap found
            (sym
            (above_first es vars short ended few_zeros
            (any_of_count (is_above vars) es (nth_index_below (is_above vars) es 0 w.1)))))

        pub list_found_lem : nth_within (is_above vars) es 0 ≡ None → Ok tt ≡ list_found
        list_found_lem e =
            let z : count (is_above vars) es ≤ 0 = nth_index_above (is_above vars) es 0 (none_within (is_above vars) es 0 e) in
            ap found (sym (list_first es vars short ended few_zeros (count_zero (is_above vars) es (omega arith))))

-- ---- the held literals

module _ (held : List ℤ) (vars : ℕ) where
  -- what `refuse_held` finds
  abbrev pub held_found : Result (Unit {0}) Refusal
  held_found = found (first_of (held_rules held vars))

  module _ (few : length held ≤ max_held) where
    pub bad_held_found : (i : ℕ) → nth_within (is_no_literal vars) held 0 ≡ Some i → Err (Refusal.BadLiteral i) ≡ held_found
    bad_held_found i e =
        let w = found_within (is_no_literal vars) held 0 i e in
        rw w.0
        (ap found (sym (bad_held_first held vars few (any_of_count (is_no_literal vars) held (nth_index_below (is_no_literal vars) held 0 w.1)))))

    pub held_found_lem : nth_within (is_no_literal vars) held 0 ≡ None → Ok tt ≡ held_found
    held_found_lem e =
        let z : count (is_no_literal vars) held ≤ 0 = nth_index_above (is_no_literal vars) held 0 (none_within (is_no_literal vars) held 0 e) in
        ap found (sym (held_first held vars few (count_zero (is_no_literal vars) held (omega arith))))

-- ---- the list, then the held literals

rest_found : (cs ds : List (Check Refusal)) → or_rest (found (first_of cs)) (found (first_of ds)) ≡ found (first_of (cs ++ ds))
rest_found cs ds = go (first_of cs) refl
  where
    go : (o : Option Refusal) → first_of cs ≡ o → or_rest (found o) (found (first_of ds)) ≡ found (first_of (cs ++ ds))
    go none e = ap found (sym (first_back cs ds e))
    go (some a) e = ap found (sym (first_front cs ds e))

module _ (es : List ℤ) (vars : ℕ) (held : List ℤ) where
  -- what is said of the held literals, where the list is not refused
  pub after_list : list_found es vars ≡ Ok tt
      → found (first_of (taking_rules false false es vars held)) ≡ held_found held vars
  after_list e =
      sym (rest_found (list_rules es vars) (held_rules held vars)) ∙ ap (λ (r : Result (Unit {0}) Refusal). or_rest r (held_found held vars)) e

  -- what is said of the list, where it is refused
  pub of_list : (a : Refusal) → list_found es vars ≡ Err a → found (first_of (taking_rules false false es vars held)) ≡ Err a
  of_list a e =
      sym (rest_found (list_rules es vars) (held_rules held vars)) ∙ ap (λ (r : Result (Unit {0}) Refusal). or_rest r (held_found held vars)) e
