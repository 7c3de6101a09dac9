-- A round over the hot clauses, as an invariant: the round under way, a board that shows its values, and a trail that leads to them.
--
--   Visiting, visiting_start      n clauses passed, k literals set
--   visiting_over                 no hot clause is left
--   hot_in_lem, hot_up_to             the next hot clause is one of the call
--   visiting_false                its key is 0
--   settable_unit, visiting_unit  its key is 1: its unset literal can be set
--   visiting_some                 and it has one
--   visiting_done                 all are passed
--
-- Assumes nothing.
use mathlib.Core.Path.{◌≡◌, refl, sym, ◌∙◌, ap}
use mathlib.Core.Logic.{◌≢◌}
use mathlib.Core.List.{List, [], ◌∷◌}
use Prim.Native.Nat.{ℕ, suc, ◌+◌, ◌≤◌, ◌<◌}
use native.Mathlib.Omega.{arith}
use native.Mathlib.Numerals.{add-one}
use lib.IntN.{ℤ}
use lib.ListN.{get_or, length, length-map, length-append}
use lib.Seq.{get_or-take}
use borrow.Author.Tests.{leb-true}
use Rattle.rules.specs.declared.Lit.{Lit}
use Rattle.rules.specs.declared.ClauseState.TheVariants.{Unit}
use Rattle.rules.specs.Meaning.{Clause, Values, clauses}
use Rattle.rules.specs.Closing.{state_of, under_way, at_false, round}
use Rattle.rules.proofs.ListLaws.{in_get_d}
use Rattle.rules.proofs.StateLaws.{Means, means}
use Rattle.formula.specs.Clauses.{ClauseUpTo, first_unset}
use Rattle.formula.specs.Starts.{clauses_with, clause_at, call_clauses}
use Rattle.std.specs.Prelude.{Some, None}
use Rattle.formula.proofs.ClauseLaws.{length-call_clauses, get_d_call_clauses}
use Rattle.board.specs.Keys.{key_of}
use Rattle.board.specs.Blocks.{NextHot}
use Rattle.board.specs.Boards.{Shows, Settable, SetDone}
use Rattle.board.specs.Trails.{Leads}
use Rattle.board.specs.Closings.{BoardOver}
use Rattle.board.proofs.HotLaws.{hot_false, hot_unit, hot_some, get_d_keys, rounding_cold}
use Rattle.board.proofs.RoundLaws.{Rounding, Looked, rounding_start, rounding_false, rounding_unit, rounding_done, unit_up_to}
use Rattle.board.proofs.TrailLaws.{leads_refl, leads_trans, leads_set}

pub record Visiting (es : List ℤ) (con : Clause) (lists holders marks : List ℕ) (from : Values) (keys_from hot-from trail-from : List ℕ)
    (total n : ℕ) (vs : Values) (k : ℕ) (keys hot trail : List ℕ) : Type 0 where
  pub rounding : Rounding (call_clauses es con total) from n vs k
  pub shows : Shows (clauses_with es con) lists holders marks vs keys hot trail
  pub leads : Leads trail-from from trail vs

length_with : (es : List ℤ) (con : Clause) → length (clauses_with es con) ≡ suc (length (clauses es))
unfolding clauses_with
length_with es con = omega (arith, length-append (clauses es) (con ∷ []))

-- the clause at an index of the call is that of all clauses
get_d_call : (es : List ℤ) (con : Clause) (total i : ℕ) → i < total → get_or (call_clauses es con total) i [] ≡ get_or (clauses_with es con) i []
unfolding call_clauses
get_d_call es con total i h = get_or-take total (clauses_with es con) i [] h

module _ {es : List ℤ} {starts : List ℕ} {con : Clause} {lists holders marks : List ℕ} {from : Values} {keys_from hot-from trail-from : List ℕ} {total : ℕ}
    (a : BoardOver es starts con lists holders marks from keys_from hot-from trail-from total) where
  length_call : length (call_clauses es con total) ≡ total
  length_call = length-call_clauses es con total a.total_most

  pub visiting_start : Visiting es con lists holders marks from keys_from hot-from trail-from total 0 from 0 keys_from hot-from trail-from
  visiting_start =
      record {
        rounding = rounding_start (call_clauses es con total) from;
        shows = a.shows;
        leads = leads_refl;
      }

  module _ {n : ℕ} {vs : Values} {k : ℕ} {keys hot trail : List ℕ}
      (w : Visiting es con lists holders marks from keys_from hot-from trail-from total n vs k keys hot trail) where
    pub length_keys : length keys ≡ suc (length (clauses es))
    length_keys = ap length w.shows.keys_are ∙ length-map (clauses_with es con) (key_of vs) ∙ length_with es con

    pub passed_le : n ≤ length keys
    passed_le = omega (arith, w.rounding.passed, length_call, a.total_most, length_keys)

    key_at : (i : ℕ) → i < total → get_or keys i 0 ≡ key_of vs (get_or (call_clauses es con total) i [])
    key_at i h =
        ap (λ (ks : List ℕ). get_or ks i 0) w.shows.keys_are ∙
        get_d_keys (key_of vs) (clauses_with es con) i (omega (arith, length_with es con, a.total_most)) ∙
        ap (key_of vs) (sym (get_d_call es con total i h))

    module _ {r : ℕ} (x : NextHot keys n r) where
      -- up to m no clause is hot
      up_to_cold : (m : ℕ) → n ≤ m → m ≤ total → m ≤ r → Rounding (call_clauses es con total) from m vs k
      up_to_cold m h g l =
          rounding_cold m h (omega (arith, length_call)) (λ i p q. rw (key_at i (omega arith)) at (x.cold_between i p (omega arith))) w.rounding

      pub visiting_over : total ≤ r → round (call_clauses es con total) (under_way from 0) ≡ under_way vs k
      visiting_over h =
          rounding_done (call_clauses es con total) from total vs k (omega (arith, length_call))
          (up_to_cold total (omega (arith, w.rounding.passed, length_call)) (omega arith) h)

      module _ (h : r < total) where
        pub hot_in_lem : r < length keys
        hot_in_lem = omega (arith, length_keys, a.total_most)

        looked : {cl : Clause} → get_or (call_clauses es con total) r [] ≡ cl → Looked (call_clauses es con total) from r vs k cl
        looked e =
            record { within = omega (arith, length_call); here = e; so_far = up_to_cold r x.above (omega arith) (omega arith) }

        pub visiting_false : get_or keys r 0 ≡ 0 → round (call_clauses es con total) (under_way from 0) ≡ at_false
        visiting_false z = rounding_false (looked refl) (hot_false vs _ (sym (key_at r h) ∙ z))

        module _ {cl : Clause} (c : cl ≡ clause_at es con (r + 1)) where
          here : get_or (call_clauses es con total) r [] ≡ cl
          here = get_d_call_clauses es con total r h ∙ sym (rw (add-one r) at c)

          pub hot_up_to : ClauseUpTo (length vs) cl
          hot_up_to =
              rw (← here, get_d_call es con total r h)
              (w.shows.small.up_to (get_or (clauses_with es con) r []) (in_get_d (clauses_with es con) r [] (omega (arith, length_with es con, a.total_most))))

          module _ (z : get_or keys r 0 ≢ 0) where
            one : 1 ≡ key_of vs cl
            one =
                let e : get_or keys r 0 ≡ key_of vs cl = key_at r h ∙ ap (key_of vs) here in
                omega (arith, e, leb-true (get_or keys r 0) 1 (x.hot_there hot_in_lem))

            pub visiting_some : first_unset vs cl ≡ None → ⊥
            visiting_some f = hot_some vs cl one f

            module _ (l : Lit) (f : first_unset vs cl ≡ Some l) where
              unit : state_of vs cl ≡ Unit l
              unit = hot_unit vs cl one l f

              pub settable_unit : Settable (clauses_with es con) lists holders marks vs keys hot trail l.0
              settable_unit =
                  let m : Means vs cl (Unit l) = rw unit at (means vs cl) in
                  record { shows = w.shows; literal = unit_up_to (length vs) vs cl l hot_up_to unit; unset = m.unset }

              pub visiting_unit : {vs2 : Values} {keys2 hot2 trail2 : List ℕ} → SetDone lists holders marks vs keys hot trail l.0 vs2 keys2 hot2 trail2
                  → Visiting es con lists holders marks from keys_from hot-from trail-from total (r + 1) vs2 (k + 1) keys2 hot2 trail2
              visiting_unit d =
                  record {
                    rounding = rw d.values_are (rounding_unit (looked here) l unit);
                    shows = d.shows (clauses_with es con) w.shows;
                    leads = leads_trans w.leads (leads_set settable_unit d.values_are d.trail_is);
                  }

    pub visiting_done : total ≤ n → round (call_clauses es con total) (under_way from 0) ≡ under_way vs k
    visiting_done h = rounding_done (call_clauses es con total) from n vs k (omega (arith, length_call)) w.rounding
