-- The laws of the calls: what a call requires, and what its end says.
--
--   ends_same, ends_none, ends_stopped     the call, by what it ended with
--   falsified_is                  the literal's negation as code has it
--   over_marked, clauses_with_lem     a call on the clauses that were put, with the literal false
--   over_kept                     those are clauses of the formula
--
-- Assumes nothing.
use mathlib.Core.Path.{◌≡◌, refl, ◌∙◌, ap}
use mathlib.Core.List.Memᴰ
use mathlib.Core.List.{List, [], ◌∷◌, ◌++◌}
use Prim.Native.Nat.{ℕ, zero, suc, ◌+◌, ◌≤◌, ◌<◌, ◌^◌}
use native.Mathlib.Omega.{arith}
use lib.IntN.{ℤ, pos, negsuc}
use lib.ListN.{length, take}
use lib.Seq.{length-take-le}
use mir.Syntax.{w32}
use mir.Val.{to_z, of_z}
use Rattle.rules.specs.declared.Outcome.{Outcome}
use Rattle.rules.specs.Lists.{In}
use Rattle.rules.specs.Numbers.{max_vars}
use Rattle.rules.specs.Meaning.{Clause, Values, var_of, negated, clauses, LitUpTo}
use Rattle.rules.specs.Search.{Call, no_model, stopped, call_on}
use Rattle.rules.specs.Why.{marked}
use Rattle.rules.proofs.ListLaws.{apart}
use Rattle.formula.specs.Clauses.{ClauseUpTo}
use Rattle.formula.specs.Starts.{StartsFound, call_clauses}
use Rattle.formula.proofs.ClauseLaws.{call_clauses-constraint}
use Rattle.rules.proofs.BitLaws.{to_z-of_z_at}
use Rattle.formula.proofs.SignedLaws.{fits_of_var}
use Rattle.formula.proofs.StartsLaws.{found_front}
use Rattle.search.specs.declared.call.CallEnd.{CallEnd}
use Rattle.search.specs.Calls.{CallOver, CallEnds}
use Rattle.search.proofs.EndLaws.{undone, none_not_model, was_none, was_stopped}
use Rattle.reason.specs.Kept.{MarkRoom, MarkedPut}
use Rattle.reason.specs.Asks.{Asked, MarkedOver}
use Rattle.reason.proofs.KeptLaws.{clauses-marked, marked_in, length_marked}

-- ---- a call by its end

pub ends_same : (t : ℕ) {F G : List Clause} {vs ws after : Values} {budget : ℕ} {r : CallEnd} → F ≡ G → vs ≡ ws
    → CallEnds (call_on budget F vs t) vs budget r after → CallEnds (call_on budget G ws t) ws budget r after
ends_same t e f w = rw (← e, ← f) w

module _ {c : Call} {vs after : Values} {budget : ℕ} {r : CallEnd} (w : CallEnds c vs budget r after) where
  pub ends_none : r.outcome ≡ Outcome.NoModel → (c ≡ no_model r.meter.spent) × (after ≡ vs)
  ends_none e = (was_none w e, undone w (none_not_model e))

  pub ends_stopped : r.outcome ≡ Outcome.Stopped → (c ≡ stopped r.meter.spent) × (after ≡ vs)
  ends_stopped e = (was_stopped w e, undone w (λ q. apart cc))

-- ---- with the literal false

var_of-negated : (l : ℤ) → var_of (negated l) ≡ var_of l
var_of-negated (pos zero) = refl
var_of-negated (pos (suc n)) = refl
var_of-negated (negsuc n) = refl

unit_up_to : {n : ℕ} (l : ℤ) → LitUpTo n l → ClauseUpTo n (negated l ∷ [])
unit_up_to {n} l h = record { each = λ k i. go k i }
  where
    go : (k : ℤ) → In k (negated l ∷ []) → LitUpTo n k
    go k (Memᴰ.head e) = rw e (record { some = omega (arith, var_of-negated l, h.some); most = omega (arith, var_of-negated l, h.most) })
    go k (Memᴰ.tail i) = absurd (Memᴰ.not-nil i)

-- as code has it: an i32 that is written, and read back
pub falsified_is : {vars : ℕ} (l k : ℤ) → LitUpTo vars l → vars ≤ max_vars → k ≡ negated l → to_z w32 (of_z w32 k) ∷ [] ≡ negated l ∷ []
falsified_is l k h v e =
    let small : var_of k < 2 ^ 31 = rw e (omega (arith, var_of-negated l, h.most)) in
    ap (λ (z : ℤ). z ∷ []) (to_z-of_z_at k (fits_of_var k small) ∙ e)

module _ {vars n : ℕ} {es : List ℤ} {l : ℤ} {starts after : List ℕ} (w : MarkedOver vars es l starts) (f : StartsFound es starts n after) where
  pub over_marked : (con : List ℤ) → con ≡ negated l ∷ [] → CallOver vars es (take (n + 1) after) con (n + 1)
  over_marked con e =
      record {
        formula =
            record {
              vars_fit = w.vars_fit;
              entries_most = omega (arith, w.entries_fit);
              clauses_most = omega (arith, w.clauses_fit);
              starts_are = found_front f;
              up_to = w.up_to;
            };
        constraint_up_to = rw e (unit_up_to l w.literal_up_to);
        total_most = omega (arith, f.count_is);
      }

  pub clauses_with_lem : (con : List ℤ) → con ≡ negated l ∷ [] → call_clauses es con (n + 1) ≡ clauses es ++ (negated l ∷ []) ∷ []
  clauses_with_lem con e =
      ap (call_clauses es con) (omega (arith, f.count_is)) ∙ call_clauses-constraint es con ∙ ap (λ (cl : Clause). clauses es ++ cl ∷ []) e

-- ---- the clauses that were put

module _ {vars : ℕ} {es kept : List ℤ} {l : ℤ} {starts marks : List ℕ} (w : Asked vars es l kept starts marks) where
  pub mark_room : MarkRoom es marks kept
  mark_room = record { ended = w.asks.ended; marks_fit = omega (arith, w.asks.clauses_fit, w.asks.marks_are); room = w.kept_room }

  module _ {n : ℕ} {after : List ℤ} (p : MarkedPut es marks kept n after) (len : length after ≡ length kept) where
    pub kept_len : n ≤ length after
    kept_len = omega (arith, p.within, w.kept_room)

    pub over_kept : MarkedOver vars (take n after) l starts
    over_kept =
        record {
          vars_fit = w.asks.vars_fit;
          entries_fit = omega (arith, length-take-le n after kept_len, p.within, w.asks.entries_fit);
          up_to = λ k i. w.asks.up_to k (marked_in marks es (rw p.front at i));
          literal_up_to = w.asks.literal_up_to;
          clauses_fit = rw (p.front, clauses-marked marks es) (omega (arith, length_marked marks (clauses es), w.asks.clauses_fit));
          starts_room = rw (p.front, clauses-marked marks es) (omega (arith, length_marked marks (clauses es), w.starts_room));
        }

    pub kept_clauses : clauses (take n after) ≡ marked marks (clauses es)
    kept_clauses = rw p.front (clauses-marked marks es)
