-- The laws of specs/Next: what a chunk's call needs and is, and what each end makes of the run.
--
--   constraint_up_to  the constraint is over the formula's variables
--   forced_small      the forced values are bytes that it may start from
--   chunk_over        what the call needs
--   chunk_clauses_lem, ends_same     the clauses of the call, and its end by them
--   chunk_few, chunk_asks, chunk_from, chunk_ends     the call of a chunk: what each step requires, and what it ends with
--   call_next         what comes of a call, whatever is done next
--   size_le           a chunk size is within the limit
--   tally_ready       there is room for one row more, and no count is out of range
--
-- Assumes nothing.
use mathlib.Core.Path.{◌≡◌, sym, ◌∙◌, ap}
use mathlib.Core.List.{List, [], ◌∷◌, ◌++◌}
use Prim.Native.Nat.{ℕ, zero, suc, ◌+◌, ◌≤◌, ◌<◌, min}
use native.Mathlib.Omega.{arith}
use lib.IntN.{ℤ}
use lib.ListN.{length, get_or, take}
use Rattle.rules.specs.Lists.{In}
use Rattle.rules.specs.Numbers.{max_vars, max_chunk}
use Rattle.rules.specs.Meaning.{Clause, Values, var_of, negated, clauses, LitUpTo}
use Rattle.rules.specs.Search.{Call, call_on}
use Rattle.rules.specs.Run.{Task, Progress, is_open, status_at, opens, candidates_from, constraint, forced_values, chunk_call, Ended, on_call, on_open}
use Rattle.rules.specs.Trace.{Reached, first_model, next_model, next_none}
use Rattle.rules.specs.Answer.{is_free, is_forced}
use Rattle.rules.proofs.ListLaws.{map_in, in_take, count_le}
use Rattle.rules.proofs.StatusLaws.{candidate_open, forced_value_le, length-forced_values}
use Rattle.rules.proofs.KnownLaws.{first_model_is}
use Rattle.rules.proofs.RunTrace.{doubled_is, known}
use Rattle.rules.proofs.LogLaws.{calls_opens_le}
use Rattle.formula.specs.Clauses.{ClauseUpTo}
use Rattle.formula.specs.Starts.{call_clauses}
use Rattle.formula.specs.Formula.{Formula}
use Rattle.formula.proofs.ClauseLaws.{call_clauses-constraint, length_starts}
use Rattle.search.specs.declared.meter.Meter.{Meter}
use Rattle.search.specs.declared.call.CallEnd.{CallEnd}
use Rattle.search.specs.Calls.{CallOver, Calls, CallEnds}
use Rattle.search.specs.Wholes.{CallFrom}
use Rattle.calls.specs.declared.after.Tally.{Tally}
use Rattle.calls.specs.declared.after.Made.{Made}
use Rattle.calls.specs.After.{TallyReady}
use Rattle.calls.specs.Next.{At, ChunkOver, ChunkCalled}
use Rattle.steps.specs.Constraint.{ConstraintOver, ConstraintPut}
use Rattle.steps.proofs.ConstraintLaws.{var_of_false}
use Rattle.calls.proofs.AfterLaws.{length-log_of_rows}

-- ---- the call

open_in : (ss : List ℕ) (i : ℕ) → status_at ss i ≡ 0 → i < length ss
open_in [] i e = absurd (omega arith)
open_in (s ∷ ss) zero e = omega arith
open_in (s ∷ ss) (suc i) e = omega (arith, open_in ss i e)

pub constraint_up_to : (first status : List ℕ) (n : ℕ) → ClauseUpTo (length status) (constraint (take n (candidates_from 0 first status)))
constraint_up_to first status n = record { each = λ l i. go l (map_in negated (take n (candidates_from 0 first status)) i) }
  where
    go : (l : ℤ) → (x : ℤ) × In x (take n (candidates_from 0 first status)) × (l ≡ negated x) → LitUpTo (length status) l
    go l (x, h, e) =
        let (i, q, z) = candidate_open 0 first status (in_take n (candidates_from 0 first status) h) in
        let v : var_of l ≡ suc (0 + i) = ap var_of (e ∙ ap negated q) ∙ var_of_false (0 + i) (get_or first i 1) in
        record { some = omega arith; most = omega (arith, open_in status i z) }

-- and it starts from bytes that say unset, false or true
pub forced_small : (status : List ℕ) (i : ℕ) → get_or (forced_values status) i 0 ≤ 2
forced_small [] i = omega arith
forced_small (s ∷ ss) zero = forced_value_le s
forced_small (s ∷ ss) (suc i) = forced_small ss i

-- a call with the constraint behind the formula
module _ {es : List ℤ} {starts : List ℕ} {n : ℕ} (f : Formula n es starts) (con : Clause) where
  pub chunk_over : {vars : ℕ} → vars ≡ n → ClauseUpTo n con → CallOver vars es starts con (length starts)
  chunk_over e u =
      rw e (record { formula = f; constraint_up_to = u; total_most = omega (arith, length_starts f) })

  pub chunk_clauses_lem : call_clauses es con (length starts) ≡ clauses es ++ (con ∷ [])
  chunk_clauses_lem = ap (call_clauses es con) (length_starts f) ∙ call_clauses-constraint es con

-- the same clauses and the same values at the start
pub ends_same : (t : ℕ) {F G : List Clause} {vs ws after : Values} {budget : ℕ} {r : CallEnd} → F ≡ G → vs ≡ ws
    → CallEnds (call_on budget F vs t) vs budget r after → CallEnds (call_on budget G ws t) ws budget r after
ends_same t e f w = rw (← e, ← f) w

-- ---- the call of a chunk

module _ {es : List ℤ} {starts : List ℕ} {first : Values} {status : List ℕ} {values : Values} {chunk : ℕ}
    (d : ChunkOver es starts first status values chunk) where
  pub chunk_few : chunk ≤ max_chunk
  chunk_few = omega (arith, count_le is_open status, d.formula.vars_fit, d.status_len, d.chunk_most)

  pub chunk_asks : {out : List ℤ} → length out ≡ max_chunk → ConstraintOver first status chunk out
  chunk_asks e =
      record {
        first_len = d.first_len ∙ sym d.status_len;
        vars_fit = omega (arith, d.status_len, d.formula.vars_fit);
        room = omega (arith, chunk_few, e);
        chunk_most = d.chunk_most;
      }

  module _ {before after : List ℤ} (p : ConstraintPut first status chunk before after) {start : Values} (s : start ≡ forced_values status) where
    pub chunk_from : CallFrom start es starts (take chunk after) (length starts)
    chunk_from =
        record {
          call =
              chunk_over d.formula (take chunk after) (ap length s ∙ length-forced_values status ∙ d.status_len)
              (rw (p.front, ← d.status_len) (constraint_up_to first status chunk));
          small = λ i h. rw s (forced_small status i);
        }

    pub chunk_ends : (m : Meter) {r : CallEnd} {vs : Values} → Calls es (take chunk after) (length starts) start m r vs
        → ChunkCalled es first status chunk m r vs
    chunk_ends m w =
        ends_same m.spent (chunk_clauses_lem d.formula (take chunk after) ∙ ap (λ (con : Clause). clauses es ++ con ∷ []) p.front) s w

-- ---- what comes of it

pub call_next : (k : Task) (size : ℕ) (p : Progress) {n : ℕ} → opens p.statuses ≡ suc n → {c : Call} → chunk_call k p (min size (suc n)) ≡ c
    → (next : ℕ → Progress → Ended) → on_open (opens p.statuses) k size p next ≡ on_call c k p size (min size (suc n)) next
call_next k size p {n} o e next =
    ap (λ (j : ℕ). on_open j k size p next) o ∙ ap (λ (c : Call). on_call c k p size (min size (suc n)) next) e

pub size_le : {k : Task} {size : ℕ} {p : Progress} → 1 ≤ k.limit → Reached k size p → size ≤ k.limit
size_le h (first_model m t e) = h
size_le h (next_model m t r o e) = h
size_le h (next_none t r o e d) = omega (arith, doubled_is d)

-- ---- what is required behind a call

pub tally_ready : {k : Task} {t : Tally} {first status log : List ℕ} → 1 ≤ k.limit → k.vars ≤ max_vars → (w : At k t first status log)
    → 1 ≤ t.candidates → (made : Made) → t.tries ≤ made.spent → TallyReady first status log t made
tally_ready {k} {t} {first} {status} {log} limit v w some made up =
    let x = w.shows in
    let n = known w.reached in
    let r = calls_opens_le limit w.reached in
    record {
      row =
          record {
            log_room_lem = omega (arith, ap length x.log_is, length-log_of_rows k.vars w.progress.rows, x.calls_is, x.candidates_are, r);
            calls_fit = omega (arith, x.calls_is, x.candidates_are, r);
            tries_up = up;
          };
      len = ap length x.first_is ∙ (first_model_is n).len ∙ sym n.len ∙ sym (ap length x.status_is);
      vars_fit = omega (arith, ap length x.status_is, n.len);
      candidates_are = x.candidates_are ∙ ap opens (sym x.status_is);
      free_fit = omega (arith, x.free_is, count_le is_free w.progress.statuses, n.len);
      forced_fit = omega (arith, x.forced_is, count_le is_forced w.progress.statuses, n.len);
    }
