-- The run as the page tells it: with no bound on the calls in sight, and with the forced literals as one-literal clauses. Code is
-- proved against these equations.
--
--   chunks-next       while candidates remain there is a call, and then the run goes on
--   ends_run          a run has no other end than its own
--   chunk_call-units   a call from the forced values is a call with the forced literals as one-literal clauses
--
-- Assumes nothing.
use mathlib.Core.Path.{◌≡◌, refl, sym, ◌∙◌, ap}
use mathlib.Core.List.{List, [], ◌∷◌, ◌++◌}
use Prim.Native.Nat.{ℕ, zero, suc, ◌≤◌, ◌<◌, min}
use native.Mathlib.Omega.{arith}
use lib.IntN.{pos, negsuc}
use lib.ListN.{length, replicate}
use Rattle.rules.specs.Meaning.{Clause}
use Rattle.rules.specs.Search.{Call, model, no_model, stopped, call_on}
use Rattle.rules.specs.Units.{units, forced_clauses}
use Rattle.rules.specs.Run.{Task, Progress, opens, blank, forced_values, chunk_of, constraint}
use Rattle.rules.specs.Run.{chunk_call, after_none, Ended, on_call, on_open, chunks_in, chunks, run}
use Rattle.rules.proofs.StatusLaws.{length-forced_values}
use Rattle.rules.proofs.KnownLaws.{proper_forced_values}
use Rattle.rules.proofs.SearchOrder.{call_on-units}
use Rattle.rules.specs.Trace.{Takes, Reached, first_model, next_model, next_none, Ends, first_none, first_stopped, settled, next_stopped}
use Rattle.rules.proofs.RunTrace.{taken_is, takes_min, doubled_is, doubled_min, size_pos, model_drops, none_forces}

-- ---- no bound in sight

-- two ways to go on that agree wherever the next call may lead
on_open_cong : {k : Task} {size : ℕ} {p : Progress} → 1 ≤ k.limit → Reached k size p → (f g : ℕ → Progress → Ended)
    → ((s : ℕ) (q : Progress) → Reached k s q → opens q.statuses < opens p.statuses → f s q ≡ g s q)
    → on_open (opens p.statuses) k size p f ≡ on_open (opens p.statuses) k size p g
on_open_cong {k} {size} {p} h r f g same = on_open_lem (opens p.statuses) refl
  where
    on_call_lem : (j : ℕ) → opens p.statuses ≡ suc j → (c : Call) → chunk_call k p (min size (suc j)) ≡ c
        → on_call c k p size (min size (suc j)) f ≡ on_call c k p size (min size (suc j)) g
    on_call_lem j z (model m t) e = same 1 _ (next_model m t r (takes_min size p z) e) (model_drops (min size (suc j)) m t r e)
    on_call_lem j z (no_model t) e =
        same _ _ (next_none t r (takes_min size p z) e (doubled_min size k.limit))
        (omega (arith, size_pos h r, (none_forces (min size (suc j)) r (omega arith)).opens_less))
    on_call_lem j z (stopped t) e = refl

    on_open_lem : (j : ℕ) → opens p.statuses ≡ j → on_open j k size p f ≡ on_open j k size p g
    on_open_lem zero z = refl
    on_open_lem (suc j) z = on_call_lem j z (chunk_call k p (min size (suc j))) refl

-- bounds that are large enough make no difference
chunks_in_enough : {k : Task} → 1 ≤ k.limit → (n m : ℕ) {size : ℕ} {p : Progress} → Reached k size p
    → opens p.statuses ≤ n → opens p.statuses ≤ m → chunks_in n k size p ≡ chunks_in m k size p
unfolding chunks_in
chunks_in_enough {k} h zero zero r a b = refl
chunks_in_enough {k} h zero (suc m) {size} {p} r a b =
    let z : opens p.statuses ≡ 0 = omega arith in rw z
chunks_in_enough {k} h (suc n) zero {size} {p} r a b =
    let z : opens p.statuses ≡ 0 = omega arith in rw z
chunks_in_enough {k} h (suc n) (suc m) r a b =
    on_open_cong h r _ _ (λ s q rq l. chunks_in_enough h n m rq (omega arith) (omega arith))

pub chunks-next : {k : Task} {size : ℕ} {p : Progress} → 1 ≤ k.limit → Reached k size p
    → chunks k size p ≡ on_open (opens p.statuses) k size p (λ s q. chunks k s q)
unfolding chunks chunks_in
chunks-next {k} {size} {p} h r =
    chunks_in_enough h (opens p.statuses) (suc (opens p.statuses)) r (omega arith) (omega arith) ∙
    on_open_cong h r _ _ (λ s q rq l. chunks_in_enough h (opens p.statuses) (opens q.statuses) rq (omega arith) (omega arith))

-- ---- one end

-- one call more: what the run comes to from p is what its next call says
next_is : {k : Task} {size chunk : ℕ} {p : Progress} → 1 ≤ k.limit → Reached k size p → Takes size p chunk
    → chunks k size p ≡ on_call (chunk_call k p chunk) k p size chunk (λ s q. chunks k s q)
next_is {k} {size} {chunk} {p} h r w = chunks-next h r ∙ go (opens p.statuses) refl
  where
    go : (n : ℕ) → opens p.statuses ≡ n
        → on_open n k size p (λ s q. chunks k s q) ≡ on_call (chunk_call k p chunk) k p size chunk (λ s q. chunks k s q)
    go zero z = absurd (omega (arith, w.remain))
    go (suc n) z =
        ap (λ (c : ℕ). on_call (chunk_call k p c) k p size c (λ s q. chunks k s q)) (sym (taken_is w.taken ∙ ap (min size) z))

-- wherever a run has come, what it does from there is the run
reached_run : {k : Task} {size : ℕ} {p : Progress} → 1 ≤ k.limit → Reached k size p → chunks k size p ≡ run k
unfolding run
reached_run {k} h (first_model m t e) = sym (rw e)
reached_run {k} h (next_model {size = size} {chunk = chunk} {p = p} m t r w e) =
    sym (next_is h r w ∙ ap (λ (c : Call). on_call c k p size chunk (λ s q. chunks k s q)) e) ∙ reached_run h r
reached_run {k} h (next_none {size = size} {chunk = chunk} {p = p} t r w e d) =
    ap (λ (s : ℕ). chunks k s (after_none p chunk t)) (doubled_is d) ∙
    sym (next_is h r w ∙ ap (λ (c : Call). on_call c k p size chunk (λ s q. chunks k s q)) e) ∙ reached_run h r

pub ends_run : {k : Task} {e : Ended} → 1 ≤ k.limit → Ends k e → e ≡ run k
unfolding run
ends_run h (first_none t e) = sym (rw e)
ends_run h (first_stopped t e) = sym (rw e)
ends_run {k} h (settled {size = size} {p = p} r o) =
    sym (chunks-next h r ∙ ap (λ (n : ℕ). on_open n k size p (λ s q. chunks k s q)) o) ∙ reached_run h r
ends_run {k} h (next_stopped {size = size} {chunk = chunk} {p = p} t r w e) =
    sym (next_is h r w ∙ ap (λ (c : Call). on_call c k p size chunk (λ s q. chunks k s q)) e) ∙ reached_run h r

-- ---- the forced literals as one-literal clauses

-- read off the statuses, or off the values that they force
units_forced : (j : ℕ) (ss : List ℕ) → units j (forced_values ss) ≡ forced_clauses j ss
units_forced j [] = refl
units_forced j (zero ∷ ss) = units_forced (suc j) ss
units_forced j (suc zero ∷ ss) = units_forced (suc j) ss
units_forced j (suc (suc zero) ∷ ss) = ap (λ (cls : List Clause). (pos (suc j) ∷ []) ∷ cls) (units_forced (suc j) ss)
units_forced j (suc (suc (suc s)) ∷ ss) = ap (λ (cls : List Clause). (negsuc j ∷ []) ∷ cls) (units_forced (suc j) ss)

pub chunk_call-units : (k : Task) (p : Progress) (n : ℕ)
    → chunk_call k p n
    ≡ call_on k.budget (k.formula ++ forced_clauses 0 p.statuses ++ constraint (chunk_of p n) ∷ []) (blank (length p.statuses)) p.tries
unfolding chunk_call
chunk_call-units k p n =
    sym (call_on-units k.budget k.formula last (forced_values p.statuses) p.tries (proper_forced_values p.statuses)) ∙
    ap (λ (v : ℕ). call_on k.budget (k.formula ++ units 0 (forced_values p.statuses) ++ last) (replicate v 0) p.tries)
    (length-forced_values p.statuses) ∙
    ap (λ (cls : List Clause). call_on k.budget (k.formula ++ cls ++ last) (blank (length p.statuses)) p.tries) (units_forced 0 p.statuses)
  where
    last : List Clause
    last = constraint (chunk_of p n) ∷ []
