-- The laws of the log: its rows add up to what the statuses say, at every progress and at every end of a run.
--
--   log_begun         the row of the first call
--   log_more          one row more
--   logged            the log at every progress that a run reaches
--   stop_log          the row of a stopped call; log_counts: the same log by equal counts
--   blank_counts      the counts of statuses that are all open
--   first_metered, chunk_metered     the meter in a call
--   calls_opens_le    calls begun and candidates left are at most V + 1 together
--   tries_le          tries are within the budget
--
-- Assumes nothing.
use mathlib.Core.Path.{◌≡◌, refl, sym, ◌∙◌, ap}
use mathlib.Core.Logic.{◌⊎◌, inl, inr}
use mathlib.Core.List.Memᴰ
use mathlib.Core.List.{List, [], ◌∷◌, ◌++◌}
use Prim.Native.Nat.{ℕ, zero, suc, ◌+◌, ◌≤◌, ◌<◌}
use native.Mathlib.Omega.{arith}
use lib.ListN.{length, drop, length-append}
use lib.Seq.{drop-append-le}
use Rattle.rules.specs.declared.Outcome.{Outcome}
use Rattle.rules.specs.Lists.{In, count, sum_of}
use Rattle.rules.specs.Meaning.{Values}
use Rattle.rules.specs.Run.{Task, Row, Progress, opens, compared, filtered, model_row, differs, can_flip, force_first, blank, chunk_of}
use Rattle.rules.specs.Run.{constraint, forced_values, chunk_call, row_after, after_model, after_none, after_stop, begun, first_call}
use Rattle.rules.specs.Answer.{is_free, is_forced}
use Rattle.rules.specs.Log.{drops, forced_in, Settles, NumberedFrom, no_row, row, LogOf}
use Rattle.rules.proofs.ListLaws.{sum_of_append}
use Rattle.rules.proofs.SearchLaws.{Metered, call_on_tries}
use Rattle.rules.proofs.StatusLaws.{freed_counts, ForcedMore}
use Rattle.rules.specs.Trace.{Reached, first_model, next_model, next_none}
use Rattle.rules.proofs.RunTrace.{takes_some, model_drops, none_forces}

-- ---- rows

numbered_more : {n : ℕ} {rows : List Row} (r : Row) → NumberedFrom n rows → r.call ≡ n + length rows → NumberedFrom n (rows ++ (r ∷ []))
numbered_more {n} r no_row e = let q : r.call ≡ n = omega arith in row q no_row
numbered_more {n} r (row {rs = rs} q ns) e =
    let f : r.call ≡ suc n + length rs = omega arith in row q (numbered_more r ns f)

pub log_begun : (r : Row) → r.call ≡ 1 → LogOf (r ∷ []) (drops r) 0 r.tries
log_begun r e =
    record {
      some = omega arith;
      numbered = row e no_row;
      settle = λ s h. absurd (Memᴰ.not-nil h);
      drops_sum = omega arith;
      forced_sum = refl;
      tries_sum = omega arith;
    }

pub log_more : {rows : List Row} {free forced tries : ℕ} → LogOf rows free forced tries → (r : Row) → r.call ≡ suc (length rows)
    → Settles r → LogOf (rows ++ (r ∷ [])) (free + drops r) (forced + forced_in r) (tries + r.tries)
log_more {rows} l r e s =
    record {
      some = omega (arith, l.some, length-append rows (r ∷ []));
      numbered = numbered_more r l.numbered (omega arith);
      settle = λ q h. settle q (Memᴰ.append_cases (drop 1 rows) (rw back at h));
      drops_sum = sum_of_append drops rows (r ∷ []) ∙ omega (arith, l.drops_sum);
      forced_sum = ap (sum_of forced_in) back ∙ sum_of_append forced_in (drop 1 rows) (r ∷ []) ∙ omega (arith, l.forced_sum);
      tries_sum = sum_of_append (λ (q : Row). q.tries) rows (r ∷ []) ∙ omega (arith, l.tries_sum);
    }
  where
    back : drop 1 (rows ++ (r ∷ [])) ≡ drop 1 rows ++ (r ∷ [])
    back = drop-append-le 1 rows (r ∷ []) l.some

    settle : (q : Row) → In q (drop 1 rows) ⊎ In q (r ∷ []) → Settles q
    settle q (inl h) = l.settle q h
    settle q (inr h) = rw (Memᴰ.eq_of_singleton h) s

-- ---- the log at every progress

-- what compare and flip drop together becomes free, and nothing else changes
record Filtered (k : Task) (p : Progress) (m : Values) (r : Row) : Type 0 where
  free_more : count is_free p.statuses + drops r ≡ count is_free (filtered k p m)
  forced_same : count is_forced p.statuses ≡ count is_forced (filtered k p m)
  drops_are : opens (filtered k p m) + drops r ≡ opens p.statuses

filtered_counts : (k : Task) (p : Progress) (chunk : ℕ) (m : Values) (t : ℕ) → Filtered k p m (model_row k p chunk m t)
filtered_counts k p chunk m t =
    let c = freed_counts 0 (differs p.first m) p.statuses in
    let f = freed_counts 0 (can_flip k.formula m) (compared p.first m p.statuses) in
    record {
      free_more = omega (arith, c.free_more, c.opens_le, f.free_more, f.opens_le);
      forced_same = sym (f.forced_same ∙ c.forced_same);
      drops_are = omega (arith, c.opens_le, f.opens_le);
    }

pub blank_counts : (n : ℕ) → (count is_free (blank n) ≡ 0) × (count is_forced (blank n) ≡ 0) × (opens (blank n) ≡ n)
blank_counts zero = (refl, refl, refl)
blank_counts (suc n) = let (a, b, c) = blank_counts n in (a, b, ap suc c)

-- the tries that a call adds
pub first_metered : (k : Task) → Metered k.budget 0 (first_call k)
unfolding first_call
first_metered k = call_on_tries k.budget k.formula (blank k.vars) 0

pub chunk_metered : (k : Task) (p : Progress) (n : ℕ) → Metered k.budget p.tries (chunk_call k p n)
unfolding chunk_call
chunk_metered k p n = call_on_tries k.budget (k.formula ++ constraint (chunk_of p n) ∷ []) (forced_values p.statuses) p.tries

-- the log of a progress
abbrev pub LogAt : Progress → Type 0
LogAt p = LogOf p.rows (count is_free p.statuses) (count is_forced p.statuses) p.tries

pub log_counts : {rows : List Row} {a b c d e f : ℕ} → a ≡ d → b ≡ e → c ≡ f → LogOf rows a b c → LogOf rows d e f
log_counts p q r l =
    record {
      some = l.some;
      numbered = l.numbered;
      settle = l.settle;
      drops_sum = l.drops_sum ∙ p;
      forced_sum = l.forced_sum ∙ q;
      tries_sum = l.tries_sum ∙ r;
    }

model_log : (k : Task) (p : Progress) (chunk : ℕ) (m : Values) (t : ℕ) → p.tries ≤ t
    → opens (filtered k p m) < opens p.statuses → LogAt p → LogAt (after_model k p chunk m t)
model_log k p chunk m t u d l =
    let c = filtered_counts k p chunk m t in
    log_counts c.free_more (omega (arith, c.forced_same)) (omega arith) (log_more l (model_row k p chunk m t) refl (omega (arith, c.drops_are)))

none_log : (p : Progress) (chunk t : ℕ) → p.tries ≤ t → 1 ≤ chunk
    → ForcedMore chunk p.statuses (force_first p.first p.statuses chunk) → LogAt p → LogAt (after_none p chunk t)
none_log p chunk t u c f l =
    log_counts (omega (arith, f.free_same)) (sym f.forced_more) (omega arith) (log_more l (row_after p Outcome.NoModel chunk 0 0 t) refl c)

pub stop_log : (p : Progress) (chunk t : ℕ) → p.tries ≤ t → LogAt p → LogAt (after_stop p chunk t)
stop_log p chunk t u l =
    log_counts (omega arith) (omega arith) (omega arith) (log_more l (row_after p Outcome.Stopped chunk 0 0 t) refl tt)

pub logged : {k : Task} {size : ℕ} {p : Progress} → 1 ≤ k.limit → Reached k size p → LogAt p
logged {k} h (first_model m t e) =
    let c = filtered_counts k (begun k m) 0 m t in
    let (a, b, z) = blank_counts k.vars in
    log_counts (omega (arith, c.free_more)) (sym b ∙ c.forced_same) (omega arith) (log_begun (model_row k (begun k m) 0 m t) refl)
logged {k} h (next_model {chunk = chunk} {p = p} m t r o e) =
    model_log k p chunk m t (rw e at (chunk_metered k p chunk).up) (model_drops chunk m t r e) (logged h r)
logged {k} h (next_none {chunk = chunk} {p = p} t r o e d) =
    let (some, most) = takes_some h r o in
    none_log p chunk t (rw e at (chunk_metered k p chunk).up) some (none_forces chunk r most) (logged h r)

-- ---- calls and tries

-- each call begun after the first settles a candidate
pub calls_opens_le : {k : Task} {size : ℕ} {p : Progress} → 1 ≤ k.limit → Reached k size p → length p.rows + opens p.statuses ≤ k.vars + 1
calls_opens_le {k} h (first_model m t e) =
    omega (arith, (filtered_counts k (begun k m) 0 m t).drops_are, (blank_counts k.vars).2)
calls_opens_le {k} h (next_model {chunk = chunk} {p = p} m t r o e) =
    omega (arith, calls_opens_le h r, model_drops chunk m t r e, length-append p.rows (model_row k p chunk m t ∷ []))
calls_opens_le {k} h (next_none {chunk = chunk} {p = p} t r o e d) =
    let (some, most) = takes_some h r o in
    omega (arith, calls_opens_le h r, some, (none_forces chunk r most).opens_less, length-append p.rows (row_after p Outcome.NoModel chunk 0 0 t ∷ []))

pub tries_le : {k : Task} {size : ℕ} {p : Progress} → Reached k size p → p.tries ≤ k.budget
tries_le {k} (first_model m t e) = rw e at ((first_metered k).within (omega arith))
tries_le {k} (next_model {chunk = chunk} {p = p} m t r o e) = rw e at ((chunk_metered k p chunk).within (tries_le r))
tries_le {k} (next_none {chunk = chunk} {p = p} t r o e d) = rw e at ((chunk_metered k p chunk).within (tries_le r))
