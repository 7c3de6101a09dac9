-- docs/RULES.md, "What comes back", as statements about the rows of a log: what theorems say of it. Assumes nothing.
use Rattle.std.specs.Prelude.{◌≡◌, List, [], ◌∷◌, ℕ, suc, ◌+◌, ◌≤◌, length, drop}
use Rattle.rules.specs.declared.Outcome.{Outcome}
use Rattle.rules.specs.Lists.{In, sum_of}
use Rattle.rules.specs.Run.{Row}

-- both drop columns together
abbrev pub drops : Row → ℕ
drops r = r.by_compare + r.by_flip

abbrev pub chunk_if_none : Outcome → ℕ → ℕ
chunk_if_none Outcome.Model n = 0
chunk_if_none Outcome.NoModel n = n
chunk_if_none Outcome.Stopped n = 0

-- the chunk of a row that says 2
abbrev pub forced_in : Row → ℕ
forced_in r = chunk_if_none r.outcome r.chunk

-- a call that finds a model drops at least one candidate, one that finds none forces at least one
abbrev pub SettlesBy : Outcome → Row → Type 0
SettlesBy Outcome.Model r = 1 ≤ drops r
SettlesBy Outcome.NoModel r = 1 ≤ r.chunk
SettlesBy Outcome.Stopped r = Unit {0}

abbrev pub Settles : Row → Type 0
Settles r = SettlesBy r.outcome r

-- call numbers from n
pub data NumberedFrom : ℕ → List Row → Type 0 where
  no_row : {n : ℕ} → NumberedFrom n []
  row : {n : ℕ} {r : Row} {rs : List Row} → r.call ≡ n → NumberedFrom (suc n) rs → NumberedFrom n (r ∷ rs)

-- the rows of a run that marked so many variables free and so many forced, with so many tries
pub record LogOf (rows : List Row) (free forced tries : ℕ) : Type 0 where
  pub some : 1 ≤ length rows
  pub numbered : NumberedFrom 1 rows
  pub settle : (r : Row) → In r (drop 1 rows) → Settles r
  pub drops_sum : sum_of drops rows ≡ free
  pub forced_sum : sum_of forced_in (drop 1 rows) ≡ forced
  pub tries_sum : sum_of (λ r. r.tries) rows ≡ tries
