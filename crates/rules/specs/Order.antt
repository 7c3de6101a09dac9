-- docs/RULES.md, "The order of the rules": when two lists of clauses are the same rules, when two lists of literals hold the same, and what
-- two runs then have in common. Assumes nothing.
use Rattle.std.specs.Prelude.{◌≡◌, ◌↔◌, List, ℕ, ℤ, take}
use Rattle.rules.specs.Lists.{In}
use Rattle.rules.specs.Meaning.{Clause}
use Rattle.rules.specs.Models.{Covers}
use Rattle.rules.specs.Run.{Task}
use Rattle.rules.specs.Answer.{Buffers, log_length}

-- the same set of clauses, each read as a set of literals: neither order counts, nor how often a clause or a literal stands
pub record SameRules (F G : List Clause) : Type 0 where
  pub there : Covers F G
  pub back : Covers G F

-- the same literals are held, in whatever order and however often
pub record SameHeld (held other : List ℤ) : Type 0 where
  pub same : (l : ℤ) → In l held ↔ In l other

-- a task with other clauses
abbrev pub with_rules : Task → List Clause → Task
with_rules k F = record { vars = k.vars; budget = k.budget; limit = k.limit; formula = F }

-- the buffers of two runs show the same statuses, calls, ways and log. Nothing is said of the hints, which name clauses by their numbers
pub record SameTable (vars : ℕ) (one two : Buffers) : Type 0 where
  pub status_same : take vars one.status ≡ take vars two.status
  pub calls_same : take vars one.calls ≡ take vars two.calls
  pub ways_same : take vars one.ways ≡ take vars two.ways
  pub log_same : take (log_length vars) one.log ≡ take (log_length vars) two.log
