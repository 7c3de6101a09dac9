-- A call as docs/RULES.md, "Run", has it: the literals that are forced already are clauses of one literal each, beside the others. A run
-- starts its calls from them as values instead; proofs/SearchOrder shows that the calls are the same. Assumes nothing.
use Rattle.std.specs.Prelude.{List, [], ◌∷◌, ℕ, zero, suc, pos, negsuc}
use Rattle.rules.specs.Meaning.{Clause, Values}

-- in front of cls, the one-literal clause by which the variable at an index has a byte: 1 false, 2 true; none for an unset variable
abbrev pub unit_at : ℕ → ℕ → List Clause → List Clause
unit_at zero j cls = cls
unit_at (suc zero) j cls = (negsuc j ∷ []) ∷ cls
unit_at (suc (suc b)) j cls = (pos (suc j) ∷ []) ∷ cls

-- one clause for each variable that is set, where the first stands at index j
abbrev pub units : ℕ → Values → List Clause
units j [] = []
units j (b ∷ vs) = unit_at b j (units (suc j) vs)

-- one clause for each variable that a status says is forced, where the first stands at index j: 2 forced true, 3 forced false
abbrev pub forced_at : ℕ → ℕ → List Clause → List Clause
forced_at zero j cls = cls
forced_at (suc zero) j cls = cls
forced_at (suc (suc zero)) j cls = (pos (suc j) ∷ []) ∷ cls
forced_at (suc (suc (suc s))) j cls = (negsuc j ∷ []) ∷ cls

abbrev pub forced_clauses : ℕ → List ℕ → List Clause
forced_clauses j [] = []
forced_clauses j (s ∷ ss) = forced_at s j (forced_clauses (suc j) ss)
