-- What the functions over clauses require, and what the parts of the clause test look for. Assumes nothing.
use Rattle.std.specs.Prelude.{Bool, not, ◌&&◌, List, [], ◌∷◌, ℕ, ℤ, Option, None, Some}
use Rattle.rules.specs.Lists.{In, any, keep, eqz}
use Rattle.rules.specs.Meaning.{Clause, Values, LitUpTo, is_unset}
use Rattle.rules.specs.Closing.{literal}
use Rattle.rules.specs.declared.Lit.{Lit}

-- each literal is of a variable from 1 to n
pub record ClauseUpTo (n : ℕ) (cl : Clause) : Type 0 where
  pub each : (l : ℤ) → In l cl → LitUpTo n l

abbrev pub first_in : List ℤ → Option Lit
first_in [] = None
first_in (l ∷ ls) = Some (literal l)

abbrev pub first_unset : Values → Clause → Option Lit
first_unset vs cl = first_in (keep (is_unset vs) cl)

-- k is not l, and is unset
abbrev pub is_other_unset : Values → ℤ → ℤ → Bool
is_other_unset vs l k = not (eqz l k) && is_unset vs k

abbrev pub has_other_unset : Values → ℤ → Clause → Bool
has_other_unset vs l cl = any (is_other_unset vs l) cl
