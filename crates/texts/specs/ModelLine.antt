-- docs/RULES.md, "The printed reason": a model as a line of V literals, one for each variable. Assumes nothing.
use Rattle.std.specs.Prelude.{Bool, true, false, List, [], ◌∷◌, ◌++◌, ℕ, zero, suc, eqb}
use Rattle.rules.specs.Lists.{pieces}
use Rattle.texts.specs.Plain.{decimal}

-- a number with its sign
abbrev pub signed : Bool → ℕ → List ℕ
signed true n = 45 ∷ decimal n
signed false n = decimal n

-- one space between: before each literal but that of variable 1
abbrev pub space_before : ℕ → List ℕ
space_before zero = []
space_before (suc zero) = []
space_before (suc (suc v)) = 32 ∷ []

-- the literal of variable v: -v if its value is 0, and otherwise v
abbrev pub model_literal : ℕ → ℕ → List ℕ
model_literal v bit = space_before v ++ signed (eqb bit 0) v

abbrev pub model_line : List ℕ → List ℕ
model_line bits = pieces model_literal 1 bits ++ 10 ∷ []
