-- docs/RULES.md, "Closing": how many rounds a closing takes. Assumes nothing.
use Rattle.std.specs.Prelude.{List, ℕ, zero, suc}
use Rattle.rules.specs.Meaning.{Clause, Values}
use Rattle.rules.specs.Closing.{Round, under_way, at_false, round, unsets}

-- a round that stops, or that sets nothing, is the last, and counts
abbrev pub one_more : Round → (Values → ℕ) → ℕ
one_more at_false more = 1
one_more (under_way vs zero) more = 1
one_more (under_way vs (suc n)) more = suc (more vs)

-- as specs/Closing counts them: no more than n after the first, and `unsets vs` of them are enough
unfoldable pub rounds_in : ℕ → List Clause → Values → ℕ
rounds_in zero F vs = one_more (round F (under_way vs 0)) (λ ws. 0)
rounds_in (suc n) F vs = one_more (round F (under_way vs 0)) (λ ws. rounds_in n F ws)

unfoldable pub rounds : List Clause → Values → ℕ
rounds F vs = rounds_in (unsets vs) F vs
