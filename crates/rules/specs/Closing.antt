-- docs/RULES.md, "Closing": the state of a clause, and rounds over the clauses in order. Assumes nothing.
use Rattle.std.specs.Prelude.{Bool, true, false, List, [], ◌∷◌, ℕ, zero, suc, ℤ}
use Rattle.rules.specs.declared.Lit.{Lit}
use Rattle.rules.specs.declared.ClauseState.{ClauseState}
use Rattle.rules.specs.declared.ClauseState.TheVariants.{False, Unit, True, Undecided}
use Rattle.rules.specs.Lists.{all, keep, eqz}
use Rattle.rules.specs.Meaning.{Clause, Values, is_unset, assign, has_true}

-- ---- the state of a clause

abbrev pub literal : ℤ → Lit
literal l = record { 0 = l }

abbrev pub unit_if : Bool → ℤ → ClauseState
unit_if true l = Unit (literal l)
unit_if false l = Undecided

-- by "has a true literal" and the unset ones. Distinct literals count and not places: in `1 1 0` there is one; and the two
-- signs of a variable are two, so `1 -1 0` is no unit
abbrev pub state_by : Bool → List ℤ → ClauseState
state_by true us = True
state_by false [] = False
state_by false (l ∷ us) = unit_if (all (eqz l) us) l

unfoldable pub state_of : Values → Clause → ClauseState
state_of vs cl = state_by (has_true vs cl) (keep (is_unset vs) cl)

-- ---- a round: every clause once, in order, setting units as they are met; it stops at a false clause

-- a round under way, with how many literals it has set so far; or stopped
pub data Round : Type 0 where
  under_way : Values → ℕ → Round
  at_false : Round

abbrev pub met : ClauseState → Values → ℕ → Round
met False vs n = at_false
met (Unit l) vs n = under_way (assign vs l.0) (suc n)
met True vs n = under_way vs n
met Undecided vs n = under_way vs n

abbrev pub visit : Clause → Round → Round
visit cl (under_way vs n) = met (state_of vs cl) vs n
visit cl at_false = at_false

abbrev pub round : List Clause → Round → Round
round [] r = r
round (cl ∷ cls) r = round cls (visit cl r)

-- ---- closing: rounds until one sets nothing, or stops

pub data Closed : Type 0 where
  clash : Closed
  closed : Values → Closed

abbrev pub again : Round → (Values → Closed) → Closed
again at_false more = clash
again (under_way vs zero) more = closed vs
again (under_way vs (suc n)) more = more vs

abbrev pub unsets : Values → ℕ
unsets [] = 0
unsets (zero ∷ vs) = suc (unsets vs)
unsets (suc b ∷ vs) = unsets vs

-- no more than n rounds after the first; each but the last sets a variable, so that `unsets vs` of them are enough
unfoldable pub close_in : ℕ → List Clause → Values → Closed
close_in zero F vs = again (round F (under_way vs 0)) closed
close_in (suc n) F vs = again (round F (under_way vs 0)) (λ ws. close_in n F ws)

unfoldable pub closing : List Clause → Values → Closed
closing F vs = close_in (unsets vs) F vs
