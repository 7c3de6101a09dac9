-- What src/judge.rt refuses of a number, by what is counted and not by what was read. That these are the rules of `rules` is a law. Assumes
-- nothing.
use Rattle.std.specs.Prelude.{not, List, [], ◌∷◌, ℕ, ◌+◌, leb, ltb, ℤ, Result, Ok, Err}
use Rattle.std.proofs.Math.Option.{Option, none, some}
use Rattle.rules.specs.declared.GroupsAnswer.{GroupsAnswer}
use Rattle.rules.specs.Lists.{Check, check}
use Rattle.rules.specs.Numbers.{max_vars, max_clauses}
use Rattle.rules.specs.Meaning.{var_of}
use Rattle.texts.specs.Groups.{max_groups, min_size, max_size}
use Rattle.texts.specs.GroupsReading.{is_between}

abbrev pub verdict_of : Option GroupsAnswer → Result (Unit {0}) GroupsAnswer
verdict_of none = Ok tt
verdict_of (some a) = Err a

-- the number of groups
abbrev pub group_rules : ℕ → ℤ → List (Check GroupsAnswer)
group_rules at l = check (not (is_between 0 max_groups l)) (GroupsAnswer.BadGroup at) ∷ []

-- a size, with so many variables before it
abbrev pub size_rules : ℕ → ℕ → ℤ → List (Check GroupsAnswer)
size_rules vars at l =
    check (not (is_between min_size max_size l)) (GroupsAnswer.BadGroup at) ∷ check (ltb max_vars (vars + var_of l)) (GroupsAnswer.OverSizes at) ∷ []

-- the number of clauses
abbrev pub count_rules : ℕ → ℤ → List (Check GroupsAnswer)
count_rules at l = check (not (is_between 0 max_clauses l)) (GroupsAnswer.OverSizes at) ∷ []

-- an entry, with so many of the clauses complete
abbrev pub entry_rules : ℕ → ℕ → ℕ → ℕ → ℤ → List (Check GroupsAnswer)
entry_rules vars clauses complete at l =
    check (leb clauses complete) (GroupsAnswer.TokenBehind at) ∷ check (ltb vars (var_of l)) (GroupsAnswer.TokenOverVars at) ∷ []
