-- A file of groups as docs/RULES.md, "Groups", gives it, as a grammar: what such a text is, and not how it is read. specs/GroupsReading
-- reads; that both agree is a theorem. Assumes nothing.
use Rattle.std.specs.Prelude.{List, ◌∷◌, ◌++◌, map, ℕ, ◌≤◌, ℤ, pos, length}
use Rattle.rules.specs.Lists.{In}
use Rattle.rules.specs.Numbers.{max_text, max_vars, max_clauses, max_entries}
use Rattle.rules.specs.Meaning.{var_of}
use Rattle.texts.specs.Grammar.{ClausesOf}
use Rattle.texts.specs.Tokens.{Tokens}
use Rattle.texts.specs.Groups.{max_groups, min_size, max_size, vars_in, expanded_entries}
use Rattle.texts.specs.GroupsReading.{clauses_in}

-- the sizes of groups
pub record SizesFit (sizes : List ℕ) : Type 0 where
  pub groups_fit : length sizes ≤ max_groups
  pub each_fits : (n : ℕ) → In n sizes → (min_size ≤ n) × (n ≤ max_size)
  pub vars_fit : vars_in sizes ≤ max_vars

-- two sections, each after its count: the groups, each by its number of values, and the clauses
abbrev pub file_numbers : List ℕ → ℕ → List ℤ → List ℤ
file_numbers sizes c es = pos (length sizes) ∷ (map pos sizes ++ pos c ∷ es)

-- a text that says groups of these sizes and c clauses with the entries es, within the sizes
pub record GroupsText (text : List ℕ) (sizes : List ℕ) (c : ℕ) (es : List ℤ) : Type 0 where
  pub says : Tokens text (file_numbers sizes c es)
  pub sizes_fit : SizesFit sizes
  pub exactly : ClausesOf c es
  pub clauses_fit : c ≤ max_clauses
  pub up_to : (l : ℤ) → In l es → var_of l ≤ vars_in sizes
  pub text_fits : length text ≤ max_text
  pub list_clauses_fit : clauses_in sizes c ≤ max_clauses
  pub list_entries_fit : length (expanded_entries sizes es) ≤ max_entries
