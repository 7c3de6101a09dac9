-- When a file of groups is refused, number by number, as docs/RULES.md, "Groups", says it: in terms of its tokens, and not of how they
-- are read. That a reading gives a number exactly when its rule here says so is a theorem. Assumes nothing.
use Rattle.std.specs.Prelude.{◌≡◌, ◌⊎◌, List, [], ◌∷◌, ◌++◌, ℕ, zero, suc, ◌+◌, ◌≤◌, ◌<◌, ℤ, pos, length}
use Rattle.texts.specs.Tokens.{all_tokens}
use Rattle.rules.specs.declared.GroupsAnswer.{GroupsAnswer}
use Rattle.rules.specs.Lists.{count, is_zero}
use Rattle.rules.specs.Numbers.{max_text, max_vars, max_clauses, max_entries}
use Rattle.rules.specs.Meaning.{var_of}
use Rattle.texts.specs.Text.{Piece}
use Rattle.texts.specs.Grammar.{Token}
use Rattle.texts.specs.Groups.{max_groups, min_size, max_size, vars_in, expanded_entries}
use Rattle.texts.specs.GroupsReading.{Part, groups_due, sizes_due, entries_due, next, clauses_in}

-- neither 1 nor 2
pub record GroupsBegun (entries sizes : ℕ) (text : List ℕ) : Type 0 where
  pub entries_fit : max_entries ≤ entries
  pub sizes_fit : max_groups ≤ sizes
  pub text_fits : length text ≤ max_text

-- a number from low to high
pub data Between (low high : ℕ) : ℤ → Type 0 where
  between : {n : ℕ} → low ≤ n → n ≤ high → Between low high (pos n)

-- a number with nothing to refuse where something is due
pub data Fits : Part → ℤ → Type 0 where
  group_count : {l : ℤ} → Between 0 max_groups l → Fits groups_due l
  clause_count_lem : {sizes : List ℕ} {l : ℤ} → Between 0 max_clauses l → Fits (sizes_due zero sizes) l
  size : {n : ℕ} {sizes : List ℕ} {l : ℤ} → Between min_size max_size l → vars_in sizes + var_of l ≤ max_vars → Fits (sizes_due (suc n) sizes) l
  entry : {sizes : List ℕ} {c : ℕ} {es : List ℤ} {l : ℤ} → count is_zero es < c → var_of l ≤ vars_in sizes → Fits (entries_due sizes c es) l

-- tokens with nothing to refuse, from one part to another
pub data Passes : Part → List Piece → Part → Type 0 where
  passed : {p : Part} → Passes p [] p
  pass : {p q : Part} {t : Piece} {ts : List Piece} {l : ℤ} → Token t.bytes l → Fits p l → Passes (next p l) ts q → Passes p (t ∷ ts) q

-- a token that is refused where something is due
pub data Stops : Part → Piece → GroupsAnswer → Type 0 where
  -- 5
  bad_token : {p : Part} {t : Piece} → ((l : ℤ) → Token t.bytes l → ⊥) → Stops p t (GroupsAnswer.BadToken t.at)
  -- 16: the number of groups, a size
  bad_groups : {t : Piece} {l : ℤ} → Token t.bytes l → (Between 0 max_groups l → ⊥) → Stops groups_due t (GroupsAnswer.BadGroup t.at)
  bad_size : {n : ℕ} {sizes : List ℕ} {t : Piece} {l : ℤ} → Token t.bytes l → (Between min_size max_size l → ⊥)
      → Stops (sizes_due (suc n) sizes) t (GroupsAnswer.BadGroup t.at)
  -- 4: the size that passes 256 variables, the number of clauses
  many_vars : {n : ℕ} {sizes : List ℕ} {t : Piece} {l : ℤ} → Token t.bytes l → Between min_size max_size l
      → max_vars < vars_in sizes + var_of l → Stops (sizes_due (suc n) sizes) t (GroupsAnswer.OverSizes t.at)
  many_clauses : {sizes : List ℕ} {t : Piece} {l : ℤ} → Token t.bytes l → (Between 0 max_clauses l → ⊥)
      → Stops (sizes_due zero sizes) t (GroupsAnswer.OverSizes t.at)
  -- 6 and 7
  token_behind : {sizes : List ℕ} {c : ℕ} {es : List ℤ} {t : Piece} {l : ℤ} → Token t.bytes l
      → c ≤ count is_zero es → Stops (entries_due sizes c es) t (GroupsAnswer.TokenBehind t.at)
  token_over_vars : {sizes : List ℕ} {c : ℕ} {es : List ℤ} {t : Piece} {l : ℤ} → Token t.bytes l → count is_zero es < c
      → vars_in sizes < var_of l → Stops (entries_due sizes c es) t (GroupsAnswer.TokenOverVars t.at)

-- something is still due
pub data Unfinished : Part → Type 0 where
  no_groups : Unfinished groups_due
  no_sizes : {n : ℕ} {sizes : List ℕ} → Unfinished (sizes_due n sizes)
  no_clauses : {sizes : List ℕ} {c : ℕ} {es : List ℤ} → count is_zero es < c → Unfinished (entries_due sizes c es)

pub data GroupsRefuses (entries sizes : ℕ) (text : List ℕ) : GroupsAnswer → Type 0 where
  -- 1 and 2
  short_buffer : (entries < max_entries) ⊎ (sizes < max_groups) → GroupsRefuses entries sizes text GroupsAnswer.ShortBuffer
  long_text : max_entries ≤ entries → max_groups ≤ sizes → max_text < length text → GroupsRefuses entries sizes text GroupsAnswer.LongText
  -- the first token with something to refuse
  at_token : {a : GroupsAnswer} {p : Part} (before : List Piece) (t : Piece) (after : List Piece) → GroupsBegun entries sizes text
      → all_tokens text ≡ before ++ t ∷ after → Passes groups_due before p → Stops p t a → GroupsRefuses entries sizes text a
  -- 9: the text ends early
  short_text : {p : Part} → GroupsBegun entries sizes text → Passes groups_due (all_tokens text) p → Unfinished p
      → GroupsRefuses entries sizes text (GroupsAnswer.ShortText (length text))
  -- 11: the expanded list is too long
  long_list : {ss : List ℕ} {c : ℕ} {es : List ℤ} → GroupsBegun entries sizes text → Passes groups_due (all_tokens text) (entries_due ss c es)
      → c ≤ count is_zero es → (max_clauses < clauses_in ss c) ⊎ (max_entries < length (expanded_entries ss es))
      → GroupsRefuses entries sizes text GroupsAnswer.LongList
