-- When a run is refused, number by number, as the table of docs/RULES.md says it. That a run gives a number exactly when its rule
-- here says so is a theorem. Assumes nothing.
use Rattle.std.specs.Prelude.{◌≡◌, ◌⊎◌, true, false, List, [], ◌∷◌, ◌++◌, ℕ, ◌≤◌, ◌<◌, ℤ, pos, length, replicate}
use Rattle.rules.specs.declared.Refusal.{Refusal}
use Rattle.rules.specs.Lists.{In, count, is_zero}
use Rattle.rules.specs.Numbers.{max_vars, max_clauses, max_entries, max_chunk, max_held}
use Rattle.rules.specs.Meaning.{var_of, LitUpTo}
use Rattle.rules.specs.Held.{Holdable}
use Rattle.rules.specs.Answer.{Given, given, buffers, log_length, is_ended}

-- not 10
pub record InLimits (g : Given) : Type 0 where
  pub vars_fit : g.vars ≤ max_vars
  pub limit_some : 1 ≤ g.limit
  pub limit_fits : g.limit ≤ max_chunk

-- nor 1
pub record Lent (g : Given) : Type 0 where
  pub in_limits : InLimits g
  pub status_fits : g.vars ≤ length g.status
  pub calls_fit : g.vars ≤ length g.calls
  pub ways_fit : g.vars ≤ length g.ways
  pub hints_fit : g.vars ≤ length g.hints
  pub log_fits : log_length g.vars ≤ length g.log

pub data TooShort (g : Given) : Type 0 where
  short_status : length g.status < g.vars → TooShort g
  short_calls : length g.calls < g.vars → TooShort g
  short_ways : length g.ways < g.vars → TooShort g
  short_hints : length g.hints < g.vars → TooShort g
  short_log : length g.log < log_length g.vars → TooShort g

-- nor 11
pub record Listed (g : Given) : Type 0 where
  pub lent : Lent g
  pub entries_fit : length g.entries ≤ max_entries
  pub ended : is_ended g.entries ≡ true
  pub clauses_fit : count is_zero g.entries ≤ max_clauses

-- nor 12
pub record Formed (g : Given) : Type 0 where
  pub listed : Listed g
  pub up_to : (l : ℤ) → In l g.entries → var_of l ≤ g.vars

-- nor 15 nor 13
pub record Accepted (g : Given) : Type 0 where
  pub listed : Listed g
  pub up_to : (l : ℤ) → In l g.entries → var_of l ≤ g.vars
  pub holdable : Holdable g.vars g.held

pub data RunRefuses (g : Given) : Refusal → Type 0 where
  -- 10
  bad_limits : (max_vars < g.vars) ⊎ ((g.limit ≡ 0) ⊎ (max_chunk < g.limit)) → RunRefuses g Refusal.BadLimits
  -- 1
  short_buffer : InLimits g → TooShort g → RunRefuses g Refusal.ShortBuffer
  -- 11: too long; not empty and not ended by 0; a zero behind 1,024 others
  list_long : Lent g → max_entries < length g.entries → RunRefuses g (Refusal.BadList max_entries)
  not_ended : Lent g → length g.entries ≤ max_entries → (front : List ℤ) (l : ℤ)
      → g.entries ≡ front ++ (l ∷ []) → is_zero l ≡ false → RunRefuses g (Refusal.BadList (length g.entries))
  zero_over : Lent g → length g.entries ≤ max_entries → is_ended g.entries ≡ true → (front back : List ℤ)
      → g.entries ≡ front ++ pos 0 ∷ back → count is_zero front ≡ max_clauses → RunRefuses g (Refusal.BadList (length front))
  -- 12: the first variable above V
  entry_over_vars : Listed g → (front : List ℤ) (l : ℤ) (back : List ℤ) → g.entries ≡ front ++ l ∷ back
      → ((k : ℤ) → In k front → var_of k ≤ g.vars) → g.vars < var_of l → RunRefuses g (Refusal.EntryOverVars (length front))
  -- 15
  many_held : Formed g → max_held < length g.held → RunRefuses g Refusal.ManyHeld
  -- 13: the first held literal that is 0 or above V
  bad_literal : Formed g → length g.held ≤ max_held → (front : List ℤ) (l : ℤ) (back : List ℤ) → g.held ≡ front ++ l ∷ back
      → ((k : ℤ) → In k front → LitUpTo g.vars k) → (var_of l ≡ 0) ⊎ (g.vars < var_of l) → RunRefuses g (Refusal.BadLiteral (length front))

-- a run of a list for which nothing else is wrong: what it is refused for is the list's own
abbrev pub list_alone : List ℤ → ℕ → Given
list_alone es vars =
    given es vars [] 0 1
    (buffers (replicate vars 0) (replicate vars 0) (replicate vars 0) (replicate vars 0) (replicate (log_length vars) 0))
