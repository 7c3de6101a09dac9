-- docs/RULES.md, "Sizes", and the numbers and places of "What comes back", for each answer. Assumes nothing.
use Rattle.std.specs.Prelude.{ℕ}
use Rattle.rules.specs.declared.ClaimsAnswer.{ClaimsAnswer}
use Rattle.rules.specs.declared.GroupsAnswer.{GroupsAnswer}
use Rattle.rules.specs.declared.Outcome.{Outcome}
use Rattle.rules.specs.declared.ReadAnswer.{ReadAnswer}
use Rattle.rules.specs.declared.Refusal.{Refusal}
use Rattle.rules.specs.declared.RunAnswer.{RunAnswer}
use Rattle.rules.specs.declared.Way.{Way}

-- bytes of a text
abbrev pub max_text : ℕ
max_text = 32768

abbrev pub max_vars : ℕ
max_vars = 256

abbrev pub max_clauses : ℕ
max_clauses = 1024

-- literals and closing zeros together
abbrev pub max_entries : ℕ
max_entries = 4096

abbrev pub max_chunk : ℕ
max_chunk = 256

-- literals
abbrev pub max_held : ℕ
max_held = 256

-- the log's second column: 1 model, 2 none, 3 stopped
abbrev pub outcome_number : Outcome → ℕ
outcome_number Outcome.Model = 1
outcome_number Outcome.NoModel = 2
outcome_number Outcome.Stopped = 3

-- how a variable was settled: 0 open, 1 compare, 2 flip, 3 chunk
abbrev pub way_number : Way → ℕ
way_number Way.Open = 0
way_number Way.Compare = 1
way_number Way.Flip = 2
way_number Way.Chunk = 3

-- the table of numbers and places, for a reading
abbrev pub read_number : ReadAnswer → ℕ
read_number ReadAnswer.Accepted = 0
read_number ReadAnswer.ShortBuffer = 1
read_number ReadAnswer.LongText = 2
read_number (ReadAnswer.BadHeader at) = 3
read_number (ReadAnswer.LargeHeader at) = 4
read_number (ReadAnswer.BadToken at) = 5
read_number (ReadAnswer.TokenBehind at) = 6
read_number (ReadAnswer.TokenOverVars at) = 7
read_number (ReadAnswer.ManyTokens at) = 8
read_number (ReadAnswer.ShortText at) = 9

abbrev pub read_place : ReadAnswer → ℕ
read_place ReadAnswer.Accepted = 0
read_place ReadAnswer.ShortBuffer = 0
read_place ReadAnswer.LongText = max_text
read_place (ReadAnswer.BadHeader at) = at
read_place (ReadAnswer.LargeHeader at) = at
read_place (ReadAnswer.BadToken at) = at
read_place (ReadAnswer.TokenBehind at) = at
read_place (ReadAnswer.TokenOverVars at) = at
read_place (ReadAnswer.ManyTokens at) = at
read_place (ReadAnswer.ShortText at) = at

-- for an entry list that is not taken
abbrev pub refusal_number : Refusal → ℕ
refusal_number Refusal.ShortBuffer = 1
refusal_number Refusal.BadLimits = 10
refusal_number (Refusal.BadList at) = 11
refusal_number (Refusal.EntryOverVars at) = 12
refusal_number (Refusal.BadLiteral at) = 13
refusal_number Refusal.NotFree = 14
refusal_number Refusal.ManyHeld = 15

abbrev pub refusal_place : Refusal → ℕ
refusal_place Refusal.ShortBuffer = 0
refusal_place Refusal.BadLimits = 0
refusal_place (Refusal.BadList at) = at
refusal_place (Refusal.EntryOverVars at) = at
refusal_place (Refusal.BadLiteral at) = at
refusal_place Refusal.NotFree = 0
refusal_place Refusal.ManyHeld = max_held

-- for a run
abbrev pub run_number : RunAnswer → ℕ
run_number RunAnswer.Settled = 0
run_number RunAnswer.NoModel = 20
run_number RunAnswer.Stopped = 21
run_number (RunAnswer.Refused r) = refusal_number r

abbrev pub run_place : RunAnswer → ℕ
run_place RunAnswer.Settled = 0
run_place RunAnswer.NoModel = 0
run_place RunAnswer.Stopped = 0
run_place (RunAnswer.Refused r) = refusal_place r

-- for a file of groups
abbrev pub groups_number : GroupsAnswer → ℕ
groups_number GroupsAnswer.Accepted = 0
groups_number GroupsAnswer.ShortBuffer = 1
groups_number GroupsAnswer.LongText = 2
groups_number (GroupsAnswer.OverSizes at) = 4
groups_number (GroupsAnswer.BadToken at) = 5
groups_number (GroupsAnswer.TokenBehind at) = 6
groups_number (GroupsAnswer.TokenOverVars at) = 7
groups_number (GroupsAnswer.ShortText at) = 9
groups_number GroupsAnswer.LongList = 11
groups_number (GroupsAnswer.BadGroup at) = 16

abbrev pub groups_place : GroupsAnswer → ℕ
groups_place GroupsAnswer.Accepted = 0
groups_place GroupsAnswer.ShortBuffer = 0
groups_place GroupsAnswer.LongText = max_text
groups_place (GroupsAnswer.OverSizes at) = at
groups_place (GroupsAnswer.BadToken at) = at
groups_place (GroupsAnswer.TokenBehind at) = at
groups_place (GroupsAnswer.TokenOverVars at) = at
groups_place (GroupsAnswer.ShortText at) = at
groups_place GroupsAnswer.LongList = 0
groups_place (GroupsAnswer.BadGroup at) = at

-- and for a file of claims
abbrev pub claims_number : ClaimsAnswer → ℕ
claims_number (ClaimsAnswer.Accepted n) = 0
claims_number ClaimsAnswer.LongText = 2
claims_number (ClaimsAnswer.BadToken at) = 5
claims_number (ClaimsAnswer.Rejected at) = 17
claims_number (ClaimsAnswer.Refused a) = refusal_number a

abbrev pub claims_place : ClaimsAnswer → ℕ
claims_place (ClaimsAnswer.Accepted n) = 0
claims_place ClaimsAnswer.LongText = max_text
claims_place (ClaimsAnswer.BadToken at) = at
claims_place (ClaimsAnswer.Rejected at) = at
claims_place (ClaimsAnswer.Refused a) = refusal_place a
