-- The theorems that speak of texts and tables, gathered, beside those of rules/proofs/Theorems. Their proofs stand in the files that are named here.
-- Assumes nothing.
use mathlib.Core.Path.{◌≡◌}
use mathlib.Core.Logic.{◌≢◌, ◌⊎◌, ◌↔◌}
use mathlib.Core.Bool.{true}
use mathlib.Core.List.{List, [], ◌∷◌, ◌++◌}
use mathlib.Core.Option.{none, some}
use Prim.Native.Nat.{ℕ, suc, ◌-◌, ◌≤◌, ◌<◌}
use lib.IntN.{ℤ, pos, negsuc}
use lib.ListN.{length, get_or, take, drop, replicate}
use Rattle.rules.specs.declared.ReadAnswer.{ReadAnswer}
use Rattle.rules.specs.declared.Reading.{Reading}
use Rattle.rules.specs.declared.Refusal.{Refusal}
use Rattle.rules.specs.declared.RunAnswer.{RunAnswer}
use Rattle.rules.specs.declared.ShorterReport.{ShorterReport}
use Rattle.rules.specs.declared.GroupsAnswer.{GroupsAnswer}
use Rattle.rules.specs.declared.GroupsReading.{GroupsReading}
use Rattle.rules.specs.declared.ClaimsAnswer.{ClaimsAnswer}
use Rattle.rules.specs.Lists.{In, all}
use Rattle.rules.specs.Numbers.{max_text, max_entries, max_held, read_number, read_place, groups_number, groups_place, claims_place}
use Rattle.texts.specs.Text.{Sizes}
use Rattle.texts.specs.Reading.{reading_of, filled, entries_after, Reads}
use Rattle.texts.specs.Grammar.{NoLf, TokenEnd, WithHeader, Dimacs}
use Rattle.texts.specs.Refusals.{Refuses}
use Rattle.texts.specs.Plain.{decimal, plain, entries_of, Within}
use Rattle.rules.specs.Meaning.{Clause, Values, var_of, clauses, LitUpTo, Total, Model}
use Rattle.rules.specs.Models.{NoModel, Forced, Free}
use Rattle.rules.specs.Run.{Task, status_at}
use Rattle.rules.specs.Run.{run}
use Rattle.rules.specs.Trace.{with_limits}
use Rattle.rules.specs.Witness.{asked_refusal}
use Rattle.texts.specs.WitnessPrinted.{witness_asked, witness_text_of, max_witness, PrintsWitness}
use Rattle.rules.specs.Hints.{hints_of}
use Rattle.rules.specs.Answer.{Given, report_of_run}
use Rattle.rules.specs.Held.{with_held, Holdable}
use Rattle.rules.specs.RunRefusals.{Lent, Accepted, RunRefuses}
use Rattle.texts.specs.Shorter.{shorter_of, shorter_text, ShorterGiven, shorter_task, shorter_refusal, shorter_run, shorter_report_of}
use Rattle.texts.specs.Shorter.{shorter_text_after, Shortens}
use Rattle.texts.specs.ShorterPrinted.{printed_task, shorter_text_of, PrintsShorter}
use Rattle.texts.specs.Groups.{max_groups, vars_in, expanded, expanded_entries, ValidSetup, ValueOf, index_in, value_in, bytes_of, setup_in}
use Rattle.texts.specs.GroupsReading.{clauses_in, sizes_filled, GroupsGiven, groups_reading_of, groups_entries_after, groups_sizes_after}
use Rattle.texts.specs.GroupsReading.{ReadsGroups}
use Rattle.texts.specs.GroupsGrammar.{GroupsText}
use Rattle.texts.specs.GroupsRefusals.{GroupsRefuses}
use Rattle.texts.specs.GroupsPrinted.{settled_word, dead_word, groups_table_of_run, groups_table_of, max_groups_table, PrintsGroups}
use Rattle.texts.specs.Tokens.{Tokens}
use Rattle.texts.specs.Claims.{Claim, Claimed, file_numbers, ClaimsText, ClaimsFile, plain_claims}
use Rattle.texts.specs.ClaimsReading.{ClaimsGiven, claims_given, judge_claims, claims_answer, Checks}
use Rattle.texts.specs.ClaimsRefusals.{FormulaTaken, ClaimsRefuses}
use Rattle.texts.specs.Printed.{forced_word, free_word, on_word, off_word, held_word, refused_line, table_of_run, table_of, max_table, Prints}
use Rattle.texts.specs.Tables.{line_at, SaysAnswer, table_task}
use Rattle.rules.specs.Why.{WhyRefuses}
use Rattle.texts.specs.WhyPrinted.{why_asked, why_text_of, max_why, PrintsWhy}
use Rattle.texts.proofs.ReadingTheorems as reading
use Rattle.texts.proofs.TextTheorems as texts
use Rattle.texts.proofs.CommentTheorems as comments
use Rattle.texts.proofs.PrintedLaws as printed
use Rattle.texts.proofs.TableLaws as table-laws
use Rattle.texts.proofs.TableTheorems as tables
use Rattle.texts.proofs.EdgeCases as edges
use Rattle.texts.proofs.WhyText as reason-text
use Rattle.texts.proofs.WitnessText as witness-text
use Rattle.texts.proofs.ShorterTheorems as shorter
use Rattle.texts.proofs.ShorterCases as shorter-runs
use Rattle.texts.proofs.ShorterText as shorter-text
use Rattle.texts.proofs.ClaimsTheorems as claims
use Rattle.texts.proofs.ClaimsCases as checked-files
use Rattle.texts.proofs.GroupTheorems as group-theorems
use Rattle.texts.proofs.GroupsRead as groups-read
use Rattle.texts.proofs.GroupsText as groups-text
use Rattle.texts.proofs.GroupsTables as groups-tables
use Rattle.texts.proofs.GroupCases as group-tests

-- ---- the reader

-- A text is accepted, with V, C, its entries and the buffer filled, exactly if the grammar derives it.
pub reader_agrees : (text : List ℕ) (before : List ℤ) → max_entries ≤ length before → (s : Sizes) (es : List ℤ)
    → Dimacs text s.vars s.clauses es
    ↔ ((reading_of text before ≡ record { answer = ReadAnswer.Accepted; vars = s.vars; clauses = s.clauses; entries = length es })
    × (entries_after text before ≡ filled es before))
reader_agrees = reading.read_accepts

-- Each refusal number is given exactly when its rule says so.
pub reader_refuses : (text : List ℕ) (before : List ℤ) (a : ReadAnswer) → a ≢ ReadAnswer.Accepted
    → ((reading_of text before).answer ≡ a) ↔ Refuses (length before) text a
reader_refuses = reading.read_refuses

-- After 1 and 2 nothing is written.
pub reader_keeps : (text : List ℕ) (before : List ℤ)
    → (read_number (reading_of text before).answer ≡ 1) ⊎ (read_number (reading_of text before).answer ≡ 2)
    → entries_after text before ≡ before
reader_keeps = reading.refused_keeps

-- After 3 to 9 the first 4,096 entries are zeros, and the rest is as it was.
pub reader_clears : (text : List ℕ) (before : List ℤ) → 3 ≤ read_number (reading_of text before).answer
    → entries_after text before ≡ replicate 4096 (pos 0) ++ drop 4096 before
reader_clears = reading.refused_clears

-- After every refusal V, C and the entry count are zero.
pub reader_counts : (text : List ℕ) (before : List ℤ) → 1 ≤ read_number (reading_of text before).answer
    → ((reading_of text before).vars ≡ 0) × ((reading_of text before).clauses ≡ 0) × ((reading_of text before).entries ≡ 0)
reader_counts = reading.refused_counts

-- An accepted text's entries stand in front, then zeros up to 4,096, and the rest is as it was.
pub reader_fills : (text : List ℕ) (before : List ℤ) {vars clauses : ℕ} {es : List ℤ} → 4096 ≤ length before → Dimacs text vars clauses es
    → (take (length es) (entries_after text before) ≡ es)
    × (take (4096 - length es) (drop (length es) (entries_after text before)) ≡ replicate (4096 - length es) (pos 0))
    × (drop 4096 (entries_after text before) ≡ drop 4096 before)
reader_fills = reading.accepted_fills

-- Every formula within the sizes, printed plainly, is read back as itself.
pub reader_round_trip : (vars : ℕ) (F : List Clause) (before : List ℤ) → Within vars F → max_entries ≤ length before
    → (reading_of (plain vars F) before ≡ record { answer = ReadAnswer.Accepted; vars = vars; clauses = length F; entries = length (entries_of F) })
    × (entries_after (plain vars F) before ≡ filled (entries_of F) before)
    × (clauses (entries_of F) ≡ F)
reader_round_trip = texts.round_trip

-- A comment line put at the start of any line behind the header changes neither V, C nor the entries.
pub reader_comment : {front : List ℕ} (cs back : List ℕ) {vars clauses : ℕ} {es : List ℤ} → WithHeader front → NoLf cs
    → length (front ++ 10 ∷ 99 ∷ cs ++ 10 ∷ back) ≤ max_text
    → Dimacs (front ++ 10 ∷ back) vars clauses es ↔ Dimacs (front ++ 10 ∷ 99 ∷ cs ++ 10 ∷ back) vars clauses es
reader_comment = comments.comment_line

-- An accepted text, whether or not LF ends it, with a line `%` and any bytes behind it is accepted with the same V, C and entries.
pub reader_percent : (text tail : List ℕ) {vars clauses : ℕ} {es : List ℤ} → TokenEnd tail → length (text ++ 10 ∷ 37 ∷ tail) ≤ max_text
    → Dimacs text vars clauses es ⊎ Dimacs (text ++ 10 ∷ []) vars clauses es → Dimacs (text ++ 10 ∷ 37 ∷ tail) vars clauses es
reader_percent = comments.percent_line

-- ---- the witness

-- The two lines that are printed are never longer than 4,096 bytes, whatever the text and the variable.
pub witness_bound : (text : List ℕ) (v : ℕ) → length (witness_text_of text v) ≤ max_witness
witness_bound = witness-text.length-witness_text_of

-- Of an accepted text nothing is refused but the variable.
pub witness_only : {text : List ℕ} {vars n : ℕ} {es : List ℤ} → Dimacs text vars n es → (v : ℕ) (a : Refusal)
    → asked_refusal (witness_asked vars es v) ≡ some a → a ≡ Refusal.NotFree
witness_only = witness-text.only_not_free

-- ---- the shorter file

module _ (k : Task) (limit : 1 ≤ k.limit) (w : Within k.vars k.formula) where
  -- However its run ends, the shorter file has the models of the formula,
  pub shorter_models : (m : Values) → Model k.vars k.formula m ↔ Model k.vars (shorter_of k) m
  shorter_models = shorter.shorter_models k limit w

  -- its forced literals, its free variables, and no model exactly if the formula has none.
  pub shorter_forced : (l : ℤ) → Forced k.vars k.formula l ↔ Forced k.vars (shorter_of k) l
  shorter_forced = shorter.shorter_forced k limit w

  pub shorter_free : (i : ℕ) → Free k.vars k.formula i ↔ Free k.vars (shorter_of k) i
  shorter_free = shorter.shorter_free k limit w

  pub shorter_no_model : NoModel k.vars k.formula ↔ NoModel k.vars (shorter_of k)
  shorter_no_model = shorter.shorter_none k limit w

  -- A settled run on it gives the statuses of a settled run on the formula, whatever the budgets and chunk limits of both, and of the
  -- run that it was written after.
  pub shorter_settled : (b c budget chunk : ℕ) → 1 ≤ c → 1 ≤ chunk → (run (with_limits k b c)).answer ≡ RunAnswer.Settled
      → (run (record { vars = k.vars; budget = budget; limit = chunk; formula = shorter_of k })).answer ≡ RunAnswer.Settled
      → (run (with_limits k b c)).progress.statuses
      ≡ (run (record { vars = k.vars; budget = budget; limit = chunk; formula = shorter_of k })).progress.statuses
  shorter_settled = shorter.shorter_settled k limit w

  -- Unless there is no model it has no more clauses than the formula, and no more entries.
  pub shorter_less : (run k).answer ≢ RunAnswer.NoModel
      → (length (shorter_of k) ≤ length k.formula) × (length (entries_of (shorter_of k)) ≤ length (entries_of k.formula))
  shorter_less = shorter.shorter_less k limit w

  -- Its text is DIMACS CNF, and fits 32,768 bytes.
  pub shorter_dimacs : Dimacs (shorter_text k) k.vars (length (shorter_of k)) (entries_of (shorter_of k))
  shorter_dimacs = shorter.shorter_dimacs k limit w

  pub shorter_fits : length (shorter_text k) ≤ max_text
  shorter_fits = shorter.shorter_fits k limit w

  -- Read back it is accepted, with V and these clauses.
  pub shorter_read : (before : List ℤ) → max_entries ≤ length before
      → (reading_of (shorter_text k) before
      ≡ record { answer = ReadAnswer.Accepted; vars = k.vars; clauses = length (shorter_of k); entries = length (entries_of (shorter_of k)) })
      × (entries_after (shorter_text k) before ≡ filled (entries_of (shorter_of k)) before) × (clauses (entries_of (shorter_of k)) ≡ shorter_of k)
  shorter_read = shorter.shorter_read k limit w

-- Each refusal number and place is given exactly as the run gives it that is made, whose log is too short where the text buffer is.
pub shorter_refusals : (g : ShorterGiven) (a : Refusal) → (shorter_refusal g ≡ some a) ↔ RunRefuses (shorter_run g) a
shorter_refusals = shorter.shorter_refused

pub shorter_acceptance : (g : ShorterGiven) → (shorter_refusal g ≡ none) ↔ Accepted (shorter_run g)
shorter_acceptance = shorter.shorter_accepted

-- A list that is not refused is within the sizes, as the theorems above ask.
pub shorter_formula : (g : ShorterGiven) → Accepted (shorter_run g) → Within g.vars (clauses g.entries)
shorter_formula = shorter.accepted_within

-- What is refused returns zeros and writes nothing; otherwise the text is written and the rest stays.
pub shorter_refused_nothing : (g : ShorterGiven) (a : Refusal) → RunRefuses (shorter_run g) a
    → (shorter_report_of g ≡ record { run = record { answer = RunAnswer.Refused a; calls = 0; tries = 0; forced = 0; free = 0 }; length = 0 })
    × (shorter_text_after g ≡ g.text)
shorter_refused_nothing = shorter.shorter_nothing

pub shorter_writes : (g : ShorterGiven) → Accepted (shorter_run g)
    → (shorter_report_of g ≡ record { run = report_of_run (run (shorter_task g)); length = length (shorter_text (shorter_task g)) })
    × (take (length (shorter_text (shorter_task g))) (shorter_text_after g) ≡ shorter_text (shorter_task g))
    × (drop (length (shorter_text (shorter_task g))) (shorter_text_after g) ≡ drop (length (shorter_text (shorter_task g))) g.text)
    × (length (shorter_text_after g) ≡ length g.text)
shorter_writes = shorter.shorter_written

-- Of a text the shorter file of its run with budget 1,000,000 and chunk limit 16 is printed, or the line of its refusal; never more than 32,768 bytes.
pub shorter_printed : {text : List ℕ} {vars n : ℕ} {es : List ℤ} → Dimacs text vars n es → shorter_text_of text ≡ shorter_text (printed_task vars es)
shorter_printed = shorter-text.printed_shorter

pub shorter_printed_refused : (text : List ℕ) (a : ReadAnswer) → Refuses max_entries text a → shorter_text_of text ≡ refused_line (read_number a) (read_place a)
shorter_printed_refused = shorter-text.printed_refused

pub shorter_printed_bound : (text : List ℕ) → length (shorter_text_of text) ≤ max_text
shorter_printed_bound = shorter-text.length-shorter_text_of

-- ---- groups: switches with more than two positions

-- Setups that keep the file's clauses and models of the expanded list are the same thing, one for one.
pub setup_is_model : (sizes : List ℕ) (F : List Clause) (ks : List ℕ) → ValidSetup sizes F ks
    → Model (vars_in sizes) (expanded sizes F) (bytes_of sizes ks) × (setup_in sizes (bytes_of sizes ks) ≡ ks)
setup_is_model = group-theorems.setup_model

pub model_is_setup : (sizes : List ℕ) (F : List Clause) (m : Values) → Model (vars_in sizes) (expanded sizes F) m
    → ValidSetup sizes F (setup_in sizes m) × (bytes_of sizes (setup_in sizes m) ≡ m)
model_is_setup = group-theorems.model_setup

module _ (sizes : List ℕ) (F : List Clause) (task : Task)
    (vars : task.vars ≡ vars_in sizes) (formula : task.formula ≡ expanded sizes F) (limit : 1 ≤ task.limit) where
  -- Unless it is stopped, a run answers 20 exactly if there is no valid setup.
  pub no_setup_exactly : (run task).answer ≢ RunAnswer.Stopped → ((run task).answer ≡ RunAnswer.NoModel) ↔ ((ks : List ℕ) → ValidSetup sizes F ks → ⊥)
  no_setup_exactly = group-theorems.no_setup_exactly sizes F task vars formula limit

  module _ (settled : (run task).answer ≡ RunAnswer.Settled) (g k : ℕ) (o : ValueOf sizes g k) where
    -- With answer 0 a value is dead exactly if no valid setup uses it,
    pub dead_exactly : (status_at (run task).progress.statuses (index_in sizes g k) ≡ 3)
        ↔ ((ks : List ℕ) → ValidSetup sizes F ks → value_in ks g ≢ k)
    dead_exactly = group-theorems.dead_exactly sizes F task vars formula limit settled g k o

    -- settled exactly if every valid setup uses it, and there is one,
    pub value_settled_exactly : (status_at (run task).progress.statuses (index_in sizes g k) ≡ 2)
        ↔ (((ks : List ℕ) × ValidSetup sizes F ks) × ((ks : List ℕ) → ValidSetup sizes F ks → value_in ks g ≡ k))
    value_settled_exactly = group-theorems.settled_exactly sizes F task vars formula limit settled g k o

    -- and free exactly if one valid setup uses it and another one does not.
    pub value_free_exactly : (status_at (run task).progress.statuses (index_in sizes g k) ≡ 1)
        ↔ (((ks : List ℕ) × ValidSetup sizes F ks × (value_in ks g ≡ k)) × ((ks : List ℕ) × ValidSetup sizes F ks × (value_in ks g ≢ k)))
    value_free_exactly = group-theorems.free_exactly sizes F task vars formula limit settled g k o

-- A file of groups is accepted exactly if the buffers are long enough and the grammar derives it,
pub groups_agree : (g : GroupsGiven) → ((groups_reading_of g).answer ≡ GroupsAnswer.Accepted) ↔ (groups-read.Roomy g × groups-read.FileOf g.text)
groups_agree = groups-read.groups_accepted

-- and then gives its groups, the counts of the expanded list, its entries and the sizes.
pub groups_give : (g : GroupsGiven) (ss : List ℕ) (c : ℕ) (es : List ℤ) → groups-read.Roomy g → GroupsText g.text ss c es
    → (groups_reading_of g ≡ record {
      answer = GroupsAnswer.Accepted;
      groups = length ss;
      vars = vars_in ss;
      clauses = clauses_in ss c;
      entries = length (expanded_entries ss es);
    })
    × (groups_entries_after g ≡ filled (expanded_entries ss es) g.entries) × (groups_sizes_after g ≡ sizes_filled ss g.sizes)
groups_give = groups-read.groups_accepts

-- Each refusal number is given exactly when its rule says so, with no counts.
pub groups_refusals : (g : GroupsGiven) (a : GroupsAnswer) → a ≢ GroupsAnswer.Accepted
    → ((groups_reading_of g).answer ≡ a) ↔ GroupsRefuses (length g.entries) (length g.sizes) g.text a
groups_refusals = groups-read.groups_refuses

-- After 1 and 2 nothing is written; after the others there are zeros in front, and the rest is as it was.
pub groups_refused_nothing : (g : GroupsGiven) → 1 ≤ groups_number (groups_reading_of g).answer → groups_number (groups_reading_of g).answer ≤ 2
    → (groups_entries_after g ≡ g.entries) × (groups_sizes_after g ≡ g.sizes)
groups_refused_nothing = groups-read.groups_keeps

pub groups_refused_clears : (g : GroupsGiven) → 3 ≤ groups_number (groups_reading_of g).answer
    → (groups_entries_after g ≡ replicate 4096 (pos 0) ++ drop 4096 g.entries) × (groups_sizes_after g ≡ replicate 128 0 ++ drop 128 g.sizes)
groups_refused_clears = groups-read.groups_clears

-- What is accepted is refused by no run that has room.
pub groups_never_refused : {text ss : List ℕ} {c : ℕ} {es : List ℤ} (g : Given) → GroupsText text ss c es → g.entries ≡ expanded_entries ss es
    → g.vars ≡ vars_in ss → Lent g → Holdable g.vars g.held → Accepted g
groups_never_refused = groups-read.groups_runs

-- Files of groups, computed.
pub group_cases_lem : all group-tests.passes group-tests.group_cases ≡ true
group_cases_lem = group-tests.group_cases_lem

-- No table of groups is longer than 4,096 bytes, whatever the text.
pub groups_table_bound : (text : List ℕ) → length (groups_table_of text) ≤ max_groups_table
groups_table_bound = groups-text.length-groups_table_of

-- A refused text gets the line of its refusal and nothing else.
pub groups_table_refused : (text : List ℕ) (a : GroupsAnswer) → GroupsRefuses max_entries max_groups text a
    → groups_table_of text ≡ refused_line (groups_number a) (groups_place a)
groups_table_refused = groups-text.groups_table_refused

module _ {text ss : List ℕ} {c : ℕ} {es : List ℤ} (t : GroupsText text ss c es) where
  -- Any other gets the table of the run on its expanded list.
  pub groups_table_run : let k = table_task (vars_in ss) (expanded_entries ss es) [] in
      groups_table_of text ≡ groups_table_of_run ss (report_of_run (run k)) (run k).progress.statuses
  groups_table_run = groups-tables.groups_table_run t

  -- If that says 0, the line of a value says `dead` exactly if no valid setup uses it,
  pub value_dead : SaysAnswer 0 (groups_table_of text) → (g k : ℕ) → ValueOf ss g k
      → (line_at (groups_table_of text) (suc (index_in ss g k)) ≡ groups-tables.label g k ++ dead_word)
      ↔ ((ks : List ℕ) → ValidSetup ss (clauses es) ks → value_in ks g ≢ k)
  value_dead = groups-tables.value_dead t

  -- `settled` exactly if every valid setup uses it, and there is one,
  pub value_settled : SaysAnswer 0 (groups_table_of text) → (g k : ℕ) → ValueOf ss g k
      → (line_at (groups_table_of text) (suc (index_in ss g k)) ≡ groups-tables.label g k ++ settled_word)
      ↔ (((ks : List ℕ) × ValidSetup ss (clauses es) ks) × ((ks : List ℕ) → ValidSetup ss (clauses es) ks → value_in ks g ≡ k))
  value_settled = groups-tables.value_settled t

  -- and `free` exactly if one valid setup uses it and another one does not.
  pub value_free : SaysAnswer 0 (groups_table_of text) → (g k : ℕ) → ValueOf ss g k
      → (line_at (groups_table_of text) (suc (index_in ss g k)) ≡ groups-tables.label g k ++ free_word)
      ↔ (((ks : List ℕ) × ValidSetup ss (clauses es) ks × (value_in ks g ≡ k)) × ((ks : List ℕ) × ValidSetup ss (clauses es) ks × (value_in ks g ≢ k)))
  value_free = groups-tables.value_free t

  -- Unless it says 21, it says 20 exactly if there is no valid setup.
  pub table_no_setup : (SaysAnswer 21 (groups_table_of text) → ⊥)
      → SaysAnswer 20 (groups_table_of text) ↔ ((ks : List ℕ) → ValidSetup ss (clauses es) ks → ⊥)
  table_no_setup = groups-tables.table_no_setup t

-- Tables of groups, computed.
pub groups_tables_shown : all groups-text.passes groups-text.group_tables ≡ true
groups_tables_shown = groups-text.shown_groups

-- ---- claims of other tools

-- A file is accepted exactly if the formula is taken and the text says a model and claims whose trees hold.
pub claims_accepted : (g : ClaimsGiven) (n : ℕ)
    → (claims_answer g ≡ ClaimsAnswer.Accepted n) ↔ (FormulaTaken g × ClaimsFile g.vars (clauses g.entries) g.text n)
claims_accepted = claims.claims_accepted

-- Every literal that is claimed there is forced.
pub claims_forced : {vars : ℕ} {F : List Clause} {text : List ℕ} {m : Values} {cs : List Claim} → ClaimsText vars F text m cs
    → (c : Claim) → In c cs → Forced vars F c.literal
claims_forced = claims.claims_forced

-- A text says one model and one list of claims.
pub claims_unique : {text : List ℕ} (m d : Values) (cs bs : List Claim) → Total m → Total d → Tokens text (file_numbers m cs)
    → Tokens text (file_numbers d bs) → (m ≡ d) × (cs ≡ bs)
claims_unique = claims.claims_unique

-- A file written plainly from a model and claims whose trees hold, within 32,768 bytes, is accepted.
pub claims_plain : (g : ClaimsGiven) (m : Values) (cs : List Claim) → FormulaTaken g → Model g.vars (clauses g.entries) m
    → ((c : Claim) → In c cs → Claimed g.vars (clauses g.entries) c) → g.text ≡ plain_claims m cs → length (plain_claims m cs) ≤ max_text
    → claims_answer g ≡ ClaimsAnswer.Accepted (length cs)
claims_plain = claims.claims_plain

-- Each refusal and rejection is given, with its place, exactly if its rule says so.
pub claims_refusals : (g : ClaimsGiven) (a : ClaimsAnswer) → ((n : ℕ) → a ≢ ClaimsAnswer.Accepted n) → (claims_answer g ≡ a) ↔ ClaimsRefuses g a
claims_refusals = claims.claims_refuses

-- The place of a rejection, of a malformed token and of a text that is too long is at most 32,768.
pub claims_place_lem : (g : ClaimsGiven) → claims_place (judge_claims g) ≤ max_text
claims_place_lem = claims.claims_place_lem

-- ---- the printed table

-- No table is longer than 9,216 bytes, whatever the text and the held literals.
pub table_bound : (text : List ℕ) (held : List ℤ) → length (table_of text held) ≤ max_table
table_bound = table-laws.length-table_of

-- A refused text gets the line of its refusal and nothing else.
pub table_refused : (text : List ℕ) (held : List ℤ) (a : ReadAnswer) → Refuses max_entries text a
    → table_of text held ≡ refused_line (read_number a) (read_place a)
table_refused = tables.table_refused

-- So does an accepted text with more than 256 held literals,
pub table_many_held : {text : List ℕ} {vars n : ℕ} {es : List ℤ} → Dimacs text vars n es → (held : List ℤ) → max_held < length held
    → table_of text held ≡ refused_line 15 256
table_many_held d = tables.table_many_held d

-- and one with a held literal that is 0 or above V, by the first of them.
pub table_bad_held : {text : List ℕ} {vars n : ℕ} {es : List ℤ} → Dimacs text vars n es → (held : List ℤ) → length held ≤ max_held
    → (front : List ℤ) (l : ℤ) (back : List ℤ) → held ≡ front ++ l ∷ back → ((k : ℤ) → In k front → LitUpTo vars k)
    → (var_of l ≡ 0) ⊎ (vars < var_of l) → table_of text held ≡ refused_line 13 (length front)
table_bad_held d = tables.table_bad_held d

module _ {text : List ℕ} {vars n : ℕ} {es : List ℤ} (d : Dimacs text vars n es) {held : List ℤ} (h : Holdable vars held) where
  -- The table of a text is that of the run on its entries with the held literals, with budget 1,000,000 and chunk limit 16.
  pub table_of_run_lem : table_of text held ≡ table_of_run vars (report_of_run (run (table_task vars es held)))
      (run (table_task vars es held)).progress.statuses
      (hints_of (table_task vars es held))
  table_of_run_lem = tables.table_of_run_lem d h

  -- If its first line says answer 0, the line of a variable says `forced on` exactly if a model exists and all models make it true,
  pub table_forced_on : SaysAnswer 0 (table_of text held) → (i : ℕ) → i < vars
      → (line_at (table_of text held) (suc i) ≡ decimal (suc i) ++
      (forced_word ++ on_word ++ held_word ++ decimal (get_or (hints_of (table_task vars es held)) i 0)))
      ↔ Forced vars (with_held (clauses es) held) (pos (suc i))
  table_forced_on = tables.table_forced_on d h

  -- `forced off` exactly if a model exists and all models make it false,
  pub table_forced_off : SaysAnswer 0 (table_of text held) → (i : ℕ) → i < vars
      → (line_at (table_of text held) (suc i) ≡ decimal (suc i) ++
      (forced_word ++ off_word ++ held_word ++ decimal (get_or (hints_of (table_task vars es held)) i 0)))
      ↔ Forced vars (with_held (clauses es) held) (negsuc i)
  table_forced_off = tables.table_forced_off d h

  -- and `free` exactly if two models differ on it.
  pub table_free : SaysAnswer 0 (table_of text held) → (i : ℕ) → i < vars
      → (line_at (table_of text held) (suc i) ≡ decimal (suc i) ++ free_word) ↔ Free vars (with_held (clauses es) held) i
  table_free = tables.table_free d h

  -- Unless its first line says answer 21, it says 20 exactly if there is no model.
  pub table_no_model : (SaysAnswer 21 (table_of text held) → ⊥) → SaysAnswer 20 (table_of text held) ↔ NoModel vars (with_held (clauses es) held)
  table_no_model = tables.table_no_model d h

-- ---- why a literal is forced

-- What is printed is never longer than max_why, and no second result meets its contract.
pub why_text_bound : (text : List ℕ) (l : ℤ) → length (why_text_of text l) ≤ max_why
why_text_bound = reason-text.length-why_text_of

pub prints_why_unique : {text : List ℕ} {l : ℤ} {before : List ℕ} {n n' : ℕ} {b b' : List ℕ}
    → PrintsWhy text l before n b → PrintsWhy text l before n' b' → (n ≡ n') × (b ≡ b')
prints_why_unique = reason-text.prints_why_unique

-- Of an accepted text nothing is refused but the literal.
pub why_only_literal : {text : List ℕ} {vars n : ℕ} {es : List ℤ} → Dimacs text vars n es → (l : ℤ) (a : Refusal)
    → WhyRefuses (why_asked vars es l) a → a ≡ Refusal.BadLiteral 0
why_only_literal = reason-text.why_only_literal

-- ---- computed cases: each is a table whose lines are compared with what the definitions give

-- An answer of each kind, as it is printed.
pub why_shown : all reason-text.passes reason-text.answers ≡ true
why_shown = reason-text.why_shown

-- The shorter file of small formulas, and what is refused.
pub shorter_cases_lem : all shorter-runs.passes shorter-runs.shorter_cases ≡ true
shorter_cases_lem = shorter-runs.shorter_cases_lem

pub shorter_edges_lem : all shorter-runs.edge_passes shorter-runs.shorter_edges ≡ true
shorter_edges_lem = shorter-runs.shorter_edges_lem

pub shown_shorter : all shorter-text.passes shorter-text.answers ≡ true
shown_shorter = shorter-text.shown_shorter

-- Small files of claims, with answer, place and number of claims; and texts over 32,768 bytes.
pub claims_cases_lem : all checked-files.passes checked-files.claims_cases ≡ true
claims_cases_lem = checked-files.claims_cases_lem

pub claims_long : (claims_answer (claims_given [] 0 (replicate 32769 120)) ≡ ClaimsAnswer.LongText)
    × (claims_answer (claims_given [] 0 (replicate 32768 32)) ≡ ClaimsAnswer.Rejected 32768)
claims_long = checked-files.claims_long

-- The small texts, with number and place.
pub small_texts_lem : all reading.passes reading.small_texts ≡ true
small_texts_lem = reading.small_texts_lem

-- The last size that passes and the first one that is refused, with number and place: texts, and lists and limits of a run.
pub text_edges_lem : all edges.text_passes edges.text_edges ≡ true
text_edges_lem = edges.text_edges_lem

pub run_edges_lem : all edges.run_passes edges.run_edges ≡ true
run_edges_lem = edges.run_edges_lem

-- Printed tables with each word that a table may have.
pub shown : all printed.passes printed.tables ≡ true
shown = printed.shown

-- Printed witnesses, and a line for each kind of refusal.
pub shown_witnesses : all witness-text.passes witness-text.answers ≡ true
shown_witnesses = witness-text.shown_witnesses

-- ---- no second result

-- One number and one buffer satisfy the printed witness's contract.
pub prints_witness_unique : {text : List ℕ} {v : ℕ} {before : List ℕ} {n n' : ℕ} {b b' : List ℕ}
    → PrintsWitness text v before n b → PrintsWitness text v before n' b' → (n ≡ n') × (b ≡ b')
prints_witness_unique = witness-text.prints_witness_unique

-- One result and one buffer satisfy the reader's contract.
pub reads_unique : {text : List ℕ} {before : List ℤ} {r r' : Reading} {b b' : List ℤ}
    → Reads text before r b → Reads text before r' b' → (r ≡ r') × (b ≡ b')
reads_unique = reading.reads_unique

-- One result and one buffer satisfy the contract of the shorter file.
pub shortens_exists : (g : ShorterGiven) → Shortens g (shorter_report_of g) (shorter_text_after g)
shortens_exists = shorter.shortens_exists

pub shortens_unique : {g : ShorterGiven} {r r' : ShorterReport} {b b' : List ℕ} → Shortens g r b → Shortens g r' b' → (r ≡ r') × (b ≡ b')
shortens_unique = shorter.shortens_unique

pub prints_shorter_unique : {text before : List ℕ} {n n' : ℕ} {b b' : List ℕ}
    → PrintsShorter text before n b → PrintsShorter text before n' b' → (n ≡ n') × (b ≡ b')
prints_shorter_unique = shorter-text.prints_shorter_unique

-- One result and one content of both buffers satisfy the contract of a reading of groups, and one number and one buffer that of their table.
pub reads_groups_unique : {g : GroupsGiven} {r r' : GroupsReading} {es es' : List ℤ} {ss ss' : List ℕ} → ReadsGroups g r es ss
    → ReadsGroups g r' es' ss' → (r ≡ r') × (es ≡ es') × (ss ≡ ss')
reads_groups_unique = groups-read.reads_groups_unique

pub prints_groups_unique : {text before : List ℕ} {n n' : ℕ} {b b' : List ℕ} → PrintsGroups text before n b → PrintsGroups text before n' b'
    → (n ≡ n') × (b ≡ b')
prints_groups_unique = groups-text.prints_groups_unique

-- One result satisfies the contract of claims.
pub checks_exists : (g : ClaimsGiven) → Checks g (claims_answer g)
checks_exists = claims.checks_exists

pub checks_unique : {g : ClaimsGiven} {r r' : ClaimsAnswer} → Checks g r → Checks g r' → r ≡ r'
checks_unique = claims.checks_unique

-- One number and one buffer satisfy the printed table's contract.
pub prints_unique : {text : List ℕ} {held : List ℤ} {before : List ℕ} {n n' : ℕ} {b b' : List ℕ}
    → Prints text held before n b → Prints text held before n' b' → (n ≡ n') × (b ≡ b')
prints_unique = printed.prints_unique
