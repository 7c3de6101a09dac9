-- What we promise of a reading of groups (docs/RULES.md, "Groups"): what a caller sees, for every text and all buffers.
--
--   accepted_of                   the answer of the number 0
--   groups_accepted               accepted exactly if the buffers are long enough and the grammar derives the text
--   groups_accepts                then with its groups, the counts and entries of the expanded list, and the sizes
--   groups_refuses, groups_refused     refused with a number exactly if the rule of that number says so; no counts then
--   groups_keeps, groups_clears   after 1 and 2 nothing is written; after the other refusals there are zeros
--   reads_groups_exists, reads_groups_unique     there is a result that meets the contract, and no second one
--   length_groups                 nothing beyond the buffers is written
--   groups_runs, groups_task      what is accepted is refused by no run that has room; what that run is on
--
-- Assumes nothing.
use mathlib.Core.Path.{◌≡◌, refl, sym, ◌∙◌, ap, ap₂}
use mathlib.Core.Logic.{◌≢◌, ◌↔◌}
use mathlib.Core.Bool.{Bool, true, false}
use mathlib.Core.List.{List, [], ◌++◌, append-nil}
use Prim.Native.Nat.{ℕ, ◌≤◌}
use native.Mathlib.Omega.{arith}
use lib.IntN.{ℤ, pos}
use lib.ListN.{length, drop, replicate, length-append, length-replicate, length-drop}
use borrow.Author.Tests.{le-leb, lt-leb}
use Rattle.rules.specs.declared.GroupsAnswer.{GroupsAnswer}
use Rattle.rules.specs.declared.GroupsReading.{GroupsReading}
use Rattle.rules.specs.Numbers.{max_entries, groups_number}
use Rattle.rules.specs.Meaning.{clauses}
use Rattle.texts.specs.Reading.{filled}
use Rattle.rules.specs.Held.{with_held, Holdable}
use Rattle.rules.specs.Answer.{Given, task_of}
use Rattle.rules.specs.RunRefusals.{Lent, Accepted}
use Rattle.texts.specs.Groups.{max_groups, vars_in, expanded, expanded_entries}
use Rattle.texts.specs.GroupsReading.{GroupsJudged, accepted, refused, clauses_in, groups_returned, sizes_filled, clears, cleared_if}
use Rattle.texts.specs.GroupsReading.{entries_written, sizes_written, GroupsGiven, judged_of, groups_reading_of, groups_entries_after}
use Rattle.texts.specs.GroupsReading.{groups_sizes_after, ReadsGroups}
use Rattle.texts.specs.GroupsGrammar.{GroupsText}
use Rattle.texts.specs.GroupsRefusals.{GroupsBegun, GroupsRefuses, short_buffer, long_text, at_token, short_text, long_list}
use Rattle.texts.proofs.GrammarLaws.{count_clauses_of}
use Rattle.texts.proofs.TextTheorems.{is_ended_of_clauses_of}
use Rattle.texts.proofs.ReadingTheorems.{length-filled}
use Rattle.texts.proofs.GroupTheorems.{expanded-clauses, expanded_clauses_of, expanded_up_to}
use Rattle.texts.proofs.GroupsJudged.{GroupsVerdict, refuses, accepts, judge_of_verdict, verdict_of_judge}
use Rattle.texts.proofs.GroupsAccepted.{text_of_whole, whole_of_text}

-- no rule answers "accepted"
never_accepted : {entries sizes : ℕ} {text : List ℕ} → GroupsRefuses entries sizes text GroupsAnswer.Accepted → ⊥
never_accepted (at_token before t after b e p s) = elim s [ ]

length-sizes_filled : (ss before : List ℕ) → length ss ≤ max_groups → max_groups ≤ length before → length (sizes_filled ss before) ≡ length before
length-sizes_filled ss before h k = simp (length-append, length-replicate, length-drop) (omega arith)

-- the answer of the number 0
pub accepted_of : (a : GroupsAnswer) → groups_number a ≡ 0 → a ≡ GroupsAnswer.Accepted
accepted_of GroupsAnswer.Accepted h = refl
accepted_of GroupsAnswer.ShortBuffer h = absurd (omega (arith, h))
accepted_of GroupsAnswer.LongText h = absurd (omega (arith, h))
accepted_of (GroupsAnswer.OverSizes at) h = absurd (omega (arith, h))
accepted_of (GroupsAnswer.BadToken at) h = absurd (omega (arith, h))
accepted_of (GroupsAnswer.TokenBehind at) h = absurd (omega (arith, h))
accepted_of (GroupsAnswer.TokenOverVars at) h = absurd (omega (arith, h))
accepted_of (GroupsAnswer.ShortText at) h = absurd (omega (arith, h))
accepted_of GroupsAnswer.LongList h = absurd (omega (arith, h))
accepted_of (GroupsAnswer.BadGroup at) h = absurd (omega (arith, h))

-- the buffers are long enough
pub record Roomy (g : GroupsGiven) : Type 0 where
  pub entries_fit : max_entries ≤ length g.entries
  pub sizes_fit : max_groups ≤ length g.sizes

-- a file that a text says
pub record FileOf (text : List ℕ) : Type 0 where
  pub sizes : List ℕ
  pub clauses : ℕ
  pub entries : List ℤ
  pub says : GroupsText text sizes clauses entries

module _ (g : GroupsGiven) where
  verdict : {j : GroupsJudged} → judged_of g ≡ j → GroupsVerdict (length g.entries) (length g.sizes) g.text j
  unfolding judged_of
  verdict e = verdict_of_judge (length g.entries) (length g.sizes) g.text e

  judged : {j : GroupsJudged} → GroupsVerdict (length g.entries) (length g.sizes) g.text j → judged_of g ≡ j
  unfolding judged_of
  judged v = judge_of_verdict v

  judged_text : {ss : List ℕ} {c : ℕ} {es : List ℤ} → Roomy g → GroupsText g.text ss c es → judged_of g ≡ accepted ss c es
  judged_text r t = judged (accepts (whole_of_text (length g.entries) (length g.sizes) r.entries_fit r.sizes_fit t))

  -- ---- accepted

  -- A text that the grammar derives gets its groups, the counts of the expanded list, its entries and the sizes.
  pub groups_accepts : (ss : List ℕ) (c : ℕ) (es : List ℤ) → Roomy g → GroupsText g.text ss c es
      → (groups_reading_of g ≡ record {
        answer = GroupsAnswer.Accepted;
        groups = length ss;
        vars = vars_in ss;
        clauses = clauses_in ss c;
        entries = length (expanded_entries ss es);
      })
      × (groups_entries_after g ≡ filled (expanded_entries ss es) g.entries) × (groups_sizes_after g ≡ sizes_filled ss g.sizes)
  unfolding groups_reading_of groups_entries_after groups_sizes_after
  groups_accepts ss c es r t =
      let e = judged_text r t in
      (ap groups_returned e, ap (λ (j : GroupsJudged). entries_written j g.entries) e, ap (λ (j : GroupsJudged). sizes_written j g.sizes) e)

  -- A text is accepted exactly if the buffers are long enough and the grammar derives it.
  pub groups_accepted : ((groups_reading_of g).answer ≡ GroupsAnswer.Accepted) ↔ (Roomy g × FileOf g.text)
  unfolding groups_reading_of
  groups_accepted = (
    λ e. go (judged_of g) refl e,
    λ w. ap (λ (j : GroupsJudged). (groups_returned j).answer) (judged_text w.0 w.1.says),
  )
    where
      whole : {ss : List ℕ} {c : ℕ} {es : List ℤ} → GroupsVerdict (length g.entries) (length g.sizes) g.text (accepted ss c es)
          → Roomy g × FileOf g.text
      whole {ss} {c} {es} (accepts w) = (
        record { entries_fit = w.begun.entries_fit; sizes_fit = w.begun.sizes_fit },
        record { sizes = ss; clauses = c; entries = es; says = text_of_whole w },
      )

      none : GroupsVerdict (length g.entries) (length g.sizes) g.text (refused GroupsAnswer.Accepted) → ⊥
      none (refuses r) = never_accepted r

      go : (j : GroupsJudged) → judged_of g ≡ j → (groups_returned j).answer ≡ GroupsAnswer.Accepted → Roomy g × FileOf g.text
      go (accepted ss c es) q e = whole (verdict q)
      go (refused a) q e = absurd (none (verdict (q ∙ ap refused e)))

  -- ---- refused

  -- A text gets the answer of a refusal exactly if the rule for that answer says so.
  pub groups_refuses : (a : GroupsAnswer) → a ≢ GroupsAnswer.Accepted
      → ((groups_reading_of g).answer ≡ a) ↔ GroupsRefuses (length g.entries) (length g.sizes) g.text a
  unfolding groups_reading_of
  groups_refuses a n = (
    λ e. go (judged_of g) refl e,
    λ r. ap (λ (j : GroupsJudged). (groups_returned j).answer) (judged (refuses r)),
  )
    where
      rule : GroupsVerdict (length g.entries) (length g.sizes) g.text (refused a)
          → GroupsRefuses (length g.entries) (length g.sizes) g.text a
      rule (refuses r) = r

      go : (j : GroupsJudged) → judged_of g ≡ j → (groups_returned j).answer ≡ a → GroupsRefuses (length g.entries) (length g.sizes) g.text a
      go (accepted ss c es) q e = absurd (n (sym e))
      go (refused b) q e = rule (verdict (q ∙ ap refused e))

  -- A refused reading returns no counts, and its buffers are as the answer says.
  pub groups_refused : (a : GroupsAnswer) → GroupsRefuses (length g.entries) (length g.sizes) g.text a
      → (groups_reading_of g ≡ record { answer = a; groups = 0; vars = 0; clauses = 0; entries = 0 })
      × (groups_entries_after g ≡ cleared_if (clears a) (filled [] g.entries) g.entries)
      × (groups_sizes_after g ≡ cleared_if (clears a) (sizes_filled [] g.sizes) g.sizes)
  unfolding groups_reading_of groups_entries_after groups_sizes_after
  groups_refused a r =
      let e = judged (refuses r) in
      (ap groups_returned e, ap (λ (j : GroupsJudged). entries_written j g.entries) e, ap (λ (j : GroupsJudged). sizes_written j g.sizes) e)

  -- After 1 and 2 nothing is written.
  pub groups_keeps : 1 ≤ groups_number (groups_reading_of g).answer → groups_number (groups_reading_of g).answer ≤ 2
      → (groups_entries_after g ≡ g.entries) × (groups_sizes_after g ≡ g.sizes)
  unfolding groups_reading_of groups_entries_after groups_sizes_after
  groups_keeps h k = go (judged_of g) h k
    where
      go : (j : GroupsJudged) → 1 ≤ groups_number (groups_returned j).answer → groups_number (groups_returned j).answer ≤ 2
          → (entries_written j g.entries ≡ g.entries) × (sizes_written j g.sizes ≡ g.sizes)
      go (accepted ss c es) h k = absurd (omega arith)
      go (refused a) h k = rw (lt-leb 3 (groups_number a) (omega arith)) (refl, refl)

  -- After the other refusals the first 4,096 entries and the first 128 sizes are zeros, and the rest is as it was.
  pub groups_clears : 3 ≤ groups_number (groups_reading_of g).answer
      → (groups_entries_after g ≡ replicate 4096 (pos 0) ++ drop 4096 g.entries) × (groups_sizes_after g ≡ replicate 128 0 ++ drop 128 g.sizes)
  unfolding groups_reading_of groups_entries_after groups_sizes_after
  groups_clears h = go (judged_of g) h
    where
      go : (j : GroupsJudged) → 3 ≤ groups_number (groups_returned j).answer
          → (entries_written j g.entries ≡ replicate 4096 (pos 0) ++ drop 4096 g.entries)
          × (sizes_written j g.sizes ≡ replicate 128 0 ++ drop 128 g.sizes)
      go (accepted ss c es) h = absurd (omega arith)
      go (refused a) h = rw (le-leb 3 (groups_number a) h) (refl, refl)

  -- ---- the contract

  -- There is a result that meets the contract.
  pub reads_groups_exists : ReadsGroups g (groups_reading_of g) (groups_entries_after g) (groups_sizes_after g)
  reads_groups_exists = record { result_is = refl; entries_are = refl; sizes_are = refl }

  -- ---- the buffers

  -- after 1 and 2 as they are lent, after the others long enough
  length-cleared : {a : GroupsAnswer} → GroupsRefuses (length g.entries) (length g.sizes) g.text a
      → (length (cleared_if (clears a) (filled [] g.entries) g.entries) ≡ length g.entries)
      × (length (cleared_if (clears a) (sizes_filled [] g.sizes) g.sizes) ≡ length g.sizes)
  length-cleared (short_buffer h) = (refl, refl)
  length-cleared (long_text h k l) = (refl, refl)
  length-cleared {a} (at_token before t after b e p s) = lengths b (clears a)
    where
      lengths : GroupsBegun (length g.entries) (length g.sizes) g.text → (c : Bool)
          → (length (cleared_if c (filled [] g.entries) g.entries) ≡ length g.entries)
          × (length (cleared_if c (sizes_filled [] g.sizes) g.sizes) ≡ length g.sizes)
      lengths b true = (length-filled [] g.entries (omega arith) b.entries_fit, length-sizes_filled [] g.sizes (omega arith) b.sizes_fit)
      lengths b false = (refl, refl)
  length-cleared (short_text b p u) =
      (length-filled [] g.entries (omega arith) b.entries_fit, length-sizes_filled [] g.sizes (omega arith) b.sizes_fit)
  length-cleared (long_list b p h k) =
      (length-filled [] g.entries (omega arith) b.entries_fit, length-sizes_filled [] g.sizes (omega arith) b.sizes_fit)

  -- A reading writes nothing beyond the buffers that are lent.
  pub length_groups : (length (groups_entries_after g) ≡ length g.entries) × (length (groups_sizes_after g) ≡ length g.sizes)
  unfolding groups_entries_after groups_sizes_after
  length_groups = go (verdict refl)
    where
      go : {j : GroupsJudged} → GroupsVerdict (length g.entries) (length g.sizes) g.text j
          → (length (entries_written j g.entries) ≡ length g.entries) × (length (sizes_written j g.sizes) ≡ length g.sizes)
      go (refuses r) = length-cleared r
      go (accepts {ss} {c} {es} w) = (
        length-filled (expanded_entries ss es) g.entries w.list_fits w.begun.entries_fit,
        length-sizes_filled ss g.sizes (text_of_whole w).sizes_fit.groups_fit w.begun.sizes_fit,
      )

-- No second result meets the contract.
pub reads_groups_unique : {g : GroupsGiven} {r r' : GroupsReading} {es es' : List ℤ} {ss ss' : List ℕ} → ReadsGroups g r es ss
    → ReadsGroups g r' es' ss' → (r ≡ r') × (es ≡ es') × (ss ≡ ss')
reads_groups_unique p q = (p.result_is ∙ sym q.result_is, p.entries_are ∙ sym q.entries_are, p.sizes_are ∙ sym q.sizes_are)

-- ---- from a text to its run

-- The expanded list of a text that the grammar derives is refused by no run that has room, with literals that may be held.
pub groups_runs : {text ss : List ℕ} {c : ℕ} {es : List ℤ} (g : Given) → GroupsText text ss c es → g.entries ≡ expanded_entries ss es
    → g.vars ≡ vars_in ss → Lent g → Holdable g.vars g.held → Accepted g
groups_runs {ss = ss} {c = c} {es = es} g t e v l h =
    let x = expanded_clauses_of ss t.exactly in
    record {
      listed =
          record {
            lent = l;
            entries_fit = rw e t.list_entries_fit;
            ended = rw e (is_ended_of_clauses_of x);
            clauses_fit = rw e (omega (arith, count_clauses_of x, t.list_clauses_fit));
          };
      up_to = rw (e, v) (expanded_up_to ss es t.up_to);
      holdable = h;
    }

-- With no literal held, the run is on the expanded list of the file's clauses.
pub groups_task : (ss : List ℕ) (es : List ℤ) (g : Given) → g.entries ≡ expanded_entries ss es → g.held ≡ []
    → (task_of g).formula ≡ expanded ss (clauses es)
groups_task ss es g e h =
    ap₂ (λ (xs held : List ℤ). with_held (clauses xs) held) e h ∙ append-nil (clauses (expanded_entries ss es)) ∙ expanded-clauses ss es
