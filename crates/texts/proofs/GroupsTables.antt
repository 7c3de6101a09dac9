-- The printed groups say what setups say (docs/RULES.md, "The printed groups"): for every file of the grammar they are the table of the run
-- on the expanded list, and the line of each value says that value's status.
--
--   groups_table_run  the table of a file is that of its run
--   value_dead, value_settled, value_free     what a table that says 0 says of a value
--   table_no_setup    when it says that there is no valid setup
--
-- Assumes nothing.
use mathlib.Core.Path.{◌≡◌, refl, sym, ◌∙◌, ap, ap₂}
use mathlib.Core.Logic.{◌≢◌, ◌⊎◌, inl, inr, ◌↔◌}
use mathlib.Core.Bool.{false, cond}
use mathlib.Core.List.{List, [], ◌∷◌, ◌++◌, append_assoc, append-nil, append_cancel_left}
use mathlib.Core.Option.{none}
use Prim.Native.Nat.{ℕ, zero, suc, pred, ◌+◌, ◌≤◌, ◌<◌}
use native.Mathlib.Omega.{arith}
use lib.Dec.{eqb}
use lib.IntN.{ℤ}
use lib.ListN.{length, get_or, take, drop, replicate, length-replicate, length-drop, drop_of_length-le}
use lib.Seq.{length-take-le, get_or-take, get_or-drop}
use Rattle.rules.specs.declared.RunAnswer.{RunAnswer}
use Rattle.rules.specs.Lists.{any, cut, pieces}
use Rattle.rules.specs.Numbers.{run_number}
use Rattle.texts.specs.Text.{is_lf}
use Rattle.rules.specs.Meaning.{clauses}
use Rattle.texts.specs.Plain.{decimal}
use Rattle.rules.specs.Run.{Task, status_at, run}
use Rattle.rules.specs.Answer.{refusal_of, report_of_run, report_of, status_after}
use Rattle.texts.specs.Printed.{free_word, answer_line}
use Rattle.texts.specs.Tables.{line_at, SaysAnswer, table_task}
use Rattle.texts.specs.Groups.{vars_in, expanded, expanded_entries, ValidSetup, ValueOf, index_in, value_in}
use Rattle.texts.specs.GroupsGrammar.{GroupsText}
use Rattle.texts.specs.GroupsPrinted.{settled_word, dead_word, value_word, value_line, group_lines, groups_table_by, groups_table_of_run, groups_run}
use Rattle.texts.specs.GroupsPrinted.{groups_table_of}
use Rattle.texts.proofs.CutLaws.{cut_piece}
use Rattle.rules.proofs.RunTheorems.{run_answer_lem, run_statuses}
use Rattle.rules.proofs.RefusedRuns.{run_accepted}
use Rattle.texts.proofs.TableTheorems.{no_lf_append, no_lf_decimal, first_line_lem, answered}
use Rattle.texts.proofs.GroupTheorems.{dead_exactly, settled_exactly, free_exactly, no_setup_exactly}
use Rattle.texts.proofs.GroupsRead.{groups_task}
use Rattle.texts.proofs.GroupsText.{groups_run_accepted, groups_table_list}

-- ---- lines

-- `g:k` and a word
abbrev pub label : ℕ → ℕ → List ℕ
label g k = decimal g ++ 58 ∷ decimal k

no_lf_word : (s : ℕ) → any is_lf (value_word s) ≡ false
no_lf_word zero = refl
no_lf_word (suc zero) = refl
no_lf_word (suc (suc zero)) = refl
no_lf_word (suc (suc (suc s))) = refl

no_lf_line : (g k s : ℕ) → any is_lf (label g k ++ value_word s) ≡ false
no_lf_line g k s =
    no_lf_append (label g k) (value_word s) (no_lf_append (decimal g) (58 ∷ decimal k) (no_lf_decimal g) (rw (no_lf_decimal k))) (no_lf_word s)

values_cons : (g k s : ℕ) (ss rest : List ℕ)
    → cut is_lf (pieces (value_line g) k (s ∷ ss) ++ rest) ≡ (label g k ++ value_word s) ∷ cut is_lf (pieces (value_line g) (suc k) ss ++ rest)
values_cons g k s ss rest =
    ap (cut is_lf)
    (append_assoc (value_line g k s) (pieces (value_line g) (suc k) ss) rest ∙
    append_assoc (label g k ++ value_word s) (10 ∷ []) (pieces (value_line g) (suc k) ss ++ rest)) ∙
    cut_piece is_lf (label g k ++ value_word s) 10 (pieces (value_line g) (suc k) ss ++ rest) (no_lf_line g k s) refl

-- the line of a value, and the lines behind those of a group
values_line : (g k : ℕ) (ss rest : List ℕ) (i : ℕ) → i < length ss
    → get_or (cut is_lf (pieces (value_line g) k ss ++ rest)) i [] ≡ label g (k + i) ++ value_word (status_at ss i)
values_line g k [] rest i h = absurd (omega arith)
values_line g k (s ∷ ss) rest zero h =
    ap (λ (xss : List (List ℕ)). get_or xss 0 []) (values_cons g k s ss rest) ∙ ap (λ (j : ℕ). label g j ++ value_word s) (omega arith)
values_line g k (s ∷ ss) rest (suc i) h =
    ap (λ (xss : List (List ℕ)). get_or xss (suc i) []) (values_cons g k s ss rest) ∙ values_line g (suc k) ss rest i (omega arith) ∙
    ap (λ (j : ℕ). label g j ++ value_word (status_at ss i)) (omega arith)

values_behind : (g k : ℕ) (ss rest : List ℕ) (i : ℕ)
    → get_or (cut is_lf (pieces (value_line g) k ss ++ rest)) (length ss + i) [] ≡ get_or (cut is_lf rest) i []
values_behind g k [] rest i = ap (λ (j : ℕ). get_or (cut is_lf rest) j []) (omega arith)
values_behind g k (s ∷ ss) rest i =
    ap (λ (j : ℕ). get_or (cut is_lf (pieces (value_line g) k (s ∷ ss) ++ rest)) j []) (omega arith) ∙
    ap (λ (xss : List (List ℕ)). get_or xss (suc (length ss + i)) []) (values_cons g k s ss rest) ∙
    values_behind g (suc k) ss rest i

groups_line : (g : ℕ) (ns ss : List ℕ) → vars_in ns ≤ length ss → (h k : ℕ) → ValueOf ns h k
    → get_or (cut is_lf (group_lines g ns ss)) (index_in ns h k) [] ≡ label (g + pred h) k ++ value_word (status_at ss (index_in ns h k))
groups_line g [] ss enough h k o = absurd (omega (arith, o.group_some, o.group_most))
groups_line g (n ∷ ns) ss enough zero k o = absurd (omega (arith, o.group_some))
groups_line g (n ∷ ns) ss enough (suc zero) k o =
    let few : length (take n ss) ≡ n = length-take-le n ss (omega arith) in
    ap (λ (i : ℕ). get_or (cut is_lf (group_lines g (n ∷ ns) ss)) i []) (omega arith) ∙
    values_line g 1 (take n ss) (group_lines (suc g) ns (drop n ss)) (pred k) (omega (arith, few, o.some, o.most)) ∙
    ap₂ (λ (j s : ℕ). label g j ++ value_word s) (omega (arith, o.some)) (get_or-take n ss (pred k) 1 (omega (arith, o.some, o.most))) ∙
    ap₂ (λ (f i : ℕ). label f k ++ value_word (status_at ss i)) (omega arith) (omega arith)
groups_line g (n ∷ ns) ss enough (suc (suc h)) k o =
    let few : length (take n ss) ≡ n = length-take-le n ss (omega arith) in
    let p : ValueOf ns (suc h) k = record {
      group_some = omega arith;
      group_most = omega (arith, o.group_most);
      some = o.some;
      most = o.most;
    } in
    let i = index_in ns (suc h) k in
    ap (λ (j : ℕ). get_or (cut is_lf (group_lines g (n ∷ ns) ss)) j []) (omega (arith, few)) ∙
    values_behind g 1 (take n ss) (group_lines (suc g) ns (drop n ss)) i ∙
    groups_line (suc g) ns (drop n ss) (omega (arith, length-drop n ss)) (suc h) k p ∙
    ap₂ (λ (f s : ℕ). label f k ++ value_word s) (omega arith) (get_or-drop n ss i 1 ∙ ap (status_at ss) (omega arith))

-- ---- a word is that of one status

-- `o` of `open`, `f` of `free`, `s` of `settled`
abbrev status_of : List ℕ → ℕ
status_of word = cond (eqb (get_or word 1 0) 111) 0 (cond (eqb (get_or word 1 0) 102) 1 (cond (eqb (get_or word 1 0) 115) 2 3))

status_of_word : (s : ℕ) → s ≤ 3 → status_of (value_word s) ≡ s
status_of_word zero h = refl
status_of_word (suc zero) h = refl
status_of_word (suc (suc zero)) h = refl
status_of_word (suc (suc (suc zero))) h = refl
status_of_word (suc (suc (suc (suc s)))) h = absurd (omega arith)

word_inj : (s t : ℕ) → s ≤ 3 → t ≤ 3 → value_word s ≡ value_word t → s ≡ t
word_inj s t h k e = sym (status_of_word s h) ∙ ap status_of e ∙ status_of_word t k

-- ---- the table of a file

module _ {text ss : List ℕ} {c : ℕ} {es : List ℤ} (t : GroupsText text ss c es) where
  -- the run of the table on the expanded list
  abbrev k : Task
  k = table_task (vars_in ss) (expanded_entries ss es) []

  pub groups_table_run : groups_table_of text ≡ groups_table_of_run ss (report_of_run (run k)) (run k).progress.statuses
  unfolding report_of status_after
  groups_table_run =
      groups_table_list t ∙
      rw ok (ap (groups_table_of_run ss (report_of_run (run k))) whole)
    where
      ok : refusal_of (groups_run ss (expanded_entries ss es)) ≡ none
      ok = (run_accepted (groups_run ss (expanded_entries ss es))).1 (groups_run_accepted t)

      whole : (run k).progress.statuses ++ drop (vars_in ss) (replicate (vars_in ss) 0) ≡ (run k).progress.statuses
      whole =
          ap (λ (xs : List ℕ). (run k).progress.statuses ++ xs)
          (drop_of_length-le (replicate (vars_in ss) 0) {i = vars_in ss} (omega (arith, length-replicate {A = ℕ} (vars_in ss) 0))) ∙
          append-nil (run k).progress.statuses

  some_limit : 1 ≤ 16
  some_limit = omega arith

  formula : k.formula ≡ expanded ss (clauses es)
  formula = groups_task ss es (groups_run ss (expanded_entries ss es)) refl refl

  by_answer : (a : RunAnswer) → (run k).answer ≡ a → groups_table_of text ≡ groups_table_by a ss (report_of_run (run k)) (run k).progress.statuses
  by_answer a q = groups_table_run ∙ ap (λ (b : RunAnswer). groups_table_by b ss (report_of_run (run k)) (run k).progress.statuses) q

  Answers : Type 0
  Answers = ((run k).answer ≡ RunAnswer.Settled) ⊎ (((run k).answer ≡ RunAnswer.NoModel) ⊎ ((run k).answer ≡ RunAnswer.Stopped))

  says : (n : ℕ) → SaysAnswer n (groups_table_of text) ↔ (run_number (run k).answer ≡ n)
  unfolding Answers
  says n = go (run_answer_lem k some_limit)
    where
      of : (rest : List ℕ) → groups_table_of text ≡ answer_line (vars_in ss) (report_of_run (run k)) ++ rest
          → SaysAnswer n (groups_table_of text) ↔ (run_number (run k).answer ≡ n)
      of rest q = rw q (answered (vars_in ss) (report_of_run (run k)) rest n)

      go : Answers → SaysAnswer n (groups_table_of text) ↔ (run_number (run k).answer ≡ n)
      go (inl q) = of (group_lines 1 ss (run k).progress.statuses) (by_answer RunAnswer.Settled q)
      go (inr (inl q)) = of [] (by_answer RunAnswer.NoModel q ∙ sym (append-nil (answer_line (vars_in ss) (report_of_run (run k)))))
      go (inr (inr q)) = of (group_lines 1 ss (run k).progress.statuses) (by_answer RunAnswer.Stopped q)

  settled : SaysAnswer 0 (groups_table_of text) → (run k).answer ≡ RunAnswer.Settled
  unfolding Answers
  settled w = go (run_answer_lem k some_limit) ((says 0).0 w)
    where
      go : Answers → run_number (run k).answer ≡ 0 → (run k).answer ≡ RunAnswer.Settled
      go (inl q) z = q
      go (inr (inl q)) z = absurd (omega (arith, rw q at z))
      go (inr (inr q)) z = absurd (omega (arith, rw q at z))

  -- the word of a value's line says its variable's status
  line : SaysAnswer 0 (groups_table_of text) → (g j : ℕ) → ValueOf ss g j → (s : ℕ) → s ≤ 3
      → (line_at (groups_table_of text) (suc (index_in ss g j)) ≡ label g j ++ value_word s) ↔ (status_at (run k).progress.statuses (index_in ss g j) ≡ s)
  line w g j o s small = (
    λ q. word_inj (status_at st i) s ((run_statuses k some_limit).1 i) small (append_cancel_left (label g j) _ _ (sym is ∙ q)),
    λ q. is ∙ ap (λ (n : ℕ). label g j ++ value_word n) q,
  )
    where
      i : ℕ
      i = index_in ss g j

      st : List ℕ
      st = (run k).progress.statuses

      is : line_at (groups_table_of text) (suc (index_in ss g j)) ≡ label g j ++ value_word (status_at (run k).progress.statuses (index_in ss g j))
      is =
          ap (λ (xs : List ℕ). line_at xs (suc (index_in ss g j))) (by_answer RunAnswer.Settled (settled w)) ∙
          ap (λ (xss : List (List ℕ)). get_or xss (suc (index_in ss g j)) [])
          (first_line_lem (vars_in ss) (report_of_run (run k)) (group_lines 1 ss (run k).progress.statuses)) ∙
          groups_line 1 ss (run k).progress.statuses (omega (arith, (run_statuses k some_limit).0)) g j o ∙
          ap (λ (f : ℕ). label f j ++ value_word (status_at (run k).progress.statuses (index_in ss g j))) (omega (arith, o.group_some))

  -- With answer 0 a value's line says `dead` exactly if no valid setup uses it,
  pub value_dead : SaysAnswer 0 (groups_table_of text) → (g j : ℕ) → ValueOf ss g j
      → (line_at (groups_table_of text) (suc (index_in ss g j)) ≡ label g j ++ dead_word)
      ↔ ((ks : List ℕ) → ValidSetup ss (clauses es) ks → value_in ks g ≢ j)
  value_dead w g j o =
      let says = line w g j o 3 (omega arith) in
      let means = dead_exactly ss (clauses es) k refl formula some_limit (settled w) g j o in
      (λ q. means.0 (says.0 q), λ f. says.1 (means.1 f))

  -- `settled` exactly if every valid setup uses it, and there is one,
  pub value_settled : SaysAnswer 0 (groups_table_of text) → (g j : ℕ) → ValueOf ss g j
      → (line_at (groups_table_of text) (suc (index_in ss g j)) ≡ label g j ++ settled_word)
      ↔ (((ks : List ℕ) × ValidSetup ss (clauses es) ks) × ((ks : List ℕ) → ValidSetup ss (clauses es) ks → value_in ks g ≡ j))
  value_settled w g j o =
      let says = line w g j o 2 (omega arith) in
      let means = settled_exactly ss (clauses es) k refl formula some_limit (settled w) g j o in
      (λ q. means.0 (says.0 q), λ f. says.1 (means.1 f))

  -- `free` exactly if one valid setup uses it and another one does not,
  pub value_free : SaysAnswer 0 (groups_table_of text) → (g j : ℕ) → ValueOf ss g j
      → (line_at (groups_table_of text) (suc (index_in ss g j)) ≡ label g j ++ free_word)
      ↔ (((ks : List ℕ) × ValidSetup ss (clauses es) ks × (value_in ks g ≡ j)) × ((ks : List ℕ) × ValidSetup ss (clauses es) ks × (value_in ks g ≢ j)))
  value_free w g j o =
      let says = line w g j o 1 (omega arith) in
      let means = free_exactly ss (clauses es) k refl formula some_limit (settled w) g j o in
      (λ q. means.0 (says.0 q), λ f. says.1 (means.1 f))

  -- and, unless it says 21, it says 20 exactly if there is no valid setup.
  pub table_no_setup : (SaysAnswer 21 (groups_table_of text) → ⊥)
      → SaysAnswer 20 (groups_table_of text) ↔ ((ks : List ℕ) → ValidSetup ss (clauses es) ks → ⊥)
  unfolding Answers
  table_no_setup ne =
      let means = no_setup_exactly ss (clauses es) k refl formula some_limit (λ q. ne ((says 21).1 (ap run_number q))) in
      (λ w. means.0 (go (run_answer_lem k some_limit) ((says 20).0 w)), λ f. (says 20).1 (ap run_number (means.1 f)))
    where
      go : Answers → run_number (run k).answer ≡ 20 → (run k).answer ≡ RunAnswer.NoModel
      go (inl q) z = absurd (omega (arith, rw q at z))
      go (inr (inl q)) z = q
      go (inr (inr q)) z = absurd (omega (arith, rw q at z))
