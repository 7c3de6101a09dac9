-- The laws of src/step.rt and of a number that is counted (src/sizes.rt): a step says what rules judges of what is left.
--
--   judge_size_fits, rules_due    what is due, by what is counted
--   verdict_fits, verdict_refused     a verdict by what is refused
--   step_none, step_malformed, step_fits, step_refused     the step at the end, at a token that says nothing, at a number
--   step_says         a step that is another
--   counts_due, counts_refused, counts_end, counts_number, counts_says     a number of groups, of values or of clauses
--   fits_groups, fits_count       how many there are at most
--
-- Assumes nothing.
use mathlib.Core.Path.{◌≡◌, refl, sym, ◌∙◌, ap, subst}
use mathlib.Core.Bool.{Bool, true, false, not}
use mathlib.Core.List.{List, [], ◌∷◌}
use mathlib.Core.Option.{none, some}
use mathlib.Core.Option.{Option as Maybe}
use Prim.Native.Nat.{ℕ, zero, suc, ◌+◌, ◌≤◌}
use lib.Dec.{leb, ltb}
use lib.IntN.{ℤ, pos}
use lib.ListN.{length}
use borrow.Author.Tests.{ltb-false, leb-false}
use Rattle.rules.specs.declared.GroupsAnswer.{GroupsAnswer}
use Rattle.rules.specs.Lists.{count, check, first_of, is_zero}
use Rattle.rules.specs.Numbers.{max_vars, max_clauses}
use Rattle.rules.specs.Meaning.{var_of}
use Rattle.texts.specs.Groups.{max_groups, min_size, max_size, vars_in}
use Rattle.texts.specs.GroupsReading.{Part, groups_due, sizes_due, entries_due, is_between, number_rules, refused, judge_end, judge_parts}
use Rattle.texts.specs.GroupsRefusals.{Between, between, Fits, group_count, clause_count_lem, size, entry}
use Rattle.rules.proofs.ListLaws.{apart}
use Rattle.texts.proofs.GroupsJudged.{between_sound}
use Rattle.reader.specs.declared.token.Entry.{Entry}
use Rattle.reader.specs.Words.{value_of}
use Rattle.reader.proofs.StepLaws.{var_is}
use Rattle.std.specs.Prelude.{Some, None, Ok, Err}
use Rattle.reader.specs.declared.next.Spot.{Spot}
use Rattle.groups.specs.declared.step.Due.{Due}
use Rattle.reader.specs.Next.{Finds, no_token, malformed, number}
use Rattle.groups.specs.Stages.{verdict_of}
use Rattle.groups.specs.Steps.{due_of, due_rules, DueFits, Step, Taken, Judges, Steps, Counted, Counts, JudgesCount, CountsAt}

-- ---- what is due

pub judge_size_fits : (due : Due) (vars : ℕ) → DueFits due → due ≡ Due.Size vars → vars ≤ max_vars
judge_size_fits due vars f e = subst DueFits e f

rules_due : (p : Part) (at : ℕ) (l : ℤ) → number_rules p at l ≡ due_rules (due_of p) at l
rules_due groups_due at l = refl
rules_due (sizes_due zero ss) at l = refl
rules_due (sizes_due (suc n) ss) at l = refl
rules_due (entries_due ss c es) at l = refl

-- a verdict by what is refused
pub verdict_fits : (o : Maybe GroupsAnswer) → verdict_of o ≡ Ok tt → o ≡ none
verdict_fits none e = refl
verdict_fits (some a) e = apart cc

pub verdict_refused : (o : Maybe GroupsAnswer) (a : GroupsAnswer) → verdict_of o ≡ Err a → o ≡ some a
verdict_refused none a e = apart cc
verdict_refused (some b) a e = cc

-- ---- a number with nothing to refuse

not_refused : (b : Bool) (a : GroupsAnswer) → first_of (check (not b) a ∷ []) ≡ none → b ≡ true
not_refused true a h = refl
not_refused false a h = apart cc

neither : (b d : Bool) (x y : GroupsAnswer) → first_of (check b x ∷ check d y ∷ []) ≡ none → (b ≡ false) × (d ≡ false)
neither true d x y h = apart cc
neither false true x y h = apart cc
neither false false x y h = (refl, refl)

not_not : (b : Bool) → not b ≡ false → b ≡ true
not_not true h = refl
not_not false h = apart cc

fits_of : (p : Part) (at : ℕ) (l : ℤ) → first_of (number_rules p at l) ≡ none → Fits p l
fits_of groups_due at l h = group_count (between_sound 0 max_groups l (not_refused (is_between 0 max_groups l) (GroupsAnswer.BadGroup at) h))
fits_of (sizes_due zero ss) at l h =
    clause_count_lem (between_sound 0 max_clauses l (not_refused (is_between 0 max_clauses l) (GroupsAnswer.OverSizes at) h))
fits_of (sizes_due (suc n) ss) at l h =
    let (a, b) = neither (not (is_between min_size max_size l)) (ltb max_vars (vars_in ss + var_of l)) (GroupsAnswer.BadGroup at)
    (GroupsAnswer.OverSizes at) h in
    size (between_sound min_size max_size l (not_not (is_between min_size max_size l) a)) (ltb-false max_vars (vars_in ss + var_of l) b)
fits_of (entries_due ss c es) at l h =
    let (a, b) = neither (leb c (count is_zero es)) (ltb (vars_in ss) (var_of l)) (GroupsAnswer.TokenBehind at) (GroupsAnswer.TokenOverVars at) h in
    entry (leb-false c (count is_zero es) a) (ltb-false (vars_in ss) (var_of l) b)

-- ---- the step

module _ {text : List ℕ} {at : ℕ} (due : Due) where
  pub step_none : Finds text at (Ok None) → Steps text at due (Ok None)
  unfolding judge_parts
  step_none (no_token h) = record { judges = λ p d. ap (judge_parts (length text) p) h }

  pub step_malformed : (from : ℕ) → Finds text at (Err from) → Steps text at due (Err (GroupsAnswer.BadToken from))
  unfolding judge_parts
  step_malformed from (malformed to n h) = record { judges = λ p d. ap (judge_parts (length text) p) n.tokens ∙ rw h }

  module _ (s : Spot) (w : Finds text at (Ok (Some s))) where
    rules_at : (p : Part) → due_of p ≡ due → (o : Maybe GroupsAnswer) → first_of (due_rules due s.from (value_of s.entry)) ≡ o
        → first_of (number_rules p s.from (value_of s.entry)) ≡ o
    rules_at p d o r = ap first_of (rules_due p s.from (value_of s.entry)) ∙ ap (λ (x : Due). first_of (due_rules x s.from (value_of s.entry))) d ∙ r

    pub step_fits : verdict_of (first_of (due_rules due s.from (value_of s.entry))) ≡ Ok tt → Steps text at due (Ok (Some (s.to, s.entry)))
    unfolding judge_parts
    step_fits v = go w
      where
        go : Finds text at (Ok (Some s)) → Steps text at due (Ok (Some (s.to, s.entry)))
        go (number n h m) =
            record {
              judges =
                  λ p d.
                  let ok : first_of (number_rules p s.from (value_of s.entry)) ≡ none = rules_at p d none (verdict_fits _ v) in
                  record {
                    judged = ap (judge_parts (length text) p) n.tokens ∙ rw (h, ok);
                    fits = fits_of p s.from (value_of s.entry) ok;
                    onward = n.onward;
                    within = n.within;
                  };
            }

    pub step_refused : (a : GroupsAnswer) → verdict_of (first_of (due_rules due s.from (value_of s.entry))) ≡ Err a → Steps text at due (Err a)
    unfolding judge_parts
    step_refused a v = go w
      where
        go : Finds text at (Ok (Some s)) → Steps text at due (Err a)
        go (number n h m) =
            record {
              judges =
                  λ p d.
                  let no : first_of (number_rules p s.from (value_of s.entry)) ≡ some a = rules_at p d (some a) (verdict_refused _ a v) in
                  ap (judge_parts (length text) p) n.tokens ∙ rw (h, no);
            }

pub step_says : {text : List ℕ} {at : ℕ} {due : Due} {r : Step} (s : Step) → Steps text at due r → r ≡ s → (p : Part) → due_of p ≡ due → Judges text p at s
step_says {text} {at} s w e p d = subst (Judges text p at) e (w.judges p d)

-- ---- a number that is counted

pub counts_due : (due : Due) → Counts due → DueFits due
counts_due Due.Groups c = c
counts_due (Due.Size vars) c = c
counts_due Due.Count c = c
counts_due (Due.Entry vars clauses complete) c = absurd c

between_pos : {low high : ℕ} {l : ℤ} → Between low high l → l ≡ pos (var_of l)
between_pos (between a b) = refl

fits_pos : (p : Part) {l : ℤ} → Counts (due_of p) → Fits p l → l ≡ pos (var_of l)
fits_pos groups_due c (group_count b) = between_pos b
fits_pos (sizes_due zero ss) c (clause_count_lem b) = between_pos b
fits_pos (sizes_due (suc n) ss) c (size b h) = between_pos b
fits_pos (entries_due ss k es) c (entry h u) = absurd c

end_short : (end : ℕ) (p : Part) → Counts (due_of p) → judge_end end p ≡ refused (GroupsAnswer.ShortText end)
end_short end groups_due c = refl
end_short end (sizes_due n ss) c = refl
end_short end (entries_due ss k es) c = absurd c

module _ {text : List ℕ} {at : ℕ} {due : Due} {r : Step} (c : Counts due) (w : Steps text at due r) where
  pub counts_refused : (a : GroupsAnswer) → r ≡ Err a → CountsAt text at due (Err a)
  counts_refused a e = record { judges = λ p d. step_says (Err a) w e p d }

  pub counts_end : r ≡ Ok None → CountsAt text at due (Err (GroupsAnswer.ShortText (length text)))
  counts_end e = record { judges = λ p d. step_says (Ok None) w e p d ∙ end_short (length text) p (subst Counts (sym d) c) }

  pub counts_number : (to : ℕ) (e : Entry) → r ≡ Ok (Some (to, e)) → CountsAt text at due (Ok (to, e.number))
  counts_number to e q =
      record {
        judges =
            λ p d.
            let t = step_says (Ok (Some (to, e))) w q p d in
            subst (Taken text p at to) (fits_pos p (subst Counts (sym d) c) t.fits ∙ ap pos (var_is e)) t;
      }

pub counts_says : {text : List ℕ} {at : ℕ} {due : Due} {r : Counted} (s : Counted) → CountsAt text at due r → r ≡ s → (p : Part) → due_of p ≡ due
    → JudgesCount text p at s
counts_says {text} {at} s w e p d = subst (JudgesCount text p at) e (w.judges p d)

-- ---- what fits

pub fits_groups : {n : ℕ} → Fits groups_due (pos n) → n ≤ max_groups
fits_groups (group_count (between a b)) = b

pub fits_count : {ss : List ℕ} {n : ℕ} → Fits (sizes_due 0 ss) (pos n) → n ≤ max_clauses
fits_count (clause_count_lem (between a b)) = b
