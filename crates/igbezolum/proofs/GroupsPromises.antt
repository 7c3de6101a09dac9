-- What a caller of `igb_read_groups` has by its contract, in C's numbers.
--
--   reads_groups_in_unique    no second result and buffers meet the contract
--   groups_exactly            answer 0 exactly if the buffers are long enough and the grammar derives the text
--   groups_refused_exactly    each refusal number and place exactly when its rule says
--   groups_card               a text that is accepted: its counts, the expanded list and the sizes
--   groups_card_runs          a run that has room does not refuse that list
--   groups_kept groups_cleared     after 1 and 2 nothing is written; after the other refusals there are zeros, and the rest stays
--
-- Assumes nothing.
use mathlib.Core.Path.{◌≡◌, refl, sym, ◌∙◌, ap}
use mathlib.Core.Logic.{◌≢◌, ◌↔◌}
use mathlib.Core.Bool.{cond}
use mathlib.Core.List.{List, ◌++◌}
use Prim.Native.Nat.{ℕ, ◌≤◌}
use native.Mathlib.Omega.{arith}
use lib.Dec.{eqb}
use lib.IntN.{ℤ, pos}
use lib.ListN.{length, drop, replicate}
use Rattle.rules.specs.Numbers.{groups_number, groups_place}
use Rattle.rules.specs.declared.GroupsAnswer.{GroupsAnswer}
use Rattle.texts.specs.Reading.{filled}
use Rattle.rules.specs.Held.{Holdable}
use Rattle.rules.specs.Answer.{Given}
use Rattle.rules.specs.RunRefusals.{Lent, Accepted}
use Rattle.texts.specs.Groups.{vars_in, expanded_entries}
use Rattle.texts.specs.GroupsReading.{clauses_in, sizes_filled, GroupsGiven, groups_reading_of}
use Rattle.texts.specs.GroupsGrammar.{GroupsText}
use Rattle.texts.specs.GroupsRefusals.{GroupsRefuses}
use Rattle.texts.proofs.Theorems as text-theorems
use Rattle.texts.proofs.GroupsRead.{accepted_of, Roomy, FileOf}
use Rattle.igbezolum.specs.declared.group.IgbGroups.{IgbGroups}
use Rattle.igbezolum.specs.GroupsLinked.{groups_numbers, ReadsGroupsIn}

pub reads_groups_in_unique : {g : GroupsGiven} {n m : IgbGroups} {es fs : List ℤ} {ss ts : List ℕ} → ReadsGroupsIn g n es ss
    → ReadsGroupsIn g m fs ts → (n ≡ m) × (es ≡ fs) × (ss ≡ ts)
reads_groups_in_unique d e =
    (d.result_is ∙ sym e.result_is, d.entries_are ∙ sym e.entries_are, d.sizes_are ∙ sym e.sizes_are)

-- ---- the numbers lose nothing

-- the answer that a number and a place stand for
answer_of : ℕ → ℕ → GroupsAnswer
answer_of n at =
    cond (eqb n 0) GroupsAnswer.Accepted (cond (eqb n 1) GroupsAnswer.ShortBuffer (cond (eqb n 2) GroupsAnswer.LongText
    (cond (eqb n 4) (GroupsAnswer.OverSizes at) (cond (eqb n 5) (GroupsAnswer.BadToken at) (cond (eqb n 6) (GroupsAnswer.TokenBehind at)
    (cond (eqb n 7) (GroupsAnswer.TokenOverVars at) (cond (eqb n 9) (GroupsAnswer.ShortText at) (cond (eqb n 11) GroupsAnswer.LongList
    (GroupsAnswer.BadGroup at)))))))))

answer_back : (a : GroupsAnswer) → answer_of (groups_number a) (groups_place a) ≡ a
unfolding answer_of
answer_back GroupsAnswer.Accepted = refl
answer_back GroupsAnswer.ShortBuffer = refl
answer_back GroupsAnswer.LongText = refl
answer_back (GroupsAnswer.OverSizes at) = refl
answer_back (GroupsAnswer.BadToken at) = refl
answer_back (GroupsAnswer.TokenBehind at) = refl
answer_back (GroupsAnswer.TokenOverVars at) = refl
answer_back (GroupsAnswer.ShortText at) = refl
answer_back GroupsAnswer.LongList = refl
answer_back (GroupsAnswer.BadGroup at) = refl

-- ---- of the contract

module _ {g : GroupsGiven} {n : IgbGroups} {es : List ℤ} {ss : List ℕ} (w : ReadsGroupsIn g n es ss) where
  number_is : n.answer ≡ groups_number (groups_reading_of g).answer
  number_is = ap (λ (m : IgbGroups). m.answer) w.result_is

  place_is : n.place ≡ groups_place (groups_reading_of g).answer
  place_is = ap (λ (m : IgbGroups). m.place) w.result_is

  -- 0 exactly if the buffers are long enough and the grammar derives the text
  pub groups_exactly : (n.answer ≡ 0) ↔ (Roomy g × FileOf g.text)
  groups_exactly =
      let e = text-theorems.groups_agree g in
      (λ z. e.0 (accepted_of (groups_reading_of g).answer (sym number_is ∙ z)), λ h. number_is ∙ ap groups_number (e.1 h))

  -- each refusal exactly when its rule says
  pub groups_refused_exactly : (a : GroupsAnswer) → a ≢ GroupsAnswer.Accepted
      → ((n.answer ≡ groups_number a) × (n.place ≡ groups_place a)) ↔ GroupsRefuses (length g.entries) (length g.sizes) g.text a
  groups_refused_exactly a z =
      let e = text-theorems.groups_refusals g a z in (
        λ p. e.0 (sym (answer_back (groups_reading_of g).answer) ∙ same (sym number_is ∙ p.0) (sym place_is ∙ p.1) ∙ answer_back a),
        λ h. (number_is ∙ ap groups_number (e.1 h), place_is ∙ ap groups_place (e.1 h)),
      )
    where
      same : {i j k l : ℕ} → i ≡ j → k ≡ l → answer_of i k ≡ answer_of j l
      same p q = cc (p, q)

  -- a text that is accepted: its counts, the expanded list and the sizes
  pub groups_card : (ns : List ℕ) (c : ℕ) (fs : List ℤ) → Roomy g → GroupsText g.text ns c fs
      → (n ≡ record {
        answer = 0;
        place = 0;
        groups = length ns;
        vars = vars_in ns;
        clauses = clauses_in ns c;
        count = length (expanded_entries ns fs);
      })
      × (es ≡ filled (expanded_entries ns fs) g.entries) × (ss ≡ sizes_filled ns g.sizes)
  groups_card ns c fs r t =
      let (a, b, d) = text-theorems.groups_give g ns c fs r t in
      (w.result_is ∙ ap groups_numbers a, w.entries_are ∙ b, w.sizes_are ∙ d)

  -- after 1 and 2 nothing is written
  pub groups_kept : 1 ≤ n.answer → n.answer ≤ 2 → (es ≡ g.entries) × (ss ≡ g.sizes)
  groups_kept h k =
      let (a, b) = text-theorems.groups_refused_nothing g (omega (arith, number_is)) (omega (arith, number_is)) in
      (w.entries_are ∙ a, w.sizes_are ∙ b)

  -- after the other refusals there are zeros, and the rest stays
  pub groups_cleared : 3 ≤ n.answer → (es ≡ replicate 4096 (pos 0) ++ drop 4096 g.entries) × (ss ≡ replicate 128 0 ++ drop 128 g.sizes)
  groups_cleared h =
      let (a, b) = text-theorems.groups_refused_clears g (omega (arith, number_is)) in (w.entries_are ∙ a, w.sizes_are ∙ b)

-- A run that has room does not refuse the list of a file that the grammar derives.
pub groups_card_runs : {text ns : List ℕ} {c : ℕ} {fs : List ℤ} (run : Given) → GroupsText text ns c fs → run.entries ≡ expanded_entries ns fs
    → run.vars ≡ vars_in ns → Lent run → Holdable run.vars run.held → Accepted run
groups_card_runs = text-theorems.groups_never_refused
