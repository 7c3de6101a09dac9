-- A run is refused, by number and place, exactly when the table of docs/RULES.md says so, and accepted otherwise.
--
--   run_refused       the refusal is a exactly if the rule of a says so
--   run_accepted      there is no refusal exactly if every rule is kept
--   by_held           where the list is taken, the refusal is the held literals'
--
-- Assumes nothing.
use mathlib.Core.Path.{◌≡◌, refl, sym, ◌∙◌, ap}
use mathlib.Core.Logic.{◌↔◌}
use mathlib.Core.Bool.{Bool, true, false, not}
use mathlib.Core.List.Memᴰ
use mathlib.Core.List.{◌∷◌, ◌++◌}
use mathlib.Core.Option.{Option, none, some}
use Prim.Native.Nat.{ℕ, ◌≤◌, ◌<◌}
use native.Mathlib.Omega.{arith}
use lib.IntN.{ℤ, pos}
use lib.Dec.{ltb}
use lib.ListN.{length}
use borrow.Author.Tests.{ltb-true, ltb-false, lt-ltb, le-ltb}
use Rattle.rules.specs.declared.Refusal.{Refusal}
use Rattle.rules.specs.Lists.{any, count, nth_index, or_next, first_of, is_zero}
use Rattle.rules.specs.Numbers.{max_clauses, max_entries, max_held}
use Rattle.rules.specs.Meaning.{var_of}
use Rattle.rules.specs.Held.{is_no_literal, held_rules}
use Rattle.rules.specs.Answer.{Given, is_ended, is_above, list_rules, out_of_limits, is_short, refusal_of}
use Rattle.rules.specs.RunRefusals.{InLimits, Lent, Listed, Formed, Accepted, RunRefuses, bad_limits}
use Rattle.rules.specs.RunRefusals.{short_buffer, list_long, not_ended, zero_over, entry_over_vars, many_held, bad_literal}
use Rattle.rules.proofs.ListLaws.{apart, any_sound, any_complete, none_of_any, any_of_none}
use Rattle.rules.proofs.ListLaws.{count_append, count_pos, count_zero, count_of_none, eqz_sound}
use Rattle.rules.proofs.AnswerLaws.{nth_index_at, nth_index_split, is_ended_snoc, is_ended_last, limits_sound}
use Rattle.rules.proofs.AnswerLaws.{limits_complete, limits_false, limits_of_lem, room_sound, room_complete, room_false, list_false}
use Rattle.rules.proofs.AnswerLaws.{refusal_lent, list_long_first, not_ended_first, zero_over_first, above_first, list_first}
use Rattle.rules.proofs.AnswerLaws.{first_front, first_back, no_literal_sound, no_literal_complete, no_literal_false, no_literal_of}
use Rattle.rules.proofs.AnswerLaws.{many_held_first, bad_held_first, held_first}

-- what a refusal, or none, says
abbrev Judges : Given → Option Refusal → Type 0
Judges g none = Accepted g
Judges g (some a) = RunRefuses g a

-- ---- test after test, as far as the first that passes

zero_is : (l : ℤ) → is_zero l ≡ true → l ≡ pos 0
zero_is l h = eqz_sound l (pos 0) h

module _ (g : Given) where
  literal_judged : Formed g → length g.held ≤ max_held → (b : Bool) → any (is_no_literal g.vars) g.held ≡ b
      → Judges g (or_next b (Refusal.BadLiteral (nth_index (is_no_literal g.vars) g.held 0)) none)
  literal_judged w s false e =
      record {
        listed = w.listed;
        up_to = w.up_to;
        holdable = record { few = s; up_to = λ l h. no_literal_false g.vars l (none_of_any (is_no_literal g.vars) e h) };
      }
  literal_judged w s true e =
      let (x, i, t) = any_sound (is_no_literal g.vars) g.held e in
      let n = nth_index_split (is_no_literal g.vars) g.held 0 (count_pos (is_no_literal g.vars) i t) in
      rw n.index
      (bad_literal w s n.front n.this n.back n.split
      (λ k h. no_literal_false g.vars k (none_of_any (is_no_literal g.vars) (count_zero (is_no_literal g.vars) n.front n.before) h))
      (no_literal_sound g.vars n.this n.passes))

  many_judged : Formed g → (b : Bool) → ltb max_held (length g.held) ≡ b → (rest : Option Refusal)
      → (length g.held ≤ max_held → Judges g rest) → Judges g (or_next b Refusal.ManyHeld rest)
  many_judged w false e rest f = f (ltb-false _ _ e)
  many_judged w true e rest f = many_held w (ltb-true _ _ e)

  above_judged : Listed g → (b : Bool) → any (is_above g.vars) g.entries ≡ b → (rest : Option Refusal) → (Formed g → Judges g rest)
      → Judges g (or_next b (Refusal.EntryOverVars (nth_index (is_above g.vars) g.entries 0)) rest)
  above_judged w false e rest f = f (record { listed = w; up_to = λ l h. ltb-false _ _ (none_of_any (is_above g.vars) e h) })
  above_judged w true e rest f =
      let (x, i, t) = any_sound (is_above g.vars) g.entries e in
      let n = nth_index_split (is_above g.vars) g.entries 0 (count_pos (is_above g.vars) i t) in
      rw n.index
      (entry_over_vars w n.front n.this n.back n.split
      (λ k h. ltb-false _ _ (none_of_any (is_above g.vars) (count_zero (is_above g.vars) n.front n.before) h)) (ltb-true _ _ n.passes))

  zeros_judged : Lent g → ltb max_entries (length g.entries) ≡ false → is_ended g.entries ≡ true → (b : Bool)
      → ltb max_clauses (count is_zero g.entries) ≡ b → (rest : Option Refusal) → (Listed g → Judges g rest)
      → Judges g (or_next b (Refusal.BadList (nth_index is_zero g.entries max_clauses)) rest)
  zeros_judged w s d false e rest f = f (list_false g w s d e)
  zeros_judged w s d true e rest f =
      let n = nth_index_split is_zero g.entries max_clauses (ltb-true _ _ e) in
      rw n.index
      (zero_over w (ltb-false _ _ s) d n.front n.back (n.split ∙ ap (λ (z : ℤ). n.front ++ z ∷ n.back) (zero_is n.this n.passes))
      n.before)

  ended_judged : Lent g → ltb max_entries (length g.entries) ≡ false → (b : Bool) → is_ended g.entries ≡ b → (rest : Option Refusal)
      → (is_ended g.entries ≡ true → Judges g rest) → Judges g (or_next (not b) (Refusal.BadList (length g.entries)) rest)
  ended_judged w s true e rest f = f e
  ended_judged w s false e rest f =
      let (front, l, q, z) = is_ended_last g.entries e in not_ended w (ltb-false _ _ s) front l q z

  long_judged : Lent g → (b : Bool) → ltb max_entries (length g.entries) ≡ b → (rest : Option Refusal)
      → (ltb max_entries (length g.entries) ≡ false → Judges g rest) → Judges g (or_next b (Refusal.BadList max_entries) rest)
  long_judged w false e rest f = f e
  long_judged w true e rest f = list_long w (ltb-true _ _ e)

  room_judged : InLimits g → (b : Bool) → is_short g ≡ b → (rest : Option Refusal)
      → (Lent g → Judges g rest) → Judges g (or_next b Refusal.ShortBuffer rest)
  room_judged w false e rest f = f (room_false g w e)
  room_judged w true e rest f = short_buffer w (room_sound g e)

  limits_judged : (b : Bool) → out_of_limits g.vars g.limit ≡ b → (rest : Option Refusal)
      → (InLimits g → Judges g rest) → Judges g (or_next b Refusal.BadLimits rest)
  limits_judged false e rest f = f (limits_false g e)
  limits_judged true e rest f = bad_limits (limits_sound g e)

  judged : Judges g (refusal_of g)
  unfolding refusal_of
  judged =
      limits_judged (out_of_limits g.vars g.limit) refl _
      (λ a. room_judged a (is_short g) refl _
      (λ b. long_judged b (ltb max_entries (length g.entries)) refl _
      (λ c. ended_judged b c (is_ended g.entries) refl _
      (λ d. zeros_judged b c d (ltb max_clauses (count is_zero g.entries)) refl _
      (λ w. above_judged w (any (is_above g.vars) g.entries) refl _
      (λ u. many_judged u (ltb max_held (length g.held)) refl _
      (λ s. literal_judged u s (any (is_no_literal g.vars) g.held) refl)))))))

-- ---- and back: a rule that holds decides every test before its own

module _ (g : Given) where
  -- what the list is refused for, and where that is nothing, what the held literals are
  by_list : Lent g → {a : Refusal} → first_of (list_rules g.entries g.vars) ≡ some a → refusal_of g ≡ some a
  by_list w e = refusal_lent g w ∙ first_front (list_rules g.entries g.vars) (held_rules g.held g.vars) e

  formed_first : Formed g → first_of (list_rules g.entries g.vars) ≡ none
  formed_first w =
      list_first g.entries g.vars w.listed.entries_fit w.listed.ended w.listed.clauses_fit
      (any_of_none (is_above g.vars) g.entries (λ e i. le-ltb g.vars (var_of e) (w.up_to e i)))

  pub by_held : Formed g → refusal_of g ≡ first_of (held_rules g.held g.vars)
  by_held w =
      refusal_lent g w.listed.lent ∙ first_back (list_rules g.entries g.vars) (held_rules g.held g.vars) (formed_first w)

  refused_complete : (a : Refusal) → RunRefuses g a → refusal_of g ≡ some a
  unfolding refusal_of
  refused_complete _ (bad_limits h) = rw (limits_complete g h)
  refused_complete _ (short_buffer w h) = rw (limits_of_lem g w, room_complete g h)
  refused_complete _ (list_long w h) = by_list w (list_long_first g.entries g.vars h)
  refused_complete _ (not_ended w s front l q z) =
      by_list w (not_ended_first g.entries g.vars s (ap is_ended q ∙ is_ended_snoc front l ∙ z))
  refused_complete _ (zero_over w s d front back q c) =
      by_list w (zero_over_first g.entries g.vars s d over ∙ ap (λ (i : ℕ). some (Refusal.BadList i)) at)
    where
      over : max_clauses < count is_zero g.entries
      over = rw q (omega (arith, count_append is_zero front (pos 0 ∷ back)))

      at : nth_index is_zero g.entries max_clauses ≡ length front
      at = rw q (ap (nth_index is_zero (front ++ pos 0 ∷ back)) (sym c) ∙ nth_index_at is_zero front (pos 0) back refl)
  refused_complete _ (entry_over_vars w front l back q k h) =
      by_list w.lent
      (above_first g.entries g.vars w.entries_fit w.ended w.clauses_fit some_above ∙
      ap (λ (i : ℕ). some (Refusal.EntryOverVars i)) at)
    where
      none_before : count (is_above g.vars) front ≡ 0
      none_before = count_of_none (is_above g.vars) front (λ e i. le-ltb g.vars (var_of e) (k e i))

      some_above : any (is_above g.vars) g.entries ≡ true
      some_above = rw q (any_complete (is_above g.vars) (Memᴰ.append_right front (Memᴰ.head refl)) (lt-ltb g.vars (var_of l) h))

      at : nth_index (is_above g.vars) g.entries 0 ≡ length front
      at =
          rw q
          (ap (nth_index (is_above g.vars) (front ++ l ∷ back)) (sym none_before) ∙
          nth_index_at (is_above g.vars) front l back (lt-ltb g.vars (var_of l) h))
  refused_complete _ (many_held w h) = by_held w ∙ many_held_first g.held g.vars h
  refused_complete _ (bad_literal w s front l back q k h) =
      by_held w ∙ bad_held_first g.held g.vars s some_bad ∙ ap (λ (i : ℕ). some (Refusal.BadLiteral i)) at
    where
      is-bad : is_no_literal g.vars l ≡ true
      is-bad = no_literal_complete g.vars l h

      none_before : count (is_no_literal g.vars) front ≡ 0
      none_before = count_of_none (is_no_literal g.vars) front (λ e i. no_literal_of g.vars e (k e i))

      some_bad : any (is_no_literal g.vars) g.held ≡ true
      some_bad = rw q (any_complete (is_no_literal g.vars) (Memᴰ.append_right front (Memᴰ.head refl)) is-bad)

      at : nth_index (is_no_literal g.vars) g.held 0 ≡ length front
      at =
          rw q
          (ap (nth_index (is_no_literal g.vars) (front ++ l ∷ back)) (sym none_before) ∙
          nth_index_at (is_no_literal g.vars) front l back is-bad)

-- ---- each number exactly when its rule says

some_inj : {a b : Refusal} → some a ≡ some b → a ≡ b
some_inj e = cc

pub run_refused : (g : Given) (a : Refusal) → (refusal_of g ≡ some a) ↔ RunRefuses g a
run_refused g a = (λ e. go (refusal_of g) (judged g) e, refused_complete g a)
  where
    go : (o : Option Refusal) → Judges g o → o ≡ some a → RunRefuses g a
    go none w e = apart cc
    go (some b) w e = rw (some_inj e) at w

accepted_complete : (g : Given) → Accepted g → refusal_of g ≡ none
accepted_complete g w =
    by_held g (record { listed = w.listed; up_to = w.up_to }) ∙
    held_first g.held g.vars w.holdable.few
    (any_of_none (is_no_literal g.vars) g.held (λ e i. no_literal_of g.vars e (w.holdable.up_to e i)))

pub run_accepted : (g : Given) → (refusal_of g ≡ none) ↔ Accepted g
run_accepted g = (λ e. go (refusal_of g) (judged g) e, accepted_complete g)
  where
    go : (o : Option Refusal) → Judges g o → o ≡ none → Accepted g
    go none w e = w
    go (some b) w e = apart cc
