-- What a run begins with, and a call: the board of the list with the empty constraint, and with a new one.
--
--   begin_asks, begun             the first board
--   call_shows                    the board with the constraint of a call
--
-- Assumes nothing.
use mathlib.Core.Path.{◌≡◌, ◌∙◌, ap}
use mathlib.Core.Logic.{◌⊎◌, inl, inr}
use mathlib.Core.List.Memᴰ
use mathlib.Core.List.{List, [], ◌∷◌, ◌++◌}
use Prim.Native.Nat.{ℕ}
use native.Mathlib.Omega.{arith}
use lib.IntN.{ℤ}
use lib.ListN.{get_or, length, length-append, replicate, length-replicate}
use Rattle.rules.specs.Lists.{In}
use Rattle.rules.specs.Meaning.{Clause, Values, clauses}
use Rattle.formula.specs.Clauses.{ClauseUpTo}
use Rattle.formula.specs.Starts.{clauses_with}
use Rattle.formula.proofs.ClauseLaws.{clauses_up_to, nil_up_to}
use Rattle.board.specs.Holders.{Marks, Holders}
use Rattle.board.specs.Boards.{Small, Shows}
use Rattle.board.specs.Firsts.{Countable, FirstAsked, FirstDone}
use Rattle.board.specs.Constraints.{Renewed}
use Rattle.board.specs.Begins.{BeginAsked, Begun}
use Rattle.board.proofs.ConstraintLaws.{marks_nil, indexed_of, blank_at}

module _ {count : ℕ} {es : List ℤ} {heads nexts owners lists holders marks : List ℕ} {vs : Values} {keys hot trail : List ℕ}
    (a : BeginAsked count es heads nexts owners lists holders marks vs keys hot trail) where
  module _ {lists1 holders1 marks1 : List ℕ} (h : Holders (length vs) (clauses es) lists1 holders1) (m : marks1 ≡ replicate (length marks) 0) where
    no_marks_lem : Marks (length vs) [] marks1
    no_marks_lem =
        marks_nil (omega (arith, a.mark_room, ap length m, length-replicate {A = ℕ} (length marks) 0))
        (λ k. ap (λ (ms : List ℕ). get_or ms k 0) m ∙ blank_at (length marks) k)

    small : Small (length vs) (clauses es ++ ([] ∷ []))
    small = record { vars_fit = a.index.link_all.vars_fit; up_to = λ cl i. go cl (Memᴰ.append_cases (clauses es) i) }
      where
        go : (cl : Clause) → In cl (clauses es) ⊎ In cl ([] ∷ []) → ClauseUpTo (length vs) cl
        go cl (inl i) = clauses_up_to (length vs) es a.index.link_all.over cl i
        go cl (inr i) = rw (Memᴰ.eq_of_singleton i) (nil_up_to (length vs))

    countable : Countable (length vs) (clauses_with es []) lists1 holders1 marks1 keys
    unfolding clauses_with
    countable = record { small = small; index = indexed_of h no_marks_lem; as_many = omega (arith, a.as_many, length-append (clauses es) ([] ∷ [])) }

    pub begin_asks : FirstAsked lists1 holders1 marks1 vs keys hot trail
    begin_asks = record { F = clauses_with es []; can = countable; blocks = a.blocks; room = a.room }

    pub begun : {vs2 : Values} {keys2 hot2 trail2 : List ℕ} → FirstDone lists1 holders1 marks1 vs keys vs2 keys2 hot2 trail2
        → Begun es (length vs) lists1 holders1 marks1 vs2 keys2 hot2 trail2
    begun d = record { values_are = d.values_are; index = h; shows = d.shows (clauses_with es []) countable }

-- ---- the constraint of a call

pub call_shows : (es : List ℤ) (old con : Clause) {lists holders marks : List ℕ} {vs : Values} {keys hot trail marks2 keys2 hot2 : List ℕ}
    → Renewed con marks vs keys hot marks2 keys2 hot2 → Holders (length vs) (clauses es) lists holders
    → Shows (clauses_with es old) lists holders marks vs keys hot trail → Shows (clauses_with es con) lists holders marks2 vs keys2 hot2 trail
unfolding clauses_with
call_shows es old con {lists} {holders} {trail = trail} d h s = d.shows (clauses es) old lists holders trail h s
