-- The proof of the cycle of calls {check_tree}. A tree leads where its first number does, a split's where its tree for false leads and then
-- its tree for true. Assumes nothing.
use mathlib.Core.Path.{◌≡◌, refl, ◌∙◌, ap, subst}
use Prim.Native.Nat.{ℕ, suc, ◌<◌}
use native.Mathlib.Omega.{arith}
use lib.ListN.{length, set, length-set}
use Rattle.rules.specs.Closing.{unsets}
use Rattle.rules.specs.Meaning.{Values, clauses, value_at}
use Rattle.rules.proofs.MeaningLaws.{unset_within}
use Rattle.std.proofs.lemmas.Result.{err_from_is_err_and}
use Rattle.claims.specs.Steps.{TreeRead}
use Rattle.claims.proofs.TreeLaws.{split_unset, tree_stop, tree_end, tree_first, tree_both, set-again, taken_back, falls_set, formula_same}
use Rattle.claims.proofs.tree.+check_tree.Goals as goal

-- the variable's place is there
within : (values us : Values) (index b : ℕ) → value_at values index ≡ 0 → us ≡ set values index b → index < length us
within values us index b unset e = omega (arith, ap length e, length-set values index b, unset_within values index unset)

-- a split leaves fewer variables unset, and so does its second tree
fewer : (values : Values) (index b t : ℕ) → value_at values index ≡ 0 → unsets values ≡ t → unsets (set values index (suc b)) < t
fewer values index b t unset e = omega (arith, e, falls_set values (set values index (suc b)) index b unset refl)

fewer_again : (values first : Values) (index a b t : ℕ) → value_at values index ≡ 0 → first ≡ set values index a → unsets values ≡ t
    → unsets (set first index (suc b)) < t
fewer_again values first index a b t unset same e =
    omega (arith, e, falls_set values (set first index (suc b)) index b unset (set-again values first index a (suc b) same))

pub check_tree-requires : goal.check_tree-requires
check_tree-requires t c = (
  fewer c.args.values.now c.in-Split.i _ t (split_unset (rw c.in-Split.is at c.in_ok-node.ensures)) c.decreases,
  formula_same c.args.values.now _ c.in-Split.i _ refl c.requires,
)

pub check_tree-last-requires : goal.check_tree-last-requires
check_tree-last-requires t c =
    let before = c.args.values.now in
    let i = c.in-Split.i in (
      fewer_again before c.check_tree.new.values i _ _ t (split_unset (rw c.in-Split.is at c.in_ok-node.ensures)) c.check_tree.ensures.same c.decreases,
      formula_same before _ i _ (set-again before c.check_tree.new.values i _ _ c.check_tree.ensures.same) c.requires,
    )

pub returns-in_err-node : goal.returns-in_err-node
returns-in_err-node t c =
    let p = err_from_is_err_and c.from_residual.result c.from_residual.ensures.1 in
    rw (p.1, p.2) (record { read = tree_stop c.in_err-node.ensures; same = refl })

pub returns-in-End : goal.returns-in-End
returns-in-End t c = record { read = tree_end (rw c.in-End.is at c.in_ok-node.ensures); same = refl }

pub returns-in-Err : goal.returns-in-Err
returns-in-Err t c = record {
  read = tree_first (rw c.in-Split.is at c.in_ok-node.ensures) c.in-Err.ensures.read;
  same = taken_back c.args.values.now c.check_tree.new.values c.in-Split.i _ (split_unset (rw c.in-Split.is at c.in_ok-node.ensures)) c.check_tree.ensures.same;
}

pub returns-in-Ok : goal.returns-in-Ok
returns-in-Ok t c =
    let before = c.args.values.now in
    let first = c.check_tree.new.values in
    let i = c.in-Split.i in
    let again : set first i 2 ≡ set before i 2 = set-again before first i 1 2 c.check_tree.ensures.same in
    record {
      read =
          tree_both (rw c.in-Split.is at c.in_ok-node.ensures) c.in-Ok.ensures.read
          (subst (λ (us : Values). TreeRead (clauses c.args.entries.now) c.args.text.now us c.in-Ok.next c.check_tree-last.result) again
          c.check_tree-last.ensures.read);
      same =
          taken_back before c.check_tree-last.new.values i _ (split_unset (rw c.in-Split.is at c.in_ok-node.ensures))
          (c.check_tree-last.ensures.same ∙ again);
    }
