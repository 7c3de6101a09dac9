-- The measure of the cycle of calls {check_tree} is the number of unset variables: a split sets one. Assumes nothing.
use Rattle.rules.specs.Closing.{unsets}
use Rattle.claims.proofs.tree.+check_tree.Given as goal

abbrev pub decreases-check_tree : goal.decreases-check_tree
decreases-check_tree l = unsets l.values.now
