-- `reader::tokens::read_tokens` meets its contract. The invariant of its loop, `Progress`: the entries before the cursor are
-- stored, and put in front of what is left they make the whole. The measure is what is left of the text. Assumes nothing.
use Prim.Native.Nat.{◌-◌}
use lib.ListN.{length}
use Rattle.reader.proofs.StoreLaws.{Progress}
use Rattle.reader.proofs.tokens.read_tokens.Given as goal

abbrev pub invariant-loop-x : goal.invariant-loop-x
invariant-loop-x l = Progress l.h l.text l.from l.initial.entries l.c l.entries

abbrev pub decreases-loop-x : goal.decreases-loop-x
decreases-loop-x l = length l.text - l.c.at
