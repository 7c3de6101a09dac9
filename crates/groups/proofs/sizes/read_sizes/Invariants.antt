-- `groups::sizes::read_sizes` meets its contract. The invariant of its loop, `Sizing`: i sizes are stored, and what is left is behind them.
-- Assumes nothing.
use Rattle.groups.specs.Steps.{Sizing}
use Rattle.groups.proofs.sizes.read_sizes.Given as goal

abbrev pub invariant-loop-i : goal.invariant-loop-i
invariant-loop-i l = Sizing l.text l.at l.groups l.initial.sizes l.i l.next l.vars l.sizes
