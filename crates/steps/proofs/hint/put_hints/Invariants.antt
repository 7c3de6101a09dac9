-- `hint::put_hints` meets its contract. The invariant of its loop: the hints in front of i are put, and the model is as it was. Assumes nothing.
use mathlib.Core.Path.{◌≡◌}
use lib.ListN.{length}
use Rattle.rules.specs.Meaning.{clauses}
use Rattle.steps.proofs.HintLaws.{Hinting}
use Rattle.steps.proofs.hint.put_hints.Given as goal

abbrev pub invariant-loop-i : goal.invariant-loop-i
invariant-loop-i l = (length l.hints ≡ length l.initial.hints) × Hinting (clauses l.entries) l.initial.first l.i l.first l.hints
