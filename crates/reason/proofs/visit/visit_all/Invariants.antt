-- `visit::visit_all` meets its contract. The invariant of its loop: the buffers keep their lengths, and the visits that are left end as
-- all do. Assumes nothing.
use mathlib.Core.Path.{◌≡◌}
use lib.ListN.{length}
use Rattle.rules.specs.Why.{visits}
use Rattle.reason.specs.Asks.{question}
use Rattle.reason.proofs.AskLaws.{Visiting}
use Rattle.reason.proofs.visit.visit_all.Given as goal

abbrev pub invariant-loop-n : goal.invariant-loop-n
invariant-loop-n l = (length l.kept ≡ length l.initial.kept) × (length l.starts ≡ length l.initial.starts) × (length l.marks ≡ length l.initial.marks) ×
    (length l.values ≡ length l.initial.values) ×
    Visiting (question l.entries (length l.initial.values) l.initial.left.budget l.literal.0)
    (visits l.initial.n (question l.entries (length l.initial.values) l.initial.left.budget l.literal.0) l.initial.marks 2 l.initial.left.spent)
    l.initial.n l.n l.calls l.left l.marks
