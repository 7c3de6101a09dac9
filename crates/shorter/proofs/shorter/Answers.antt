-- `shorter` meets its contract: what is refused writes nothing; what is accepted is run, and its text is written. Assumes nothing.
use mathlib.Core.Path.{sym, ◌∙◌}
use Rattle.texts.specs.Shorter.{shorter_refusal}
use Rattle.shorter.proofs.MadeLaws.{shortens_refused, open_run}
use Rattle.shorter.proofs.shorter.Goals as goal

pub made-requires : goal.made-requires
unfolding shorter_refusal
made-requires c =
    open_run _ (sym c.in_default.is ∙ rw (← c.out_of_limits-bad_limits.ensures) c.refuse.ensures)

pub returns-in-Err : goal.returns-in-Err
unfolding shorter_refusal
returns-in-Err c =
    shortens_refused _ (sym c.in-Err.is ∙ rw (← c.out_of_limits-bad_limits.ensures) c.refuse.ensures)
