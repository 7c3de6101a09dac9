-- `flip::flip_at` meets its contract: by the law for each of its two ways. Assumes nothing.
use Rattle.steps.proofs.FlipLaws.{none_may, flips_open}
use Rattle.steps.proofs.flip.flip_at.Goals as goal

pub returns-then-status-i-eq0 : goal.returns-then-status-i-eq0
returns-then-status-i-eq0 c =
    flips_open c.flip_test-flip.ensures (none_may _ _ c.is_none.ensures) c.drop_if.ensures
