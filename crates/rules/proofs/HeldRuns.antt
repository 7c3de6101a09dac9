-- With an empty list of held literals a run is what it was without such a list.
--
--   none_held         its refusals and its task, and so everything that follows from them
--
-- Assumes nothing.
use mathlib.Core.Path.{◌≡◌, refl}
use mathlib.Core.List.{[], append-nil}
use Rattle.rules.specs.Answer.{Given, refusal_of, task_of, plain_refusal, plain_task}

pub none_held : (g : Given) → g.held ≡ [] → (refusal_of g ≡ plain_refusal g) × (task_of g ≡ plain_task g)
unfolding refusal_of
none_held g e = (rw e refl, rw (e, append-nil))
