-- The buffers that a run is lent, as code passes them on. Assumes nothing.
use Rattle.std.specs.Prelude.{◌≡◌}
use Rattle.rules.specs.Answer as answer
use Rattle.backbone.specs.declared.Buffers.{Buffers}

-- what they hold
abbrev pub lent : Buffers → answer.Buffers
lent b = answer.buffers b.status.now b.calls.now b.ways.now b.hints.now b.log.now

-- they are still the same ones: what a caller has lent is what was written
pub record SameBuffers (before after : Buffers) : Type 0 where
  pub status : after.status.ghost_name ≡ before.status.ghost_name
  pub calls : after.calls.ghost_name ≡ before.calls.ghost_name
  pub ways : after.ways.ghost_name ≡ before.ways.ghost_name
  pub hints : after.hints.ghost_name ≡ before.hints.ghost_name
  pub log : after.log.ghost_name ≡ before.log.ghost_name
