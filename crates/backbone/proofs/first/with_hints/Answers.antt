-- `first::with_hints` meets its contract: what the first call left is judged once the run is done. Assumes nothing.
use mathlib.Core.Path.{sym, ◌∙◌}
use Rattle.backbone.proofs.FirstLaws.{hints_done}
use Rattle.backbone.proofs.first.with_hints.Goals as goal

pub room_for_values-report-requires : goal.room_for_values-report-requires
room_for_values-report-requires c =
    c.requires.begins

pub put_hints-requires : goal.put_hints-requires
put_hints-requires c =
    let len = c.room_for_values-report.auto.first ∙ c.requires.begins.first_len in
    record { formula = rw len c.requires.begins.formula; len = c.requires.hints_len ∙ sym len }

pub returns : goal.returns
returns c =
    hints_done _ _ c.args.limits c.requires.blank_first c.room_for_values-report.ensures c.put_hints.ensures
