-- The meter: "if a try is due and the budget is spent, the run stops there". Assumes nothing.
use Rattle.std.specs.Prelude.{Bool, true, false, ◌+◌, ltb, Option, None, Some}
use Rattle.search.specs.declared.meter.Meter.{Meter}

-- ---- a try that is given, or not

abbrev pub asked_if : Bool → Meter → Option Meter
asked_if true m = Some (record { budget = m.budget; spent = m.spent + 1 })
asked_if false m = None

abbrev pub asked_of : Meter → Option Meter
asked_of m = asked_if (ltb m.spent m.budget) m

-- ---- the meter behind it

abbrev pub meter_after : Meter → Option Meter → Meter
meter_after m (Some left) = left
meter_after m None = m

abbrev pub after_try : Meter → Meter
after_try m = meter_after m (asked_of m)
