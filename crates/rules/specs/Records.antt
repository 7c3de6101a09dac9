-- docs/RULES.md, "What comes back": the record of a variable, its status, the call that settled it and the way. Assumes nothing.
use Rattle.std.specs.Prelude.{Bool, true, false, ◌&&◌, List, [], ◌∷◌, map, ℕ, zero, suc, eqb, get_or}
use Rattle.rules.specs.declared.Way.{Way}
use Rattle.rules.specs.declared.Record.{Record}
use Rattle.rules.specs.Numbers.{way_number}

abbrev pub open_record : Record
open_record = record { status = 0; call = 0; way = Way.Open }

-- the record of the variable at an index; one that has none counts as open
abbrev pub record_at : List Record → ℕ → Record
record_at rs i = get_or rs i open_record

abbrev pub statuses_of : List Record → List ℕ
statuses_of rs = map (λ (r : Record). r.status) rs

-- what two more buffers show of them, beside the statuses
abbrev pub calls_of : List Record → List ℕ
calls_of rs = map (λ (r : Record). r.call) rs

abbrev pub ways_of : List Record → List ℕ
ways_of rs = map (λ (r : Record). way_number r.way) rs

-- ---- what a call does to the records

-- of one whose status was this and now is that: the new record where it was open and is not, else the old one
abbrev pub settled_if : ℕ → ℕ → Record → Record → Record
settled_if zero zero new old = old
settled_if zero (suc s) new old = new
settled_if (suc s) t new old = old

-- a call leaves these statuses: each variable that was open and is not takes its new status, the call's number and the way of its
-- index; the other records stay
abbrev pub records_from : ℕ → ℕ → (ℕ → Way) → List ℕ → List Record → List Record
records_from i call way ss [] = []
records_from i call way [] (r ∷ rs) = r ∷ rs
records_from i call way (s ∷ ss) (r ∷ rs) =
    settled_if r.status s (record { status = s; call = call; way = way i }) r ∷ records_from (suc i) call way ss rs

-- by a model: compare where it gives another value than the first one, else flip
abbrev pub way_if : Bool → Way
way_if true = Way.Compare
way_if false = Way.Flip

-- ---- what is counted

-- this call settled the variable, in this way
abbrev pub settled_by : ℕ → Way → Record → Bool
settled_by call way r = eqb r.call call && eqb (way_number r.way) (way_number way)

-- a variable is free if compare or flip settled it
abbrev pub by_model : Way → Bool
by_model Way.Open = false
by_model Way.Compare = true
by_model Way.Flip = true
by_model Way.Chunk = false
