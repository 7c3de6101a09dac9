-- What code says of a list: nothing, or why it is refused. Assumes nothing.
use Rattle.std.specs.Prelude.{Bool, ℕ, ℤ, cond, ltb, List, length, Option, Some, None, Result, Ok, Err}
use Rattle.std.proofs.Math.Option.{Option as Maybe, none, some}
use Rattle.rules.specs.declared.Refusal.{Refusal}
use Rattle.rules.specs.Lists.{nth_index}

abbrev pub found : Maybe Refusal → Result (Unit {0}) Refusal
found none = Ok tt
found (some a) = Err a

-- the first of two that refuses
abbrev pub or_rest : Result (Unit {0}) Refusal → Result (Unit {0}) Refusal → Result (Unit {0}) Refusal
or_rest (Err a) other = Err a
or_rest (Ok u) other = other

-- the index of the element that passes and has n passing elements before it, if there is one
abbrev pub nth_within : (ℤ → Bool) → List ℤ → ℕ → Option ℕ
nth_within p xs n = cond (ltb (nth_index p xs n) (length xs)) (Some (nth_index p xs n)) None
