-- How many of the numbers are stored that the program is started with. Assumes nothing.
use Rattle.std.specs.Prelude.{ℕ, ◌≤◌, Result, Ok, Err}
use Rattle.arguments.specs.declared.NoNumber.{NoNumber}

-- no more than there is room for
abbrev pub Kept : Result ℕ NoNumber → ℕ → Type 0
Kept (Err e) room = Unit {0}
Kept (Ok n) room = n ≤ room
