-- The version of the library as one number: docs/RULES.md, "The version". Assumes nothing.
use Rattle.std.specs.Prelude.{ℕ, ◌+◌, ◌*◌}

-- that of a major, a minor and a patch number
abbrev pub version_of : ℕ → ℕ → ℕ → ℕ
version_of major minor patch = major * 10000 + minor * 100 + patch

-- 0.11.0
abbrev pub version_number : ℕ
version_number = version_of 0 11 0
