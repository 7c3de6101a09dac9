-- Text in quotes as the list of its bytes, so that a reader of a computed case sees what the bytes say. Only signs below 128 stand
-- in such text, and each of these is one byte, its number. Assumes nothing.
use mathlib.Core.Path.{◌≡◌, refl}
use mathlib.Core.List.{List, [], ◌∷◌}
use Prim.Native.Nat.{ℕ}
use Prim.Native.Char.{code}
use Prim.Native.String.{String, [] as no_more, ◌∷◌ as ◌before◌}

abbrev pub quoted : String → List ℕ
quoted no_more = []
quoted (c before s) = code c ∷ quoted s

-- what is what: a letter, a digit, minus, space, tab, LF, CR
pub quoted_bytes : quoted "aZ09- \t\n\r" ≡ 97 ∷ 90 ∷ 48 ∷ 57 ∷ 45 ∷ 32 ∷ 9 ∷ 10 ∷ 13 ∷ []
quoted_bytes = refl
