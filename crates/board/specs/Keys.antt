-- Two numbers of a clause under values: how many distinct literals are true, and how many are unset. Assumes nothing.
use Rattle.std.specs.Prelude.{Bool, not, [], ◌∷◌, ℕ, ◌+◌, ◌*◌, ℤ}
use Rattle.rules.specs.Lists.{any, count, keep_if, eqz}
use Rattle.rules.specs.Meaning.{Clause, Values, is_true, is_unset}

abbrev pub holds : ℤ → Clause → Bool
holds l cl = any (eqz l) cl

-- each literal once: where it stands last
abbrev pub distinct : Clause → Clause
distinct [] = []
distinct (l ∷ cl) = keep_if (not (holds l cl)) l (distinct cl)

unfoldable pub true_count : Values → Clause → ℕ
true_count vs cl = count (is_true vs) (distinct cl)

unfoldable pub unset_count : Values → Clause → ℕ
unset_count vs cl = count (is_unset vs) (distinct cl)

-- both in one number: below 2 if no literal is true and at most one is unset
unfoldable pub key_of : Values → Clause → ℕ
key_of vs cl = 65536 * true_count vs cl + unset_count vs cl
