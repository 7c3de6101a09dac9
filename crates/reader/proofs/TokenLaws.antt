-- The laws of tokens as src/token.rt reads them.
--
--   token_none, token_minus, token_plain     a token by its first byte
--   entry_of_token, bad_of_token  what is read says what the token says
--
-- Assumes nothing.
use mathlib.Core.Path.{◌≡◌, refl}
use mathlib.Core.Bool.{Bool, true, false}
use mathlib.Core.List.{List, [], ◌∷◌}
use mathlib.Core.Option.{Option as Maybe, none, some}
use Prim.Native.Nat.{ℕ, zero, suc, ◌-◌, ◌≤◌, ◌<◌}
use native.Mathlib.Omega.{arith}
use borrow.Author.Tests.{ne_eqb}
use lib.IntN.{ℤ, pos, negsuc}
use lib.ListN.{length, get_or, take, drop}
use lib.Seq.{take_all}
use Rattle.std.specs.Prelude.{None, Some}
use Rattle.texts.specs.Text.{is_numeral, numeral, negative_of, entry_if, entry_of}
use Rattle.reader.specs.declared.token.Entry.{Entry}
use Rattle.reader.specs.Words.{number_if, number_of, value_of, token_of, signed_token}
use Rattle.rules.proofs.ListLaws.{apart}

-- ---- a token by its first byte

pub token_none : (w : List ℕ) → length w < 1 → signed_token false (number_of w) ≡ token_of (entry_of w)
unfolding entry_of
token_none [] h = refl
token_none (b ∷ bs) h = absurd (omega arith)

minus_is : (t : Bool) (n : ℕ) → signed_token true (number_if t n) ≡ token_of (entry_if t (negative_of n))
minus_is true zero = refl
minus_is true (suc n) = refl
minus_is false n = refl

plain_is : (t : Bool) (n : ℕ) → signed_token false (number_if t n) ≡ token_of (entry_if t (some (pos n)))
plain_is true n = refl
plain_is false n = refl

pub token_minus :
    (w : List ℕ) → 1 ≤ length w → get_or w 0 0 ≡ 45 →
    signed_token true (number_of (take (length w - 1) (drop 1 w))) ≡ token_of (entry_of w)
unfolding entry_of
token_minus [] n e = absurd (omega arith)
token_minus (b ∷ bs) n e =
    rw (e, take_all (suc (length bs) - 1) bs (omega arith)) (minus_is (is_numeral bs) (numeral bs))

pub token_plain : (w : List ℕ) → 1 ≤ length w → (get_or w 0 0 ≡ 45 → ⊥) → signed_token false (number_of w) ≡ token_of (entry_of w)
unfolding entry_of
token_plain [] n e = absurd (omega arith)
token_plain (b ∷ bs) n e = rw (ne_eqb b 45 e) (plain_is (is_numeral (b ∷ bs)) (numeral (b ∷ bs)))

-- ---- what is read

pub bad_of_token : (o : Maybe ℤ) → token_of o ≡ None → o ≡ none
bad_of_token none h = refl
bad_of_token (some (pos n)) h = apart cc
bad_of_token (some (negsuc n)) h = apart cc

pub entry_of_token : (o : Maybe ℤ) (e : Entry) → token_of o ≡ Some e → o ≡ some (value_of e)
entry_of_token none e h = apart cc
entry_of_token (some (pos n)) e h = let r : record { minus = false; number = n } ≡ e = cc in rw (← r)
entry_of_token (some (negsuc n)) e h = let r : record { minus = true; number = suc n } ≡ e = cc in rw (← r)
