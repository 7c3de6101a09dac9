-- docs/RULES.md, "The printed verdict": the line that is printed for a text and a file of claims. Assumes nothing.
use Rattle.std.specs.Prelude.{◌≡◌, List, [], ◌∷◌, ◌++◌, ℕ, leb, length}
use Rattle.rules.specs.declared.ClaimsAnswer.{ClaimsAnswer}
use Rattle.rules.specs.Numbers.{max_text, max_entries, read_number, read_place, refusal_number, refusal_place}
use Rattle.texts.specs.Reading.{Judged, accepted, refused, judge}
use Rattle.texts.specs.Plain.{decimal}
use Rattle.texts.specs.Printed.{refused_line, count_if_room, bytes_if_room}
use Rattle.texts.specs.ClaimsReading.{claims_given, claims_answer}

-- "accepted "
abbrev pub accepted_word : List ℕ
accepted_word = 97 ∷ 99 ∷ 99 ∷ 101 ∷ 112 ∷ 116 ∷ 101 ∷ 100 ∷ 32 ∷ []

-- " claims"
abbrev pub claims_word : List ℕ
claims_word = 32 ∷ 99 ∷ 108 ∷ 97 ∷ 105 ∷ 109 ∷ 115 ∷ []

-- how many claims hold; or the number and the place of the answer
abbrev pub claims_line : ClaimsAnswer → List ℕ
claims_line (ClaimsAnswer.Accepted n) = accepted_word ++ decimal n ++ claims_word ++ 10 ∷ []
claims_line ClaimsAnswer.LongText = refused_line 2 max_text
claims_line (ClaimsAnswer.BadToken at) = refused_line 5 at
claims_line (ClaimsAnswer.Rejected at) = refused_line 17 at
claims_line (ClaimsAnswer.Refused a) = refused_line (refusal_number a) (refusal_place a)

-- a text that is refused gets the line of its own refusal
abbrev pub claims_text_of_judged : Judged → List ℕ → List ℕ
claims_text_of_judged (refused a) claims = refused_line (read_number a) (read_place a)
claims_text_of_judged (accepted s es) claims = claims_line (claims_answer (claims_given es s.vars claims))

unfoldable pub claims_text_of : List ℕ → List ℕ → List ℕ
claims_text_of text claims = claims_text_of_judged (judge max_entries text) claims

-- ---- what a printing promises of its result and of the buffer: the line, and how many bytes it has; nothing, and 0, where the buffer is
-- shorter than it may be

abbrev pub max_claims_line : ℕ
max_claims_line = 64

pub record PrintsClaims (text claims before : List ℕ) (count : ℕ) (after : List ℕ) : Type 0 where
  pub count_is : count ≡ count_if_room (leb max_claims_line (length before)) (claims_text_of text claims)
  pub after_is : after ≡ bytes_if_room (leb max_claims_line (length before)) (claims_text_of text claims) before
