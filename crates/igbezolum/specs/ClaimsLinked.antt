-- docs/RULES.md, "Claims", in the struct that C and Rust get: the answer by its number and its place. Assumes nothing.
use Rattle.std.specs.Prelude.{◌≡◌}
use Rattle.rules.specs.Numbers.{claims_number, claims_place}
use Rattle.rules.specs.declared.ClaimsAnswer.{ClaimsAnswer}
use Rattle.texts.specs.ClaimsReading.{ClaimsGiven, claims_answer}
use Rattle.igbezolum.specs.declared.verdict.IgbVerdict.{IgbVerdict}

abbrev pub verdict_numbers : ClaimsAnswer → IgbVerdict
verdict_numbers a = record { answer = claims_number a; place = claims_place a }

-- what is promised, in numbers
pub record ChecksIn (g : ClaimsGiven) (result : IgbVerdict) : Type 0 where
  pub result_is : result ≡ verdict_numbers (claims_answer g)
