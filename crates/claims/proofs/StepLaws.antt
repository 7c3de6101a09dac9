-- The laws of specs/Steps: what a number does to the judgement where a part is due.
--
--   due_end, due_malformed, due_number     what stands next
--   fits_on           a number that is not at fault leads on
--   fault_stop        a number at fault is the answer
--   value_minus, value_plain     a number with a minus, and without
--
-- Assumes nothing.
use mathlib.Core.Path.{◌≡◌, ◌∙◌, ap}
use mathlib.Core.Bool.{Bool, true, false}
use mathlib.Core.List.{List}
use mathlib.Core.Option.{some}
use Prim.Native.Nat.{ℕ, zero, suc, ◌-◌, ◌≤◌}
use native.Mathlib.Omega.{arith}
use lib.IntN.{ℤ, pos, negsuc}
use lib.ListN.{length}
use Rattle.rules.specs.declared.ClaimsAnswer.{ClaimsAnswer}
use Rattle.rules.specs.Meaning.{Clause}
use Rattle.texts.specs.Text.{entry_of}
use Rattle.texts.specs.ClaimsReading.{Part, next, is_at_fault, judge_parts}
use Rattle.texts.proofs.ClaimsJudged.{judge_malformed, judge_unfinished}
use Rattle.std.specs.Prelude.{Some, None, Ok, Err}
use Rattle.reader.specs.declared.next.Spot.{Spot}
use Rattle.reader.specs.declared.token.Entry.{Entry}
use Rattle.reader.specs.Words.{signed_value, value_of}
use Rattle.reader.specs.Next.{tokens_at, bytes_at, Next, Finds}
use Rattle.claims.specs.Steps.{judge_at, judge_from, NumberDue, no_number, number}

-- ---- what stands next

module _ (text : List ℕ) (at : ℕ) where
  pub due_end : Finds text at (Ok None) → NumberDue text at (Err (ClaimsAnswer.Rejected (length text)))
  due_end (Finds.no_token e) =
      no_number (λ vars F p u. ap (judge_parts vars F (length text) p) e ∙ judge_unfinished vars F (length text) u)

  pub due_malformed : (from : ℕ) → Finds text at (Err from) → NumberDue text at (Err (ClaimsAnswer.BadToken from))
  due_malformed from (Finds.malformed to n e) =
      no_number (λ vars F p u.
      ap (judge_parts vars F (length text) p) n.tokens ∙
      judge_malformed vars F (length text) p (record { at = from; bytes = bytes_at text from to }) (tokens_at text to) e)

  pub due_number : (s : Spot) → Finds text at (Ok (Some s)) → NumberDue text at (Ok s)
  due_number s (Finds.number n h m) = number n h (record { some = m })

-- ---- a number where a part is due

module _ (vars : ℕ) (F : List Clause) {text : List ℕ} {at from to : ℕ} (p : Part) (l : ℤ) (n : Next text at from to)
    (w : entry_of (bytes_at text from to) ≡ some l) where
  pub fits_on : is_at_fault vars F p l ≡ false → judge_at vars F text p at ≡ judge_from vars F text (next vars p from l) to
  unfolding judge_parts
  fits_on h = ap (judge_parts vars F (length text) p) n.tokens ∙ rw (w, h)

  pub fault_stop : is_at_fault vars F p l ≡ true → judge_at vars F text p at ≡ ClaimsAnswer.Rejected from
  unfolding judge_parts
  fault_stop h = ap (judge_parts vars F (length text) p) n.tokens ∙ rw (w, h)

-- ---- the value of a number

pub value_minus : (e : Entry) → e.minus ≡ true → 1 ≤ e.number → value_of e ≡ negsuc (e.number - 1)
value_minus e m h = ap (λ (b : Bool). signed_value b e.number) m ∙ go e.number h
  where
    go : (n : ℕ) → 1 ≤ n → signed_value true n ≡ negsuc (n - 1)
    go zero h = absurd (omega arith)
    go (suc n) h = let e : n ≡ suc n - 1 = omega arith in ap negsuc e

pub value_plain : (e : Entry) → e.minus ≡ false → value_of e ≡ pos e.number
value_plain e m = ap (λ (b : Bool). signed_value b e.number) m
