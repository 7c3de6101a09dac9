-- The laws of a list that no rule refuses: its starts are found, and buffers are cleared.
--
--   found_formula     the starts as they are found are those of a formula
--   cleared           buffers that are set to 0 are cleared
--   front_len         how long the front of a buffer is
--
-- Assumes nothing.
use mathlib.Core.Path.{◌≡◌, sym, ◌∙◌, ap}
use mathlib.Core.List.{List}
use Prim.Native.Nat.{ℕ, ◌+◌, ◌≤◌}
use lib.IntN.{ℤ}
use lib.ListN.{length, take, replicate}
use lib.Seq.{length-take-le}
use Rattle.rules.specs.Answer.{log_length}
use Rattle.formula.specs.Starts.{starts_of, StartsFound}
use Rattle.formula.specs.Formula.{Formula}
use Rattle.formula.proofs.StartsLaws.{found_front}
use Rattle.calls.specs.Records.{RecordsLent}
use Rattle.backbone.specs.First.{Cleared}

-- the starts as they are found are those of the formula
pub found_formula : {vars n : ℕ} {es : List ℤ} {before after : List ℕ} → Formula vars es (starts_of es) → StartsFound es before n after
    → Formula vars es (take (n + 1) after)
found_formula f w =
    record { vars_fit = f.vars_fit; entries_most = f.entries_most; clauses_most = f.clauses_most; starts_are = found_front w; up_to = f.up_to }

pub cleared : (status calls ways log : List ℕ) {status' calls' ways' log' : List ℕ} → RecordsLent status calls ways → length log ≡ log_length (length status)
    → length status' ≡ length status → status' ≡ replicate (length status) 0 → calls' ≡ replicate (length calls) 0
    → ways' ≡ replicate (length ways) 0 → log' ≡ replicate (length log) 0 → Cleared status' calls' ways' log'
cleared status calls ways log o n e s c w l =
    record {
      status_is = s ∙ ap (λ (n : ℕ). replicate n 0) (sym e);
      calls_are = c ∙ ap (λ (n : ℕ). replicate n 0) (o.calls_len ∙ sym e);
      ways_are = w ∙ ap (λ (n : ℕ). replicate n 0) (o.ways_len ∙ sym e);
      log_is = l ∙ ap (λ (n : ℕ). replicate n 0) (n ∙ ap log_length (sym e));
    }

pub front_len : {A : Type 0} (n : ℕ) (xs : List A) → n ≤ length xs → n ≡ length (take n xs)
front_len n xs h = sym (length-take-le n xs h)
