-- From the promise of `shorter::shorter` to that in numbers.
--
--   shortens_fit      place and length fit the fields of the struct
--   shortens_in       what is returned in numbers, with the buffer as it was left
--
-- Assumes nothing.
use mathlib.Core.Path.{◌≡◌, refl, ◌∙◌, ap}
use mathlib.Core.List.{List}
use mathlib.Core.Option.{Option, none, some}
use Prim.Native.Nat.{ℕ}
use native.Mathlib.Omega.{arith}
use Rattle.rules.specs.declared.Refusal.{Refusal}
use Rattle.rules.specs.declared.ShorterReport.{ShorterReport}
use Rattle.texts.specs.Shorter.{ShorterGiven, shorter_task, shorter_refusal, Shortens}
use Rattle.rules.proofs.RunTheorems.{run_answer_lem}
use Rattle.texts.proofs.ShorterTheorems.{shorter_refused, shorter_accepted, shorter_nothing, shorter_written, accepted_within, shorter_fits}
use Rattle.igbezolum.specs.declared.shorten.IgbShorter.{IgbShorter}
use Rattle.igbezolum.specs.ShorterLinked.{shorter_numbers, ShorterFits, ShortensIn}
use Rattle.igbezolum.proofs.FitLaws.{refused_place, ended_place}

pub shortens_fit : {g : ShorterGiven} {r : ShorterReport} {after : List ℕ} → Shortens g r after → ShorterFits r
shortens_fit {g} {r} d = go (shorter_refusal g) refl
  where
    go : (o : Option Refusal) → shorter_refusal g ≡ o → ShorterFits r
    go (some a) q =
        let h = (shorter_refused g a).0 q in
        rw (d.result_is ∙ (shorter_nothing g a h).0) (record { place_fits = refused_place h; length_fits = omega arith })
    go none q =
        let acc = (shorter_accepted g).0 q in
        let limit = acc.listed.lent.in_limits.limit_some in
        rw (d.result_is ∙ (shorter_written g acc).0)
        (record {
          place_fits = ended_place (run_answer_lem (shorter_task g) limit);
          length_fits = shorter_fits (shorter_task g) limit (accepted_within g acc);
        })

pub shortens_in : {g : ShorterGiven} {r : ShorterReport} {after : List ℕ} {n : IgbShorter} → Shortens g r after → n ≡ shorter_numbers r
    → ShortensIn g n after
shortens_in d e = record { result_is = e ∙ ap shorter_numbers d.result_is; text_is = d.text_is }
