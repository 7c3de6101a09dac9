-- What a reading into 4,096 entries leaves: the list of an accepted text, or the answer of a refused one.
--
--   read_list         an accepted reading: the list is the front of the buffer
--   read_refused      a refused one: the answer is the refusal
--
-- Assumes nothing.
use mathlib.Core.Path.{◌≡◌, refl, sym, ◌∙◌, ap}
use mathlib.Core.Logic.{◌≢◌}
use mathlib.Core.List.{List, ◌++◌, append_assoc}
use Prim.Native.Nat.{ℕ, ◌-◌, ◌≤◌}
use native.Mathlib.Omega.{arith}
use lib.IntN.{ℤ, pos}
use lib.ListN.{length, take, drop, replicate, length-append}
use lib.Seq.{take-append_seam}
use Rattle.rules.specs.declared.ReadAnswer.{ReadAnswer}
use Rattle.rules.specs.declared.Reading.{Reading}
use Rattle.rules.specs.Numbers.{max_entries, read_number}
use Rattle.texts.specs.Text.{Sizes}
use Rattle.texts.specs.Reading.{Judged, accepted, refused, judge, returned, reading_of, written, entries_after, Reads}
use Rattle.texts.specs.Refusals.{Refuses, short_buffer, long_text, no_header, bad_header, large_header}
use Rattle.texts.specs.Refusals.{bad_token, token_behind, token_over_vars, many_tokens, short_text}
use Rattle.texts.proofs.RefusalLaws.{refusal_sound}

-- an accepted reading: V, and the entries as the front of the buffer
pub record ReadList (text : List ℕ) (r : Reading) (after : List ℤ) : Type 0 where
  pub sizes : Sizes
  pub vars_are : r.vars ≡ sizes.vars
  pub counted : r.entries ≤ length after
  pub judged : judge max_entries text ≡ accepted sizes (take r.entries after)

never_zero : {room : ℕ} {text : List ℕ} {a : ReadAnswer} → Refuses room text a → read_number a ≡ 0 → ⊥
never_zero (short_buffer h) e = omega (arith, e)
never_zero (long_text h k) e = omega (arith, e)
never_zero (no_header b h) e = omega (arith, e)
never_zero (bad_header line b f h) e = omega (arith, e)
never_zero (large_header line v c b f h k) e = omega (arith, e)
never_zero (bad_token s es t w h) e = omega (arith, e)
never_zero (token_behind s es t l w h k) e = omega (arith, e)
never_zero (token_over_vars s es t l w h k u) e = omega (arith, e)
never_zero (many_tokens s es t l w h k u m) e = omega (arith, e)
never_zero (short_text line s es b h f k) e = omega (arith, e)

module _ {text : List ℕ} {before : List ℤ} {r : Reading} {after : List ℤ} (d : Reads text before r after) (z : length before ≡ max_entries) where
  returned_is : r ≡ returned (judge max_entries text)
  unfolding reading_of
  returned_is = d.result_is ∙ ap (λ (n : ℕ). returned (judge n text)) z

  written_is : after ≡ written (judge max_entries text) before
  unfolding entries_after
  written_is = d.after_is ∙ ap (λ (n : ℕ). written (judge n text) before) z

  pub read_refused : read_number r.answer ≢ 0 → judge max_entries text ≡ refused r.answer
  read_refused h = go (judge max_entries text) returned_is
    where
      go : (j : Judged) → r ≡ returned j → j ≡ refused r.answer
      go (accepted s es) e = absurd (h (ap (λ (q : Reading). read_number q.answer) e))
      go (refused a) e = sym (ap (λ (q : Reading). refused q.answer) e)

  pub read_list : read_number r.answer ≡ 0 → ReadList text r after
  read_list h = go (judge max_entries text) refl returned_is written_is
    where
      go : (j : Judged) → judge max_entries text ≡ j → r ≡ returned j → after ≡ written j before → ReadList text r after
      go (refused a) q e f = absurd (never_zero (refusal_sound max_entries text q) (sym (ap (λ (p : Reading). read_number p.answer) e) ∙ h))
      go (accepted s es) q e f =
          let zeros = replicate (max_entries - length es) (pos 0) in
          let rest = drop max_entries before in
          let front : take r.entries after ≡ es =
          ap (λ (p : Reading). take p.entries after) e ∙
          ap (take (length es)) (f ∙ append_assoc es zeros rest) ∙
          take-append_seam es (zeros ++ rest) in
          record {
            sizes = s;
            vars_are = ap (λ (p : Reading). p.vars) e;
            counted =
                rw (ap (λ (p : Reading). p.entries) e, f)
                (omega (arith, length-append (es ++ zeros) rest, length-append es zeros));
            judged = q ∙ ap (accepted s) (sym front);
          }
