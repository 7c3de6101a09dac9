-- The laws of the shorter file of a text: what is read and what is written make what is printed.
--
--   put_shorter       what is written for a list that was read is put
--   put_line          the line of a refused text
--   line_room         room for what is printed
--   prints_short, prints_text     the contract, in a short buffer and in others
--   prints_le         how many bytes are put at most
--
-- Assumes nothing.
use mathlib.Core.Path.{◌≡◌, sym, ◌∙◌, ap, ap₂, subst}
use mathlib.Core.Logic.{◌≢◌}
use mathlib.Core.Bool.{Bool, true, false}
use mathlib.Core.List.{List, ◌++◌}
use Prim.Native.Nat.{ℕ, ◌+◌, ◌≤◌, ◌<◌}
use native.Mathlib.Omega.{arith}
use lib.Dec.{leb}
use lib.IntN.{ℤ}
use lib.ListN.{length, take, take-append-drop}
use Rattle.rules.specs.declared.ReadAnswer.{ReadAnswer}
use Rattle.rules.specs.declared.Reading.{Reading}
use Rattle.rules.specs.declared.ShorterReport.{ShorterReport}
use Rattle.rules.specs.Numbers.{max_text, max_entries, read_number, read_place}
use Rattle.texts.specs.Reading.{Reads}
use Rattle.texts.specs.Grammar.{Dimacs}
use Rattle.texts.specs.Printed.{refused_line, table_budget, table_chunk, count_if_room}
use Rattle.rules.specs.RunRefusals.{Accepted}
use Rattle.texts.specs.Shorter.{shorter_text, ShorterGiven, shorter_given, shorter_run, shorter_text_after, Shortens}
use Rattle.texts.specs.ShorterPrinted.{printed_task, shorter_of_judged, shorter_text_of, PrintsShorter}
use Rattle.texts.proofs.GrammarLaws.{accepted_sound}
use Rattle.texts.proofs.ReadList as reading
use Rattle.texts.proofs.ShorterTheorems.{shorter_room, shorter_written}
use Rattle.texts.proofs.ShorterText.{shorter_listed, printed_shorter, length-shorter_text_of}
use Rattle.lines.proofs.LineLaws.{refused_some}
use Rattle.buffers.specs.Put.{put_at, Room, Put}
use Rattle.buffers.proofs.PutLaws.{put_at_front}
use Rattle.buffers.proofs.RoomLaws.{short_count, short_bytes, whole_count, whole_bytes}

-- ---- a list that was read

module _ {text : List ℕ} {before : List ℤ} {r : Reading} {after : List ℤ} (d : Reads text before r after) (z : length before ≡ max_entries) where
  module _ (e : r.answer ≡ ReadAnswer.Accepted) where
    read : reading.ReadList text r after
    read = reading.read_list d z (ap read_number e)

    pub counted : r.entries ≤ length after
    counted = read.counted

    said : Dimacs text r.vars read.sizes.clauses (take r.entries after)
    said = subst (λ (v : ℕ). Dimacs text v read.sizes.clauses (take r.entries after)) (sym read.vars_are) (accepted_sound max_entries text read.judged)

    -- what is written for it is put
    pub put_shorter : {out left : List ℕ} {result : ShorterReport} → max_text ≤ length out
        → Shortens (shorter_given (take r.entries after) r.vars table_budget table_chunk out) result left
        → Put 0 (shorter_text_of text) out result.length left
    put_shorter {out} {left} {result} h w = rw (printed_shorter said) (record { next_is = next; after_is = bytes })
      where
        g : ShorterGiven
        g = shorter_given (take r.entries after) r.vars table_budget table_chunk out

        listed : Accepted (shorter_run g)
        listed = shorter_listed said out h

        size : ℕ
        size = length (shorter_text (printed_task r.vars (take r.entries after)))

        next : result.length ≡ 0 + length (shorter_text (printed_task r.vars (take r.entries after)))
        next = omega (arith, ap (λ (q : ShorterReport). q.length) (w.result_is ∙ (shorter_written g listed).0))

        bytes : left ≡ put_at out 0 (shorter_text (printed_task r.vars (take r.entries after)))
        bytes =
            let (result_is, front, rest, len) = shorter_written g listed in
            w.text_is ∙ sym (take-append-drop size (shorter_text_after g)) ∙
            ap₂ (λ (xs ys : List ℕ). xs ++ ys) front rest ∙
            sym (put_at_front out (shorter_text (printed_task r.vars (take r.entries after))) (shorter_room g listed))

  -- the line of a refused text
  pub put_line : r.answer ≢ ReadAnswer.Accepted → shorter_text_of text ≡ refused_line (read_number r.answer) (read_place r.answer)
  unfolding shorter_text_of
  put_line h = ap shorter_of_judged (reading.read_refused d z (refused_some r.answer h))

-- ---- the contract

pub line_room : (text out : List ℕ) → max_text ≤ length out → Room 0 (shorter_text_of text) out
line_room text out h = record { fits = omega (arith, length-shorter_text_of text) }

pub prints_short : (text before : List ℕ) → length before < max_text → PrintsShorter text before 0 before
prints_short text before h =
    record { count_is = short_count max_text (shorter_text_of text) before h; after_is = short_bytes max_text (shorter_text_of text) before h }

pub prints_text : {text before : List ℕ} {n : ℕ} {after : List ℕ} → max_text ≤ length before → Put 0 (shorter_text_of text) before n after
    → PrintsShorter text before n after
prints_text {text} {before} h p =
    record {
      count_is = whole_count max_text (shorter_text_of text) before (length-shorter_text_of text) h p;
      after_is = whole_bytes max_text (shorter_text_of text) before (length-shorter_text_of text) h p;
    }

pub prints_le : {text before : List ℕ} {n : ℕ} {after : List ℕ} → PrintsShorter text before n after → n ≤ max_text
prints_le {text} {before} {n} p = go (leb max_text (length before)) p.count_is
  where
    go : (b : Bool) → n ≡ count_if_room b (shorter_text_of text) → n ≤ max_text
    go true e = omega (arith, e, length-shorter_text_of text)
    go false e = omega (arith, e)
