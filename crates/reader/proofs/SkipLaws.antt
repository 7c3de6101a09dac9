-- The laws of what stands between the tokens (specs/Skips), and of the token behind it.
--
--   past_blank, past_lf, past_comment     behind a blank; an LF with no comment behind it; one with a comment
--   tokens_here                   the token at a place, and the tokens behind it; token_lt: it has a byte
--
-- Assumes nothing.
use mathlib.Core.Path.{◌≡◌, refl, sym, ◌∙◌, ap, ap₂, subst}
use mathlib.Core.Bool.{true, false}
use mathlib.Core.List.{List, [], ◌∷◌}
use Prim.Native.Nat.{ℕ, suc, ◌+◌, ◌-◌, ◌≤◌, ◌<◌}
use native.Mathlib.Omega.{arith}
use native.Mathlib.Numerals.{add-one}
use borrow.Author.Tests.{eqb-true}
use lib.ListN.{length, get_or, take, drop, take-append-drop}
use lib.Seq.{drop-cons, drop-drop, length-take-le}
use Rattle.rules.specs.Lists.{nth_index}
use Rattle.texts.specs.Text.{is_lf, is_blank, is_comment, Piece, tokens_from}
use Rattle.rules.proofs.ListLaws.{never}
use Rattle.texts.proofs.BodyLaws.{tokens_blank, tokens_comment, tokens_word}
use Rattle.reader.specs.Scan.{first_from}
use Rattle.reader.specs.Skips.{Past}
use Rattle.reader.proofs.ScanLaws.{first_le, first_none, first_stops, from_le}

-- ---- a comment line

-- an LF and a comment line behind it: the tokens are those from the end of that line on
to_line_end : (i : ℕ) (xs : List ℕ) → tokens_from i (10 ∷ 99 ∷ xs) ≡ tokens_from (i + 2 + nth_index is_lf xs 0) (drop (nth_index is_lf xs 0) xs)
to_line_end i xs =
    let n = nth_index is_lf xs 0 in
    ap (λ (ys : List ℕ). tokens_from i (10 ∷ 99 ∷ ys)) (sym (take-append-drop n xs)) ∙
    tokens_comment i (take n xs) (first_none is_lf xs) (first_stops is_lf xs) ∙
    ap (λ (m : ℕ). tokens_from (i + 2 + m) (drop n xs)) (length-take-le n xs (first_le is_lf xs))

-- ---- behind a blank

module _ (text : List ℕ) (i : ℕ) (h : i < length text) (b : is_blank (get_or text i 0) ≡ true) where
  -- the next byte, unless an LF and a comment stand here
  past_next : (is_lf (get_or text i 0) ≡ true → is_comment (drop (i + 1) text) ≡ false) → Past text i (i + 1)
  past_next n =
      let next : drop (i + 1) text ≡ drop (suc i) text = ap (λ (j : ℕ). drop j text) (add-one i) in
      record {
        passed =
            record {
              same =
                  ap (tokens_from (i + 1)) next ∙
                  sym (ap (tokens_from i) (drop-cons text i 0 h) ∙
                  tokens_blank i (get_or text i 0) (drop (suc i) text) b (λ e. ap is_comment (sym next) ∙ n e));
              onward = omega arith;
            };
        further = omega arith;
        within = omega arith;
      }

  pub past_blank : is_lf (get_or text i 0) ≡ false → Past text i (i + 1)
  past_blank e = past_next (λ q. absurd (never q e))

  pub past_lf : is_comment (drop (i + 1) text) ≡ false → Past text i (i + 1)
  past_lf e = past_next (λ q. e)

  pub past_comment : get_or text i 0 ≡ 10 → is_comment (drop (i + 1) text) ≡ true → Past text i (first_from is_lf text (i + 1))
  past_comment e c = go (drop (i + 1) text) refl c
    where
      go : (xs : List ℕ) → drop (i + 1) text ≡ xs → is_comment xs ≡ true → Past text i (first_from is_lf text (i + 1))
      go [] q k = absurd (never k refl)
      go (x ∷ xs) q k =
          let n = nth_index is_lf xs 0 in
          let is_c : x ≡ 99 = eqb-true x 99 k in
          let here : drop i text ≡ 10 ∷ 99 ∷ xs =
          drop-cons text i 0 h ∙
          ap₂ (λ (y : ℕ) (ys : List ℕ). y ∷ ys) e (ap (λ (j : ℕ). drop j text) (sym (add-one i)) ∙ q ∙ ap (λ (y : ℕ). y ∷ xs) is_c) in
          let place : first_from is_lf text (i + 1) ≡ i + 2 + n = rw (q, is_c) (omega arith) in
          let sum : i + 2 + n ≡ i + 1 + suc n = omega arith in
          let later : drop (i + 2 + n) text ≡ drop n xs =
          ap (λ (j : ℕ). drop j text) sum ∙ sym (drop-drop (suc n) (i + 1) text) ∙ ap (drop (suc n)) q in
          subst (Past text i) (sym place)
          (record {
            passed =
                record {
                  same = ap (tokens_from (i + 2 + n)) later ∙ sym (ap (tokens_from i) here ∙ to_line_end i xs);
                  onward = omega arith;
                };
            further = omega arith;
            within = omega (arith, place, from_le is_lf text (i + 1) (omega arith));
          })

-- ---- the token at a place

module _ (text : List ℕ) (from to : ℕ) (h : from < length text) (b : is_blank (get_or text from 0) ≡ false) (e : to ≡ first_from is_blank text from) where
  some_byte : 1 ≤ nth_index is_blank (drop from text) 0
  some_byte = rw (drop-cons text from 0 h, b) (omega arith)

  pub token_lt : from < to
  token_lt = omega (arith, e, some_byte)

  pub tokens_here :
      tokens_from from (drop from text) ≡ record { at = from; bytes = take (to - from) (drop from text) } ∷ tokens_from to (drop to text)
  tokens_here =
      let xs = drop from text in
      let n = nth_index is_blank xs 0 in
      let long : length (take n xs) ≡ n = length-take-le n xs (first_le is_blank xs) in
      let gap : n ≡ to - from = omega (arith, e) in
      ap (tokens_from from) (sym (take-append-drop n xs)) ∙
      tokens_word from (take n xs) (record { some = omega (arith, long, some_byte); none = first_none is_blank xs }) (first_stops is_blank xs) ∙
      ap₂ (λ (ws : List ℕ) (ts : List Piece). record { at = from; bytes = ws } ∷ ts) (ap (λ (m : ℕ). take m xs) gap)
      (ap₂ (λ (m : ℕ) (ys : List ℕ). tokens_from m ys) (ap (λ (m : ℕ). from + m) long ∙ sym e) (drop-drop n from text ∙ ap (λ (m : ℕ). drop m text) (sym e)))
