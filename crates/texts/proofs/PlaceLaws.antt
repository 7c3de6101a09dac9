-- The place of a refusal lies within the text or at its end.
--
--   token_in, token_place     a token starts within its line, and within the text
--   line_place        so does the first line that is not skipped
--   refuses_place     the place of every refusal is at most the size of a text
--
-- Assumes nothing.
use mathlib.Core.Path.{◌≡◌, refl, ap, subst}
use mathlib.Core.Logic.{◌⊎◌, inl, inr}
use mathlib.Core.Bool.{Bool, not}
use mathlib.Core.List.Memᴰ
use mathlib.Core.List.{List, [], ◌∷◌, ◌++◌, map}
use Prim.Native.Nat.{ℕ, ◌+◌, ◌≤◌}
use native.Mathlib.Omega.{arith}
use lib.IntN.{ℤ}
use lib.ListN.{length, drop, length-append, length-drop}
use Rattle.rules.specs.declared.ReadAnswer.{ReadAnswer}
use Rattle.rules.specs.Lists.{In, cut, joined, sum_of}
use Rattle.rules.specs.Numbers.{max_text, read_place}
use Rattle.texts.specs.Text.{Piece, Sizes, is_empty, is_lf, is_blank, is_comment, placed_from, tokens_in, lines_read, tokens_from}
use Rattle.texts.specs.Reading.{end_of}
use Rattle.texts.specs.Refusals.{FirstLine, AtToken, Refuses, short_buffer, long_text, no_header, bad_header}
use Rattle.texts.specs.Refusals.{large_header, bad_token, token_behind, token_over_vars, many_tokens, short_text}
use Rattle.rules.proofs.ListLaws.{keep_sound, map_in}
use Rattle.texts.proofs.CutLaws.{Cut, last, piece, cut_exists}
use Rattle.texts.proofs.LineLaws.{first_line_sound}

-- ---- pieces

-- the pieces and the bytes between them
cut_length : {p : ℕ → Bool} {xs : List ℕ} {xss : List (List ℕ)} → Cut p xs xss → sum_of (λ bs. length bs + 1) xss ≡ length xs + 1
cut_length (last {xs = xs} h) = omega arith
cut_length (piece {xs = xs} {y = y} {ys = ys} h k c) = omega (arith, cut_length c, length-append xs (y ∷ ys))

placed_place : (at : ℕ) (xss : List (List ℕ)) {t : Piece} → In t (placed_from at xss) → t.at + length t.bytes + 1 ≤ at + sum_of (λ bs. length bs + 1) xss
placed_place at [] i = absurd (Memᴰ.not-nil i)
placed_place at (bs ∷ bss) (Memᴰ.head e) = rw e (omega arith)
placed_place at (bs ∷ bss) (Memᴰ.tail i) = omega (arith, placed_place (at + length bs + 1) bss i)

-- a token lies within its line
in_joined : {A : Type 0} {x : A} (xss : List (List A)) → In x (joined xss) → (xs : List A) × In xs xss × In x xs
in_joined [] i = absurd (Memᴰ.not-nil i)
in_joined {A} {x} (xs ∷ xss) i = go (Memᴰ.append_cases xs i) (in_joined xss)
  where
    go : In x xs ⊎ In x (joined xss) → (In x (joined xss) → (ys : List A) × In ys xss × In x ys) → (ys : List A) × In ys (xs ∷ xss) × In x ys
    go (inl j) ih = (xs, Memᴰ.head refl, j)
    go (inr j) ih = let (ys, k, l) = ih j in (ys, Memᴰ.tail k, l)

pub token_in : (line : Piece) {t : Piece} → In t (tokens_in line) → t.at ≤ line.at + length line.bytes
token_in line i =
    let (j, e) = keep_sound (λ (t : Piece). not (is_empty t.bytes)) (placed_from line.at (cut is_blank line.bytes)) i in
    omega (arith, placed_place line.at (cut is_blank line.bytes) j, cut_length (cut_exists is_blank line.bytes))

in_lines_read : {line : Piece} (lines : List Piece) → In line (lines_read lines) → In line lines
in_lines_read [] i = i
in_lines_read (l ∷ ls) (Memᴰ.head e) = Memᴰ.head e
in_lines_read (l ∷ ls) (Memᴰ.tail i) = Memᴰ.tail (keep_sound (λ (z : Piece). not (is_comment z.bytes)) ls i).0

pub token_place : (at : ℕ) (xs : List ℕ) {t : Piece} → In t (tokens_from at xs) → t.at ≤ at + length xs
unfolding tokens_from
token_place at xs {t} i =
    let lines = placed_from at (cut is_lf xs) in
    let (ts, j, k) = in_joined (map tokens_in (lines_read lines)) i in
    let (line, m, e) = map_in tokens_in (lines_read lines) j in
    let n : In t (tokens_in line) = subst (λ (us : List Piece). In t us) e k in
    omega (arith, token_in line n, placed_place at (cut is_lf xs) (in_lines_read lines m), cut_length (cut_exists is_lf xs))

pub line_place : {text : List ℕ} {line : Piece} → FirstLine text line → line.at + length line.bytes ≤ length text
line_place {text} {line} f =
    let s = first_line_sound f in
    omega (arith, s.place, ap length s.is-text, length-append (s.front ++ line.bytes) s.rest, length-append s.front line.bytes)

-- ---- the place of a refusal

at_token_place : {room : ℕ} {text : List ℕ} {s : Sizes} {es : List ℤ} {t : Piece} → AtToken room text s es t → t.at ≤ max_text
at_token_place {text = text} {t = t} w =
    let n = end_of w.line in
    let i : In t (tokens_from n (drop n text)) = rw w.tokens (Memᴰ.append_right w.before (Memᴰ.head refl)) in
    omega (arith, token_place n (drop n text) i, length-drop n text, line_place w.headed.first_line_lem, w.begun.text_fits)

pub refuses_place : {room : ℕ} {text : List ℕ} {a : ReadAnswer} → Refuses room text a → read_place a ≤ max_text
refuses_place (short_buffer h) = omega arith
refuses_place (long_text h k) = omega arith
refuses_place (no_header b h) = b.text_fits
refuses_place (bad_header line b f h) = omega (arith, line_place f, b.text_fits)
refuses_place (large_header line v c b f h k) = omega (arith, line_place f, b.text_fits)
refuses_place (bad_token s es t w h) = at_token_place w
refuses_place (token_behind s es t l w h k) = at_token_place w
refuses_place (token_over_vars s es t l w h k u) = at_token_place w
refuses_place (many_tokens s es t l w h k u m) = at_token_place w
refuses_place (short_text line s es b h f k) = b.text_fits
