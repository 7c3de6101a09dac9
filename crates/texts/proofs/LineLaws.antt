-- The laws of lines: the first line that is not skipped (specs/Refusals) is where the grammar has its header line, behind lines of
-- blanks and comments (specs/Grammar).
--
--   Front                         a text as skipped lines, a line, and a rest that is empty or starts with LF
--   first_line_sound, first_line_complete     the first line that is not skipped, as such a text and back
--   first_line_exists             all lines are skipped, or there is a first line that is not
--   first_line_unique             it is one line
--   drop-end_of                    what stands behind a line, from its LF on
--
-- Assumes nothing.
use mathlib.Core.Path.{◌≡◌, refl, sym, ◌∙◌, ap, ap₂, subst}
use mathlib.Core.Logic.{◌⊎◌, inl, inr}
use mathlib.Core.Bool.{Bool, true, false}
use mathlib.Core.List.{List, [], ◌∷◌, ◌++◌, append-nil, append_assoc}
use Prim.Native.Nat.{ℕ, ◌+◌}
use native.Mathlib.Omega.{arith}
use lib.ListN.{length, length-append, drop}
use lib.Seq.{drop-append_seam}
use borrow.Author.Tests.{eqb-true}
use Rattle.rules.specs.Lists.{any, all, cut}
use Rattle.texts.specs.Text.{is_lf, Piece, placed_from, lines_of, is_skipped}
use Rattle.texts.specs.Reading.{end_of}
use Rattle.texts.specs.Grammar.{NoLf, Skipped, blanks, comment, Before, nothing, line}
use Rattle.texts.specs.Refusals.{FirstLine}
use Rattle.rules.proofs.ListLaws.{never, and_left, and_right}
use Rattle.texts.proofs.ByteLaws.{no_lf_sound, no_lf_complete}
use Rattle.texts.proofs.CutLaws.{nil_not_append, Cut, last, piece, cut_exists, cut_none, cut_piece, Stops, at_end, at_one}
use Rattle.texts.proofs.TokenLaws.{skipped_sound, skipped_complete}

-- a text that begins at the place `at`: skipped lines, the line that is found, and its end
pub record Front (at : ℕ) (text : List ℕ) (found : Piece) : Type 0 where
  pub front : List ℕ
  pub rest : List ℕ
  pub before : Before front
  pub is-text : text ≡ front ++ found.bytes ++ rest
  pub place : found.at ≡ at + length front
  pub one_line : NoLf found.bytes
  pub stops : Stops is_lf rest

seam : (xs : List ℕ) (x : ℕ) (ys zs vs : List ℕ) → xs ++ x ∷ (ys ++ zs ++ vs) ≡ xs ++ x ∷ ys ++ zs ++ vs
seam xs x ys zs vs = sym (ap (λ (us : List ℕ). us ++ vs) (append_assoc xs (x ∷ ys) zs) ∙ append_assoc xs (x ∷ (ys ++ zs)) vs)

-- ---- from the lines to the text

front_now : (at : ℕ) {text : List ℕ} (bs rest : List ℕ) {found : Piece} → record { at = at; bytes = bs } ≡ found
    → any is_lf bs ≡ false → Stops is_lf rest → text ≡ bs ++ rest → Front at text found
front_now at bs rest e h s q =
    subst (Front at _) e (record { front = []; rest = rest; before = nothing; is-text = q; place = omega arith; one_line = no_lf_sound bs h; stops = s })

front_later : {at next : ℕ} {text : List ℕ} (bs rest : List ℕ) {found : Piece} → Skipped bs → next ≡ at + length bs + 1
    → text ≡ bs ++ 10 ∷ rest → Front next rest found → Front at text found
front_later {at} bs rest {found} k e q f =
    record {
      front = bs ++ 10 ∷ f.front;
      rest = f.rest;
      before = line k f.before;
      is-text = q ∙ ap (λ (t : List ℕ). bs ++ 10 ∷ t) f.is-text ∙ seam bs 10 f.front found.bytes f.rest;
      place = omega (arith, f.place, length-append bs (10 ∷ f.front));
      one_line = f.one_line;
      stops = f.stops;
    }

front_of_lines : (at : ℕ) {text : List ℕ} {xss : List (List ℕ)} (before : List Piece) (found : Piece) (after : List Piece)
    → Cut is_lf text xss → placed_from at xss ≡ before ++ found ∷ after → all is_skipped before ≡ true → Front at text found
front_of_lines at [] found after (last {xs} h) e k = front_now at xs [] (cc) h at_end (sym (append-nil xs))
front_of_lines at (b ∷ before) found after (last h) e k = absurd (nil_not_append before found after (cc))
front_of_lines at [] found after (piece {xs} {y} {ys} h q c) e k = front_now at xs (y ∷ ys) (cc) h (at_one q) refl
front_of_lines at (b ∷ before) found after (piece {xs} {y} {ys} {yss} h q c) e k =
    let first : record { at = at; bytes = xs } ≡ b = cc in
    front_later xs ys
    (skipped_sound (record { at = at; bytes = xs }) (ap is_skipped first ∙ and_left (is_skipped b) (all is_skipped before) k) (no_lf_sound xs h))
    refl
    (ap (λ (z : ℕ). xs ++ z ∷ ys) (eqb-true y 10 q))
    (front_of_lines (at + length xs + 1) before found after c (cc) (and_right (is_skipped b) (all is_skipped before) k))

pub first_line_sound : {text : List ℕ} {found : Piece} → FirstLine text found → Front 0 text found
unfolding lines_of
first_line_sound {text} {found} f = front_of_lines 0 f.before found f.after (cut_exists is_lf text) f.lines f.skipped

pub drop-end_of : {text : List ℕ} {found : Piece} (f : Front 0 text found) → drop (end_of found) text ≡ f.rest
drop-end_of {text} {found} f =
    let place : end_of found ≡ length (f.front ++ found.bytes) = omega (arith, f.place, length-append f.front found.bytes) in
    ap₂ (λ (i : ℕ) (t : List ℕ). drop i t) place f.is-text ∙
    drop-append_seam (f.front ++ found.bytes) f.rest

-- ---- from the text to the lines

-- the lines of a text that begins at `at`
record Placed (at : ℕ) (text : List ℕ) (found : Piece) : Type 0 where
  before : List Piece
  after : List Piece
  lines : placed_from at (cut is_lf text) ≡ before ++ found ∷ after
  skipped : all is_skipped before ≡ true

skipped_no_lf : {bs : List ℕ} → Skipped bs → any is_lf bs ≡ false
skipped_no_lf (blanks h n) = no_lf_complete n
skipped_no_lf (comment n) = no_lf_complete n

placed_now : (at : ℕ) (bs : List ℕ) {rest : List ℕ} → NoLf bs → Stops is_lf rest → Placed at (bs ++ rest) (record { at = at; bytes = bs })
placed_now at bs n at_end =
    record { before = []; after = []; lines = ap (placed_from at) (ap (cut is_lf) (append-nil bs) ∙ cut_none is_lf bs (no_lf_complete n)); skipped = refl }
placed_now at bs n (at_one {b = y} {bs = ys} e) =
    record {
      before = [];
      after = placed_from (at + length bs + 1) (cut is_lf ys);
      lines = ap (placed_from at) (cut_piece is_lf bs y ys (no_lf_complete n) e);
      skipped = refl;
    }

placed_later : {at next : ℕ} (bs text : List ℕ) {found : Piece} → Skipped bs → next ≡ at + length bs + 1 → Placed next text found
    → Placed at (bs ++ 10 ∷ text) found
placed_later {at} bs text k e p =
    record {
      before = record { at = at; bytes = bs } ∷ p.before;
      after = p.after;
      lines =
          ap (placed_from at) (cut_piece is_lf bs 10 text (skipped_no_lf k) refl) ∙
          ap (λ (ls : List Piece). record { at = at; bytes = bs } ∷ ls) (ap (λ (i : ℕ). placed_from i (cut is_lf text)) (sym e) ∙ p.lines);
      skipped = rw (skipped_complete at k) p.skipped;
    }

placed_of_before : {front : List ℕ} (at next : ℕ) (bs : List ℕ) {rest : List ℕ} → Before front → next ≡ at + length front → NoLf bs
    → Stops is_lf rest → Placed at (front ++ (bs ++ rest)) (record { at = next; bytes = bs })
placed_of_before at next bs {rest} nothing e n s =
    subst (λ (i : ℕ). Placed i (bs ++ rest) (record { at = next; bytes = bs })) (omega arith) (placed_now next bs n s)
placed_of_before at next bs {rest} (line {bs = cs} {rest = front} k b) e n s =
    subst (λ (t : List ℕ). Placed at t (record { at = next; bytes = bs })) (sym (append_assoc cs (10 ∷ front) (bs ++ rest)))
    (placed_later cs (front ++ (bs ++ rest)) k refl (placed_of_before (at + length cs + 1) next bs b (omega (arith, length-append cs (10 ∷ front))) n s))

pub first_line_complete : {front bs rest : List ℕ} → Before front → NoLf bs → Stops is_lf rest
    → is_skipped (record { at = length front; bytes = bs }) ≡ false
    → FirstLine (front ++ bs ++ rest) (record { at = length front; bytes = bs })
unfolding lines_of
first_line_complete {front} {bs} {rest} b n s k =
    let p = placed_of_before 0 (length front) bs b (omega arith) n s in
    record {
      before = p.before;
      after = p.after;
      lines = ap (λ (t : List ℕ). placed_from 0 (cut is_lf t)) (append_assoc front bs rest) ∙ p.lines;
      skipped = p.skipped;
      not_skipped = k;
    }

-- ---- there is one such line, or none

first_unique : {A : Type 0} (p : A → Bool) (xs : List A) {x : A} (ys us : List A) {u : A} (vs : List A)
    → all p xs ≡ true → p x ≡ false → all p us ≡ true → p u ≡ false → xs ++ x ∷ ys ≡ us ++ u ∷ vs → x ≡ u
first_unique p [] ys [] vs h k i j e = cc
first_unique p [] {x} ys (z ∷ us) vs h k i j e =
    let q : x ≡ z = cc in absurd (never (ap p q ∙ and_left (p z) (all p us) i) k)
first_unique p (z ∷ xs) ys [] {u} vs h k i j e =
    let q : u ≡ z = cc in absurd (never (ap p q ∙ and_left (p z) (all p xs) h) j)
first_unique p (z ∷ xs) ys (w ∷ us) vs h k i j e =
    first_unique p xs ys us vs (and_right (p z) (all p xs) h) k (and_right (p w) (all p us) i) j (cc)

pub first_line_unique : {text : List ℕ} {one two : Piece} → FirstLine text one → FirstLine text two → one ≡ two
first_line_unique f g =
    first_unique is_skipped f.before f.after g.before g.after f.skipped f.not_skipped g.skipped g.not_skipped (sym f.lines ∙ g.lines)

record Failing {A : Type 0} (p : A → Bool) (xs : List A) : Type 0 where
  before : List A
  found : A
  after : List A
  is-list : xs ≡ before ++ found ∷ after
  pass : all p before ≡ true
  fails : p found ≡ false

first_failing : {A : Type 0} (p : A → Bool) (xs : List A) → (all p xs ≡ true) ⊎ Failing p xs
first_failing p [] = inl refl
first_failing {A} p (x ∷ xs) = go (p x) refl (first_failing p xs)
  where
    go : (t : Bool) → p x ≡ t → (all p xs ≡ true) ⊎ Failing p xs → (all p (x ∷ xs) ≡ true) ⊎ Failing p (x ∷ xs)
    go true e (inl h) = inl (rw e h)
    go true e (inr f) =
        inr (record {
          before = x ∷ f.before;
          found = f.found;
          after = f.after;
          is-list = ap (λ (zs : List A). x ∷ zs) f.is-list;
          pass = rw e f.pass;
          fails = f.fails;
        })
    go false e ih = inr (record { before = []; found = x; after = xs; is-list = refl; pass = refl; fails = e })

pub first_line_exists : (text : List ℕ) → (all is_skipped (lines_of text) ≡ true) ⊎ ((found : Piece) × FirstLine text found)
first_line_exists text = go (first_failing is_skipped (lines_of text))
  where
    go : (all is_skipped (lines_of text) ≡ true) ⊎ Failing is_skipped (lines_of text)
        → (all is_skipped (lines_of text) ≡ true) ⊎ ((found : Piece) × FirstLine text found)
    go (inl h) = inl h
    go (inr f) = inr (f.found, record { before = f.before; after = f.after; lines = f.is-list; skipped = f.pass; not_skipped = f.fails })
