-- The laws of the tokens behind the header line (specs/Text): blanks and comment lines are passed over, a word is found. Code goes over
-- a text by these equations, and the grammar is compared with them.
--
--   starts_comment, starts_comment_cut     whether the first of some lines is a comment
--   tokens_nil, tokens_blank, tokens_comment, tokens_word     one step over a text
--   tokens_blanks                 blanks before what is no comment
--   Split, split                  a text up to the first byte that passes
--   bytes_of, words_on              tokens without their places; those of whole lines
--   words_lf                      the tokens before an LF and those behind it
--   words_comment, words_tokens   lines that begin with a comment; with a token
--
-- Assumes nothing.
use mathlib.Core.Path.{◌≡◌, refl, sym, ◌∙◌, ap, ap₂}
use mathlib.Core.Bool.{Bool, true, false, not, ◌||◌}
use mathlib.Core.List.{List, [], ◌∷◌, ◌++◌, map, append-nil, append_assoc}
use Prim.Native.Nat.{ℕ, ◌+◌}
use native.Mathlib.Omega.{arith}
use lib.Dec.{eqb}
use lib.ListN.{length, length-append}
use borrow.Author.Tests.{eqb-true}
use Rattle.rules.specs.Lists.{any, all, keep, keep_if, onto, cut, cut_if, joined}
use Rattle.texts.specs.Text.{is_lf, is_gap, is_blank, is_empty, Piece, placed_from, is_comment, tokens_in, lines_read, tokens_from}
use Rattle.rules.proofs.ListLaws.{never, and_left, and_right, or_left, or_right}
use Rattle.texts.proofs.CutLaws.{Cut, last, piece, cut_exists, cut_none, cut_piece, Stops, at_end, at_one}
use Rattle.texts.proofs.CutLaws.{Word, words_from, words_from_blanks, words_from_word, bytes_placed_words}

-- the tokens of lines, of which the first one is read from within
abbrev tokens_on : ℕ → List (List ℕ) → List Piece
tokens_on at yss = joined (map tokens_in (lines_read (placed_from at yss)))

abbrev is_read : Piece → Bool
is_read line = not (is_comment line.bytes)

-- the tokens of whole lines
abbrev tokens_later : ℕ → List (List ℕ) → List Piece
tokens_later at yss = joined (map tokens_in (keep is_read (placed_from at yss)))

-- ---- whether the first of some lines is a comment

abbrev pub starts_comment : List (List ℕ) → Bool
starts_comment [] = false
starts_comment (l ∷ ls) = is_comment l

pub starts_comment_cut : (xs : List ℕ) → starts_comment (cut is_lf xs) ≡ is_comment xs
starts_comment_cut [] = refl
starts_comment_cut (x ∷ xs) = go (is_lf x) refl (cut is_lf xs)
  where
    go : (t : Bool) → is_lf x ≡ t → (yss : List (List ℕ)) → starts_comment (cut_if t x yss) ≡ eqb x 99
    go true e yss = rw (eqb-true x 10 e)
    go false e [] = refl
    go false e (l ∷ ls) = refl

-- ---- one step over a text

pub tokens_nil : (at : ℕ) → tokens_from at [] ≡ []
unfolding tokens_from
tokens_nil at = refl

on_blank : (at b : ℕ) (yss : List (List ℕ)) → is_blank b ≡ true → tokens_on at (onto b yss) ≡ tokens_on (at + 1) yss
on_blank at b [] h = rw h
on_blank at b (l ∷ ls) h =
    ap₂ (λ (xs ys : List Piece). xs ++ ys) (words_from_blanks is_blank at (b ∷ []) l (rw h)) (ap (λ (i : ℕ). tokens_later i ls) (omega arith))

on_lf : (at : ℕ) (yss : List (List ℕ)) → starts_comment yss ≡ false → tokens_on at ([] ∷ yss) ≡ tokens_on (at + 1) yss
on_lf at [] h = refl
on_lf at (l ∷ ls) h = rw h (ap (λ (i : ℕ). tokens_on i (l ∷ ls)) (omega arith))

-- a blank, unless it is an LF before a comment
pub tokens_blank : (at b : ℕ) (xs : List ℕ) → is_blank b ≡ true → (is_lf b ≡ true → is_comment xs ≡ false)
    → tokens_from at (b ∷ xs) ≡ tokens_from (at + 1) xs
unfolding tokens_from
tokens_blank at b xs h n = go (is_lf b) refl
  where
    go : (t : Bool) → is_lf b ≡ t → tokens_on at (cut_if t b (cut is_lf xs)) ≡ tokens_on (at + 1) (cut is_lf xs)
    go true e = on_lf at (cut is_lf xs) (starts_comment_cut xs ∙ n e)
    go false e = on_blank at b (cut is_lf xs) h

pub tokens_blanks : (at : ℕ) (bs xs : List ℕ) → all is_blank bs ≡ true → is_comment xs ≡ false
    → tokens_from at (bs ++ xs) ≡ tokens_from (at + length bs) xs
tokens_blanks at [] xs h n = ap (λ (i : ℕ). tokens_from i xs) (omega arith)
tokens_blanks at (b ∷ bs) xs h n =
    let more = and_right (is_blank b) (all is_blank bs) h in
    tokens_blank at b (bs ++ xs) (and_left (is_blank b) (all is_blank bs) h) (λ e. go bs more) ∙
    tokens_blanks (at + 1) bs xs more n ∙ ap (λ (i : ℕ). tokens_from i xs) (omega arith)
  where
    go : (cs : List ℕ) → all is_blank cs ≡ true → is_comment (cs ++ xs) ≡ false
    go [] k = n
    go (c ∷ cs) k = not_comment c (eqb c 99) refl (and_left (is_blank c) (all is_blank cs) k)
      where
        not_comment : (c : ℕ) (t : Bool) → eqb c 99 ≡ t → is_blank c ≡ true → t ≡ false
        not_comment c true e k = absurd (never {b = is_blank 99} (ap is_blank (sym (eqb-true c 99 e)) ∙ k) refl)
        not_comment c false e k = refl

-- an LF and a comment line behind it, up to the end of that line
pub tokens_comment : (at : ℕ) (cs : List ℕ) {rest : List ℕ} → any is_lf cs ≡ false → Stops is_lf rest
    → tokens_from at (10 ∷ 99 ∷ cs ++ rest) ≡ tokens_from (at + 2 + length cs) rest
unfolding tokens_from
tokens_comment at cs h at_end =
    ap (λ (yss : List (List ℕ)). tokens_on at ([] ∷ yss)) (ap (cut is_lf) (append-nil (99 ∷ cs)) ∙ cut_none is_lf (99 ∷ cs) h)
tokens_comment at cs h (at_one {b} {bs} e) =
    ap (λ (yss : List (List ℕ)). tokens_on at ([] ∷ yss)) (cut_piece is_lf (99 ∷ cs) b bs h e) ∙
    rw e (ap (λ (i : ℕ). tokens_later i (cut is_lf bs)) (omega arith))

cut_front : (p : ℕ → Bool) (w rest : List ℕ) {l : List ℕ} {ls : List (List ℕ)} → any p w ≡ false → cut p rest ≡ l ∷ ls
    → cut p (w ++ rest) ≡ (w ++ l) ∷ ls
cut_front p [] rest h e = e
cut_front p (x ∷ w) rest h e = rw (or_left (p x) (any p w) h, cut_front p w rest (or_right (p x) (any p w) h) e)

-- the rest of a line behind a word
record LineOf (rest : List ℕ) : Type 0 where
  line : List ℕ
  lines : List (List ℕ)
  is_cut : cut is_lf rest ≡ line ∷ lines
  stops : Stops is_blank line

line_of : {rest : List ℕ} → Stops is_blank rest → LineOf rest
line_of at_end = record { line = []; lines = []; is_cut = refl; stops = at_end }
line_of (at_one {b} {bs} h) = go (is_lf b) refl (cut is_lf bs) refl
  where
    go : (t : Bool) → is_lf b ≡ t → (yss : List (List ℕ)) → cut is_lf bs ≡ yss → LineOf (b ∷ bs)
    go true e yss q = record { line = []; lines = yss; is_cut = rw (e, q); stops = at_end }
    go false e [] q = record { line = b ∷ []; lines = []; is_cut = rw (e, q); stops = at_one h }
    go false e (l ∷ ls) q = record { line = b ∷ l; lines = ls; is_cut = rw (e, q); stops = at_one h }

no_lf_of_word : (w : List ℕ) → any is_blank w ≡ false → any is_lf w ≡ false
no_lf_of_word [] h = refl
no_lf_of_word (x ∷ w) h =
    rw (or_right (eqb x 13) (is_lf x) (or_right (is_gap x) (eqb x 13 || is_lf x) (or_left (is_blank x) (any is_blank w) h)))
    (no_lf_of_word w (or_right (is_blank x) (any is_blank w) h))

pub tokens_word : (at : ℕ) (w : List ℕ) {rest : List ℕ} → Word is_blank w → Stops is_blank rest
    → tokens_from at (w ++ rest) ≡ record { at = at; bytes = w } ∷ tokens_from (at + length w) rest
unfolding tokens_from
tokens_word at w {rest} h s =
    let r = line_of s in
    ap (tokens_on at) (cut_front is_lf w rest (no_lf_of_word w h.none) r.is_cut) ∙
    ap₂ (λ (xs ys : List Piece). xs ++ ys) (words_from_word is_blank at w h r.stops)
    (ap (λ (i : ℕ). tokens_later i r.lines) (omega (arith, length-append w r.line))) ∙
    ap (λ (yss : List (List ℕ)). record { at = at; bytes = w } ∷ tokens_on (at + length w) yss) (sym r.is_cut)

-- ---- a text up to the first byte that passes

pub record Split (p : ℕ → Bool) (xs : List ℕ) : Type 0 where
  pub front : List ℕ
  pub rest : List ℕ
  pub is-text : xs ≡ front ++ rest
  pub none : any p front ≡ false
  pub stops : Stops p rest

pub split : (p : ℕ → Bool) (xs : List ℕ) → Split p xs
split p [] = record { front = []; rest = []; is-text = refl; none = refl; stops = at_end }
split p (x ∷ xs) = go (p x) refl (split p xs)
  where
    go : (t : Bool) → p x ≡ t → Split p xs → Split p (x ∷ xs)
    go true e s = record { front = []; rest = x ∷ xs; is-text = refl; none = refl; stops = at_one e }
    go false e s =
        record { front = x ∷ s.front; rest = s.rest; is-text = ap (λ (ys : List ℕ). x ∷ ys) s.is-text; none = rw e s.none; stops = s.stops }

-- ---- the tokens without their places, line by line

abbrev pub bytes_of : List Piece → List (List ℕ)
bytes_of ts = map (λ (t : Piece). t.bytes) ts

abbrev words_in : List ℕ → List (List ℕ)
words_in line = keep (λ v. not (is_empty v)) (cut is_blank line)

-- of whole lines
abbrev pub words_on : List (List ℕ) → List (List ℕ)
words_on yss = joined (map words_in (keep (λ l. not (is_comment l)) yss))

bytes_of-append : (ts us : List Piece) → bytes_of (ts ++ us) ≡ bytes_of ts ++ bytes_of us
bytes_of-append [] us = refl
bytes_of-append (t ∷ ts) us = ap (λ (wss : List (List ℕ)). t.bytes ∷ wss) (bytes_of-append ts us)

bytes_later : (at : ℕ) (yss : List (List ℕ)) → bytes_of (tokens_later at yss) ≡ words_on yss
bytes_later at [] = refl
bytes_later at (l ∷ ls) = go (not (is_comment l)) (bytes_later (at + length l + 1) ls)
  where
    go : (t : Bool) → bytes_of (tokens_later (at + length l + 1) ls) ≡ words_on ls
        → bytes_of (joined (map tokens_in (keep_if t (record { at = at; bytes = l }) (keep is_read (placed_from (at + length l + 1) ls)))))
        ≡ joined (map words_in (keep_if t l (keep (λ z. not (is_comment z)) ls)))
    go true ih =
        bytes_of-append (words_from is_blank at l) (tokens_later (at + length l + 1) ls) ∙
        ap₂ (λ (xss yss : List (List ℕ)). xss ++ yss) (bytes_placed_words at (cut is_blank l)) ih
    go false ih = ih

bytes_on : (at : ℕ) (l : List ℕ) (ls : List (List ℕ)) → bytes_of (tokens_on at (l ∷ ls)) ≡ words_in l ++ words_on ls
bytes_on at l ls =
    bytes_of-append (words_from is_blank at l) (tokens_later (at + length l + 1) ls) ∙
    ap₂ (λ (xss yss : List (List ℕ)). xss ++ yss) (bytes_placed_words at (cut is_blank l)) (bytes_later (at + length l + 1) ls)

words_on_append : (yss zss : List (List ℕ)) → words_on (yss ++ zss) ≡ words_on yss ++ words_on zss
words_on_append [] zss = refl
words_on_append (l ∷ ls) zss = go (not (is_comment l)) (words_on_append ls zss)
  where
    go : (t : Bool) → words_on (ls ++ zss) ≡ words_on ls ++ words_on zss
        → joined (map words_in (keep_if t l (keep (λ z. not (is_comment z)) (ls ++ zss))))
        ≡ joined (map words_in (keep_if t l (keep (λ z. not (is_comment z)) ls))) ++ words_on zss
    go true ih = ap (λ (xss : List (List ℕ)). words_in l ++ xss) ih ∙ sym (append_assoc (words_in l) (words_on ls) (words_on zss))
    go false ih = ih

cut_append : (p : ℕ → Bool) {xs : List ℕ} {xss : List (List ℕ)} (y : ℕ) (ys : List ℕ) → p y ≡ true → Cut p xs xss
    → cut p (xs ++ y ∷ ys) ≡ xss ++ cut p ys
cut_append p y ys e (last {xs} h) = cut_piece p xs y ys h e
cut_append p y ys e (piece {xs} {y = z} {ys = zs} h q c) =
    ap (cut p) (append_assoc xs (z ∷ zs) (y ∷ ys)) ∙ cut_piece p xs z (zs ++ y ∷ ys) h q ∙
    ap (λ (yss : List (List ℕ)). xs ∷ yss) (cut_append p y ys e c)

-- the tokens before an LF and those of the lines behind it; the place does not matter
pub words_lf : (at next : ℕ) (xs ys : List ℕ)
    → bytes_of (tokens_from at (xs ++ 10 ∷ ys)) ≡ bytes_of (tokens_from next xs) ++ words_on (cut is_lf ys)
unfolding tokens_from
words_lf at next xs ys =
    ap (λ (yss : List (List ℕ)). bytes_of (tokens_on at yss)) (cut_append is_lf 10 ys refl (cut_exists is_lf xs)) ∙ go (cut_exists is_lf xs)
  where
    lines : (l : List ℕ) (ls : List (List ℕ))
        → bytes_of (tokens_on at ((l ∷ ls) ++ cut is_lf ys)) ≡ bytes_of (tokens_on next (l ∷ ls)) ++ words_on (cut is_lf ys)
    lines l ls =
        bytes_on at l (ls ++ cut is_lf ys) ∙ ap (λ (xss : List (List ℕ)). words_in l ++ xss) (words_on_append ls (cut is_lf ys)) ∙
        sym (ap (λ (xss : List (List ℕ)). xss ++ words_on (cut is_lf ys)) (bytes_on next l ls)
        ∙ append_assoc (words_in l) (words_on ls) (words_on (cut is_lf ys)))

    go : {zs : List ℕ} {xss : List (List ℕ)} → Cut is_lf zs xss
        → bytes_of (tokens_on at (xss ++ cut is_lf ys)) ≡ bytes_of (tokens_on next xss) ++ words_on (cut is_lf ys)
    go (last {xs = zs} h) = lines zs []
    go (piece {xs = zs} {yss} h e c) = lines zs yss

-- lines that begin with a comment
pub words_comment : (cs ys : List ℕ) → any is_lf cs ≡ false → words_on (cut is_lf (99 ∷ cs ++ 10 ∷ ys)) ≡ words_on (cut is_lf ys)
words_comment cs ys h = ap words_on (cut_piece is_lf (99 ∷ cs) 10 ys h refl)

-- lines of which the first is no comment
pub words_tokens : (at : ℕ) (ys : List ℕ) → is_comment ys ≡ false → words_on (cut is_lf ys) ≡ bytes_of (tokens_from at ys)
unfolding tokens_from
words_tokens at ys h = go (cut is_lf ys) (starts_comment_cut ys ∙ h)
  where
    go : (yss : List (List ℕ)) → starts_comment yss ≡ false → words_on yss ≡ bytes_of (tokens_on at yss)
    go [] e = refl
    go (l ∷ ls) e = sym (bytes_on at l ls ∙ rw e)
