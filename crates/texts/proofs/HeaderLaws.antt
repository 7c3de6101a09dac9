-- The laws of the header line (specs/Text against specs/Grammar): a line is read as V and C exactly if it is a header of these.
-- The line is trimmed, cut at its gaps, and has the four words.
--
--   header_sound, header_complete, header_none     the header line
--   header_not_skipped, header_no_lf     it is none of the lines before it, and one line
--
-- Assumes nothing.
use mathlib.Core.Path.{◌≡◌, refl, sym, ◌∙◌, ap, ap₂, subst}
use mathlib.Core.Bool.{Bool, true, false, not, ◌&&◌}
use mathlib.Core.List.{List, [], ◌∷◌, ◌++◌, map, append-nil, append_assoc}
use mathlib.Core.Option.{none, some}
use Prim.Native.Nat.{ℕ, ◌≤◌}
use native.Mathlib.Omega.{arith}
use lib.ListN.{length, length-append}
use borrow.Author.Tests.{ne_eqb}
use Rattle.rules.specs.Lists.{any, all, keep, cut, eqs}
use Rattle.texts.specs.Text.{is_lf, is_gap, is_blank, is_digit, is_empty, is_numeral, numeral, Piece}
use Rattle.texts.specs.Text.{is_skipped, Sizes, trim_if, trimmed, sizes_if, sizes_of, words_of, header_of}
use Rattle.texts.specs.Grammar.{NoLf, Gap, Numeral, Header, header}
use Rattle.rules.proofs.ListLaws.{never, and_left, and_right, all_append_of, eqs_sound, or_left, or_right}
use Rattle.texts.proofs.ByteLaws.{blanks_sound, blanks_complete, gaps_sound, gaps_complete, no_lf_sound, no_lf_complete}
use Rattle.texts.proofs.CutLaws.{Cut, last, piece, cut_exists, cut_piece, Stops, at_end, at_one}
use Rattle.texts.proofs.CutLaws.{Word, Words, none, word, placed_words, words_of_cut, words_unique, bytes_placed_words}
use Rattle.texts.proofs.TokenLaws.{not_none, none_of_not, all_mono, any_of_all, any_append_of, any_append_right}
use Rattle.texts.proofs.TokenLaws.{blank_of_gap, digit_above, not_gap_of_digit, not_lf_of_gap, numeral_sound}
use Rattle.texts.proofs.TokenLaws.{numeral_digits, numeral_says, numeral_complete, word_of_numeral}

-- ---- the blanks behind a line

trimmed_split : (xs : List ℕ) → (bs : List ℕ) × (xs ≡ trimmed xs ++ bs) × (all is_blank bs ≡ true)
trimmed_split [] = ([], refl, refl)
trimmed_split (x ∷ xs) = go (is_blank x) refl (trimmed xs) (trimmed_split xs)
  where
    go : (t : Bool) → is_blank x ≡ t → (ys : List ℕ) → (bs : List ℕ) × (xs ≡ ys ++ bs) × (all is_blank bs ≡ true)
        → (bs : List ℕ) × (x ∷ xs ≡ trim_if t x ys ++ bs) × (all is_blank bs ≡ true)
    go true e [] ih = (x ∷ ih.0, ap (λ (zs : List ℕ). x ∷ zs) ih.1, rw e ih.2)
    go true e (y ∷ ys) ih = (ih.0, ap (λ (zs : List ℕ). x ∷ zs) ih.1, ih.2)
    go false e ys ih = (ih.0, ap (λ (zs : List ℕ). x ∷ zs) ih.1, ih.2)

trimmed_blanks : (bs : List ℕ) → all is_blank bs ≡ true → trimmed bs ≡ []
trimmed_blanks [] h = refl
trimmed_blanks (b ∷ bs) h = rw (and_left (is_blank b) (all is_blank bs) h, trimmed_blanks bs (and_right (is_blank b) (all is_blank bs) h))

trimmed_word : (w bs : List ℕ) → any is_blank w ≡ false → all is_blank bs ≡ true → trimmed (w ++ bs) ≡ w
trimmed_word [] bs h k = trimmed_blanks bs k
trimmed_word (x ∷ w) bs h k =
    rw (or_left (is_blank x) (any is_blank w) h, trimmed_word w bs (or_right (is_blank x) (any is_blank w) h) k)

-- up to the last word
trimmed_behind : (xs : List ℕ) {w : List ℕ} (bs : List ℕ) → Word is_blank w → all is_blank bs ≡ true → trimmed (xs ++ w ++ bs) ≡ xs ++ w
trimmed_behind [] {w} bs h k = trimmed_word w bs h.none k
trimmed_behind (x ∷ xs) {w} bs h k = rw (trimmed_behind xs bs h k) (go (is_blank x) (xs ++ w) (omega (arith, length-append xs w, h.some)))
  where
    go : (t : Bool) (ys : List ℕ) → 1 ≤ length ys → trim_if t x ys ≡ x ∷ ys
    go true [] k = absurd (omega arith)
    go true (y ∷ ys) k = refl
    go false ys k = refl

-- ---- the header line

-- its first two words, and all of it up to the last one
abbrev p_word : List ℕ
p_word = 112 ∷ []

abbrev cnf_word : List ℕ
cnf_word = 99 ∷ 110 ∷ 102 ∷ []

abbrev header_words : List ℕ → List ℕ → List ℕ → List ℕ → List ℕ → List ℕ
header_words g h v k c = p_word ++ g ++ (cnf_word ++ h) ++ v ++ k ++ c

gap_of_stops : (p : ℕ → Bool) (g : List ℕ) {w : List ℕ} (rest : List ℕ) → Word p w → Stops p (g ++ w ++ rest) → 1 ≤ length g
gap_of_stops p (b ∷ g) rest h s = omega arith
gap_of_stops p [] {w = []} rest h s = absurd (omega (arith, h.some))
gap_of_stops p [] {w = x ∷ xs} rest h (at_one e) = absurd (never e (or_left (p x) (any p xs) h.none))

regrouped : (p y g cnf h v k c bs end : List ℕ)
    → p ++ (y ++ (g ++ cnf ++ (h ++ v ++ (k ++ c ++ bs)))) ++ end ≡ p ++ (y ++ g) ++ (cnf ++ h) ++ v ++ k ++ c ++ (bs ++ end)
regrouped p y g cnf h v k c bs end = simp append_assoc

regrouped_whole : (p y g cnf h v k c : List ℕ)
    → p ++ (y ++ g) ++ (cnf ++ h) ++ v ++ k ++ c ≡ p ++ (y ++ (g ++ cnf ++ (h ++ v ++ (k ++ c ++ []))))
regrouped_whole p y g cnf h v k c = simp (append_assoc, append-nil)

sizes_sound : (v c : List ℕ) {s : Sizes} (t : Bool) → sizes_if t v c ≡ some s → (t ≡ true) × (numeral v ≡ s.vars) × (numeral c ≡ s.clauses)
sizes_sound v c {s} true e =
    let r : record { vars = numeral v; clauses = numeral c } ≡ s = cc in
    (refl, ap (λ (z : Sizes). z.vars) r, ap (λ (z : Sizes). z.clauses) r)
sizes_sound v c false e = absurd (not_none e refl)

header_of_words : (line p g cnf h v k c end : List ℕ) {s : Sizes} → Gap g → Gap h → Gap k → all is_blank end ≡ true → NoLf line
    → line ≡ p ++ g ++ (cnf ++ h) ++ v ++ k ++ c ++ end → sizes_of (p ∷ cnf ∷ v ∷ c ∷ []) ≡ some s
    → Header line s.vars s.clauses
header_of_words line p g cnf h v k c end {s} gg gh gk b n q r =
    let told = sizes_sound v c test r in
    let yes-p = eqs_sound p p_word (and_left (eqs p p_word) _ told.0) in
    let three = and_right (eqs p p_word) _ told.0 in
    let yes-cnf = eqs_sound cnf cnf_word (and_left (eqs cnf cnf_word) _ three) in
    let two = and_right (eqs cnf cnf_word) _ three in
    let is-line : line ≡ header_words g h v k c ++ end = q ∙ ap₂ (λ (x y : List ℕ). x ++ g ++ (y ++ h) ++ v ++ k ++ c ++ end) yes-p yes-cnf in
    subst (λ (l : List ℕ). Header l s.vars s.clauses) (sym is-line)
    (header gg gh
    (numeral_sound v (and_left (is_numeral v) (is_numeral c) two) told.1) gk
    (numeral_sound c (and_right (is_numeral v) (is_numeral c) two) told.2)
    (blanks_sound end b)
    (no_lf_sound end (any_append_right is_lf (header_words g h v k c) end (rw is-line at (no_lf_complete n)))))
  where
    test : Bool
    test = eqs p p_word && (eqs cnf cnf_word && (is_numeral v && is_numeral c))

pub header_sound : (line : List ℕ) {s : Sizes} → header_of line ≡ some s → NoLf line → Header line s.vars s.clauses
unfolding header_of
header_sound line {s} h n = cuts (cut_exists is_gap (trimmed line)) h (trimmed_split line).1
  where
    end : List ℕ
    end = (trimmed_split line).0

    words : (y : ℕ) (xs ys : List ℕ) (ts : List Piece) → is_gap y ≡ true → Words is_gap 0 ys ts
        → sizes_of (xs ∷ map (λ (t : Piece). t.bytes) ts) ≡ some s → line ≡ xs ++ y ∷ ys ++ end → Header line s.vars s.clauses
    words y xs ys ts e (none h) q r = absurd (not_none q refl)
    words y xs ys ts e (word g₁ h₁ w₁ i₁ j₁ s₁ (none h₂)) q r = absurd (not_none q refl)
    words y xs ys ts e (word g₁ h₁ w₁ i₁ j₁ s₁ (word g₂ h₂ w₂ i₂ j₂ s₂ (none h₃))) q r = absurd (not_none q refl)
    words y xs ys ts e (word g₁ {w = cnf} h₁ w₁ i₁ j₁ s₁ (word g₂ {w = v} h₂ w₂ i₂ j₂ s₂ (word g₃ {w = c} h₃ w₃ i₃ j₃ s₃ (none {bs} h₄)))) q r =
        header_of_words line xs (y ∷ g₁) cnf g₂ v g₃ c (bs ++ end)
        (gaps_sound (y ∷ g₁) (omega arith) (rw e h₁))
        (gaps_sound g₂ (gap_of_stops is_gap g₂ (g₃ ++ c ++ bs) w₂ s₁) h₂)
        (gaps_sound g₃ (gap_of_stops is_gap g₃ bs w₃ s₂) h₃)
        (all_append_of is_blank bs end (all_mono is_gap is_blank bs blank_of_gap h₄) (trimmed_split line).2)
        n (r ∙ regrouped xs (y ∷ []) g₁ cnf g₂ v g₃ c bs end) q
    words y xs ys ts e (word g₁ h₁ w₁ i₁ j₁ s₁ (word g₂ h₂ w₂ i₂ j₂ s₂ (word g₃ h₃ w₃ i₃ j₃ s₃ (word g₄ h₄ w₄ i₄ j₄ s₄ r₄)))) q r = absurd (not_none q refl)

    cuts : {xs : List ℕ} {xss : List (List ℕ)} → Cut is_gap xs xss → sizes_of (words_of xss) ≡ some s → line ≡ xs ++ end
        → Header line s.vars s.clauses
    cuts (last {xs} f) q r = absurd (not_none q refl)
    cuts (piece {xs} {y} {ys} {yss} f e c) q r =
        words y xs ys (placed_words 0 yss) e (words_of_cut is_gap 0 c) (rw (← bytes_placed_words 0 yss) at q) r

stops_of_gap : {g : List ℕ} (w rest : List ℕ) → Gap g → Stops is_gap (g ++ w ++ rest)
stops_of_gap {g = []} w rest h = absurd (omega (arith, h.some))
stops_of_gap {g = b ∷ g} w rest h = at_one (and_left (is_gap b) (all is_gap g) (gaps_complete h))

gap_word_of_numeral : {ds : List ℕ} {n : ℕ} → Numeral ds n → Word is_gap ds
gap_word_of_numeral {ds} m = record { some = m.some; none = any_of_all is_digit is_gap ds not_gap_of_digit (numeral_digits m) }

pub header_complete : {line : List ℕ} {vars clauses : ℕ} → Header line vars clauses
    → header_of line ≡ some (record { vars = vars; clauses = clauses })
unfolding header_of
header_complete (header {g = []} gg gh nv gk nc b n) = absurd (omega (arith, gg.some))
header_complete {vars} {clauses} (header {g = y ∷ g} {h} {k} {v} {c} {end} gg gh nv gk nc b n) = trims ∙ cuts ∙ words ∙ sizes
  where
    rest : List ℕ
    rest = g ++ cnf_word ++ (h ++ v ++ (k ++ c ++ []))

    trims : header_of (header_words (y ∷ g) h v k c ++ end) ≡ sizes_of (words_of (cut is_gap (header_words (y ∷ g) h v k c)))
    trims =
        ap (λ (t : List ℕ). sizes_of (words_of (cut is_gap t)))
        (trimmed_behind (p_word ++ y ∷ g ++ (cnf_word ++ h) ++ v ++ k) end (word_of_numeral nc) (blanks_complete b))

    cuts : sizes_of (words_of (cut is_gap (header_words (y ∷ g) h v k c))) ≡ sizes_of (p_word ∷ keep (λ w. not (is_empty w)) (cut is_gap rest))
    cuts =
        ap (λ (t : List ℕ). sizes_of (words_of (cut is_gap t))) (regrouped_whole p_word (y ∷ []) g cnf_word h v k c) ∙
        ap (λ (xss : List (List ℕ)). sizes_of (words_of xss)) (cut_piece is_gap p_word y rest refl (and_left (is_gap y) (all is_gap g) (gaps_complete gg)))

    three : (ts : List Piece) × Words is_gap 0 rest ts × (map (λ (t : Piece). t.bytes) ts ≡ cnf_word ∷ v ∷ c ∷ [])
    three = (
      _,
      word g {w = cnf_word} (and_right (is_gap y) (all is_gap g) (gaps_complete gg)) (record { some = omega arith; none = refl }) refl refl
          (stops_of_gap v (k ++ c ++ []) gh)
          (word h (gaps_complete gh) (gap_word_of_numeral nv) refl refl (stops_of_gap c [] gk)
          (word k (gaps_complete gk) (gap_word_of_numeral nc) refl refl at_end (none refl))),
      refl,
    )

    words : sizes_of (p_word ∷ keep (λ w. not (is_empty w)) (cut is_gap rest)) ≡ sizes_of (p_word ∷ cnf_word ∷ v ∷ c ∷ [])
    words =
        ap (λ (ws : List (List ℕ)). sizes_of (p_word ∷ ws))
        (sym (bytes_placed_words 0 (cut is_gap rest)) ∙ ap (map (λ (t : Piece). t.bytes)) (words_unique is_gap three.1) ∙ three.2)

    sizes : sizes_of (p_word ∷ cnf_word ∷ v ∷ c ∷ []) ≡ some (record { vars = vars; clauses = clauses })
    sizes = rw (numeral_complete nv, numeral_complete nc, numeral_says nv, numeral_says nc)

pub header_none : (line : List ℕ) → NoLf line → ((vars clauses : ℕ) → Header line vars clauses → ⊥) → header_of line ≡ none
header_none line n f = none_of_not (header_of line) (λ s e. f s.vars s.clauses (header_sound line e n))

pub header_not_skipped : {line : List ℕ} {vars clauses : ℕ} (at : ℕ) → Header line vars clauses
    → is_skipped (record { at = at; bytes = line }) ≡ false
header_not_skipped at (header gg gh nv gk nc b n) = refl

pub header_no_lf : {line : List ℕ} {vars clauses : ℕ} → Header line vars clauses → NoLf line
header_no_lf (header {g} {h} gg gh nv gk nc b n) =
    let first : NoLf (p_word ++ g) = no_lf_sound (p_word ++ g) (no_lf_complete (gap gg)) in
    let second : NoLf (cnf_word ++ h) = no_lf_sound (cnf_word ++ h) (no_lf_complete (gap gh)) in
    join (join (join (join (join first second) (digits nv)) (gap gk)) (digits nc)) n
  where
    join : {xs ys : List ℕ} → NoLf xs → NoLf ys → NoLf (xs ++ ys)
    join {xs} {ys} m n = no_lf_sound (xs ++ ys) (any_append_of is_lf xs ys (no_lf_complete m) (no_lf_complete n))

    gap : {bs : List ℕ} → Gap bs → NoLf bs
    gap {bs} t = no_lf_sound bs (any_of_all is_gap is_lf bs not_lf_of_gap (gaps_complete t))

    digits : {ds : List ℕ} {n : ℕ} → Numeral ds n → NoLf ds
    digits {ds} m = no_lf_sound ds (any_of_all is_digit is_lf ds (λ x e. ne_eqb x 10 (omega (arith, digit_above x e))) (numeral_digits m))
