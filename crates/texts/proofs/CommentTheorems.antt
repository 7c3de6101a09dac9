-- What may be put behind the header without changing what a text says (docs/RULES.md, "The text"): a comment line, and behind the last
-- clause a `%` with anything after it.
--
--   says_same, says_more          tokens with the same bytes say the same; so they do with a `%` and more behind them
--   body_of_dimacs                the body behind a header line that is given
--   comment_line                  a comment line put at the start of a line behind the header
--   percent_line                  a line that begins with the token `%` put behind a text
--
-- Assumes nothing.
use mathlib.Core.Path.{◌≡◌, refl, sym, ◌∙◌, ap, ap₂, subst}
use mathlib.Core.Logic.{◌⊎◌, inl, inr, ◌↔◌}
use mathlib.Core.Bool.{true, false}
use mathlib.Core.List.{List, [], ◌∷◌, ◌++◌, append-nil, append_assoc}
use Prim.Native.Nat.{ℕ, ◌≤◌}
use native.Mathlib.Omega.{arith}
use lib.IntN.{ℤ}
use lib.ListN.{length, length-append}
use Rattle.rules.specs.Lists.{any}
use Rattle.rules.specs.Numbers.{max_text, max_entries}
use Rattle.texts.specs.Text.{is_lf, is_empty, Piece, tokens_from}
use Rattle.texts.specs.Reading.{end_of}
use Rattle.texts.specs.Grammar.{NoLf, Before, Header, Token, TokenEnd, LineEnd, Body, Text, WithHeader, with_header, Dimacs}
use Rattle.texts.specs.Refusals.{FirstLine}
use Rattle.rules.proofs.ListLaws.{apart, never}
use Rattle.texts.proofs.ByteLaws.{no_lf_complete}
use Rattle.texts.proofs.TokenLaws.{any_append_right}
use Rattle.texts.proofs.LineLaws.{Front, first_line_complete, first_line_unique, drop-end_of}
use Rattle.texts.proofs.BodyLaws.{bytes_of, words_lf, words_comment, words_tokens, tokens_word}
use Rattle.texts.proofs.HeaderLaws.{header_not_skipped, header_no_lf}
use Rattle.texts.proofs.VerdictLaws.{tokens_of}
use Rattle.texts.proofs.GrammarLaws.{Says, none_more, says_one, says_end, says_of_whole, body_of_says, says_of_body, stops_of_line_end}
use Rattle.texts.proofs.GrammarLaws.{stops_of_ended, Parts, parts_of_text, whole_of_dimacs}

-- ---- tokens without their places

pub says_same : {ts : List Piece} {es : List ℤ} (us : List Piece) → bytes_of ts ≡ bytes_of us → Says ts es → Says us es
says_same [] e none_more = none_more
says_same [] e (says_one w y) = apart cc
says_same [] e (says_end q) = apart cc
says_same (u ∷ us) e none_more = apart cc
says_same (u ∷ us) e (says_one {t} {l} w y) =
    let same : t.bytes ≡ u.bytes = cc in says_one (subst (λ (bs : List ℕ). Token bs l) same w) (says_same us (cc) y)
says_same (u ∷ us) e (says_end {t} q) = let same : t.bytes ≡ u.bytes = cc in says_end (sym same ∙ q)

pub says_more : {ts : List Piece} {es : List ℤ} (us : List Piece) (more : List (List ℕ)) → bytes_of us ≡ bytes_of ts ++ (37 ∷ []) ∷ more
    → Says ts es → Says us es
says_more [] more e none_more = apart cc
says_more [] more e (says_one w y) = apart cc
says_more [] more e (says_end q) = apart cc
says_more (u ∷ us) more e none_more = let same : u.bytes ≡ 37 ∷ [] = cc in says_end same
says_more (u ∷ us) more e (says_one {t} {l} w y) =
    let same : t.bytes ≡ u.bytes = cc in says_one (subst (λ (bs : List ℕ). Token bs l) same w) (says_more us more (cc) y)
says_more (u ∷ us) more e (says_end {t} q) = let same : u.bytes ≡ t.bytes = cc in says_end (same ∙ q)

-- ---- another body behind the same header line

module _ {a h tail : List ℕ} {v c : ℕ} (b : Before a) (k : Header h v c) (e : LineEnd tail) where
  abbrev here : Piece
  here = record { at = length a; bytes = h }

  found : Front 0 (a ++ h ++ tail) here
  found =
      record {
        front = a;
        rest = tail;
        before = b;
        is-text = refl;
        place = omega arith;
        one_line = header_no_lf k;
        stops = stops_of_line_end e;
      }

  first_line_lem : FirstLine (a ++ h ++ tail) here
  first_line_lem = first_line_complete b (header_no_lf k) (stops_of_line_end e) (header_not_skipped (length a) k)

  pub body_of_dimacs : {vars clauses : ℕ} {es : List ℤ} → Dimacs (a ++ h ++ tail) vars clauses es → Header h vars clauses × Body tail es
  unfolding found
  body_of_dimacs {vars} {clauses} {es} d =
      let w = whole_of_dimacs {room = max_entries} (omega arith) d in
      let same = first_line_unique w.headed.first_line_lem first_line_lem in
      let says = subst (λ (p : Piece). Says (tokens_of (a ++ h ++ tail) p) es) same (says_of_whole w) in (
        subst (λ (p : Piece). Header p.bytes vars clauses) same w.headed.is-header,
        body_of_says (end_of here) tail (subst (λ (xs : List ℕ). Says (tokens_from (end_of here) xs) es) (drop-end_of found) says),
      )

header_some : {line : List ℕ} {vars clauses : ℕ} → Header line vars clauses → is_empty line ≡ false
header_some (Header.header gg gh nv gk nc b n) = refl

-- a text of which all is right but what stands behind its header line
dimacs_with : {front line next : List ℕ} {vars clauses : ℕ} {es : List ℤ} {text : List ℕ} → Dimacs text vars clauses es
    → Before front → Header line vars clauses → LineEnd next → Body next es → length (front ++ line ++ next) ≤ max_text
    → Dimacs (front ++ line ++ next) vars clauses es
dimacs_with d b k e y n =
    record {
      says = Text.text b k e y;
      exactly = d.exactly;
      up_to = d.up_to;
      text_fits = n;
      vars_fit = d.vars_fit;
      clauses_fit = d.clauses_fit;
      entries_fit = d.entries_fit;
    }

line_end_on : (r ys zs : List ℕ) → LineEnd (r ++ 10 ∷ ys) → LineEnd (r ++ 10 ∷ zs)
line_end_on [] ys zs e = LineEnd.at_lf
line_end_on (b ∷ r) ys zs LineEnd.at_lf = LineEnd.at_lf

-- ---- a comment line

module _ (rest back cs : List ℕ) (n : NoLf cs) where
  words_same : bytes_of (tokens_from 0 (rest ++ 10 ∷ back)) ≡ bytes_of (tokens_from 0 (rest ++ 10 ∷ 99 ∷ cs ++ 10 ∷ back))
  words_same =
      words_lf 0 0 rest back ∙
      sym (ap (λ (t : List ℕ). bytes_of (tokens_from 0 t)) (append_assoc rest (10 ∷ 99 ∷ cs) (10 ∷ back)) ∙ words_lf 0 0 rest (99 ∷ cs ++ 10 ∷ back) ∙
      ap (λ (wss : List (List ℕ)). bytes_of (tokens_from 0 rest) ++ wss) (words_comment cs back (no_lf_complete n)))

  body_comment : {es : List ℤ} → Body (rest ++ 10 ∷ back) es → Body (rest ++ 10 ∷ 99 ∷ cs ++ 10 ∷ back) es
  body_comment y =
      let t = rest ++ 10 ∷ 99 ∷ cs ++ 10 ∷ back in
      body_of_says 0 t (says_same (tokens_from 0 t) words_same (says_of_body 0 y))

  body_less : {es : List ℤ} → Body (rest ++ 10 ∷ 99 ∷ cs ++ 10 ∷ back) es → Body (rest ++ 10 ∷ back) es
  body_less y =
      let t = rest ++ 10 ∷ back in
      body_of_says 0 t (says_same (tokens_from 0 t) (sym words_same) (says_of_body 0 y))

line_end_lf : {rest : List ℕ} (xs : List ℕ) → LineEnd rest → LineEnd (rest ++ 10 ∷ xs)
line_end_lf xs LineEnd.at_end = LineEnd.at_lf
line_end_lf xs LineEnd.at_lf = LineEnd.at_lf

-- with it the text says the same, and without it too
pub comment_line : {front : List ℕ} (cs back : List ℕ) {vars clauses : ℕ} {es : List ℤ} → WithHeader front → NoLf cs
    → length (front ++ 10 ∷ 99 ∷ cs ++ 10 ∷ back) ≤ max_text
    → Dimacs (front ++ 10 ∷ back) vars clauses es ↔ Dimacs (front ++ 10 ∷ 99 ∷ cs ++ 10 ∷ back) vars clauses es
comment_line cs back {vars} {clauses} {es} (with_header {a} {h} {rest} b k e) n m = (to, from)
  where
    less : a ++ h ++ rest ++ 10 ∷ back ≡ a ++ h ++ (rest ++ 10 ∷ back)
    less = append_assoc (a ++ h) rest (10 ∷ back)

    more : a ++ h ++ rest ++ 10 ∷ 99 ∷ cs ++ 10 ∷ back ≡ a ++ h ++ (rest ++ 10 ∷ 99 ∷ cs ++ 10 ∷ back)
    more =
        ap (λ (t : List ℕ). t ++ 10 ∷ back) (append_assoc (a ++ h) rest (10 ∷ 99 ∷ cs)) ∙ append_assoc (a ++ h) (rest ++ 10 ∷ 99 ∷ cs) (10 ∷ back)

    says : List ℕ → Type 0
    says t = Dimacs t vars clauses es

    ends_more : LineEnd (rest ++ 10 ∷ 99 ∷ cs ++ 10 ∷ back)
    ends_more = subst LineEnd (sym (append_assoc rest (10 ∷ 99 ∷ cs) (10 ∷ back))) (line_end_lf (99 ∷ cs ++ 10 ∷ back) e)

    to : Dimacs (a ++ h ++ rest ++ 10 ∷ back) vars clauses es → Dimacs (a ++ h ++ rest ++ 10 ∷ 99 ∷ cs ++ 10 ∷ back) vars clauses es
    to d =
        let (p, y) = body_of_dimacs b k (line_end_lf back e) (subst says less d) in
        subst says (sym more) (dimacs_with d b p ends_more (body_comment rest back cs n y) (subst (λ (t : List ℕ). length t ≤ max_text) more m))

    from : Dimacs (a ++ h ++ rest ++ 10 ∷ 99 ∷ cs ++ 10 ∷ back) vars clauses es → Dimacs (a ++ h ++ rest ++ 10 ∷ back) vars clauses es
    from d =
        let (p, y) = body_of_dimacs b k ends_more (subst says more d) in
        let shorter : length (a ++ h ++ rest ++ 10 ∷ back) ≤ max_text = omega (
          arith,
          m,
          length-append (a ++ h ++ rest) (10 ∷ back),
          length-append (a ++ h ++ rest ++ 10 ∷ 99 ∷ cs) (10 ∷ back),
          length-append (a ++ h ++ rest) (10 ∷ 99 ∷ cs),
        ) in
        subst says (sym less)
        (dimacs_with d b p (line_end_lf back e) (body_less rest back cs n y) (subst (λ (t : List ℕ). length t ≤ max_text) less shorter))

-- ---- a closing `%`

-- r, or what has the same tokens as r, is a body
body_percent : (r tail : List ℕ) {rest : List ℕ} {es : List ℤ} → TokenEnd tail → bytes_of (tokens_from 0 rest) ≡ bytes_of (tokens_from 0 r) → Body rest es
    → Body (r ++ 10 ∷ 37 ∷ tail) es
body_percent r tail {rest} e q y =
    let t = r ++ 10 ∷ 37 ∷ tail in
    let ends : bytes_of (tokens_from 0 (37 ∷ tail)) ≡ (37 ∷ []) ∷ bytes_of (tokens_from 1 tail) =
    ap bytes_of (tokens_word 0 (37 ∷ []) (record { some = omega arith; none = refl }) (stops_of_ended e)) in
    body_of_says 0 t
    (says_more (tokens_from 0 t) (bytes_of (tokens_from 1 tail))
    (words_lf 0 0 r (37 ∷ tail) ∙ ap₂ (λ (xss yss : List (List ℕ)). xss ++ yss) (sym q) (words_tokens 0 (37 ∷ tail) refl ∙ ends))
    (says_of_body 0 y))

-- the last byte of a list that ends with others is the last of those
split_last : (xs text : List ℕ) (b : ℕ) (rest : List ℕ) → xs ++ rest ≡ text ++ b ∷ []
    → (rest ≡ []) ⊎ ((r : List ℕ) × (rest ≡ r ++ b ∷ []) × (text ≡ xs ++ r))
split_last [] text b rest e = inr (text, e, refl)
split_last (x ∷ []) [] b rest e = inl (cc)
split_last (x ∷ y ∷ xs) [] b rest e = apart cc
split_last (x ∷ xs) (t ∷ text) b rest e = go (split_last xs text b rest (cc))
  where
    go : (rest ≡ []) ⊎ ((r : List ℕ) × (rest ≡ r ++ b ∷ []) × (text ≡ xs ++ r))
        → (rest ≡ []) ⊎ ((r : List ℕ) × (rest ≡ r ++ b ∷ []) × (t ∷ text ≡ (x ∷ xs) ++ r))
    go (inl q) = inl q
    go (inr (r, q, s)) = let same : t ≡ x = cc in inr (r, q, ap₂ (λ (y : ℕ) (ys : List ℕ). y ∷ ys) same s)

-- behind a text, whether or not LF ends it
pub percent_line : (text tail : List ℕ) {vars clauses : ℕ} {es : List ℤ} → TokenEnd tail → length (text ++ 10 ∷ 37 ∷ tail) ≤ max_text
    → Dimacs text vars clauses es ⊎ Dimacs (text ++ 10 ∷ []) vars clauses es → Dimacs (text ++ 10 ∷ 37 ∷ tail) vars clauses es
percent_line text tail {vars} {clauses} {es} e m d = go d
  where
    closes : {t front line : List ℕ} (r : List ℕ) {rest : List ℕ} → Dimacs t vars clauses es → Before front → Header line vars clauses
        → LineEnd (r ++ 10 ∷ 37 ∷ tail) → bytes_of (tokens_from 0 rest) ≡ bytes_of (tokens_from 0 r) → Body rest es → text ≡ front ++ line ++ r
        → Dimacs (text ++ 10 ∷ 37 ∷ tail) vars clauses es
    closes {front} {line} r d b k l q y s =
        let is-text : text ++ 10 ∷ 37 ∷ tail ≡ front ++ line ++ (r ++ 10 ∷ 37 ∷ tail) =
        ap (λ (t : List ℕ). t ++ 10 ∷ 37 ∷ tail) s ∙ append_assoc (front ++ line) r (10 ∷ 37 ∷ tail) in
        subst (λ (t : List ℕ). Dimacs t vars clauses es) (sym is-text)
        (dimacs_with d b k l (body_percent r tail e q y) (subst (λ (t : List ℕ). length t ≤ max_text) is-text m))

    -- no header line ends with LF
    header_ends : {line : List ℕ} (front : List ℕ) → Header line vars clauses → front ++ line ≡ text ++ 10 ∷ [] → ⊥
    header_ends {line} front k q = last (split_last front text 10 line q)
      where
        last : (line ≡ []) ⊎ ((r : List ℕ) × (line ≡ r ++ 10 ∷ []) × (text ≡ front ++ r)) → ⊥
        last (inl s) = never {b = true} refl (sym (ap is_empty s) ∙ header_some k)
        last (inr (r, s, u)) = never {b = true} refl (any_append_right is_lf r (10 ∷ []) (ap (any is_lf) (sym s) ∙ no_lf_complete (header_no_lf k)))

    with_lf : Dimacs (text ++ 10 ∷ []) vars clauses es → (p : Parts (text ++ 10 ∷ []) vars clauses es)
        → (p.rest ≡ []) ⊎ ((r : List ℕ) × (p.rest ≡ r ++ 10 ∷ []) × (text ≡ p.front ++ p.line ++ r))
        → Dimacs (text ++ 10 ∷ 37 ∷ tail) vars clauses es
    with_lf d p (inl q) =
        absurd (header_ends p.front p.is-header
        (sym (append-nil (p.front ++ p.line)) ∙ ap (λ (xs : List ℕ). p.front ++ p.line ++ xs) (sym q) ∙ sym p.is-text))
    with_lf d p (inr (r, q, s)) =
        closes r d p.before p.is-header (line_end_on r [] (37 ∷ tail) (subst LineEnd q p.ends))
        (ap (λ (t : List ℕ). bytes_of (tokens_from 0 t)) q ∙ words_lf 0 0 r [] ∙ append-nil (bytes_of (tokens_from 0 r))) p.body s

    go : Dimacs text vars clauses es ⊎ Dimacs (text ++ 10 ∷ []) vars clauses es → Dimacs (text ++ 10 ∷ 37 ∷ tail) vars clauses es
    go (inl d) =
        let p = parts_of_text d.says in
        closes p.rest d p.before p.is-header (line_end_lf (37 ∷ tail) p.ends) refl p.body p.is-text
    go (inr d) =
        let p = parts_of_text d.says in
        with_lf d p (split_last (p.front ++ p.line) text 10 p.rest (sym p.is-text))
