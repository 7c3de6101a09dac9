-- The reading and the grammar agree (docs/RULES.md, "The text"): a text is accepted as V, C and entries exactly if it is a text of
-- specs/Grammar that says these. A whole text (VerdictLaws) is taken apart at its lines, tokens and zeros, and put together again.
--
--   clauses_of_cons, clauses_of_of_passes     a literal in front; entries that pass and complete C clauses are C clauses
--   count_clauses_of, not_behind_of_clauses_of     C clauses have C zeros, and no entry stands behind the last one
--   Says, says_of_say             tokens that say entries, up to a `%` or the last one
--   no_blanks, blanks_cons, body_blank     a blank may be put in front of a body
--   body_of_says, says_of_body    such tokens, and the text behind the header line
--   stops_of_ended, ended_of_stops, stops_of_line_end     where a token ends, and a line
--   Parts, parts_of_text, text_of_parts     a text as the lines before the header, the header line, and the rest
--   dimacs_of_whole, whole_of_dimacs     a text with nothing to refuse
--   accepted_sound, accepted_complete    the theorem
--
-- Assumes nothing.
use mathlib.Core.Path.{◌≡◌, refl, sym, ◌∙◌, ap, ap₂, subst}
use mathlib.Core.Bool.{Bool, true, false}
use mathlib.Core.List.Memᴰ
use mathlib.Core.List.{List, [], ◌∷◌, ◌++◌, append-nil, append_assoc}
use Prim.Native.Nat.{ℕ, zero, suc, ◌+◌, ◌≤◌, ◌<◌}
use native.Mathlib.Omega.{arith}
use lib.IntN.{ℤ, pos}
use lib.ListN.{length, length-append}
use borrow.Author.Tests.{eqb-true, ne_eqb}
use Rattle.rules.specs.Lists.{any, all, count, count_if, is_zero}
use Rattle.rules.specs.Numbers.{max_entries}
use Rattle.texts.specs.Text.{is_lf, is_blank, is_digit, is_comment, Piece, Sizes, tokens_from}
use Rattle.texts.specs.Reading.{accepted, end_of, judge}
use Rattle.texts.specs.Grammar.{IsBlank, Blanks, Before, Header, Token, plain, minus, TokenEnd, at_end, at_blank, LineEnd}
use Rattle.texts.specs.Grammar.{Body, blanks, comment, token, percent, Text, ClausesOf, no_clause, clause, Dimacs}
use Rattle.texts.specs.Refusals.{FirstLine, Say, nothing, one_more_lem}
use Rattle.rules.proofs.ListLaws.{never, and_left, count_append, eqz_sound, or_left, or_right}
use Rattle.texts.proofs.ByteLaws.{blank_sound, blank_complete, blanks_sound, blanks_complete, no_lf_sound, no_lf_complete, no_zero_sound, no_zero_complete}
use Rattle.texts.proofs.CutLaws.{nil_not_append, Stops}
use Rattle.texts.proofs.TokenLaws.{digit_most, numeral_digits, word_of_token}
use Rattle.texts.proofs.HeaderLaws.{header_not_skipped, header_no_lf}
use Rattle.texts.proofs.LineLaws.{Front, first_line_sound, first_line_complete, drop-end_of}
use Rattle.texts.proofs.BodyLaws.{tokens_nil, tokens_blank, tokens_blanks, tokens_comment, tokens_word, split}
use Rattle.texts.proofs.JudgeLaws.{Passes, passed, pass, passes_of_fine, Closed, none_left}
use Rattle.texts.proofs.VerdictLaws.{tokens_of, Whole, Verdict, accepts, judge_of_verdict, verdict_of_judge}

-- ---- zeros

pub clauses_of_cons : {m : ℕ} {l : ℤ} {es : List ℤ} → is_zero l ≡ false → 1 ≤ m → ClausesOf m es → ClausesOf m (l ∷ es)
clauses_of_cons e h no_clause = absurd (omega arith)
clauses_of_cons {l} e h (clause cl k c) = clause (l ∷ cl) (no_zero_sound (l ∷ cl) (rw e (no_zero_complete cl k))) c

pub clauses_of_of_passes : {s : Sizes} {k n : ℕ} {ts : List Piece} {es : List ℤ} → Passes s k n ts es
    → k + count is_zero es ≡ s.clauses → ClausesOf (count is_zero es) es
clauses_of_of_passes passed h = no_clause
clauses_of_of_passes {s} {k} (pass {l} {es} w f p) h = go (is_zero l) refl h (clauses_of_of_passes p)
  where
    go : (t : Bool) → is_zero l ≡ t → k + count_if t (count is_zero es) ≡ s.clauses
        → (count_if (is_zero l) k + count is_zero es ≡ s.clauses → ClausesOf (count is_zero es) es)
        → ClausesOf (count_if t (count is_zero es)) (l ∷ es)
    go true e q ih = rw (eqz_sound l (pos 0) e) (clause [] Memᴰ.not-nil (ih (rw e (omega arith))))
    go false e q ih = clauses_of_cons e (omega (arith, f.not_behind)) (ih (rw e q))

count_none : {A : Type 0} (p : A → Bool) (xs : List A) → any p xs ≡ false → count p xs ≡ 0
count_none p [] h = refl
count_none p (x ∷ xs) h = rw (or_left (p x) (any p xs) h) (count_none p xs (or_right (p x) (any p xs) h))

pub count_clauses_of : {m : ℕ} {es : List ℤ} → ClausesOf m es → count is_zero es ≡ m
count_clauses_of no_clause = refl
count_clauses_of (clause cl {es} h c) = omega (arith, count_append is_zero cl (pos 0 ∷ es), count_none is_zero cl (no_zero_complete cl h), count_clauses_of c)

pub not_behind_of_clauses_of : {m : ℕ} {es : List ℤ} → ClausesOf m es → (front : List ℤ) (l : ℤ) (back : List ℤ)
    → es ≡ front ++ l ∷ back → count is_zero front < m
not_behind_of_clauses_of no_clause front l back e = absurd (nil_not_append front l back e)
not_behind_of_clauses_of (clause {n} cl {es} h c) front l back e = inside cl (no_zero_complete cl h) (λ f x b q. not_behind_of_clauses_of c f x b q) front e
  where
    inside : (cl : List ℤ) → any is_zero cl ≡ false
        → ((front : List ℤ) (l : ℤ) (back : List ℤ) → es ≡ front ++ l ∷ back → count is_zero front < n) → (front : List ℤ)
        → cl ++ pos 0 ∷ es ≡ front ++ l ∷ back → count is_zero front < suc n
    inside cl h ih [] e = omega arith
    inside [] h ih (x ∷ front) e = let q : x ≡ pos 0 = cc in rw q (omega (arith, ih front l back (cc)))
    inside (y ∷ cl) h ih (x ∷ front) e =
        let q : x ≡ y = cc in
        rw (q, or_left (is_zero y) (any is_zero cl) h) (inside cl (or_right (is_zero y) (any is_zero cl) h) ih front (cc))

-- ---- tokens

pub stops_of_ended : {bs : List ℕ} → TokenEnd bs → Stops is_blank bs
stops_of_ended at_end = Stops.at_end
stops_of_ended (at_blank e) = Stops.at_one (blank_complete e)

pub ended_of_stops : {bs : List ℕ} → Stops is_blank bs → TokenEnd bs
ended_of_stops Stops.at_end = at_end
ended_of_stops (Stops.at_one {b} e) = at_blank (blank_sound b e)

line_end_of_stops : {bs : List ℕ} → Stops is_lf bs → LineEnd bs
line_end_of_stops Stops.at_end = LineEnd.at_end
line_end_of_stops (Stops.at_one {b} {bs} e) = subst (λ (x : ℕ). LineEnd (x ∷ bs)) (sym (eqb-true b 10 e)) LineEnd.at_lf

pub stops_of_line_end : {bs : List ℕ} → LineEnd bs → Stops is_lf bs
stops_of_line_end LineEnd.at_end = Stops.at_end
stops_of_line_end LineEnd.at_lf = Stops.at_one refl

-- tokens that say entries, up to a `%` or to the last one
pub data Says : List Piece → List ℤ → Type 0 where
  none_more : Says [] []
  says_one : {t : Piece} {ts : List Piece} {l : ℤ} {es : List ℤ} → Token t.bytes l → Says ts es → Says (t ∷ ts) (l ∷ es)
  says_end : {t : Piece} {ts : List Piece} → t.bytes ≡ 37 ∷ [] → Says (t ∷ ts) []

pub says_of_say : {s : Sizes} {k : ℕ} {before rest : List Piece} {es : List ℤ} → Say before es → Closed s k rest → Says (before ++ rest) es
says_of_say nothing none_left = none_more
says_of_say nothing (Closed.percent e h) = says_end e
says_of_say (one_more_lem w y) c = says_one w (says_of_say y c)

record SaidBy (s : Sizes) (ts : List Piece) (es : List ℤ) : Type 0 where
  before : List Piece
  rest : List Piece
  tokens : ts ≡ before ++ rest
  say : Say before es
  closed : (k : ℕ) → s.clauses ≤ k → Closed s k rest

say_of_says : {s : Sizes} {ts : List Piece} {es : List ℤ} → Says ts es → SaidBy s ts es
say_of_says none_more = record { before = []; rest = []; tokens = refl; say = nothing; closed = λ k h. none_left }
say_of_says {s} (says_one {t} w y) =
    let p = say_of_says {s = s} y in
    record { before = t ∷ p.before; rest = p.rest; tokens = ap (λ (ts : List Piece). t ∷ ts) p.tokens; say = one_more_lem w p.say; closed = p.closed }
say_of_says (says_end {t} {ts} e) = record { before = []; rest = t ∷ ts; tokens = refl; say = nothing; closed = λ k h. Closed.percent e h }

-- ---- from the tokens to the body

pub no_blanks : Blanks []
no_blanks = blanks_sound [] refl

pub blanks_cons : {b : ℕ} {bs : List ℕ} → IsBlank b → Blanks bs → Blanks (b ∷ bs)
blanks_cons {b} {bs} e s = blanks_sound (b ∷ bs) (rw (blank_complete e) (blanks_complete s))

pub body_blank : {b : ℕ} {bs : List ℕ} {es : List ℤ} → IsBlank b → Body bs es → Body (b ∷ bs) es
body_blank e (blanks s) = blanks (blanks_cons e s)
body_blank e (comment s n d w) = comment (blanks_cons e s) n d w
body_blank e (token s t d w) = token (blanks_cons e s) t d w
body_blank e (percent s d) = percent (blanks_cons e s) d

-- texts of at most n bytes
abbrev UpTo : ℕ → Type 0
UpTo n = (at : ℕ) (xs : List ℕ) (es : List ℤ) → length xs ≤ n → Says (tokens_from at xs) es → Body xs es

body_nil : (at : ℕ) (es : List ℤ) → Says (tokens_from at []) es → Body [] es
body_nil at es y = go (subst (λ (ts : List Piece). Says ts es) (tokens_nil at) y)
  where
    go : {fs : List ℤ} → Says [] fs → Body [] fs
    go none_more = blanks no_blanks

-- one byte more
body_cons : (n at x : ℕ) (xs : List ℕ) (es : List ℤ) → UpTo n → length xs ≤ n → Says (tokens_from at (x ∷ xs)) es → Body (x ∷ xs) es
body_cons n at x xs es ih h y = go (is_blank x) refl
  where
    passes : is_blank x ≡ true → (is_lf x ≡ true → is_comment xs ≡ false) → Body (x ∷ xs) es
    passes e k =
        body_blank (blank_sound x e)
        (ih (at + 1) xs es (omega arith) (subst (λ (ts : List Piece). Says ts es) (tokens_blank at x xs e k) y))

    comments : (ys : List ℕ) → length ys ≤ n → Says (tokens_from at (10 ∷ ys)) es → is_comment ys ≡ true → Body (10 ∷ ys) es
    comments [] k z q = absurd (never q refl)
    comments (c ∷ cs) k z q =
        let s = split is_lf cs in
        let is-text : 10 ∷ c ∷ cs ≡ 10 ∷ 99 ∷ s.front ++ s.rest =
        ap₂ (λ (b : ℕ) (bs : List ℕ). 10 ∷ b ∷ bs) (eqb-true c 99 q) s.is-text in
        let later : Says (tokens_from (at + 2 + length s.front) s.rest) es =
        subst (λ (ts : List Piece). Says ts es) (ap (tokens_from at) is-text ∙ tokens_comment at s.front s.none s.stops) z in
        subst (λ (t : List ℕ). Body t es) (sym is-text)
        (comment {bs = []} no_blanks (no_lf_sound s.front s.none) (line_end_of_stops s.stops)
        (ih (at + 2 + length s.front) s.rest es (omega (arith, ap length s.is-text, length-append s.front s.rest)) later))

    lines : is_blank x ≡ true → (t : Bool) → is_lf x ≡ t → (c : Bool) → is_comment xs ≡ c → Body (x ∷ xs) es
    lines e false q c r = passes e (λ p. absurd (never p q))
    lines e true q false r = passes e (λ p. r)
    lines e true q true r =
        let lf : x ≡ 10 = eqb-true x 10 q in
        subst (λ (b : ℕ). Body (b ∷ xs) es) (sym lf)
        (comments xs (omega arith) (subst (λ (b : ℕ). Says (tokens_from at (b ∷ xs)) es) lf y) r)

    word : (w rest : List ℕ) (us : List Piece) (fs : List ℤ) → Stops is_blank rest → ((gs : List ℤ) → Says us gs → Body rest gs)
        → Says (record { at = at; bytes = w } ∷ us) fs → Body (w ++ rest) fs
    word w rest us fs s later (says_one {es = gs} t z) = token {bs = []} no_blanks t (ended_of_stops s) (later gs z)
    word w rest us fs s later (says_end e) = subst (λ (v : List ℕ). Body (v ++ rest) []) (sym e) (percent {bs = []} no_blanks (ended_of_stops s))

    go : (t : Bool) → is_blank x ≡ t → Body (x ∷ xs) es
    go true e = lines e (is_lf x) refl (is_comment xs) refl
    go false e =
        let s = split is_blank xs in
        let w = x ∷ s.front in
        let is-text : x ∷ xs ≡ w ++ s.rest = ap (λ (ys : List ℕ). x ∷ ys) s.is-text in
        let found : Says (record { at = at; bytes = w } ∷ tokens_from (at + length w) s.rest) es =
        subst (λ (ts : List Piece). Says ts es)
        (ap (tokens_from at) is-text ∙ tokens_word at w (record { some = omega arith; none = rw e s.none }) s.stops) y in
        subst (λ (t : List ℕ). Body t es) (sym is-text)
        (word w s.rest (tokens_from (at + length w) s.rest) es s.stops
        (λ gs z. ih (at + length w) s.rest gs (omega (arith, ap length s.is-text, length-append s.front s.rest)) z) found)

up_to_zero : UpTo 0
up_to_zero at [] es h y = body_nil at es y
up_to_zero at (x ∷ xs) es h y = absurd (omega arith)

up_to_suc : (n : ℕ) → UpTo n → UpTo (suc n)
up_to_suc n ih at [] es h y = body_nil at es y
up_to_suc n ih at (x ∷ xs) es h y = body_cons n at x xs es ih (omega arith) y

up_to : (n : ℕ) → UpTo n
up_to zero = up_to_zero
up_to (suc n) = up_to_suc n (up_to n)

pub body_of_says : (at : ℕ) (xs : List ℕ) {es : List ℤ} → Says (tokens_from at xs) es → Body xs es
body_of_says at xs {es} y = up_to (length xs) at xs es (omega arith) y

-- ---- and back

token_no_comment : {w : List ℕ} {l : ℤ} (rest : List ℕ) → Token w l → is_comment (w ++ rest) ≡ false
token_no_comment rest (plain {ds = []} m) = absurd (omega (arith, m.some))
token_no_comment rest (plain {ds = d ∷ ds} m) =
    ne_eqb d 99 (omega (arith, digit_most d (and_left (is_digit d) (all is_digit ds) (numeral_digits m))))
token_no_comment rest (minus m) = refl

pub says_of_body : (at : ℕ) {xs : List ℕ} {es : List ℤ} → Body xs es → Says (tokens_from at xs) es
says_of_body at (blanks {bs} h) =
    subst (λ (ts : List Piece). Says ts [])
    (sym (ap (tokens_from at) (sym (append-nil bs)) ∙ tokens_blanks at bs [] (blanks_complete h) refl ∙ tokens_nil (at + length bs))) none_more
says_of_body at {es} (comment {bs} {cs} {rest} h n e b) =
    subst (λ (ts : List Piece). Says ts es)
    (sym (ap (tokens_from at) (append_assoc bs (10 ∷ 99 ∷ cs) rest) ∙ tokens_blanks at bs (10 ∷ 99 ∷ cs ++ rest) (blanks_complete h) refl ∙
    tokens_comment (at + length bs) cs (no_lf_complete n) (stops_of_line_end e)))
    (says_of_body (at + length bs + 2 + length cs) b)
says_of_body at {es} (token {bs} {w} {rest} h t e b) =
    subst (λ (ts : List Piece). Says ts es)
    (sym (ap (tokens_from at) (append_assoc bs w rest) ∙ tokens_blanks at bs (w ++ rest) (blanks_complete h) (token_no_comment rest t) ∙
    tokens_word (at + length bs) w (word_of_token t) (stops_of_ended e)))
    (says_one t (says_of_body (at + length bs + length w) b))
says_of_body at (percent {bs} {rest} h e) =
    subst (λ (ts : List Piece). Says ts [])
    (sym (tokens_blanks at bs (37 ∷ rest) (blanks_complete h) refl ∙
    tokens_word (at + length bs) (37 ∷ []) (record { some = omega arith; none = refl }) (stops_of_ended e)))
    (says_end refl)

-- ---- the text

pub record Parts (text : List ℕ) (vars clauses : ℕ) (es : List ℤ) : Type 0 where
  pub front : List ℕ
  pub line : List ℕ
  pub rest : List ℕ
  pub before : Before front
  pub is-header : Header line vars clauses
  pub ends : LineEnd rest
  pub is-text : text ≡ front ++ line ++ rest
  pub body : Body rest es

pub parts_of_text : {t : List ℕ} {vars clauses : ℕ} {es : List ℤ} → Text t vars clauses es → Parts t vars clauses es
parts_of_text (Text.text {a} {h} {rest} b k e y) =
    record { front = a; line = h; rest = rest; before = b; is-header = k; ends = e; is-text = refl; body = y }

pub text_of_parts : {t : List ℕ} {vars clauses : ℕ} {es : List ℤ} → Parts t vars clauses es → Text t vars clauses es
text_of_parts {vars} {clauses} {es} p =
    subst (λ (t : List ℕ). Text t vars clauses es) (sym p.is-text) (Text.text p.before p.is-header p.ends p.body)

-- ---- the theorem

pub says_of_whole : {room : ℕ} {text : List ℕ} {s : Sizes} {es : List ℤ} (w : Whole room text s es) → Says (tokens_of text w.line) es
says_of_whole {es} w = subst (λ (ts : List Piece). Says ts es) (sym w.tokens) (says_of_say w.fine.say w.closed)

pub dimacs_of_whole : {room : ℕ} {text : List ℕ} {s : Sizes} {es : List ℤ} → Whole room text s es → Dimacs text s.vars s.clauses es
dimacs_of_whole {text} {s} {es} w =
    record {
      says = text_of_parts parts;
      exactly = subst (λ (n : ℕ). ClausesOf n es) w.exactly (clauses_of_of_passes (passes_of_fine w.fine) (omega (arith, w.exactly)));
      up_to = w.fine.up_to;
      text_fits = w.begun.text_fits;
      vars_fit = w.headed.vars_fit;
      clauses_fit = w.headed.clauses_fit;
      entries_fit = w.fine.most;
    }
  where
    found : Front 0 text w.line
    found = first_line_sound w.headed.first_line_lem

    parts : Parts text s.vars s.clauses es
    parts =
        record {
          front = found.front;
          line = w.line.bytes;
          rest = found.rest;
          before = found.before;
          is-header = w.headed.is-header;
          ends = line_end_of_stops found.stops;
          is-text = found.is-text;
          body =
              body_of_says (end_of w.line) found.rest
              (subst (λ (xs : List ℕ). Says (tokens_from (end_of w.line) xs) es) (drop-end_of found) (says_of_whole w));
        }

pub whole_of_dimacs : {room : ℕ} {text : List ℕ} {vars clauses : ℕ} {es : List ℤ} → max_entries ≤ room → Dimacs text vars clauses es
    → Whole room text (record { vars = vars; clauses = clauses }) es
whole_of_dimacs {text} {vars} {clauses} {es} h d =
    record {
      begun = record { room_fits = h; text_fits = d.text_fits };
      line = line;
      headed = record { first_line_lem = first_line_lem; is-header = p.is-header; vars_fit = d.vars_fit; clauses_fit = d.clauses_fit };
      before = said.before;
      rest = said.rest;
      tokens = said.tokens;
      fine = record { say = said.say; not_behind = not_behind_of_clauses_of d.exactly; up_to = d.up_to; most = d.entries_fit };
      closed = said.closed (count is_zero es) (omega (arith, count_clauses_of d.exactly));
      exactly = count_clauses_of d.exactly;
    }
  where
    p : Parts text vars clauses es
    p = parts_of_text d.says

    line : Piece
    line = record { at = length p.front; bytes = p.line }

    first_line_lem : FirstLine text line
    first_line_lem =
        subst (λ (t : List ℕ). FirstLine t line) (sym p.is-text)
        (first_line_complete p.before (header_no_lf p.is-header) (stops_of_line_end p.ends) (header_not_skipped (length p.front) p.is-header))

    found : Front 0 text line
    found =
        record {
          front = p.front;
          rest = p.rest;
          before = p.before;
          is-text = p.is-text;
          place = omega arith;
          one_line = header_no_lf p.is-header;
          stops = stops_of_line_end p.ends;
        }

    said : SaidBy (record { vars = vars; clauses = clauses }) (tokens_of text line) es
    said = say_of_says (subst (λ (xs : List ℕ). Says (tokens_from (end_of line) xs) es) (sym (drop-end_of found)) (says_of_body (end_of line) p.body))

pub accepted_sound : (room : ℕ) (text : List ℕ) {s : Sizes} {es : List ℤ} → judge room text ≡ accepted s es
    → Dimacs text s.vars s.clauses es
accepted_sound room text e = go (verdict_of_judge room text e)
  where
    go : {s : Sizes} {es : List ℤ} → Verdict room text (accepted s es) → Dimacs text s.vars s.clauses es
    go (accepts w) = dimacs_of_whole w

pub accepted_complete : (room : ℕ) (text : List ℕ) {vars clauses : ℕ} {es : List ℤ} → max_entries ≤ room
    → Dimacs text vars clauses es → judge room text ≡ accepted (record { vars = vars; clauses = clauses }) es
accepted_complete room text h d = judge_of_verdict (accepts (whole_of_dimacs h d))
