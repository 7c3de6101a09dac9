-- The judgement of tokens (specs/Reading), step by step: a token passes or stops the reading, and never both. Tokens that pass are
-- those with nothing to refuse (specs/Refusals).
--
--   Fits, Passes                  tokens with nothing to refuse, one after the other
--   fine_of_passes, passes_of_fine, count_of_passes     they are those of specs/Refusals, and complete C clauses at most
--   Stop                          why a token is refused: 5, 6, 7, 8
--   Closed                        where no more is read: no token is left, or `%` stands behind the last clause
--   Finished, Stopped, tokens_cases     all tokens pass up to there, or one is the first to be refused
--   with_entries, with_entries_refused, with_entries_accepted     entries in front of what is judged
--   judge_tokens_finished, judge_tokens_end, judge_tokens_stopped     what the judgement is in each case
--
-- Assumes nothing.
use mathlib.Core.Path.{◌≡◌, refl, sym, ◌∙◌, ap, ap₂, subst, subst₂}
use mathlib.Core.Logic.{◌⊎◌, inl, inr}
use mathlib.Core.Bool.{Bool, true, false}
use mathlib.Core.List.Memᴰ
use mathlib.Core.List.{List, [], ◌∷◌, ◌++◌, append-nil}
use mathlib.Core.Option.{Option, none, some}
use Prim.Native.Nat.{ℕ, suc, ◌+◌, ◌≤◌, ◌<◌}
use native.Mathlib.Omega.{arith}
use lib.Dec.{leb, ltb}
use lib.IntN.{ℤ}
use lib.ListN.{length}
use borrow.Author.Tests.{le-leb, lt-leb, lt-ltb, le-ltb}
use Rattle.rules.specs.declared.ReadAnswer.{ReadAnswer}
use Rattle.rules.specs.Lists.{In, count, count_if, is_zero}
use Rattle.rules.specs.Numbers.{max_entries}
use Rattle.rules.specs.Meaning.{var_of}
use Rattle.texts.specs.Text.{Piece, Sizes, is_percent, entry_of}
use Rattle.texts.specs.Reading.{Judged, accepted, refused, with_entry, judge_end, ends_text, judge_tokens}
use Rattle.texts.specs.Grammar.{Token}
use Rattle.texts.specs.Refusals.{Say, nothing, one_more_lem, Fine}
use Rattle.rules.proofs.ListLaws.{le_or_lt, never, not-true, and_left, and_right}
use Rattle.texts.proofs.CutLaws.{nil_not_append}
use Rattle.texts.proofs.TokenLaws.{not_none, entry_sound, entry_complete, entry_none, percent_sound, token_not_percent}

count_if_add : (b : Bool) (k n : ℕ) → count_if b k + n ≡ k + count_if b n
count_if_add true k n = omega arith
count_if_add false k n = refl

count_if_below : (b : Bool) (k : ℕ) {n : ℕ} → k < n → count_if b k ≤ n
count_if_below true k h = h
count_if_below false k h = omega arith

-- ---- tokens that pass, with k clauses complete and n entries so far

pub record Fits (s : Sizes) (k n : ℕ) (l : ℤ) : Type 0 where
  pub not_behind : k < s.clauses
  pub up_to : var_of l ≤ s.vars
  pub most : n < max_entries

pub data Passes (s : Sizes) : ℕ → ℕ → List Piece → List ℤ → Type 0 where
  passed : {k n : ℕ} → Passes s k n [] []
  pass : {k n : ℕ} {t : Piece} {ts : List Piece} {l : ℤ} {es : List ℤ} → Token t.bytes l → Fits s k n l
      → Passes s (count_if (is_zero l) k) (suc n) ts es → Passes s k n (t ∷ ts) (l ∷ es)

module _ {s : Sizes} where
  say_of_passes : {k n : ℕ} {ts : List Piece} {es : List ℤ} → Passes s k n ts es → Say ts es
  say_of_passes passed = nothing
  say_of_passes (pass w f p) = one_more_lem w (say_of_passes p)

  not_behind_of_passes : {k n : ℕ} {ts : List Piece} {es : List ℤ} → Passes s k n ts es → (front : List ℤ) (l : ℤ) (back : List ℤ)
      → es ≡ front ++ l ∷ back → k + count is_zero front < s.clauses
  not_behind_of_passes passed front l back e = absurd (nil_not_append front l back e)
  not_behind_of_passes (pass w f p) [] l back e = omega (arith, f.not_behind)
  not_behind_of_passes {k} (pass {l = x} w f p) (y ∷ front) l back e =
      let same : x ≡ y = cc in
      omega (
        arith,
        not_behind_of_passes p front l back (cc),
        count_if_add (is_zero x) k (count is_zero front),
        ap (λ (z : ℤ). count_if (is_zero z) (count is_zero front)) same,
      )

  up_to_of_passes : {k n : ℕ} {ts : List Piece} {es : List ℤ} → Passes s k n ts es → (l : ℤ) → In l es → var_of l ≤ s.vars
  up_to_of_passes passed l i = absurd (Memᴰ.not-nil i)
  up_to_of_passes (pass w f p) l (Memᴰ.head e) = rw e f.up_to
  up_to_of_passes (pass w f p) l (Memᴰ.tail i) = up_to_of_passes p l i

  most_of_passes : {k n : ℕ} {ts : List Piece} {es : List ℤ} → Passes s k n ts es → n ≤ max_entries → n + length es ≤ max_entries
  most_of_passes passed h = omega arith
  most_of_passes (pass w f p) h = omega (arith, most_of_passes p f.most)

  pub count_of_passes : {k n : ℕ} {ts : List Piece} {es : List ℤ} → Passes s k n ts es → k ≤ s.clauses → k + count is_zero es ≤ s.clauses
  count_of_passes passed h = omega arith
  count_of_passes {k} (pass {l} {es} w f p) h =
      omega (arith, count_of_passes p (count_if_below (is_zero l) k f.not_behind), count_if_add (is_zero l) k (count is_zero es))

  pub fine_of_passes : {ts : List Piece} {es : List ℤ} → Passes s 0 0 ts es → Fine s ts es
  fine_of_passes p =
      record {
        say = say_of_passes p;
        not_behind = λ f l b e. omega (arith, not_behind_of_passes p f l b e);
        up_to = up_to_of_passes p;
        most = omega (arith, most_of_passes p (omega arith));
      }

  passes_of_say : {k n : ℕ} {ts : List Piece} {es : List ℤ} → Say ts es
      → ((front : List ℤ) (l : ℤ) (back : List ℤ) → es ≡ front ++ l ∷ back → k + count is_zero front < s.clauses)
      → ((l : ℤ) → In l es → var_of l ≤ s.vars) → n + length es ≤ max_entries → Passes s k n ts es
  passes_of_say {k} {n} nothing f u m = passed
  passes_of_say {k} {n} (one_more_lem {l} {es} w h) f u m =
      let fits : Fits s k n l = record { not_behind = omega (arith, f [] l es refl); up_to = u l (Memᴰ.head refl); most = omega arith } in
      pass w fits
      (passes_of_say {k = count_if (is_zero l) k} {n = suc n} h
      (λ front x back e. omega (arith, count_if_add (is_zero l) k (count is_zero front), f (l ∷ front) x back (ap (λ (xs : List ℤ). l ∷ xs) e)))
      (λ x i. u x (Memᴰ.tail i))
      (omega arith))

  pub passes_of_fine : {ts : List Piece} {es : List ℤ} → Fine s ts es → Passes s 0 0 ts es
  passes_of_fine f =
      passes_of_say {k = 0} {n = 0} f.say (λ front l back e. omega (arith, f.not_behind front l back e)) f.up_to (omega (arith, f.most))

-- ---- a token that is refused, in the order 5, 6, 7, 8

pub data Stop (s : Sizes) (k n : ℕ) (t : Piece) : ReadAnswer → Type 0 where
  bad : ((l : ℤ) → Token t.bytes l → ⊥) → (t.bytes ≡ 37 ∷ [] → k < s.clauses) → Stop s k n t (ReadAnswer.BadToken t.at)
  after_last : (l : ℤ) → Token t.bytes l → s.clauses ≤ k → Stop s k n t (ReadAnswer.TokenBehind t.at)
  above : (l : ℤ) → Token t.bytes l → k < s.clauses → s.vars < var_of l → Stop s k n t (ReadAnswer.TokenOverVars t.at)
  over : (l : ℤ) → Token t.bytes l → k < s.clauses → var_of l ≤ s.vars → max_entries ≤ n → Stop s k n t (ReadAnswer.ManyTokens t.at)

-- the first token that is refused, behind tokens that say es
pub record Stopped (s : Sizes) (k n : ℕ) (ts : List Piece) : Type 0 where
  pub before : List Piece
  pub token : Piece
  pub after : List Piece
  pub es : List ℤ
  pub answer : ReadAnswer
  pub tokens : ts ≡ before ++ token ∷ after
  pub passes : Passes s k n before es
  pub stop : Stop s (k + count is_zero es) (n + length es) token answer

-- with k clauses complete: no token is left, or `%` stands here and nothing behind it is read
pub data Closed (s : Sizes) (k : ℕ) : List Piece → Type 0 where
  none_left : Closed s k []
  percent : {t : Piece} {ts : List Piece} → t.bytes ≡ 37 ∷ [] → s.clauses ≤ k → Closed s k (t ∷ ts)

-- tokens that say es, up to where no more is read
pub record Finished (s : Sizes) (k n : ℕ) (ts : List Piece) : Type 0 where
  pub before : List Piece
  pub rest : List Piece
  pub es : List ℤ
  pub tokens : ts ≡ before ++ rest
  pub passes : Passes s k n before es
  pub closed : Closed s (k + count is_zero es) rest

-- one token: it passes, closes the text, or is refused
data TokenCases (s : Sizes) (k n : ℕ) (t : Piece) : Type 0 where
  passes : (l : ℤ) → Token t.bytes l → Fits s k n l → TokenCases s k n t
  closes : t.bytes ≡ 37 ∷ [] → s.clauses ≤ k → TokenCases s k n t
  stops : (a : ReadAnswer) → Stop s k n t a → TokenCases s k n t

module _ (s : Sizes) where
  token_cases : (k n : ℕ) (t : Piece) → TokenCases s k n t
  token_cases k n t = go (entry_of t.bytes) refl (le_or_lt s.clauses k)
    where
      entries : (l : ℤ) → Token t.bytes l → k < s.clauses → var_of l ≤ s.vars → (max_entries ≤ n) ⊎ (n < max_entries) → TokenCases s k n t
      entries l w h u (inl o) = stops (ReadAnswer.ManyTokens t.at) (over l w h u o)
      entries l w h u (inr m) = passes l w (record { not_behind = h; up_to = u; most = m })

      vars : (l : ℤ) → Token t.bytes l → k < s.clauses → (var_of l ≤ s.vars) ⊎ (s.vars < var_of l) → TokenCases s k n t
      vars l w h (inl u) = entries l w h u (le_or_lt max_entries n)
      vars l w h (inr u) = stops (ReadAnswer.TokenOverVars t.at) (above l w h u)

      malformed : ((l : ℤ) → Token t.bytes l → ⊥) → (b : Bool) → is_percent t.bytes ≡ b → s.clauses ≤ k → TokenCases s k n t
      malformed f true e h = closes (percent_sound e) h
      malformed f false e h = stops (ReadAnswer.BadToken t.at) (bad f (λ q. absurd (never (ap is_percent q) e)))

      go : (o : Option ℤ) → entry_of t.bytes ≡ o → (s.clauses ≤ k) ⊎ (k < s.clauses) → TokenCases s k n t
      go none e (inl h) = malformed (λ l w. not_none (entry_complete w) e) (is_percent t.bytes) refl h
      go none e (inr h) = stops (ReadAnswer.BadToken t.at) (bad (λ l w. not_none (entry_complete w) e) (λ q. h))
      go (some l) e (inl h) = stops (ReadAnswer.TokenBehind t.at) (after_last l (entry_sound t.bytes e) h)
      go (some l) e (inr h) = vars l (entry_sound t.bytes e) h (le_or_lt (var_of l) s.vars)

  pub tokens_cases : (k n : ℕ) (ts : List Piece) → Finished s k n ts ⊎ Stopped s k n ts
  tokens_cases k n [] = inl (record { before = []; rest = []; es = []; tokens = refl; passes = passed; closed = none_left })
  tokens_cases k n (t ∷ ts) = go (token_cases k n t) (λ j. tokens_cases j (suc n) ts)
    where
      Cases : ℕ → ℕ → List Piece → Type 0
      Cases k n ts = Finished s k n ts ⊎ Stopped s k n ts

      later : (l : ℤ) → Token t.bytes l → Fits s k n l → Cases (count_if (is_zero l) k) (suc n) ts → Cases k n (t ∷ ts)
      later l w f (inl p) =
          inl (record {
            before = t ∷ p.before;
            rest = p.rest;
            es = l ∷ p.es;
            tokens = ap (λ (xs : List Piece). t ∷ xs) p.tokens;
            passes = pass w f p.passes;
            closed = subst (λ (i : ℕ). Closed s i p.rest) (count_if_add (is_zero l) k (count is_zero p.es)) p.closed;
          })
      later l w f (inr d) =
          inr (record {
            before = t ∷ d.before;
            token = d.token;
            after = d.after;
            es = l ∷ d.es;
            answer = d.answer;
            tokens = ap (λ (xs : List Piece). t ∷ xs) d.tokens;
            passes = pass w f d.passes;
            stop = subst₂ (λ (i j : ℕ). Stop s i j d.token d.answer) (count_if_add (is_zero l) k (count is_zero d.es)) (omega arith) d.stop;
          })

      go : TokenCases s k n t → ((j : ℕ) → Cases j (suc n) ts) → Cases k n (t ∷ ts)
      go (passes l w f) ih = later l w f (ih (count_if (is_zero l) k))
      go (closes e h) ih =
          inl (record { before = []; rest = t ∷ ts; es = []; tokens = refl; passes = passed; closed = percent e (omega arith) })
      go (stops a q) ih =
          inr (record {
            before = [];
            token = t;
            after = ts;
            es = [];
            answer = a;
            tokens = refl;
            passes = passed;
            stop = subst₂ (λ (i j : ℕ). Stop s i j t a) (omega arith) (omega arith) q;
          })

-- ---- what the judgement is

abbrev pub with_entries : List ℤ → Judged → Judged
with_entries [] j = j
with_entries (l ∷ es) j = with_entry l (with_entries es j)

pub with_entries_refused : (es : List ℤ) (a : ReadAnswer) → with_entries es (refused a) ≡ refused a
with_entries_refused [] a = refl
with_entries_refused (l ∷ es) a = ap (with_entry l) (with_entries_refused es a)

pub with_entries_accepted : (es : List ℤ) (s : Sizes) → with_entries es (accepted s []) ≡ accepted s es
with_entries_accepted [] s = refl
with_entries_accepted (l ∷ es) s = ap (with_entry l) (with_entries_accepted es s)

-- `%` ends the text behind the last clause alone
not_ended : (s : Sizes) (k : ℕ) (w : List ℕ) → (w ≡ 37 ∷ [] → k < s.clauses) → ends_text s k w ≡ false
not_ended s k w f =
    not-true (ends_text s k w)
    (λ e. never (and_right (is_percent w) (leb s.clauses k) e)
    (lt-leb s.clauses k (f (percent_sound (and_left (is_percent w) (leb s.clauses k) e)))))

module _ (s : Sizes) (end : ℕ) where
  judge_tokens_passes : {k n : ℕ} {ts : List Piece} {es : List ℤ} (rest : List Piece) → Passes s k n ts es
      → judge_tokens s end k n (ts ++ rest) ≡ with_entries es (judge_tokens s end (k + count is_zero es) (n + length es) rest)
  unfolding judge_tokens
  judge_tokens_passes {k} {n} rest passed = ap₂ (λ (i j : ℕ). judge_tokens s end i j rest) (omega arith) (omega arith)
  judge_tokens_passes {k} {n} rest (pass {t} {ts} {l} {es} w f p) =
      rw (token_not_percent w, entry_complete w, lt-leb s.clauses k f.not_behind, le-ltb s.vars (var_of l) f.up_to, lt-leb max_entries n f.most)
      (ap (with_entry l) (judge_tokens_passes rest p ∙
      ap₂ (λ (i j : ℕ). with_entries es (judge_tokens s end i j rest)) (count_if_add (is_zero l) k (count is_zero es)) (omega arith)))

  judge_tokens_stop : {k n : ℕ} {t : Piece} {a : ReadAnswer} (ts : List Piece) → Stop s k n t a → judge_tokens s end k n (t ∷ ts) ≡ refused a
  unfolding judge_tokens
  judge_tokens_stop {k} {n} {t} ts (bad h f) = rw (not_ended s k t.bytes f, entry_none t.bytes h)
  judge_tokens_stop {k} {n} {t} ts (after_last l w h) = rw (token_not_percent w, entry_complete w, le-leb s.clauses k h)
  judge_tokens_stop {k} {n} {t} ts (above l w h u) =
      rw (token_not_percent w, entry_complete w, lt-leb s.clauses k h, lt-ltb s.vars (var_of l) u)
  judge_tokens_stop {k} {n} {t} ts (over l w h u o) =
      rw (token_not_percent w, entry_complete w, lt-leb s.clauses k h, le-ltb s.vars (var_of l) u, le-leb max_entries n o)

  judge_tokens_closed : {k : ℕ} (n : ℕ) {ts : List Piece} → Closed s k ts → s.clauses ≤ k → judge_tokens s end k n ts ≡ accepted s []
  unfolding judge_tokens
  judge_tokens_closed {k} n none_left h = rw (le-ltb k s.clauses h)
  judge_tokens_closed {k} n (percent {t} e c) h = rw (e, le-leb s.clauses k c)

  -- C clauses are complete where no more is read
  pub judge_tokens_finished : {ts before rest : List Piece} {es : List ℤ} → ts ≡ before ++ rest → Passes s 0 0 before es
      → Closed s (count is_zero es) rest → s.clauses ≤ count is_zero es → judge_tokens s end 0 0 ts ≡ accepted s es
  judge_tokens_finished {rest} {es} e p c h =
      ap (judge_tokens s end 0 0) e ∙ judge_tokens_passes rest p ∙
      ap (λ (i : ℕ). with_entries es (judge_tokens s end i (0 + length es) rest)) (omega arith) ∙
      ap (with_entries es) (judge_tokens_closed (0 + length es) c h) ∙ with_entries_accepted es s

  pub judge_tokens_end : {ts : List Piece} {es : List ℤ} → Passes s 0 0 ts es
      → judge_tokens s end 0 0 ts ≡ with_entries es (judge_end (ltb (count is_zero es) s.clauses) s end)
  unfolding judge_tokens
  judge_tokens_end {ts} {es} p =
      ap (judge_tokens s end 0 0) (sym (append-nil ts)) ∙ judge_tokens_passes [] p ∙
      ap (λ (i : ℕ). with_entries es (judge_end (ltb i s.clauses) s end)) (omega arith)

  pub judge_tokens_stopped : {ts : List Piece} (d : Stopped s 0 0 ts) → judge_tokens s end 0 0 ts ≡ refused d.answer
  judge_tokens_stopped d =
      ap (judge_tokens s end 0 0) d.tokens ∙ judge_tokens_passes (d.token ∷ d.after) d.passes ∙
      ap (with_entries d.es) (judge_tokens_stop d.after d.stop) ∙ with_entries_refused d.es d.answer
