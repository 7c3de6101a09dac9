-- The laws of a formula printed plainly, specs/Plain: its text is one of the grammar of specs/Grammar and says the formula's own
-- entries. And entry lists and formulas are two forms of one thing: `entries_of` and `clauses` undo each other.
--
--   clauses_clause                 a clause with no zero in it, a zero behind it, is the first clause
--   clauses-entries_of              the entries of a formula, cut at their zeros, are the formula
--   entries_of-clauses              the entries of the clauses of n ended clauses are the entries, and the clauses are n
--   clauses_of_entries_of           the entries of a formula are its clauses, each ended by 0
--   numeral_of_decimal             the digits of a number below 10 to the 9 are a numeral
--   token_plain_entry               a literal printed is a token that says it
--   body_plain_clause, body_plain   a clause, and all clauses, printed are a body that says their entries
--   header_plain                   the header printed is a header line
--   length-plain_clause, length_plain     at most 5 bytes an entry, and 15 for the header line
--   no_zero_of_within              no clause of a formula within the sizes holds a zero
--   entries_of_le                   where each literal is of a variable up to V, each entry is of V or below
--   text_plain, plain_dimacs       a formula within the sizes, printed, is a text that says the formula
--
-- Assumes nothing.
use mathlib.Core.Path.{◌≡◌, refl, ◌∙◌, ap, subst}
use mathlib.Core.Logic.{◌⊎◌, inl, inr}
use mathlib.Core.Bool.{false}
use mathlib.Core.List.Memᴰ
use mathlib.Core.List.{List, [], ◌∷◌, ◌++◌, map, append-nil, append_assoc}
use Prim.Native.Nat.{ℕ, zero, suc, ◌+◌, ◌*◌, ◌^◌, ◌≤◌, ◌<◌}
use native.Mathlib.Omega.{arith}
use lib.IntN.{ℤ, pos, negsuc}
use lib.ListN.{length, length-append}
use Rattle.rules.specs.Lists.{In, any, joined, is_zero}
use Rattle.rules.specs.Numbers.{max_vars, max_clauses}
use Rattle.rules.specs.Meaning.{var_of, LitUpTo, Clause, leading, clauses}
use Rattle.texts.specs.Grammar.{IsBlank, Before, Gap, Digits, Numeral, Header, Token, TokenEnd, LineEnd, Body, Text, ClausesOf, Dimacs}
use Rattle.texts.specs.Plain.{decimal, plain_entry, plain_clause, plain_header, plain, entries_of, Within}
use Rattle.rules.proofs.ListLaws.{never, none_of_any, any_of_none, eqz_other}
use Rattle.texts.proofs.ByteLaws.{gaps_sound, no_lf_sound, digits_sound, no_zero_sound, no_zero_complete}
use Rattle.texts.proofs.GrammarLaws.{no_blanks, body_blank}
use Rattle.texts.proofs.DecimalLaws.{decimal_digits, decimal_some, decimal_most, decimal_vars, decimal-clauses, numeral-decimal}

-- ---- entries and clauses

no_zero_behind : (l : ℤ) (cl : Clause) → any is_zero (l ∷ cl) ≡ false → any is_zero cl ≡ false
no_zero_behind l cl h = any_of_none is_zero cl (λ k i. none_of_any is_zero h (Memᴰ.tail {x = l} i))

pub clauses_clause : (cl : Clause) (es : List ℤ) → any is_zero cl ≡ false → clauses (cl ++ pos 0 ∷ es) ≡ cl ∷ clauses es
clauses_clause [] es h = refl
clauses_clause (pos zero ∷ cl) es h = absurd (never refl h)
clauses_clause (pos (suc n) ∷ cl) es h = ap (leading (pos (suc n))) (clauses_clause cl es (no_zero_behind (pos (suc n)) cl h))
clauses_clause (negsuc n ∷ cl) es h = ap (leading (negsuc n)) (clauses_clause cl es (no_zero_behind (negsuc n) cl h))

pub clauses-entries_of : (F : List Clause) → ((cl : Clause) → In cl F → any is_zero cl ≡ false) → clauses (entries_of F) ≡ F
clauses-entries_of [] h = refl
clauses-entries_of (cl ∷ F) h =
    clauses_clause cl (entries_of F) (h cl (Memᴰ.head refl)) ∙
    ap {B = List Clause} (λ G. cl ∷ G) (clauses-entries_of F (λ d i. h d (Memᴰ.tail i)))

pub entries_of-clauses : {n : ℕ} {es : List ℤ} → ClausesOf n es → (entries_of (clauses es) ≡ es) × (length (clauses es) ≡ n)
entries_of-clauses ClausesOf.no_clause = (refl, refl)
entries_of-clauses (ClausesOf.clause cl {es = es} h w) =
    let (e, f) = entries_of-clauses w in
    rw (clauses_clause cl es (no_zero_complete cl h)) (rw e, rw f)

pub clauses_of_entries_of : (F : List Clause) → ((cl : Clause) → In cl F → any is_zero cl ≡ false) → ClausesOf (length F) (entries_of F)
clauses_of_entries_of [] h = ClausesOf.no_clause
clauses_of_entries_of (cl ∷ F) h =
    ClausesOf.clause cl (no_zero_sound cl (h cl (Memᴰ.head refl))) (clauses_of_entries_of F (λ d i. h d (Memᴰ.tail i)))

-- ---- tokens

pub numeral_of_decimal : (n : ℕ) → n < 10 ^ 9 → Numeral (decimal n) n
numeral_of_decimal n h =
    record {
      digits = subst (Digits (decimal n)) (numeral-decimal n) (digits_sound (decimal n) (decimal_digits n));
      some = decimal_some n;
      most = decimal_most 9 n (omega arith) (omega arith);
    }

pub token_plain_entry : (l : ℤ) → var_of l < 10 ^ 9 → Token (plain_entry l) l
token_plain_entry (pos n) h = Token.plain (numeral_of_decimal n h)
token_plain_entry (negsuc n) h = Token.minus (numeral_of_decimal (suc n) h)

-- ---- the body

token_zero : Token (48 ∷ []) (pos 0)
token_zero = Token.plain {ds = 48 ∷ []} (record { digits = Digits.digit_behind 0 Digits.no_digits (omega arith); some = omega arith; most = omega arith })

pub body_plain_clause : (cl : Clause) {rest : List ℕ} {es : List ℤ} → ((l : ℤ) → In l cl → var_of l < 10 ^ 9)
    → Body rest es → Body (plain_clause cl ++ rest) (cl ++ pos 0 ∷ es)
body_plain_clause [] h w = Body.token no_blanks token_zero (TokenEnd.at_blank IsBlank.lf) (body_blank IsBlank.lf w)
body_plain_clause (l ∷ cl) {rest} {es} h w =
    rw (append_assoc (plain_entry l) (32 ∷ plain_clause cl) rest)
    (Body.token
    no_blanks
    (token_plain_entry l (h l (Memᴰ.head refl)))
    (TokenEnd.at_blank IsBlank.space)
    (body_blank IsBlank.space (body_plain_clause cl (λ k i. h k (Memᴰ.tail i)) w)))

pub body_plain : (F : List Clause) → ((cl : Clause) → In cl F → (l : ℤ) → In l cl → var_of l < 10 ^ 9) → Body (joined (map plain_clause F)) (entries_of F)
body_plain [] h = Body.blanks no_blanks
body_plain (cl ∷ F) h =
    body_plain_clause cl (h cl (Memᴰ.head refl)) (body_plain F (λ d i. h d (Memᴰ.tail i)))

-- ---- the header

space : Gap (32 ∷ [])
space = gaps_sound (32 ∷ []) (omega arith) refl

pub header_plain : (vars n : ℕ) → vars < 10 ^ 9 → n < 10 ^ 9 → Header (plain_header vars n) vars n
header_plain vars n h k =
    let line = Header.header space space (numeral_of_decimal vars h) space (numeral_of_decimal n k) no_blanks (no_lf_sound [] refl) in
    rw (append-nil (decimal vars ++ (32 ∷ []) ++ decimal n), append_assoc (decimal vars) (32 ∷ []) (decimal n)) at line

-- ---- lengths

length-plain_entry : (l : ℤ) → var_of l ≤ max_vars → length (plain_entry l) ≤ 4
length-plain_entry (pos n) h = omega (arith, decimal_vars n h)
length-plain_entry (negsuc n) h = omega (arith, decimal_vars (suc n) h)

pub length-plain_clause : (cl : Clause) → ((l : ℤ) → In l cl → var_of l ≤ max_vars) → length (plain_clause cl) ≤ 5 * length cl + 2
length-plain_clause [] h = omega arith
length-plain_clause (l ∷ cl) h =
    omega (
      arith,
      length-append (plain_entry l) (32 ∷ plain_clause cl),
      length-plain_entry l (h l (Memᴰ.head refl)),
      length-plain_clause cl (λ k i. h k (Memᴰ.tail i)),
    )

length_lines : (F : List Clause) → ((cl : Clause) → In cl F → (l : ℤ) → In l cl → var_of l ≤ max_vars)
    → length (joined (map plain_clause F)) ≤ 5 * length (entries_of F)
length_lines [] h = omega arith
length_lines (cl ∷ F) h =
    omega (
      arith,
      length-append (plain_clause cl) (joined (map plain_clause F)),
      length-append cl (pos 0 ∷ entries_of F),
      length-plain_clause cl (h cl (Memᴰ.head refl)),
      length_lines F (λ d i. h d (Memᴰ.tail i)),
    )

length_header : (vars n : ℕ) → vars ≤ max_vars → n ≤ max_clauses → length (plain_header vars n) ≤ 14
length_header vars n h k =
    omega (arith, length-append (decimal vars) (32 ∷ decimal n), decimal_vars vars h, decimal-clauses n k)

-- ---- the whole

module _ {vars : ℕ} {F : List Clause} (w : Within vars F) where
  literal_le : (cl : Clause) → In cl F → (l : ℤ) → In l cl → var_of l ≤ max_vars
  literal_le cl i l j = omega (arith, (w.literals cl i l j).most, w.vars_fit)

  pub no_zero_of_within : (cl : Clause) → In cl F → any is_zero cl ≡ false
  no_zero_of_within cl i = any_of_none is_zero cl (λ l j. eqz_other l (pos 0) (λ e. absurd (omega (arith, (w.literals cl i l j).some, ap var_of e))))

  pub length_plain : length (plain vars F) ≤ 15 + 5 * length (entries_of F)
  unfolding plain
  length_plain =
      omega (
        arith,
        length-append (plain_header vars (length F)) (10 ∷ joined (map plain_clause F)),
        length_header vars (length F) w.vars_fit w.clauses_fit,
        length_lines F literal_le,
      )

  pub text_plain : Text (plain vars F) vars (length F) (entries_of F)
  unfolding plain
  text_plain =
      Text.text
      Before.nothing
      (header_plain vars (length F) (omega (arith, w.vars_fit)) (omega (arith, w.clauses_fit)))
      LineEnd.at_lf
      (body_blank IsBlank.lf (body_plain F (λ cl i l j. omega (arith, literal_le cl i l j))))

pub entries_of_le : (vars : ℕ) (F : List Clause) → ((cl : Clause) → In cl F → (l : ℤ) → In l cl → LitUpTo vars l) → (l : ℤ) → In l (entries_of F)
    → var_of l ≤ vars
entries_of_le vars [] h l i = absurd (Memᴰ.not-nil i)
entries_of_le vars (cl ∷ F) h l i = go (Memᴰ.append_cases cl i) (entries_of_le vars F (λ d j. h d (Memᴰ.tail j)) l)
  where
    behind : (l ≡ pos 0) ⊎ In l (entries_of F) → (In l (entries_of F) → var_of l ≤ vars) → var_of l ≤ vars
    behind (inl e) ih = omega (arith, ap var_of e)
    behind (inr j) ih = ih j

    go : In l cl ⊎ In l (pos 0 ∷ entries_of F) → (In l (entries_of F) → var_of l ≤ vars) → var_of l ≤ vars
    go (inl j) ih = (h cl (Memᴰ.head refl) l j).most
    go (inr j) ih = behind (Memᴰ.cases_cons j) ih

pub plain_dimacs : (vars : ℕ) (F : List Clause) → Within vars F → Dimacs (plain vars F) vars (length F) (entries_of F)
plain_dimacs vars F w =
    record {
      says = text_plain w;
      exactly = clauses_of_entries_of F (no_zero_of_within w);
      up_to = entries_of_le vars F w.literals;
      text_fits = omega (arith, length_plain w, w.entries_fit);
      vars_fit = w.vars_fit;
      clauses_fit = w.clauses_fit;
      entries_fit = w.entries_fit;
    }
