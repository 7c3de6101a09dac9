-- DIMACS CNF as docs/RULES.md, "The text", gives it, as a grammar: what a text is, and not how it is read. specs/Reading.antt reads; that both
-- agree is a theorem. Assumes nothing.
use Rattle.std.specs.Prelude.{List, [], ◌∷◌, ◌++◌, ℕ, suc, ◌+◌, ◌*◌, ◌≤◌, ℤ, pos, negsuc, length}
use Rattle.rules.specs.Lists.{In}
use Rattle.rules.specs.Numbers.{max_text, max_vars, max_clauses, max_entries}
use Rattle.rules.specs.Meaning.{var_of}

-- ---- bytes

pub data IsBlank : ℕ → Type 0 where
  space : IsBlank 32
  tab : IsBlank 9
  cr : IsBlank 13
  lf : IsBlank 10

-- between the words of the header
pub data IsGap : ℕ → Type 0 where
  space : IsGap 32
  tab : IsGap 9

pub record Blanks (bs : List ℕ) : Type 0 where
  pub each : (b : ℕ) → In b bs → IsBlank b

-- one line, or a part of one
pub record NoLf (bs : List ℕ) : Type 0 where
  pub none : In 10 bs → ⊥

-- ---- lines before the header, each with its LF

pub data Skipped : List ℕ → Type 0 where
  blanks : {bs : List ℕ} → Blanks bs → NoLf bs → Skipped bs
  comment : {bs : List ℕ} → NoLf bs → Skipped (99 ∷ bs)

pub data Before : List ℕ → Type 0 where
  nothing : Before []
  line : {bs rest : List ℕ} → Skipped bs → Before rest → Before (bs ++ 10 ∷ rest)

-- ---- the header line

-- one or more spaces or tabs
pub record Gap (bs : List ℕ) : Type 0 where
  pub some : 1 ≤ length bs
  pub each : (b : ℕ) → In b bs → IsGap b

-- digits, from 48 to 57, that say n: one more behind makes ten times as much, and the digit
pub data Digits : List ℕ → ℕ → Type 0 where
  no_digits : Digits [] 0
  digit_behind : {ds : List ℕ} {n : ℕ} (d : ℕ) → Digits ds n → d ≤ 9 → Digits (ds ++ (48 + d) ∷ []) (10 * n + d)

-- 1 to 9 digits that say n
pub record Numeral (ds : List ℕ) (n : ℕ) : Type 0 where
  pub digits : Digits ds n
  pub some : 1 ≤ length ds
  pub most : length ds ≤ 9

pub data Header : List ℕ → ℕ → ℕ → Type 0 where
  header : {g h k v c end : List ℕ} {vars clauses : ℕ} → Gap g → Gap h → Numeral v vars → Gap k → Numeral c clauses
      → Blanks end → NoLf end → Header (112 ∷ g ++ 99 ∷ 110 ∷ 102 ∷ h ++ v ++ k ++ c ++ end) vars clauses

-- ---- behind it: tokens, with blanks and comment lines between them

pub data Token : List ℕ → ℤ → Type 0 where
  plain : {ds : List ℕ} {n : ℕ} → Numeral ds n → Token ds (pos n)
  minus : {ds : List ℕ} {n : ℕ} → Numeral ds (suc n) → Token (45 ∷ ds) (negsuc n)

-- a token is ended by a blank or the end of text
pub data TokenEnd : List ℕ → Type 0 where
  at_end : TokenEnd []
  at_blank : {b : ℕ} {bs : List ℕ} → IsBlank b → TokenEnd (b ∷ bs)

-- a line is ended by LF or the end of text
pub data LineEnd : List ℕ → Type 0 where
  at_end : LineEnd []
  at_lf : {bs : List ℕ} → LineEnd (10 ∷ bs)

-- from within a line on, or from its end. A comment's `c` stands right behind an LF; a `%` may end it, with anything behind
pub data Body : List ℕ → List ℤ → Type 0 where
  blanks : {bs : List ℕ} → Blanks bs → Body bs []
  comment : {bs cs rest : List ℕ} {es : List ℤ} → Blanks bs → NoLf cs → LineEnd rest → Body rest es → Body (bs ++ 10 ∷ 99 ∷ cs ++ rest) es
  token : {bs w rest : List ℕ} {l : ℤ} {es : List ℤ} → Blanks bs → Token w l → TokenEnd rest → Body rest es → Body (bs ++ w ++ rest) (l ∷ es)
  percent : {bs rest : List ℕ} → Blanks bs → TokenEnd rest → Body (bs ++ 37 ∷ rest) []

-- the body begins with the LF that ends the header line
pub data Text : List ℕ → ℕ → ℕ → List ℤ → Type 0 where
  text : {a h rest : List ℕ} {vars clauses : ℕ} {es : List ℤ} → Before a
      → Header h vars clauses → LineEnd rest → Body rest es → Text (a ++ h ++ rest) vars clauses es

-- the front of a text, up to the end of the header line or of a later line
pub data WithHeader : List ℕ → Type 0 where
  with_header : {a h rest : List ℕ} {vars clauses : ℕ} → Before a → Header h vars clauses → LineEnd rest → WithHeader (a ++ h ++ rest)

-- ---- entries: exactly n clauses, each ended by 0

pub data ClausesOf : ℕ → List ℤ → Type 0 where
  no_clause : ClausesOf 0 []
  clause : {n : ℕ} (cl : List ℤ) {es : List ℤ} → (In (pos 0) cl → ⊥) → ClausesOf n es → ClausesOf (suc n) (cl ++ pos 0 ∷ es)

-- ---- a text that says the entries es over V variables in C clauses, within the sizes

pub record Dimacs (text : List ℕ) (vars clauses : ℕ) (es : List ℤ) : Type 0 where
  pub says : Text text vars clauses es
  pub exactly : ClausesOf clauses es
  pub up_to : (l : ℤ) → In l es → var_of l ≤ vars
  pub text_fits : length text ≤ max_text
  pub vars_fit : vars ≤ max_vars
  pub clauses_fit : clauses ≤ max_clauses
  pub entries_fit : length es ≤ max_entries
