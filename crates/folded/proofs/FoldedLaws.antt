-- The laws of specs/Folded: put piece by piece, with a run's statuses as values, the text is that of the shorter file.
--
--   clause_says, others_says, units_says     the line of a clause, of all that hold no forced literal, and of the forced literals
--   folded_says       the whole text
--   literal-signed    a literal is its variable's number with its sign
--   header_line_lem, empty_says   the fields of the header line, and the text of one empty clause
--   unit_some      the line of a variable by whether it is forced
--   literal_at_lem        the piece of the literal at an index
--   line_gone, line_other      the line of a clause by whether it holds a forced literal
--   clause_at_lem, other_at        the clause at an index, as it is looked up by its number
--   clause_of_up_to   its literals are of the variables
--
-- Assumes nothing.
use mathlib.Core.Path.{◌≡◌, refl, sym, ◌∙◌, ap, ap₂}
use mathlib.Core.Logic.{◌≢◌}
use mathlib.Core.Bool.{Bool, true, false, not, ◌&&◌, ◌||◌}
use mathlib.Core.List.Memᴰ
use mathlib.Core.List.{List, [], ◌∷◌, ◌++◌, map, append_assoc}
use Prim.Native.Nat.{ℕ, zero, suc, ◌+◌, ◌≤◌, ◌<◌}
use native.Mathlib.Omega.{arith}
use native.Mathlib.Numerals.{add-one}
use lib.Dec.{eqb}
use lib.IntN.{ℤ, pos, negsuc}
use lib.ListN.{length, get_or, take, length-append, length-map}
use lib.Seq.{take-append_seam}
use borrow.Author.Tests.{le-leb}
use Rattle.rules.specs.Lists.{In, any, keep, keep_if, count, joined, eqz, pieces}
use Rattle.rules.specs.Meaning.{Clause, Values, var_of, negated, index_of, true_byte, value_at, is_true, is_unset, has_true, clauses, LitUpTo}
use Rattle.texts.specs.Plain.{decimal, plain_entry, plain_clause, plain_header, plain}
use Rattle.texts.specs.ModelLine.{signed}
use Rattle.rules.specs.Run.{status_at, forced_by, forced_value, forced_values}
use Rattle.rules.specs.Units.{forced_clauses}
use Rattle.rules.specs.Answer.{is_forced}
use Rattle.texts.specs.Shorter.{says_forced, holds_forced, goes, stays_behind, shortened, others_of, folded}
use Rattle.rules.proofs.ListLaws.{never, any_cong, none_of_any, count_cong, length_keep}
use Rattle.rules.proofs.StatusLaws.{length-forced_values}
use Rattle.rules.proofs.RunTheorems.{index_of_lt}
use Rattle.formula.specs.Literals.{is_positive}
use Rattle.formula.specs.Clauses.{ClauseUpTo}
use Rattle.formula.specs.Starts.{clause_at}
use Rattle.formula.proofs.ClauseLaws.{clause_at_formula, nil_up_to, clause_at_up_to}
use Rattle.folded.specs.Folded.{stays, literal_if, literal_piece, clause_text, line_unless, other_line, is_other, unit_line, header_text, folded_text}
use Rattle.folded.specs.Folded.{ClauseOf}

-- ---- statuses as values

forced_value_at : (ss : List ℕ) (i : ℕ) → i < length ss → value_at (forced_values ss) i ≡ forced_value (status_at ss i)
forced_value_at [] i h = absurd (omega arith)
forced_value_at (s ∷ ss) zero h = refl
forced_value_at (s ∷ ss) (suc i) h = forced_value_at ss i (omega arith)

index_negated : (l : ℤ) → 1 ≤ var_of l → index_of (negated l) ≡ index_of l
index_negated (pos zero) h = refl
index_negated (pos (suc n)) h = refl
index_negated (negsuc n) h = refl

true_by : (s : ℕ) (l : ℤ) → s ≤ 3 → eqb (forced_value s) (true_byte l) ≡ eqb s (forced_by (true_byte l))
true_by zero (pos n) h = refl
true_by zero (negsuc n) h = refl
true_by (suc zero) (pos n) h = refl
true_by (suc zero) (negsuc n) h = refl
true_by (suc (suc zero)) (pos n) h = refl
true_by (suc (suc zero)) (negsuc n) h = refl
true_by (suc (suc (suc zero))) (pos n) h = refl
true_by (suc (suc (suc zero))) (negsuc n) h = refl
true_by (suc (suc (suc (suc s)))) l h = absurd (omega arith)

unset_by : (s : ℕ) (l : ℤ) → s ≤ 3 → 1 ≤ var_of l → eqb s (forced_by (true_byte l)) ≡ false
    → eqb (forced_value s) 0 ≡ not (eqb s (forced_by (true_byte (negated l))))
unset_by s (pos zero) h v f = absurd (omega arith)
unset_by zero (pos (suc n)) h v f = refl
unset_by zero (negsuc n) h v f = refl
unset_by (suc zero) (pos (suc n)) h v f = refl
unset_by (suc zero) (negsuc n) h v f = refl
unset_by (suc (suc zero)) (pos (suc n)) h v f = absurd (never refl f)
unset_by (suc (suc zero)) (negsuc n) h v f = refl
unset_by (suc (suc (suc zero))) (pos (suc n)) h v f = refl
unset_by (suc (suc (suc zero))) (negsuc n) h v f = absurd (never refl f)
unset_by (suc (suc (suc (suc s)))) (pos (suc n)) h v f = absurd (omega arith)
unset_by (suc (suc (suc (suc s)))) (negsuc n) h v f = absurd (omega arith)

not_or : (a b : Bool) → (not a && not b) ≡ not (a || b)
not_or true b = refl
not_or false b = refl

-- ---- the line of a clause, whose literals stay as the values say

module _ (vs : Values) (ss : List ℕ) where
  -- one literal in front of what stays
  clause_one : (b : Bool) (l : ℤ) (rest : List ℕ) (cl : Clause) → rest ≡ plain_clause cl → literal_if b l ++ rest ≡ plain_clause (keep_if b l cl)
  clause_one true l rest cl e = append_assoc (plain_entry l) (32 ∷ []) rest ∙ ap (λ (xs : List ℕ). plain_entry l ++ 32 ∷ xs) e
  clause_one false l rest cl e = e

  clause_pieces : (whole front cl : Clause) (n : ℕ) → whole ≡ front ++ cl → n ≡ length front
      → ((l : ℤ) → In l cl → (before : Clause) → stays vs before l ≡ not (goes ss before l))
      → pieces (literal_piece vs whole) (suc n) cl ++ 48 ∷ 10 ∷ [] ≡ plain_clause (stays_behind ss front cl)
  clause_pieces whole front [] n e h agree = refl
  clause_pieces whole front (l ∷ cl) n e h agree =
      append_assoc (literal_piece vs whole (suc n) l) (pieces (literal_piece vs whole) (suc (suc n)) cl) (48 ∷ 10 ∷ []) ∙
      ap (λ (b : Bool). literal_if b l ++ behind) here ∙
      clause_one (not (goes ss front l)) l behind (stays_behind ss (front ++ l ∷ []) cl)
      (clause_pieces whole (front ++ l ∷ []) cl (suc n) (e ∙ sym (append_assoc front (l ∷ []) cl)) (omega (arith, length-append front (l ∷ [])))
      (λ k i. agree k (Memᴰ.tail i)))
    where
      behind : List ℕ
      behind = pieces (literal_piece vs whole) (suc (suc n)) cl ++ 48 ∷ 10 ∷ []

      here : stays vs (take n whole) l ≡ not (goes ss front l)
      here =
          ap (λ (before : Clause). stays vs before l)
          (ap (take n) e ∙ ap (λ (k : ℕ). take k (front ++ l ∷ cl)) h ∙ take-append_seam front (l ∷ cl)) ∙
          agree l (Memᴰ.head refl) front

-- ---- the lines of the forced literals

pub units_says : (j : ℕ) (ss : List ℕ) → pieces unit_line (suc j) (forced_values ss) ≡ joined (map plain_clause (forced_clauses j ss))
units_says j [] = refl
units_says j (zero ∷ ss) = units_says (suc j) ss
units_says j (suc zero ∷ ss) = units_says (suc j) ss
units_says j (suc (suc zero) ∷ ss) = ap (λ (xs : List ℕ). plain_clause (pos (suc j) ∷ []) ++ xs) (units_says (suc j) ss)
units_says j (suc (suc (suc s)) ∷ ss) = ap (λ (xs : List ℕ). plain_clause (negsuc j ∷ []) ++ xs) (units_says (suc j) ss)

units_count : (j : ℕ) (ss : List ℕ) → length (forced_clauses j ss) ≡ count is_forced ss
units_count j [] = refl
units_count j (zero ∷ ss) = units_count (suc j) ss
units_count j (suc zero ∷ ss) = units_count (suc j) ss
units_count j (suc (suc zero) ∷ ss) = ap suc (units_count (suc j) ss)
units_count j (suc (suc (suc s)) ∷ ss) = rw (le-leb 2 (suc (suc (suc s))) (omega arith)) (ap suc (units_count (suc j) ss))

-- ---- of a run's statuses

joined_append : (F G : List Clause) → joined (map plain_clause (F ++ G)) ≡ joined (map plain_clause F) ++ joined (map plain_clause G)
joined_append [] G = refl
joined_append (cl ∷ F) G =
    ap (λ (xs : List ℕ). plain_clause cl ++ xs) (joined_append F G) ∙
    sym (append_assoc (plain_clause cl) (joined (map plain_clause F)) (joined (map plain_clause G)))

module _ (ss : List ℕ) (small : (i : ℕ) → status_at ss i ≤ 3) where
  abbrev vs : Values
  vs = forced_values ss

  true_says : (l : ℤ) → LitUpTo (length ss) l → is_true vs l ≡ says_forced ss l
  true_says l h =
      ap (λ (b : ℕ). eqb b (true_byte l)) (forced_value_at ss (index_of l) (index_of_lt l h)) ∙
      true_by (status_at ss (index_of l)) l (small (index_of l))

  unset_says : (l : ℤ) → LitUpTo (length ss) l → is_true vs l ≡ false → is_unset vs l ≡ not (says_forced ss (negated l))
  unset_says l h f =
      ap (λ (b : ℕ). eqb b 0) (forced_value_at ss (index_of l) (index_of_lt l h)) ∙
      unset_by (status_at ss (index_of l)) l (small (index_of l)) h.some (sym (true_says l h) ∙ f) ∙
      ap (λ (i : ℕ). not (eqb (status_at ss i) (forced_by (true_byte (negated l))))) (sym (index_negated l h.some))

  stays_says : (l : ℤ) → LitUpTo (length ss) l → is_true vs l ≡ false → (before : Clause) → stays vs before l ≡ not (goes ss before l)
  stays_says l h f before =
      ap (λ (b : Bool). b && not (any (eqz l) before)) (unset_says l h f) ∙ not_or (says_forced ss (negated l)) (any (eqz l) before)

  holds_says : (cl : Clause) → ClauseUpTo (length ss) cl → has_true vs cl ≡ holds_forced ss cl
  holds_says cl u = any_cong (is_true vs) (says_forced ss) cl (λ l i. true_says l (u.each l i))

  pub clause_says : (cl : Clause) → ClauseUpTo (length ss) cl → has_true vs cl ≡ false → clause_text vs cl ≡ plain_clause (shortened ss cl)
  clause_says cl u f =
      clause_pieces vs ss cl [] cl 0 refl refl (λ l i before. stays_says l (u.each l i) (none_of_any (is_true vs) f i) before)

  pub others_says : (n : ℕ) (F : List Clause) → ((cl : Clause) → In cl F → ClauseUpTo (length ss) cl)
      → pieces (other_line vs) n F ≡ joined (map plain_clause (others_of ss F))
  others_says n [] up = refl
  others_says n (cl ∷ F) up =
      go (has_true vs cl) refl (others_says (suc n) F (λ d i. up d (Memᴰ.tail i))) ∙
      ap (λ (b : Bool). joined (map plain_clause (map (shortened ss) (keep_if (not b) cl (keep (λ d. not (holds_forced ss d)) F)))))
      (holds_says cl (up cl (Memᴰ.head refl)))
    where
      go : (b : Bool) → has_true vs cl ≡ b → pieces (other_line vs) (suc n) F ≡ joined (map plain_clause (others_of ss F))
          → line_unless b (clause_text vs cl) ++ pieces (other_line vs) (suc n) F
          ≡ joined (map plain_clause (map (shortened ss) (keep_if (not b) cl (keep (λ d. not (holds_forced ss d)) F))))
      go true e ih = ih
      go false e ih = ap₂ (λ (xs ys : List ℕ). xs ++ ys) (clause_says cl (up cl (Memᴰ.head refl)) e) ih

  clauses_count : (F : List Clause) → ((cl : Clause) → In cl F → ClauseUpTo (length ss) cl)
      → count is_forced ss + count (is_other vs) F ≡ length (folded ss F)
  clauses_count F up =
      let others = keep (λ cl. not (holds_forced ss cl)) F in
      omega (
        arith,
        length-append (forced_clauses 0 ss) (others_of ss F),
        units_count 0 ss,
        length-map others (shortened ss),
        length_keep (λ cl. not (holds_forced ss cl)) F,
        count_cong (is_other vs) (λ cl. not (holds_forced ss cl)) F (λ cl i. ap not (holds_says cl (up cl i))),
      )

  pub folded_says : (F : List Clause) → ((cl : Clause) → In cl F → ClauseUpTo (length ss) cl)
      → folded_text vs F (count is_forced ss) ≡ plain (length ss) (folded ss F)
  unfolding plain
  folded_says F up =
      let n = count is_forced ss + count (is_other vs) F in
      append_assoc (plain_header (length vs) n) (10 ∷ []) (pieces unit_line 1 vs ++ pieces (other_line vs) 1 F) ∙
      ap (λ (xs : List ℕ). plain_header (length vs) n ++ 10 ∷ xs)
      (ap₂ (λ (xs ys : List ℕ). xs ++ ys) (units_says 0 ss) (others_says 1 F up) ∙ sym (joined_append (forced_clauses 0 ss) (others_of ss F))) ∙
      ap₂ (λ (v k : ℕ). plain_header v k ++ 10 ∷ joined (map plain_clause (folded ss F))) (length-forced_values ss) (clauses_count F up)

-- ---- what is put

pub literal-signed : (l : ℤ) → signed (not (is_positive l)) (var_of l) ++ (32 ∷ []) ≡ plain_entry l ++ 32 ∷ []
literal-signed (pos n) = refl
literal-signed (negsuc n) = refl

-- "p cnf ", and a space
pub header_line_lem : (vars n : ℕ)
    → ((112 ∷ 32 ∷ 99 ∷ 110 ∷ 102 ∷ 32 ∷ []) ++ decimal vars) ++ (((32 ∷ []) ++ decimal n) ++ (10 ∷ [])) ≡ header_text vars n
header_line_lem vars n =
    sym (append_assoc ((112 ∷ 32 ∷ 99 ∷ 110 ∷ 102 ∷ 32 ∷ []) ++ decimal vars) ((32 ∷ []) ++ decimal n) (10 ∷ []))

-- one clause, empty
pub empty_says : (vars : ℕ) → header_text vars 1 ++ (48 ∷ 10 ∷ []) ≡ plain vars ([] ∷ [])
unfolding plain
empty_says vars = append_assoc (plain_header vars 1) (10 ∷ []) (48 ∷ 10 ∷ [])

pub unit_some : (n b : ℕ) → b ≢ 0 → signed (eqb b 1) n ++ (32 ∷ 48 ∷ 10 ∷ []) ≡ unit_line n b
unit_some n zero h = absurd (h refl)
unit_some n (suc b) h = refl

pub literal_at_lem : (vs : Values) (cl : Clause) (i : ℕ) (l : ℤ) → literal_piece vs cl (i + 1) l ≡ literal_if (stays vs (take i cl) l) l
literal_at_lem vs cl i l = rw (add-one i)

pub line_gone : (vs : Values) (n : ℕ) (cl : Clause) → has_true vs cl ≡ true → [] ≡ other_line vs n cl
line_gone vs n cl e = rw e

pub line_other : (vs : Values) (n : ℕ) (cl : Clause) → has_true vs cl ≡ false → other_line vs n cl ≡ clause_text vs cl
line_other vs n cl e = rw e

module _ (es : List ℤ) (i : ℕ) (h : i < length (clauses es)) where
  pub clause_at_lem : clause_at es [] (i + 1) ≡ get_or (clauses es) i []
  clause_at_lem = rw (add-one i) (sym (clause_at_formula es [] (suc i) (omega arith) (omega arith)))

  pub other_at : (vs : Values) → other_line vs (i + 1) (clause_at es [] (i + 1)) ≡ other_line vs (i + 1) (get_or (clauses es) i [])
  other_at vs = ap (other_line vs (i + 1)) clause_at_lem

pub clause_of_up_to : {vs : Values} {es : List ℤ} {starts : List ℕ} (n : ℕ) → ClauseOf vs es starts n → ClauseUpTo (length vs) (clause_at es [] n)
clause_of_up_to zero w = absurd (omega (arith, w.some))
clause_of_up_to {vs} {es} (suc k) w = clause_at_up_to (length vs) es [] k w.formula.up_to (nil_up_to (length vs)) (omega (arith, w.most))
