-- What we promise of a file of claims (docs/RULES.md, "Claims"): for every formula and every text.
--
--   claims_accepted               accepted exactly if the formula is taken and the text says a model and claims that hold
--   claims_forced                 then every claimed literal is forced
--   numbers_unique, claims_unique     a text says one list of numbers, one model and one list of claims
--   claims_plain                  a file written plainly, within 32,768 bytes, is accepted
--   claims_refuses                refused or rejected exactly if the rule of that answer says so
--   claims_place_lem                  every place is at most 32,768
--   checks_exists, checks_unique  there is a result that meets the contract, and no second one
--
-- Assumes nothing.
use mathlib.Core.Path.{◌≡◌, refl, sym, ◌∙◌, ap, ap₂, subst}
use mathlib.Core.Logic.{◌≢◌, ◌⊎◌, inl, inr, ◌↔◌}
use mathlib.Core.Bool.{Bool, true, false, not}
use mathlib.Core.List.Memᴰ
use mathlib.Core.List.{List, [], ◌∷◌, ◌++◌, map, append_assoc}
use mathlib.Core.Option.{Option, none, some}
use Prim.Native.Nat.{ℕ, zero, suc, ◌+◌, ◌^◌, ◌≤◌, ◌<◌}
use native.Mathlib.Omega.{arith}
use lib.Dec.{ltb}
use lib.IntN.{ℤ, pos}
use lib.ListN.{length, length-append, length-set, length-replicate, replicate}
use borrow.Author.Tests.{ltb-false}
use Rattle.rules.specs.declared.ClaimsAnswer.{ClaimsAnswer}
use Rattle.rules.specs.Lists.{In, joined, check, first_of}
use Rattle.rules.specs.Numbers.{max_text, max_vars, max_clauses, claims_place}
use Rattle.rules.specs.Meaning.{Clause, Values, Total, Model, var_of, negated, index_of, clauses, true_byte, satisfies}
use Rattle.rules.specs.Models.{Forced}
use Rattle.rules.specs.Witness.{literals_from}
use Rattle.texts.specs.Refusals.{Say, nothing, one_more_lem}
use Rattle.texts.specs.Text.{Piece, entry_of}
use Rattle.texts.specs.Tokens.{Tokens, all_tokens}
use Rattle.texts.specs.Claims.{Tree, end, split, Holds, by_end, by_split, Claim, Claimed, against, tree_numbers, claim_numbers, file_numbers}
use Rattle.texts.specs.Claims.{ClaimsText, ClaimsFile, plain_claims}
use Rattle.texts.specs.ClaimsReading.{Part, model_due, literals_due, claims_due, next_claim, next, is_at_fault, model_rules, unless, judge_end, judge_token}
use Rattle.texts.specs.ClaimsReading.{judge_parts, ClaimsGiven, judge_claims, claims_answer, Checks}
use Rattle.texts.specs.ClaimsRefusals.{FormulaTaken, ClaimsRefuses, at_token}
use Rattle.rules.proofs.ListLaws.{apart}
use Rattle.rules.proofs.ClauseLaws.{length-clauses}
use Rattle.texts.proofs.PlaceLaws.{token_in}
use Rattle.rules.proofs.MeaningLaws.{unset_within}
use Rattle.texts.proofs.TokenLaws.{entry_complete}
use Rattle.texts.proofs.TokensLaws.{tokens_complete, tokens_plain, length-plain_numbers}
use Rattle.texts.proofs.ClaimsLaws.{true_of_claimed}
use Rattle.texts.proofs.ClaimsJudged.{ClaimsVerdict, refuses, accepts, WholeFile, answer_of_verdict, verdict_of_answer}
use Rattle.texts.proofs.ClaimsAccepted.{total_head, total_tail, literal_of, text_of_whole, whole_of_text}

-- no rule answers "accepted"
never_accepted : {g : ClaimsGiven} {n : ℕ} → ClaimsRefuses g (ClaimsAnswer.Accepted n) → ⊥
never_accepted (at_token before t after b e p s) = elim s [ ]

module _ (g : ClaimsGiven) where
  abbrev F : List Clause
  F = clauses g.entries

  whole : {n : ℕ} → ClaimsVerdict g (ClaimsAnswer.Accepted n) → WholeFile g n
  whole (refuses r) = absurd (never_accepted r)
  whole (accepts w) = w

  -- ---- accepted

  -- A file is accepted exactly if the formula is taken and the text says a model and claims that hold.
  pub claims_accepted : (n : ℕ) → (claims_answer g ≡ ClaimsAnswer.Accepted n) ↔ (FormulaTaken g × ClaimsFile g.vars F g.text n)
  claims_accepted n = (
    λ e. let w = whole (verdict_of_answer g e) in (w.begun.taken, text_of_whole w),
    λ h. answer_of_verdict g (accepts (whole_of_text h.0 h.1)),
  )

  -- ---- refused or rejected

  -- An answer that is not "accepted" is given exactly if its rule says so.
  pub claims_refuses : (a : ClaimsAnswer) → ((n : ℕ) → a ≢ ClaimsAnswer.Accepted n) → (claims_answer g ≡ a) ↔ ClaimsRefuses g a
  claims_refuses a f = (λ e. go (verdict_of_answer g e) f, λ r. answer_of_verdict g (refuses r))
    where
      go : {b : ClaimsAnswer} → ClaimsVerdict g b → ((n : ℕ) → b ≢ ClaimsAnswer.Accepted n) → ClaimsRefuses g b
      go (refuses r) f = r
      go (accepts {n} w) f = absurd (f n refl)

  -- ---- the contract

  pub checks_exists : Checks g (claims_answer g)
  checks_exists = record { result_is = refl }

-- No second result meets the contract.
pub checks_unique : {g : ClaimsGiven} {r r' : ClaimsAnswer} → Checks g r → Checks g r' → r ≡ r'
checks_unique p q = p.result_is ∙ sym q.result_is

-- ---- forced

-- A literal that is claimed, beside a model, is forced.
pub claims_forced : {vars : ℕ} {F : List Clause} {text : List ℕ} {m : Values} {cs : List Claim} → ClaimsText vars F text m cs
    → (c : Claim) → In c cs → Forced vars F c.literal
claims_forced {m = m} t c i = record { some_model = m; is-model = t.is-model; in_all = true_of_claimed (t.claimed c i) }

-- ---- a text says one thing

say_unique : {ts : List Piece} {ls ks : List ℤ} → Say ts ls → Say ts ks → ls ≡ ks
say_unique nothing nothing = refl
say_unique (one_more_lem v y) (one_more_lem w z) = ap₂ (λ (l : ℤ) (ls : List ℤ). l ∷ ls) (some_inj (sym (entry_complete v) ∙ entry_complete w)) (say_unique y z)
  where
    some_inj : {a b : ℤ} → some a ≡ some b → a ≡ b
    some_inj e = cc

-- A text says one list of numbers.
pub numbers_unique : {text : List ℕ} {ls ks : List ℤ} → Tokens text ls → Tokens text ks → ls ≡ ks
numbers_unique y z = say_unique (tokens_complete y) (tokens_complete z)

cons_tail : {x y : ℤ} {xs ys : List ℤ} → x ∷ xs ≡ y ∷ ys → xs ≡ ys
cons_tail e = cc

cons_head : {x y : ℤ} {xs ys : List ℤ} → x ∷ xs ≡ y ∷ ys → x ≡ y
cons_head e = cc

-- no tree's numbers are the front of another's
tree_unique : (t u : Tree) (xs ys : List ℤ) → tree_numbers t ++ xs ≡ tree_numbers u ++ ys → (t ≡ u) × (xs ≡ ys)
tree_unique (end n) (end k) xs ys e = let h : n ≡ k = ap var_of (cons_head e) in (ap end h, cons_tail e)
tree_unique (end n) (split i off on) xs ys e = apart cc
tree_unique (split i off on) (end k) xs ys e = apart cc
tree_unique (split i off on) (split k low high) xs ys e =
    let q = sym (append_assoc (tree_numbers off) (tree_numbers on) xs) ∙ cons_tail e ∙ append_assoc (tree_numbers low) (tree_numbers high) ys in
    let (a, r) = tree_unique off low (tree_numbers on ++ xs) (tree_numbers high ++ ys) q in
    let (b, s) = tree_unique on high xs ys r in
    let n : suc i ≡ suc k = ap var_of (cons_head e) in
    let h : i ≡ k = omega arith in
    (cc, s)

claims_same : (cs ds : List Claim) → joined (map claim_numbers cs) ≡ joined (map claim_numbers ds) → cs ≡ ds
claims_same [] [] e = refl
claims_same [] (d ∷ ds) e = apart cc
claims_same (c ∷ cs) [] e = apart cc
claims_same (c ∷ cs) (d ∷ ds) e =
    let (t, r) = tree_unique c.tree d.tree (joined (map claim_numbers cs)) (joined (map claim_numbers ds)) (cons_tail e) in
    let same : c ≡ d = ap₂ (λ (l : ℤ) (u : Tree). record { literal = l; tree = u }) (cons_head e) t in
    ap₂ (λ (b : Claim) (bs : List Claim). b ∷ bs) same (claims_same cs ds r)

literals_same : (i : ℕ) (m d : Values) (xs ys : List ℤ) → Total m → Total d → length m ≡ length d
    → literals_from i m ++ xs ≡ literals_from i d ++ ys → (m ≡ d) × (xs ≡ ys)
literals_same i [] [] xs ys a b h e = (refl, e)
literals_same i [] (y ∷ d) xs ys a b h e = absurd (omega arith)
literals_same i (x ∷ m) [] xs ys a b h e = absurd (omega arith)
literals_same i (x ∷ m) (y ∷ d) xs ys a b h e =
    let (m-is, r) = literals_same (suc i) m d xs ys (total_tail a) (total_tail b) (omega arith) (cons_tail e) in
    let same : x ≡ y = sym (literal_of i x (total_head a)).1 ∙ ap true_byte (cons_head e) ∙ (literal_of i y (total_head b)).1 in
    (cc, r)

-- A text says one model and one list of claims.
pub claims_unique : {text : List ℕ} (m d : Values) (cs bs : List Claim) → Total m → Total d → Tokens text (file_numbers m cs)
    → Tokens text (file_numbers d bs) → (m ≡ d) × (cs ≡ bs)
claims_unique m d cs bs a b y z =
    let e = numbers_unique y z in
    let (same, r) =
    literals_same 0 m d (pos (length cs) ∷ joined (map claim_numbers cs)) (pos (length bs) ∷ joined (map claim_numbers bs)) a b (ap var_of (cons_head e))
    (cons_tail e) in
    (same, claims_same cs bs (cons_tail r))

-- ---- a file written plainly

tree_small : {G : List Clause} {vs : Values} {t : Tree} → Holds G vs t → length vs ≤ max_vars → length G ≤ max_clauses → (l : ℤ) → In l (tree_numbers t)
    → var_of l ≤ max_clauses
tree_small (by_end w) v f l (Memᴰ.head e) = rw e (omega (arith, w.most))
tree_small (by_end w) v f l (Memᴰ.tail i) = absurd (Memᴰ.not-nil i)
tree_small (by_split {vs = vs} {i = k} z a b) v f l (Memᴰ.head e) = rw e (omega (arith, unset_within vs k z))
tree_small {G} (by_split {vs = vs} {i = k} {off = off} {on = on} z a b) v f l (Memᴰ.tail i) =
    go (Memᴰ.append_cases (tree_numbers off) i)
    (tree_small a (omega (arith, length-set vs k 1)) f l) (tree_small b (omega (arith, length-set vs k 2)) f l)
  where
    go : In l (tree_numbers off) ⊎ In l (tree_numbers on) → (In l (tree_numbers off) → var_of l ≤ max_clauses)
        → (In l (tree_numbers on) → var_of l ≤ max_clauses) → var_of l ≤ max_clauses
    go (inl j) x y = x j
    go (inr j) x y = y j

literals_small : (i : ℕ) (m : Values) → Total m → (l : ℤ) → In l (literals_from i m) → var_of l ≤ i + length m
literals_small i [] a l j = absurd (Memᴰ.not-nil j)
literals_small i (b ∷ m) a l (Memᴰ.head e) = rw e (omega (arith, (literal_of i b (total_head a)).0))
literals_small i (b ∷ m) a l (Memᴰ.tail j) = omega (arith, literals_small (suc i) m (total_tail a) l j)

length-against : (vars : ℕ) (l : ℤ) → length (against vars l) ≡ vars
length-against vars l =
    length-set (replicate vars 0) (index_of (negated l)) (true_byte (negated l)) ∙ length-replicate {A = ℕ} vars 0

-- as many numbers as claims, at least
claims_length : (cs : List Claim) → length cs ≤ length (joined (map claim_numbers cs))
claims_length [] = omega arith
claims_length (c ∷ cs) = omega (arith, length-append (claim_numbers c) (joined (map claim_numbers cs)), claims_length cs)

file_length : (m : Values) (cs : List Claim) → length cs ≤ length (file_numbers m cs)
file_length m cs = omega (arith, length-append (literals_from 0 m) (pos (length cs) ∷ joined (map claim_numbers cs)), claims_length cs)

module _ {vars : ℕ} {G : List Clause} (v : vars ≤ max_vars) (f : length G ≤ max_clauses) where
  claims_small : (cs : List Claim) → ((c : Claim) → In c cs → Claimed vars G c) → (l : ℤ) → In l (joined (map claim_numbers cs)) → var_of l ≤ max_clauses
  claims_small [] h l j = absurd (Memᴰ.not-nil j)
  claims_small (c ∷ cs) h l j = go (Memᴰ.append_cases (claim_numbers c) j) (claims_small cs (λ b i. h b (Memᴰ.tail i)) l)
    where
      own : In l (claim_numbers c) → var_of l ≤ max_clauses
      own (Memᴰ.head e) = rw e (omega (arith, (h c (Memᴰ.head refl)).up_to.most))
      own (Memᴰ.tail i) = tree_small (h c (Memᴰ.head refl)).holds (omega (arith, length-against vars c.literal)) f l i

      go : In l (claim_numbers c) ⊎ In l (joined (map claim_numbers cs)) → (In l (joined (map claim_numbers cs)) → var_of l ≤ max_clauses)
          → var_of l ≤ max_clauses
      go (inl i) ih = own i
      go (inr i) ih = ih i

  file_small : (m : Values) (cs : List Claim) → Model vars G m → ((c : Claim) → In c cs → Claimed vars G c)
      → length (plain_claims m cs) ≤ max_text → (l : ℤ) → In l (file_numbers m cs) → var_of l < 10 ^ 9
  file_small m cs k h t l j = first j
    where
      few : length cs ≤ max_text
      few = omega (arith, file_length m cs, length-plain_numbers (file_numbers m cs))

      behind : In l (pos (length cs) ∷ joined (map claim_numbers cs)) → var_of l < 10 ^ 9
      behind (Memᴰ.head e) = rw e (omega (arith, few))
      behind (Memᴰ.tail i) = omega (arith, claims_small cs h l i)

      later : In l (literals_from 0 m) ⊎ In l (pos (length cs) ∷ joined (map claim_numbers cs)) → var_of l < 10 ^ 9
      later (inl i) = omega (arith, literals_small 0 m k.total l i, k.len)
      later (inr i) = behind i

      first : In l (file_numbers m cs) → var_of l < 10 ^ 9
      first (Memᴰ.head e) = rw e (omega (arith, k.len))
      first (Memᴰ.tail i) = later (Memᴰ.append_cases (literals_from 0 m) i)

-- A file written plainly from a model and claims that hold, within 32,768 bytes, is accepted.
pub claims_plain : (g : ClaimsGiven) (m : Values) (cs : List Claim) → FormulaTaken g → Model g.vars (clauses g.entries) m
    → ((c : Claim) → In c cs → Claimed g.vars (clauses g.entries) c) → g.text ≡ plain_claims m cs → length (plain_claims m cs) ≤ max_text
    → claims_answer g ≡ ClaimsAnswer.Accepted (length cs)
claims_plain g m cs t k h e fits =
    let few : length (clauses g.entries) ≤ max_clauses = omega (arith, length-clauses g.entries, t.list.listed.clauses_fit) in
    (claims_accepted g (length cs)).1 (
      t,
      record {
        model = m;
        claims = cs;
        number = refl;
        text_is =
            record {
              says =
                  subst (λ (text : List ℕ). Tokens text (file_numbers m cs)) (sym e)
                  (tokens_plain (file_numbers m cs) (file_small t.vars_fit few m cs k h fits));
              is-model = k;
              claimed = h;
              text_fits = omega (arith, ap length e);
            };
      },
    )

-- ---- places

-- the place that a part remembers
data Within (n : ℕ) : Part → Type 0 where
  at_model : Within n model_due
  at_literals : {from k : ℕ} {vs : Values} → from ≤ n → Within n (literals_due from k vs)
  at_claims : {m k : ℕ} {due : List Values} → Within n (claims_due m k due)

within_claim : (n vars m k : ℕ) (l : ℤ) → Within n (next_claim vars m k l)
within_claim n vars m zero l = at_claims
within_claim n vars m (suc k) l = at_claims

within_next : {n : ℕ} (vars : ℕ) (p : Part) (at : ℕ) (l : ℤ) → Within n p → at ≤ n → Within n (next vars p at l)
within_next vars model_due at l w h = at_literals h
within_next vars (literals_due from zero vs) at l w h = at_claims
within_next vars (literals_due from (suc k) vs) at l (at_literals g) h = at_literals g
within_next {n} vars (claims_due m k []) at l w h = within_claim n vars m k l
within_next vars (claims_due m k (vs ∷ due)) at l w h = at_claims

module _ (vars : ℕ) (G : List Clause) (end n : ℕ) (e : end ≤ n) where
  ends_within : (p : Part) → claims_place (judge_end end p) ≤ n
  ends_within model_due = e
  ends_within (literals_due from k vs) = e
  ends_within (claims_due m zero []) = omega arith
  ends_within (claims_due m (suc k) []) = e
  ends_within (claims_due m k (vs ∷ due)) = e

  rules_within : (q : Part) → Within n q → (a : ClaimsAnswer) → claims_place a ≤ n → claims_place (unless (first_of (model_rules G q)) a) ≤ n
  rules_within model_due w a h = h
  rules_within (literals_due from zero vs) (at_literals g) a h = go (satisfies vs G)
    where
      go : (b : Bool) → claims_place (unless (first_of (check (not b) (ClaimsAnswer.Rejected from) ∷ [])) a) ≤ n
      go true = h
      go false = g
  rules_within (literals_due from (suc k) vs) w a h = h
  rules_within (claims_due m k due) w a h = h

  judged_within : (ts : List Piece) (p : Part) → Within n p → ((t : Piece) → In t ts → t.at ≤ n) → claims_place (judge_parts vars G end p ts) ≤ n
  unfolding judge_parts
  judged_within [] p w f = ends_within p
  judged_within (t ∷ ts) p w f = token (entry_of t.bytes) (λ q v. judged_within ts q v (λ u i. f u (Memᴰ.tail i)))
    where
      here : t.at ≤ n
      here = f t (Memᴰ.head refl)

      number : (b : Bool) (l : ℤ) → claims_place (judge_parts vars G end (next vars p t.at l) ts) ≤ n
          → claims_place (unless (first_of (check b (ClaimsAnswer.Rejected t.at) ∷ model_rules G (next vars p t.at l)))
          (judge_parts vars G end (next vars p t.at l) ts)) ≤ n
      number true l h = here
      number false l h = rules_within (next vars p t.at l) (within_next vars p t.at l w here) (judge_parts vars G end (next vars p t.at l) ts) h

      token : (o : Option ℤ) → ((q : Part) → Within n q → claims_place (judge_parts vars G end q ts) ≤ n)
          → claims_place (judge_token o vars G p t.at (λ q. judge_parts vars G end q ts)) ≤ n
      token none ih = here
      token (some l) ih = number (is_at_fault vars G p l) l (ih (next vars p t.at l) (within_next vars p t.at l w here))

-- Every place of a rejection or a malformed token, and that of a text that is too long, is at most 32,768.
pub claims_place_lem : (g : ClaimsGiven) → claims_place (judge_claims g) ≤ max_text
unfolding judge_claims
claims_place_lem g = go (ltb max_text (length g.text)) refl
  where
    go : (b : Bool) → ltb max_text (length g.text) ≡ b
        → claims_place (unless (first_of (check b ClaimsAnswer.LongText ∷ []))
        (judge_parts g.vars (clauses g.entries) (length g.text) model_due (all_tokens g.text))) ≤ max_text
    go true e = omega arith
    go false e =
        judged_within g.vars (clauses g.entries) (length g.text) max_text (ltb-false _ _ e) (all_tokens g.text) model_due at_model
        (λ t i. omega (arith, ltb-false max_text (length g.text) e, token_in (record { at = 0; bytes = g.text }) i))
