-- The judgement of a file of claims and its meaning agree (specs/ClaimsReading against specs/Claims): whole files are those that say a model
-- and claims that hold.
--
--   AllHold                       trees that hold, each under its values
--   total_nil, total_cons         values of which each is false or true
--   total_head, total_tail        and of their parts
--   literal_made, literal_of      a literal of a variable, and its value
--   text_of_whole, whole_of_text  the theorem
--
-- Assumes nothing.
use mathlib.Core.Path.{◌≡◌, refl, sym, ◌∙◌, ap, subst}
use mathlib.Core.Logic.{◌⊎◌, inl, inr}
use mathlib.Core.Bool.{Bool, true, false}
use mathlib.Core.List.Memᴰ
use mathlib.Core.List.{List, [], ◌∷◌, ◌++◌, map, append-nil, append_assoc}
use Prim.Native.Nat.{ℕ, zero, suc}
use native.Mathlib.Omega.{arith}
use lib.IntN.{ℤ, pos, negsuc}
use lib.ListN.{length, length-append, set}
use Rattle.rules.specs.Lists.{In, joined}
use Rattle.rules.specs.Meaning.{Clause, Values, LitUpTo, Total, Model, var_of, clauses, value_at, true_byte, satisfies}
use Rattle.texts.specs.Text.{Piece}
use Rattle.texts.specs.Grammar.{Token}
use Rattle.texts.specs.Refusals.{Say, nothing, one_more_lem}
use Rattle.rules.specs.Run.{literal_at}
use Rattle.rules.specs.Witness.{literals_from}
use Rattle.texts.specs.Tokens.{all_tokens}
use Rattle.texts.specs.Claims.{Tree, end, split, NamesFalse, Holds, by_end, by_split, Claim, Claimed, against}
use Rattle.texts.specs.Claims.{tree_numbers, claim_numbers, file_numbers, ClaimsFile}
use Rattle.texts.specs.ClaimsReading.{Part, model_due, literals_due, claims_due, ClaimsGiven}
use Rattle.texts.specs.ClaimsRefusals.{model_count, model_literal_lem, claim_count, claim, node_end, node_split, Fails, fails}
use Rattle.texts.specs.ClaimsRefusals.{Passes, passed, pass, FormulaTaken}
use Rattle.rules.proofs.ListLaws.{never}
use Rattle.texts.proofs.TokensLaws.{tokens_sound, tokens_complete}
use Rattle.texts.proofs.ClaimsJudged.{WholeFile}

-- ---- trees that are due

pub data AllHold (F : List Clause) : List Values → List Tree → Type 0 where
  no_tree : AllHold F [] []
  one_tree : {vs : Values} {t : Tree} {due : List Values} {trees : List Tree} → Holds F vs t → AllHold F due trees → AllHold F (vs ∷ due) (t ∷ trees)

abbrev claims_numbers : List Claim → List ℤ
claims_numbers cs = joined (map claim_numbers cs)

abbrev due_numbers : List Tree → List Claim → List ℤ
due_numbers trees cs = joined (map tree_numbers trees) ++ claims_numbers cs

-- ---- values of which each is false or true

total_nil : Total []
total_nil = record { valued = λ i. inl refl }

total_cons : {b : ℕ} {vs : Values} → (b ≡ 1) ⊎ (b ≡ 2) → Total vs → Total (b ∷ vs)
total_cons {b} {vs} h t = record { valued = λ i. go i }
  where
    go : (i : ℕ) → (value_at (b ∷ vs) i ≡ 1) ⊎ (value_at (b ∷ vs) i ≡ 2)
    go zero = h
    go (suc i) = t.valued i

pub total_head : {b : ℕ} {vs : Values} → Total (b ∷ vs) → (b ≡ 1) ⊎ (b ≡ 2)
total_head t = t.valued 0

pub total_tail : {b : ℕ} {vs : Values} → Total (b ∷ vs) → Total vs
total_tail t = record { valued = λ i. t.valued (suc i) }

true_byte_cases : (l : ℤ) → (true_byte l ≡ 1) ⊎ (true_byte l ≡ 2)
true_byte_cases (pos n) = inr refl
true_byte_cases (negsuc n) = inl refl

-- a literal of the variable at an index is that of its value
literal_made : (i : ℕ) (l : ℤ) → var_of l ≡ suc i → literal_at i (true_byte l) ≡ l
literal_made i (pos n) e = ap pos (sym e)
literal_made i (negsuc n) e = let h : i ≡ n = omega arith in ap negsuc h

pub literal_of : (i b : ℕ) → (b ≡ 1) ⊎ (b ≡ 2) → (var_of (literal_at i b) ≡ suc i) × (true_byte (literal_at i b) ≡ b)
literal_of i b (inl e) = rw e (refl, refl)
literal_of i b (inr e) = rw e (refl, refl)

snoc_assoc : (vs : Values) (b : ℕ) (ms : Values) → (vs ++ b ∷ []) ++ ms ≡ vs ++ b ∷ ms
snoc_assoc vs b ms = append_assoc vs (b ∷ []) ms

length_snoc : (vs : Values) (b : ℕ) → length (vs ++ b ∷ []) ≡ suc (length vs)
length_snoc vs b = omega (arith, length-append vs (b ∷ []))

module _ (vars : ℕ) (F : List Clause) where
  -- where a part was reached, the model had not failed
  abbrev Kept : Part → Type 0
  Kept p = (from : ℕ) → Fails vars F p from → ⊥

  satisfies_of_kept : (from : ℕ) (vs : Values) → Kept (literals_due from zero vs) → satisfies vs F ≡ true
  satisfies_of_kept from vs k = go (satisfies vs F) refl
    where
      go : (b : Bool) → satisfies vs F ≡ b → b ≡ true
      go true e = refl
      go false e = absurd (k from (fails e))

  -- ---- from a whole file: what its tokens say, from each part on

  module _ (n : ℕ) where
    -- of N claims k are due, and trees before them
    record ClaimsRead (N k : ℕ) (due : List Values) (ts : List Piece) : Type 0 where
      same : N ≡ n
      trees : List Tree
      claims : List Claim
      hold : AllHold F due trees
      claimed : (c : Claim) → In c claims → Claimed vars F c
      number : length claims ≡ k
      say : Say ts (due_numbers trees claims)

    record LiteralsRead (k : ℕ) (vs : Values) (ts : List Piece) : Type 0 where
      values : Values
      claims : List Claim
      number : length values ≡ k
      total : Total values
      all_true : satisfies (vs ++ values) F ≡ true
      claimed : (c : Claim) → In c claims → Claimed vars F c
      claims_are : length claims ≡ n
      say : Say ts (literals_from (length vs) values ++ pos (length claims) ∷ claims_numbers claims)

    record FileRead (ts : List Piece) : Type 0 where
      model : Values
      claims : List Claim
      is-model : Model vars F model
      claimed : (c : Claim) → In c claims → Claimed vars F c
      claims_are : length claims ≡ n
      say : Say ts (file_numbers model claims)

    abbrev Read : Part → List Piece → Type 0
    Read model_due ts = FileRead ts
    Read (literals_due from k vs) ts = LiteralsRead k vs ts
    Read (claims_due N k due) ts = ClaimsRead N k due ts

    claimed_cons : {c : Claim} {cs : List Claim} → Claimed vars F c → ((b : Claim) → In b cs → Claimed vars F b) → (b : Claim) → In b (c ∷ cs)
        → Claimed vars F b
    claimed_cons w h b (Memᴰ.head e) = rw e w
    claimed_cons w h b (Memᴰ.tail i) = h b i

    -- nothing is due
    read_none : ClaimsRead n 0 [] []
    read_none =
        record { same = refl; trees = []; claims = []; hold = no_tree; claimed = λ c i. absurd (Memᴰ.not-nil i); number = refl; say = nothing }

    module _ {t : Piece} {ts : List Piece} where
      read_end : {N k e : ℕ} {vs : Values} {due : List Values} → Token t.bytes (pos e) → NamesFalse F vs e → ClaimsRead N k due ts
          → ClaimsRead N k (vs ∷ due) (t ∷ ts)
      read_end {e = e} w f r =
          record {
            same = r.same;
            trees = end e ∷ r.trees;
            claims = r.claims;
            hold = one_tree (by_end f) r.hold;
            claimed = r.claimed;
            number = r.number;
            say = one_more_lem w r.say;
          }

      read_split : {N k i : ℕ} {vs : Values} {due : List Values} → Token t.bytes (negsuc i) → value_at vs i ≡ 0
          → ClaimsRead N k (set vs i 1 ∷ set vs i 2 ∷ due) ts → ClaimsRead N k (vs ∷ due) (t ∷ ts)
      read_split {N} {k} {i} {vs} {due} w z r = go r.trees r.hold r.say
        where
          go : (trees : List Tree) → AllHold F (set vs i 1 ∷ set vs i 2 ∷ due) trees → Say ts (due_numbers trees r.claims)
              → ClaimsRead N k (vs ∷ due) (t ∷ ts)
          go [] a y = elim a [ ]
          go (off ∷ []) (one_tree h a) y = elim a [ ]
          go (off ∷ on ∷ trees) (one_tree h (one_tree j a)) y =
              record {
                same = r.same;
                trees = split i off on ∷ trees;
                claims = r.claims;
                hold = one_tree (by_split z h j) a;
                claimed = r.claimed;
                number = r.number;
                say =
                    one_more_lem w
                    (subst (λ (ls : List ℤ). Say ts (ls ++ claims_numbers r.claims))
                    (sym (append_assoc (tree_numbers off) (tree_numbers on) (joined (map tree_numbers trees)))) y);
              }

      read_claim : {N k : ℕ} {l : ℤ} → Token t.bytes l → LitUpTo vars l → ClaimsRead N k (against vars l ∷ []) ts
          → ClaimsRead N (suc k) [] (t ∷ ts)
      read_claim {N} {k} {l} w u r = go r.trees r.hold r.say
        where
          go : (trees : List Tree) → AllHold F (against vars l ∷ []) trees → Say ts (due_numbers trees r.claims) → ClaimsRead N (suc k) [] (t ∷ ts)
          go [] a y = elim a [ ]
          go (tree ∷ other ∷ trees) (one_tree h a) y = elim a [ ]
          go (tree ∷ []) (one_tree h no_tree) y =
              let c : Claim = record { literal = l; tree = tree } in
              record {
                same = r.same;
                trees = [];
                claims = c ∷ r.claims;
                hold = no_tree;
                claimed = claimed_cons (record { up_to = u; holds = h }) r.claimed;
                number = ap suc r.number;
                say =
                    one_more_lem w (subst (λ (ls : List ℤ). Say ts (ls ++ claims_numbers r.claims)) (append-nil (tree_numbers tree)) y);
              }

      read_count : {N : ℕ} {vs : Values} → Token t.bytes (pos N) → satisfies vs F ≡ true → ClaimsRead N N [] ts → LiteralsRead 0 vs (t ∷ ts)
      read_count {N} {vs} w s r = go r.trees r.hold r.say
        where
          go : (trees : List Tree) → AllHold F [] trees → Say ts (due_numbers trees r.claims) → LiteralsRead 0 vs (t ∷ ts)
          go (_ ∷ _) a y = elim a [ ]
          go [] no_tree y =
              record {
                values = [];
                claims = r.claims;
                number = refl;
                total = total_nil;
                all_true = ap (λ (xs : Values). satisfies xs F) (append-nil vs) ∙ s;
                claimed = r.claimed;
                claims_are = r.number ∙ r.same;
                say = one_more_lem (subst (λ (x : ℕ). Token t.bytes (pos x)) (sym r.number) w) y;
              }

      read_literal : {k : ℕ} {vs : Values} {l : ℤ} → Token t.bytes l → var_of l ≡ suc (length vs) → LiteralsRead k (vs ++ true_byte l ∷ []) ts
          → LiteralsRead (suc k) vs (t ∷ ts)
      read_literal {k} {vs} {l} w e r =
          record {
            values = true_byte l ∷ r.values;
            claims = r.claims;
            number = ap suc r.number;
            total = total_cons (true_byte_cases l) r.total;
            all_true = ap (λ (xs : Values). satisfies xs F) (sym (snoc_assoc vs (true_byte l) r.values)) ∙ r.all_true;
            claimed = r.claimed;
            claims_are = r.claims_are;
            say =
                one_more_lem (subst (Token t.bytes) (sym (literal_made (length vs) l e)) w)
                (subst (λ (i : ℕ). Say ts (literals_from i r.values ++ pos (length r.claims) ∷ claims_numbers r.claims))
                (length_snoc vs (true_byte l)) r.say);
          }

      read_model : Token t.bytes (pos vars) → LiteralsRead vars [] ts → FileRead (t ∷ ts)
      read_model w r =
          record {
            model = r.values;
            claims = r.claims;
            is-model = record { len = r.number; total = r.total; all_true = r.all_true };
            claimed = r.claimed;
            claims_are = r.claims_are;
            say = one_more_lem (subst (λ (x : ℕ). Token t.bytes (pos x)) (sym r.number) w) r.say;
          }

    read : {p : Part} {ts : List Piece} → Passes vars F p ts (claims_due n zero []) → Kept p → Read p ts
    read passed k = read_none
    read (pass w model_count f h) k = read_model w (read h f)
    read (pass w (model_literal_lem e) f h) k = read_literal w e (read h f)
    read (pass w (claim_count {from = from} {vs = vs}) f h) k = read_count w (satisfies_of_kept from vs k) (read h f)
    read (pass w (claim u) f h) k = read_claim w u (read h f)
    read (pass w (node_end e) f h) k = read_end w e (read h f)
    read (pass w (node_split z) f h) k = read_split w z (read h f)

  -- ---- and back

  kept_claims : (n k : ℕ) (due : List Values) → Kept (claims_due n k due)
  kept_claims n k due from f = elim f [ ]

  passes_due : (n : ℕ) (ts : List Piece) (cs : List Claim) {due : List Values} {trees : List Tree} → AllHold F due trees
      → ((c : Claim) → In c cs → Claimed vars F c) → Say ts (due_numbers trees cs) → Passes vars F (claims_due n (length cs) due) ts (claims_due n zero [])
  passes_due n [] [] no_tree h nothing = passed
  passes_due n [] (c ∷ cs) no_tree h y = elim y [ ]
  passes_due n (t ∷ ts) [] no_tree h y = elim y [ ]
  passes_due n [] cs (one_tree (by_end e) a) h y = elim y [ ]
  passes_due n [] cs (one_tree (by_split z j k) a) h y = elim y [ ]
  passes_due n (t ∷ ts) (c ∷ cs) no_tree h (one_more_lem w y) =
      let d = h c (Memᴰ.head refl) in
      pass w (claim d.up_to) (kept_claims n (length cs) (against vars c.literal ∷ []))
      (passes_due n ts cs (one_tree d.holds no_tree) (λ b i. h b (Memᴰ.tail i))
      (subst (λ (ls : List ℤ). Say ts (ls ++ claims_numbers cs)) (sym (append-nil (tree_numbers c.tree))) y))
  passes_due n (t ∷ ts) cs (one_tree {due = due} (by_end e) a) h (one_more_lem w y) =
      pass w (node_end e) (kept_claims n (length cs) due) (passes_due n ts cs a h y)
  passes_due n (t ∷ ts) cs (one_tree {due = due} {trees = trees} (by_split {vs = vs} {i = i} {off = off} {on = on} z j k) a) h (one_more_lem w y) =
      pass w (node_split z) (kept_claims n (length cs) (set vs i 1 ∷ set vs i 2 ∷ due))
      (passes_due n ts cs (one_tree j (one_tree k a)) h
      (subst (λ (ls : List ℤ). Say ts (ls ++ claims_numbers cs)) (append_assoc (tree_numbers off) (tree_numbers on) (joined (map tree_numbers trees))) y))

  kept_literals : (at : ℕ) (vs ms : Values) → satisfies (vs ++ ms) F ≡ true → Kept (literals_due at (length ms) vs)
  kept_literals at vs [] s from (fails h) = never (ap (λ (xs : Values). satisfies xs F) (sym (append-nil vs)) ∙ s) h
  kept_literals at vs (b ∷ ms) s from f = elim f [ ]

  module _ (cs : List Claim) (h : (c : Claim) → In c cs → Claimed vars F c) where
    passes_literals : (from : ℕ) (vs ms : Values) (ts : List Piece) → Total ms → satisfies (vs ++ ms) F ≡ true
        → Say ts (literals_from (length vs) ms ++ pos (length cs) ∷ claims_numbers cs)
        → Passes vars F (literals_due from (length ms) vs) ts (claims_due (length cs) zero [])
    passes_literals from vs [] [] a s y = elim y [ ]
    passes_literals from vs (b ∷ ms) [] a s y = elim y [ ]
    passes_literals from vs [] (t ∷ ts) a s (one_more_lem w y) =
        pass w claim_count (kept_claims (length cs) (length cs) []) (passes_due (length cs) ts cs no_tree h y)
    passes_literals from vs (b ∷ ms) (t ∷ ts) a s (one_more_lem w y) =
        let (e, q) = literal_of (length vs) b (total_head a) in
        let s' : satisfies ((vs ++ b ∷ []) ++ ms) F ≡ true = ap (λ (xs : Values). satisfies xs F) (snoc_assoc vs b ms) ∙ s in
        pass w (model_literal_lem e)
        (subst (λ (x : ℕ). Kept (literals_due from (length ms) (vs ++ x ∷ []))) (sym q) (kept_literals from (vs ++ b ∷ []) ms s'))
        (subst (λ (x : ℕ). Passes vars F (literals_due from (length ms) (vs ++ x ∷ [])) ts (claims_due (length cs) zero [])) (sym q)
        (passes_literals from (vs ++ b ∷ []) ms ts (total_tail a) s'
        (subst (λ (i : ℕ). Say ts (literals_from i ms ++ pos (length cs) ∷ claims_numbers cs)) (sym (length_snoc vs b)) y)))

    passes_file : (m : Values) (ts : List Piece) → Model vars F m → Say ts (file_numbers m cs) → Passes vars F model_due ts (claims_due (length cs) zero [])
    passes_file m [] k y = elim y [ ]
    passes_file m (t ∷ ts) k (one_more_lem w y) =
        pass (subst (λ (x : ℕ). Token t.bytes (pos x)) k.len w) model_count
        (subst (λ (x : ℕ). Kept (literals_due t.at x [])) k.len (kept_literals t.at [] m k.all_true))
        (subst (λ (x : ℕ). Passes vars F (literals_due t.at x []) ts (claims_due (length cs) zero [])) k.len
        (passes_literals t.at [] m ts k.total k.all_true y))

-- ---- both ways

pub text_of_whole : {g : ClaimsGiven} {n : ℕ} → WholeFile g n → ClaimsFile g.vars (clauses g.entries) g.text n
text_of_whole {g} {n} w =
    let r = read g.vars (clauses g.entries) n w.passes (λ from f. elim f [ ]) in
    record {
      model = r.model;
      claims = r.claims;
      number = r.claims_are;
      text_is =
          record { says = tokens_sound r.say; is-model = r.is-model; claimed = r.claimed; text_fits = w.begun.text_fits };
    }

pub whole_of_text : {g : ClaimsGiven} {n : ℕ} → FormulaTaken g → ClaimsFile g.vars (clauses g.entries) g.text n → WholeFile g n
whole_of_text {g} {n} k s =
    record {
      begun = record { taken = k; text_fits = s.text_is.text_fits };
      passes =
          subst (λ (x : ℕ). Passes g.vars (clauses g.entries) model_due (all_tokens g.text) (claims_due x zero [])) s.number
          (passes_file g.vars (clauses g.entries) s.claims s.text_is.claimed s.model (all_tokens g.text) s.text_is.is-model
          (tokens_complete s.text_is.says));
    }
