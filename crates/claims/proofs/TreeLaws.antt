-- The laws of src/tree.rt: a literal that is false by its byte, the loop over a clause, an end and a split by their tests, and a tree by
-- its first number and its subtrees.
--
--   is_false_byte      whether a literal is false, by the byte at its index
--   all_is            what `all` of the code is
--   up_to_number      the literals of a clause are of the variables
--   end_zero, end_above, end_named     whether a number names a clause whose literals are all false
--   unset_above, unset_here     whether the variable at an index is not set
--   stop_node, number_some, split_node, split_fault, end_node, end_fault     the first number of a tree
--   split_unset       a split is on an unset variable
--   tree_stop, tree_end, tree_first, tree_both     a tree, by its first number and its subtrees
--   taken_back, set-again     a variable that is unset again, or has another value
--   falls_set         fewer variables are unset
--
-- Assumes nothing.
use mathlib.Core.Path.{◌≡◌, refl, sym, ◌∙◌, ap, subst}
use mathlib.Core.Bool.{Bool, true, false, not, ◌&&◌}
use mathlib.Core.List.{List, [], ◌∷◌}
use mathlib.Core.Option.{some}
use Prim.Native.Nat.{ℕ, zero, suc, ◌+◌, ◌-◌, ◌≤◌, ◌<◌}
use native.Mathlib.Omega.{arith}
use lib.Dec.{eqb, leb}
use lib.IntN.{ℤ, pos, negsuc}
use lib.ListN.{length, get_or, set, length-set}
use lib.Seq.{set-set}
use borrow.Author.Tests.{eqb-true, le-leb, lt-leb}
use Rattle.rules.specs.Lists.{In, all}
use Rattle.rules.specs.Meaning.{Clause, Values, clauses, var_of, index_of, value_at, false_byte}
use Rattle.texts.specs.Claims.{clause_no, is_false}
use Rattle.rules.specs.declared.ClaimsAnswer.{ClaimsAnswer}
use Rattle.texts.specs.ClaimsReading.{claims_due, is_node}
use Rattle.texts.specs.ClaimsRefusals.{no_tree}
use Rattle.rules.specs.Closing.{unsets}
use Rattle.rules.proofs.ListLaws.{get_d_default}
use Rattle.rules.proofs.MeaningLaws.{unsets-set}
use Rattle.formula.specs.Clauses.{ClauseUpTo}
use Rattle.formula.specs.Formula.{Formula}
use Rattle.formula.specs.Literals.{is_positive, byte_of}
use Rattle.formula.specs.Starts.{clause_at}
use Rattle.formula.proofs.ClauseLaws.{nil_up_to, clause_at_up_to}
use Rattle.formula.proofs.LiteralLaws.{index_of_var}
use Rattle.std.specs.List.{list_all}
use Rattle.std.specs.Prelude.{Ok, Err}
use Rattle.reader.specs.declared.next.Spot.{Spot}
use Rattle.claims.specs.declared.tree.Node.{Node}
use Rattle.claims.specs.Steps.{Step, Leads, on, stop, TreeRead, NumberDue, no_number, number, is_unset_at, NodeDue, node_end, node_split, node_stop}
use Rattle.claims.proofs.StepLaws.{fits_on, fault_stop, value_minus, value_plain}

-- ---- a literal

false_byte_sign : (l : ℤ) → false_byte l ≡ byte_of (not (is_positive l))
false_byte_sign (pos n) = refl
false_byte_sign (negsuc n) = refl

pub is_false_byte : (vs : Values) (l : ℤ) (i : ℕ) → i + 1 ≡ var_of l → i < length vs → eqb (get_or vs i 0) (byte_of (not (is_positive l))) ≡ is_false vs l
is_false_byte vs l i e h =
    let at : i ≡ index_of l = omega (arith, index_of_var l (omega arith)) in
    ap (λ (b : ℕ). eqb b (byte_of (not (is_positive l)))) (get_d_default vs i 0 1 h ∙ ap (value_at vs) at) ∙
    ap (eqb (value_at vs (index_of l))) (sym (false_byte_sign l))

-- ---- a clause: what `all` of the code is

pub all_is : (p : ℤ → Bool) (cl : Clause) → all p cl ≡ list_all p cl
all_is p [] = refl
all_is p (l ∷ cl) = ap (λ b. p l && b) (all_is p cl)

-- ---- an end

-- the literals of clause n are of the variables
pub up_to_number : (vars : ℕ) (es : List ℤ) (n : ℕ) → ((l : ℤ) → In l es → var_of l ≤ vars) → 1 ≤ n → n ≤ length (clauses es)
    → ClauseUpTo vars (clause_at es [] n)
up_to_number vars es zero u h k = absurd (omega arith)
up_to_number vars es (suc n) u h k = clause_at_up_to vars es [] n u (nil_up_to vars) (omega arith)

pub end_zero : (F : List Clause) (vs : Values) (n : ℕ) → n ≡ 0 → is_node F vs (pos n) ≡ false
end_zero F vs n e = rw (lt-leb 1 n (omega arith))

pub end_above : (F : List Clause) (vs : Values) (n : ℕ) → length F < n → is_node F vs (pos n) ≡ false
end_above F vs n h = rw (lt-leb n (length F) h) (go (leb 1 n))
  where
    go : (b : Bool) → (b && false) ≡ false
    go true = refl
    go false = refl

pub end_named : (F : List Clause) (vs : Values) (n : ℕ) → 1 ≤ n → n ≤ length F → is_node F vs (pos n) ≡ all (is_false vs) (clause_no F n)
end_named F vs n h k = rw (le-leb 1 n h, le-leb n (length F) k)

-- ---- a split

pub unset_above : (vs : Values) (i : ℕ) → length vs ≤ i → is_unset_at vs i ≡ false
unset_above [] i h = refl
unset_above (b ∷ vs) zero h = absurd (omega arith)
unset_above (b ∷ vs) (suc i) h = unset_above vs i (omega arith)

pub unset_here : (vs : Values) (i : ℕ) → i < length vs → eqb (get_or vs i 0) 0 ≡ is_unset_at vs i
unset_here vs i h = ap (λ (b : ℕ). eqb b 0) (get_d_default vs i 0 1 h)

-- ---- the first number of a tree

module _ (F : List Clause) {text : List ℕ} (vs : Values) (at : ℕ) where
  pub stop_node : {a : ClaimsAnswer} → NumberDue text at (Err a) → NodeDue F text vs at (Err a)
  stop_node (no_number h) = node_stop (λ vars n k due. h vars F (claims_due n k (vs ∷ due)) no_tree)

  module _ (s : Spot) where
    pub number_some : NumberDue text at (Ok s) → s.entry.minus ≡ true → 1 ≤ s.entry.number
    number_some (number n w m) = m.some

    pub split_node : NumberDue text at (Ok s) → s.entry.minus ≡ true → is_unset_at vs (s.entry.number - 1) ≡ true
        → NodeDue F text vs at (Ok (Node.Split (s.entry.number - 1) s.to))
    split_node (number n w m) q h =
        node_split (eqb-true (value_at vs (s.entry.number - 1)) 0 h)
        (λ vars c k due. fits_on vars F (claims_due c k (vs ∷ due)) (negsuc (s.entry.number - 1)) n (w ∙ ap some (value_minus s.entry q (m.some q))) (rw h))

    pub split_fault : NumberDue text at (Ok s) → s.entry.minus ≡ true → is_unset_at vs (s.entry.number - 1) ≡ false
        → NodeDue F text vs at (Err (ClaimsAnswer.Rejected s.from))
    split_fault (number n w m) q h =
        node_stop
        (λ vars c k due. fault_stop vars F (claims_due c k (vs ∷ due)) (negsuc (s.entry.number - 1)) n (w ∙ ap some (value_minus s.entry q (m.some q))) (rw h))

    pub end_node : NumberDue text at (Ok s) → s.entry.minus ≡ false → is_node F vs (pos s.entry.number) ≡ true → NodeDue F text vs at (Ok (Node.End s.to))
    end_node (number n w m) q h =
        node_end (λ vars c k due. fits_on vars F (claims_due c k (vs ∷ due)) (pos s.entry.number) n (w ∙ ap some (value_plain s.entry q)) (rw h))

    pub end_fault : NumberDue text at (Ok s) → s.entry.minus ≡ false → is_node F vs (pos s.entry.number) ≡ false
        → NodeDue F text vs at (Err (ClaimsAnswer.Rejected s.from))
    end_fault (number n w m) q h =
        node_stop (λ vars c k due. fault_stop vars F (claims_due c k (vs ∷ due)) (pos s.entry.number) n (w ∙ ap some (value_plain s.entry q)) (rw h))

-- ---- a tree, by its first number and its subtrees

module _ {F : List Clause} {text : List ℕ} {vs : Values} {at : ℕ} where
  pub split_unset : {i to : ℕ} → NodeDue F text vs at (Ok (Node.Split i to)) → value_at vs i ≡ 0
  split_unset (node_split z h) = z

  pub tree_stop : {a : ClaimsAnswer} → NodeDue F text vs at (Err a) → TreeRead F text vs at (Err a)
  tree_stop (node_stop h) = record { leads = λ vars n k due. stop (h vars n k due) }

  pub tree_end : {to : ℕ} → NodeDue F text vs at (Ok (Node.End to)) → TreeRead F text vs at (Ok to)
  tree_end (node_end h) = record { leads = λ vars n k due. on (h vars n k due) }

  -- the tree for false has the answer
  pub tree_first : {i to : ℕ} {a : ClaimsAnswer} → NodeDue F text vs at (Ok (Node.Split i to)) → TreeRead F text (set vs i 1) to (Err a)
      → TreeRead F text vs at (Err a)
  tree_first {i} {to} {a} (node_split z h) w =
      record { leads = λ vars n k due. go vars n k due (w.leads vars n k (set vs i 2 ∷ due)) }
    where
      go : (vars n k : ℕ) (due : List Values)
          → Leads vars F text (claims_due n k (set vs i 1 ∷ set vs i 2 ∷ due)) to (claims_due n k (set vs i 2 ∷ due)) (Err a)
          → Leads vars F text (claims_due n k (vs ∷ due)) at (claims_due n k due) (Err a)
      go vars n k due (stop e) = stop (h vars n k due ∙ e)

  -- it ends, and then the tree for true leads on
  pub tree_both : {i to later : ℕ} {r : Step} → NodeDue F text vs at (Ok (Node.Split i to)) → TreeRead F text (set vs i 1) to (Ok later)
      → TreeRead F text (set vs i 2) later r → TreeRead F text vs at r
  tree_both {i} {to} {later} {r} (node_split z h) w y =
      record { leads = λ vars n k due. go vars n k due (w.leads vars n k (set vs i 2 ∷ due)) (y.leads vars n k due) }
    where
      go : {s : Step} (vars n k : ℕ) (due : List Values)
          → Leads vars F text (claims_due n k (set vs i 1 ∷ set vs i 2 ∷ due)) to (claims_due n k (set vs i 2 ∷ due)) (Ok later)
          → Leads vars F text (claims_due n k (set vs i 2 ∷ due)) later (claims_due n k due) s
          → Leads vars F text (claims_due n k (vs ∷ due)) at (claims_due n k due) s
      go vars n k due (on e) (on f) = on (h vars n k due ∙ e ∙ f)
      go vars n k due (on e) (stop f) = stop (h vars n k due ∙ e ∙ f)

-- ---- the values

pub set-again : (vs us : Values) (i a b : ℕ) → us ≡ set vs i a → set us i b ≡ set vs i b
set-again vs us i a b e = ap (λ (xs : Values). set xs i b) e ∙ set-set vs i a b

set_back : (vs : Values) (i : ℕ) → value_at vs i ≡ 0 → set vs i 0 ≡ vs
set_back [] i z = refl
set_back (b ∷ vs) zero z = ap (λ (x : ℕ). x ∷ vs) (sym z)
set_back (b ∷ vs) (suc i) z = ap (λ (xs : Values). b ∷ xs) (set_back vs i z)

pub taken_back : (vs us : Values) (i a : ℕ) → value_at vs i ≡ 0 → us ≡ set vs i a → set us i 0 ≡ vs
taken_back vs us i a z e = set-again vs us i a 0 e ∙ set_back vs i z

pub falls_set : (vs us : Values) (i b : ℕ) → value_at vs i ≡ 0 → us ≡ set vs i (suc b) → unsets us < unsets vs
falls_set vs us i b z e = omega (arith, unsets-set vs i b z, ap unsets e)

-- the same formula over values that are as long
pub formula_same : {es : List ℤ} {starts : List ℕ} (vs us : Values) (i b : ℕ) → us ≡ set vs i b → Formula (length vs) es starts
    → Formula (length us) es starts
formula_same {es} {starts} vs us i b e f = subst (λ (n : ℕ). Formula n es starts) (sym (ap length e ∙ length-set vs i b)) f
