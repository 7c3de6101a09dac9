-- The laws of clauses by number (specs/Starts): what `clause_at` computes is the clause, the clauses of a call, and the variables
-- of a clause's literals.
--
--   starts_of_part, looked_in, looked_part, part_is     between a start and the next one stands the clause
--   clause_at_formula, clause_at-constraint     clause n is the formula's, or the constraint
--   length-call_clauses            a call has as many clauses as it says
--   get_d_call_clauses              and clause n is the one at index n - 1
--   call_clauses_formula, call_clauses-constraint     a call on the formula alone, and one with the constraint
--   clauses_up_to, nil_up_to, clause_at_up_to     a clause's literals are of the variables 1 to n
--   length_starts                 one start more than clauses
--   Numbered, numbered            clause n of the formula as code looks it up
--
-- Assumes nothing.
use mathlib.Core.Path.{◌≡◌, sym, ◌∙◌, ap}
use mathlib.Core.Logic.{◌⊎◌, inl, inr}
use mathlib.Core.List.Memᴰ
use mathlib.Core.List.{List, [], ◌∷◌, ◌++◌}
use Prim.Native.Nat.{ℕ, zero, suc, pred, ◌-◌, ◌<◌, ◌≤◌}
use native.Mathlib.Omega.{arith}
use lib.IntN.{ℤ}
use lib.ListN.{get_or, length, take, drop, length-append, get_or-append}
use lib.Seq.{take_all, take-append_seam, get_or-take, get_or-append_seam, length-take-le}
use Rattle.rules.specs.Lists.{In}
use Rattle.rules.specs.Meaning.{Clause, var_of, clauses}
use Rattle.rules.proofs.ListLaws.{in_get_d}
use Rattle.rules.proofs.ClauseLaws.{clauses_entries}
use Rattle.formula.specs.Clauses.{ClauseUpTo}
use Rattle.formula.specs.Starts.{starts_of, clauses_with, clause_at, call_clauses, Lookup}
use Rattle.formula.specs.Formula.{Formula}
use Rattle.formula.proofs.StartsLaws.{length-starts_of, Part, part}

-- ---- the clause between two starts

pub starts_of_part : (es : List ℤ) (n : ℕ) → 1 ≤ n → n ≤ length (clauses es)
    → Part 0 es (get_or (starts_of es) (n - 1) 0) (get_or (starts_of es) n 0) (get_or (clauses es) (pred n) [])
unfolding starts_of
starts_of_part es zero h k = absurd (omega arith)
starts_of_part es (suc n) h k =
    let e : suc n - 1 ≡ n = omega arith in rw e (part 0 es n (omega arith))

-- of a clause that is looked up, before the last start: it is the formula's, and stands between its start and the next one
module _ {es : List ℤ} {starts : List ℕ} {n : ℕ} (d : Lookup es starts n) (h : n < length starts) where
  pub looked_in : n ≤ length (clauses es)
  looked_in = omega (arith, h, ap length d.starts_are, length-starts_of es)

  pub looked_part : Part 0 es (get_or starts (n - 1) 0) (get_or starts n 0) (get_or (clauses es) (pred n) [])
  looked_part = rw d.starts_are (starts_of_part es n d.some looked_in)

-- at index 0
pub part_is : {es : List ℤ} {from to : ℕ} {cl : Clause} → Part 0 es from to cl → take (to - 1 - from) (drop from es) ≡ cl
part_is {from} p = let e : from - 0 ≡ from = omega arith in rw e at p.is

length-clauses_with : (es : List ℤ) (con : Clause) → length (clauses_with es con) ≡ suc (length (clauses es))
unfolding clauses_with
length-clauses_with es con = omega (arith, length-append (clauses es) (con ∷ []))

pub clause_at_formula : (es : List ℤ) (con : Clause) (n : ℕ) → 1 ≤ n → n ≤ length (clauses es)
    → get_or (clauses es) (pred n) [] ≡ clause_at es con n
unfolding clause_at clauses_with
clause_at_formula es con zero h k = absurd (omega arith)
clause_at_formula es con (suc n) h k = sym (get_or-append (clauses es) (con ∷ []) [] n (omega arith))

pub clause_at-constraint : (es : List ℤ) (con : Clause) (n : ℕ) → n ≡ suc (length (clauses es)) → con ≡ clause_at es con n
unfolding clause_at clauses_with
clause_at-constraint es con n e = rw e (sym (get_or-append_seam (clauses es) con [] []))

-- ---- the clauses of a call

pub length-call_clauses : (es : List ℤ) (con : Clause) (total : ℕ) → total ≤ suc (length (clauses es))
    → length (call_clauses es con total) ≡ total
unfolding call_clauses
length-call_clauses es con total h = length-take-le total (clauses_with es con) (omega (arith, length-clauses_with es con))

pub get_d_call_clauses : (es : List ℤ) (con : Clause) (total k : ℕ) → k < total
    → get_or (call_clauses es con total) k [] ≡ clause_at es con (suc k)
unfolding call_clauses clause_at
get_d_call_clauses es con total k h = get_or-take total (clauses_with es con) k [] h

pub call_clauses_formula : (es : List ℤ) (con : Clause) → call_clauses es con (length (clauses es)) ≡ clauses es
unfolding call_clauses clauses_with
call_clauses_formula es con = take-append_seam (clauses es) (con ∷ [])

pub call_clauses-constraint : (es : List ℤ) (con : Clause) → call_clauses es con (suc (length (clauses es))) ≡ clauses es ++ (con ∷ [])
unfolding call_clauses clauses_with
call_clauses-constraint es con =
    take_all (suc (length (clauses es))) (clauses es ++ (con ∷ [])) (omega (arith, length-append (clauses es) (con ∷ [])))

-- ---- the variables of its literals

-- of the formula's, if its entries are so
pub clauses_up_to : (n : ℕ) (es : List ℤ) → ((l : ℤ) → In l es → var_of l ≤ n) → (cl : Clause) → In cl (clauses es) → ClauseUpTo n cl
clauses_up_to n es o cl i =
    record { each = λ l j. let (m, s) = (clauses_entries es cl i).each l j in record { some = s; most = o l m } }

-- the empty clause has none
pub nil_up_to : (n : ℕ) → ClauseUpTo n []
nil_up_to n = record { each = λ l i. absurd (Memᴰ.not-nil i) }

-- and of the constraint
pub clause_at_up_to : (n : ℕ) (es : List ℤ) (con : Clause) (k : ℕ) → ((l : ℤ) → In l es → var_of l ≤ n) → ClauseUpTo n con
    → k ≤ length (clauses es) → ClauseUpTo n (clause_at es con (suc k))
unfolding clause_at clauses_with
clause_at_up_to n es con k o u h =
    go _ (Memᴰ.append_cases (clauses es) (in_get_d (clauses es ++ (con ∷ [])) k [] (omega (arith, length-append (clauses es) (con ∷ [])))))
  where
    go : (cl : Clause) → In cl (clauses es) ⊎ In cl (con ∷ []) → ClauseUpTo n cl
    go cl (inl i) = clauses_up_to n es o cl i
    go cl (inr i) = rw (Memᴰ.eq_of_singleton i) u

-- ---- the formula as code has it

pub length_starts : {vars : ℕ} {es : List ℤ} {starts : List ℕ} → Formula vars es starts → length starts ≡ suc (length (clauses es))
length_starts {es = es} f = ap length f.starts_are ∙ length-starts_of es

-- clause n of the formula, from 1, as code looks it up: by the constraint that is not there
pub record Numbered (vars : ℕ) (es : List ℤ) (n : ℕ) : Type 0 where
  pub within : n - 1 < length (clauses es)
  pub up_to : ClauseUpTo vars (clause_at es [] n)
  pub is : get_or (clauses es) (n - 1) [] ≡ clause_at es [] n

pub numbered : {vars : ℕ} {es : List ℤ} {starts : List ℕ} → Formula vars es starts → (n : ℕ) → 1 ≤ n → n < length starts → Numbered vars es n
numbered f zero h k = absurd (omega arith)
numbered {vars} {es} f (suc n) h k =
    let q : suc n - 1 ≡ n = omega arith in
    let more : n < length (clauses es) = omega (arith, length_starts f) in
    record {
      within = omega (arith, more);
      up_to = clause_at_up_to vars es [] n f.up_to (nil_up_to vars) (omega (arith, more));
      is = rw q (clause_at_formula es [] (suc n) h more);
    }
