-- The reading of groups and their grammar agree (specs/GroupsReading against specs/GroupsGrammar): whole files are those that the grammar
-- derives.
--
--   tokens_sound, tokens_complete     tokens that say numbers, and a text of these tokens
--   numbers_of, say_of_passes      the numbers that led to a part
--   Sound, sound_of_passes        what holds of a part that was reached
--   text_of_whole, whole_of_text  the theorem
--
-- Assumes nothing.
use mathlib.Core.Path.{◌≡◌, refl, sym, ◌∙◌, ap, ap₂, subst}
use mathlib.Core.Logic.{◌⊎◌, inl, inr}
use mathlib.Core.Bool.{Bool, true, false}
use mathlib.Core.List.Memᴰ
use mathlib.Core.List.{List, [], ◌∷◌, ◌++◌, map, append-nil, append_assoc}
use Prim.Native.Nat.{ℕ, suc, ◌+◌, ◌≤◌, ◌<◌}
use native.Mathlib.Omega.{arith}
use lib.IntN.{ℤ, pos}
use lib.ListN.{length, length-append}
use Rattle.texts.specs.Tokens.{all_tokens}
use Rattle.rules.specs.Lists.{In, count, count_if, is_zero}
use Rattle.rules.specs.Numbers.{max_vars, max_clauses, max_entries}
use Rattle.rules.specs.Meaning.{var_of}
use Rattle.texts.specs.Text.{Piece}
use Rattle.texts.specs.Grammar.{ClausesOf, no_clause, clause}
use Rattle.texts.specs.Refusals.{Say, nothing, one_more_lem}
use Rattle.texts.specs.Groups.{max_groups, min_size, max_size, vars_in}
use Rattle.texts.specs.GroupsReading.{Part, groups_due, sizes_due, entries_due, next}
use Rattle.texts.specs.GroupsGrammar.{SizesFit, file_numbers, GroupsText}
use Rattle.texts.specs.GroupsRefusals.{between, Fits, group_count, clause_count_lem, size, entry, Passes, passed, pass}
use Rattle.rules.proofs.ListLaws.{count_append, eqz_sound, sum_of_append}
use Rattle.texts.proofs.TokensLaws.{tokens_sound, tokens_complete}
use Rattle.texts.proofs.GrammarLaws.{clauses_of_cons, count_clauses_of, not_behind_of_clauses_of}
use Rattle.texts.proofs.GroupsJudged.{WholeFile}

-- ---- the numbers that led to a part

abbrev pub numbers_of : Part → List ℤ
numbers_of groups_due = []
numbers_of (sizes_due n sizes) = pos (length sizes + n) ∷ map pos sizes
numbers_of (entries_due sizes c es) = file_numbers sizes c es

map_snoc : (ns : List ℕ) (n : ℕ) → map pos (ns ++ n ∷ []) ≡ map pos ns ++ pos n ∷ []
map_snoc [] n = refl
map_snoc (x ∷ ns) n = ap (λ (ls : List ℤ). pos x ∷ ls) (map_snoc ns n)

numbers_next : {p : Part} {l : ℤ} → Fits p l → numbers_of (next p l) ≡ numbers_of p ++ l ∷ []
numbers_next (group_count (between {n} a b)) = let e : 0 + n ≡ n = omega arith in ap (λ (x : ℕ). pos x ∷ []) e
numbers_next (clause_count_lem {sizes = ss} (between {n} a b)) =
    let e : length ss ≡ length ss + 0 = omega arith in ap (λ (x : ℕ). pos x ∷ (map pos ss ++ pos n ∷ [])) e
numbers_next (size {n = g} {sizes = ss} (between {n} a b) h) =
    let e : length (ss ++ n ∷ []) + g ≡ length ss + suc g = omega (arith, length-append ss (n ∷ [])) in
    ap₂ (λ (x : ℕ) (ls : List ℤ). pos x ∷ ls) e (map_snoc ss n)
numbers_next (entry {sizes = ss} {c = c} {es = es} {l = l} h u) =
    ap (λ (ls : List ℤ). pos (length ss) ∷ ls) (sym (append_assoc (map pos ss) (pos c ∷ es) (l ∷ [])))

record SaidBy (p : Part) (ts : List Piece) (q : Part) : Type 0 where
  numbers : List ℤ
  say : Say ts numbers
  are : numbers_of q ≡ numbers_of p ++ numbers

say_of_passes : {p q : Part} {ts : List Piece} → Passes p ts q → SaidBy p ts q
say_of_passes {p} passed = record { numbers = []; say = nothing; are = sym (append-nil (numbers_of p)) }
say_of_passes {p} {q} (pass {l = l} w f h) =
    let s = say_of_passes h in
    record {
      numbers = l ∷ s.numbers;
      say = one_more_lem w s.say;
      are =
          s.are ∙ ap (λ (ls : List ℤ). ls ++ s.numbers) (numbers_next f) ∙
          append_assoc (numbers_of p) (l ∷ []) s.numbers;
    }

-- ---- what holds of a part that was reached

pub data Sound : Part → Type 0 where
  at_groups : Sound groups_due
  at_sizes : {n : ℕ} {ss : List ℕ} → length ss + n ≤ max_groups → SizesFit ss → Sound (sizes_due n ss)
  at_entries : {ss : List ℕ} {c : ℕ} {es : List ℤ} → SizesFit ss → c ≤ max_clauses → ClausesOf (count is_zero es) es ⊎ (count is_zero es < c)
      → ((l : ℤ) → In l es → var_of l ≤ vars_in ss) → count is_zero es ≤ c → Sound (entries_due ss c es)

no_sizes_fit : SizesFit []
no_sizes_fit = record { groups_fit = omega arith; each_fits = λ n i. absurd (Memᴰ.not-nil i); vars_fit = omega arith }

sizes_fit_snoc : (ss : List ℕ) (n : ℕ) → SizesFit ss → suc (length ss) ≤ max_groups → min_size ≤ n → n ≤ max_size → vars_in ss + n ≤ max_vars
    → SizesFit (ss ++ n ∷ [])
sizes_fit_snoc ss n w g a b h =
    record {
      groups_fit = omega (arith, length-append ss (n ∷ []));
      each_fits = λ k i. each k (Memᴰ.append_cases ss i);
      vars_fit = omega (arith, sum_of_append (λ (k : ℕ). k) ss (n ∷ []));
    }
  where
    each : (k : ℕ) → In k ss ⊎ In k (n ∷ []) → (min_size ≤ k) × (k ≤ max_size)
    each k (inl i) = w.each_fits k i
    each k (inr (Memᴰ.head e)) = (omega arith, omega arith)
    each k (inr (Memᴰ.tail i)) = absurd (Memᴰ.not-nil i)

-- entries that end with 0 are clauses
clauses_of_ended : (es : List ℤ) → ClausesOf (count is_zero (es ++ pos 0 ∷ [])) (es ++ pos 0 ∷ [])
clauses_of_ended [] = clause [] Memᴰ.not-nil no_clause
clauses_of_ended (e ∷ es) = go (is_zero e) refl (clauses_of_ended es)
  where
    go : (b : Bool) → is_zero e ≡ b → ClausesOf (count is_zero (es ++ pos 0 ∷ [])) (es ++ pos 0 ∷ [])
        → ClausesOf (count_if b (count is_zero (es ++ pos 0 ∷ []))) (e ∷ es ++ pos 0 ∷ [])
    go true q c = rw (eqz_sound e (pos 0) q) (clause [] Memᴰ.not-nil c)
    go false q c = clauses_of_cons q (omega (arith, count_append is_zero es (pos 0 ∷ []))) c

sound_entry : {ss : List ℕ} {c : ℕ} {es : List ℤ} (l : ℤ) → SizesFit ss → c ≤ max_clauses → ((k : ℤ) → In k es → var_of k ≤ vars_in ss)
    → count is_zero es < c → var_of l ≤ vars_in ss → Sound (entries_due ss c (es ++ l ∷ []))
sound_entry {ss} {c} {es} l w m f h u = go (is_zero l) refl
  where
    up_to : (k : ℤ) → In k es ⊎ In k (l ∷ []) → var_of k ≤ vars_in ss
    up_to k (inl i) = f k i
    up_to k (inr (Memᴰ.head e)) = rw e u
    up_to k (inr (Memᴰ.tail i)) = absurd (Memᴰ.not-nil i)

    made : ClausesOf (count is_zero (es ++ l ∷ [])) (es ++ l ∷ []) ⊎ (count is_zero (es ++ l ∷ []) < c) → count is_zero (es ++ l ∷ []) ≤ c
        → Sound (entries_due ss c (es ++ l ∷ []))
    made x y = at_entries w m x (λ k i. up_to k (Memᴰ.append_cases es i)) y

    go : (b : Bool) → is_zero l ≡ b → Sound (entries_due ss c (es ++ l ∷ []))
    go true e =
        let z : l ≡ pos 0 = eqz_sound l (pos 0) e in
        let n : count is_zero (es ++ l ∷ []) ≡ count is_zero es + 1 = count_append is_zero es (l ∷ []) ∙ ap (λ (b : Bool). count is_zero es + count_if b 0) e in
        made (inl (subst (λ (x : ℤ). ClausesOf (count is_zero (es ++ x ∷ [])) (es ++ x ∷ [])) (sym z) (clauses_of_ended es))) (omega arith)
    go false e =
        let n : count is_zero (es ++ l ∷ []) ≡ count is_zero es + 0 = count_append is_zero es (l ∷ []) ∙ ap (λ (b : Bool). count is_zero es + count_if b 0) e in
        made (inr (omega arith)) (omega arith)

clauses_of_nothing : (c : ℕ) → ClausesOf (count is_zero []) [] ⊎ (count is_zero [] < c)
clauses_of_nothing c = inl no_clause

sound_next : {p : Part} {l : ℤ} → Sound p → Fits p l → Sound (next p l)
sound_next at_groups (group_count (between {n} a b)) = at_sizes {n = n} {ss = []} (omega arith) no_sizes_fit
sound_next (at_sizes h w) (clause_count_lem (between {n} a b)) =
    at_entries {c = n} {es = []} w b (clauses_of_nothing n) (λ l i. absurd (Memᴰ.not-nil i)) (omega arith)
sound_next (at_sizes {ss = ss} h w) (size {n = g} (between {n} a b) v) =
    at_sizes {n = g} {ss = ss ++ n ∷ []} (omega (arith, length-append ss (n ∷ []))) (sizes_fit_snoc ss n w (omega arith) a b v)
sound_next (at_entries w m x f y) (entry {l = l} h u) = sound_entry l w m f h u

pub sound_of_passes : {p q : Part} {ts : List Piece} → Sound p → Passes p ts q → Sound q
sound_of_passes s passed = s
sound_of_passes s (pass w f h) = sound_of_passes (sound_next s f) h

-- ---- from a whole file to its grammar

pub text_of_whole : {entries sizes : ℕ} {text ss : List ℕ} {c : ℕ} {es : List ℤ} → WholeFile entries sizes text ss c es → GroupsText text ss c es
text_of_whole {text = text} {ss = ss} {c = c} {es = es} w = go (sound_of_passes at_groups w.passes)
  where
    said : SaidBy groups_due (all_tokens text) (entries_due ss c es)
    said = say_of_passes w.passes

    made : SizesFit ss → c ≤ max_clauses → ClausesOf c es → ((l : ℤ) → In l es → var_of l ≤ vars_in ss) → GroupsText text ss c es
    made s m x f =
        record {
          says = tokens_sound (subst (Say (all_tokens text)) (sym said.are) said.say);
          sizes_fit = s;
          exactly = x;
          clauses_fit = m;
          up_to = f;
          text_fits = w.begun.text_fits;
          list_clauses_fit = w.clauses_fit;
          list_entries_fit = w.list_fits;
        }

    go : Sound (entries_due ss c es) → GroupsText text ss c es
    go (at_entries s m (inl x) f y) =
        let same : count is_zero es ≡ c = omega (arith, w.complete) in made s m (subst (λ (n : ℕ). ClausesOf n es) same x) f
    go (at_entries s m (inr x) f y) = absurd (omega (arith, w.complete))

-- ---- and back

passes_entries : (ss : List ℕ) (c : ℕ) (es fs : List ℤ) {ts : List Piece} → Say ts fs
    → ((front : List ℤ) (l : ℤ) (back : List ℤ) → fs ≡ front ++ l ∷ back → count is_zero es + count is_zero front < c)
    → ((l : ℤ) → In l fs → var_of l ≤ vars_in ss) → Passes (entries_due ss c es) ts (entries_due ss c (es ++ fs))
passes_entries ss c es [] nothing h u = subst (λ (xs : List ℤ). Passes (entries_due ss c es) [] (entries_due ss c xs)) (sym (append-nil es)) passed
passes_entries ss c es (l ∷ fs) (one_more_lem {ts = ts} w y) h u =
    pass w (entry {c = c} {es = es} (omega (arith, h [] l fs refl)) (u l (Memᴰ.head refl)))
    (subst (λ (xs : List ℤ). Passes (entries_due ss c (es ++ l ∷ [])) ts (entries_due ss c xs)) (append_assoc es (l ∷ []) fs)
    (passes_entries ss c (es ++ l ∷ []) fs y
    (λ front k back e.
    omega (arith, h (l ∷ front) k back (ap (λ (xs : List ℤ). l ∷ xs) e), count_append is_zero es (l ∷ []), count_append is_zero (l ∷ []) front))
    (λ k i. u k (Memᴰ.tail i))))

module _ {c : ℕ} {es : List ℤ} (m : c ≤ max_clauses) (x : ClausesOf c es) where
  passes_sizes : (ss ns : List ℕ) {ts : List Piece} → Say ts (map pos ns ++ pos c ∷ es) → ((n : ℕ) → In n ns → (min_size ≤ n) × (n ≤ max_size))
      → vars_in ss + vars_in ns ≤ max_vars → ((l : ℤ) → In l es → var_of l ≤ vars_in (ss ++ ns))
      → Passes (sizes_due (length ns) ss) ts (entries_due (ss ++ ns) c es)
  passes_sizes ss [] (one_more_lem {t = t} {ts = ts} w y) h v u =
      subst (λ (xs : List ℕ). Passes (sizes_due 0 ss) (t ∷ ts) (entries_due xs c es)) (sym (append-nil ss))
      (pass {t = t} w (clause_count_lem (between {n = c} (omega arith) m))
      (passes_entries ss c [] es y (λ front l back e. omega (arith, not_behind_of_clauses_of x front l back e))
      (λ l i. omega (arith, u l i, ap vars_in (append-nil ss)))))
  passes_sizes ss (n ∷ ns) (one_more_lem {ts = ts} w y) h v u =
      let (a, b) = h n (Memᴰ.head refl) in
      pass w (size {sizes = ss} (between a b) (omega arith))
      (subst (λ (xs : List ℕ). Passes (sizes_due (length ns) (ss ++ n ∷ [])) ts (entries_due xs c es)) (append_assoc ss (n ∷ []) ns)
      (passes_sizes (ss ++ n ∷ []) ns y (λ k i. h k (Memᴰ.tail i)) (omega (arith, sum_of_append (λ (k : ℕ). k) ss (n ∷ [])))
      (λ l i. omega (arith, u l i, ap vars_in (append_assoc ss (n ∷ []) ns)))))

pub whole_of_text : (entries sizes : ℕ) {text ss : List ℕ} {c : ℕ} {es : List ℤ} → max_entries ≤ entries → max_groups ≤ sizes → GroupsText text ss c es
    → WholeFile entries sizes text ss c es
whole_of_text entries sizes {text} {ss} {c} {es} h k g =
    record {
      begun = record { entries_fit = h; sizes_fit = k; text_fits = g.text_fits };
      passes = go (all_tokens text) (tokens_complete g.says);
      complete = omega (arith, count_clauses_of g.exactly);
      clauses_fit = g.list_clauses_fit;
      list_fits = g.list_entries_fit;
    }
  where
    go : (ts : List Piece) → Say ts (file_numbers ss c es) → Passes groups_due ts (entries_due ss c es)
    go [] y = elim y [ ]
    go (t ∷ ts) (one_more_lem w y) =
        pass w (group_count (between {n = length ss} (omega arith) g.sizes_fit.groups_fit))
        (passes_sizes g.clauses_fit g.exactly [] ss y g.sizes_fit.each_fits (omega (arith, g.sizes_fit.vars_fit)) g.up_to)
