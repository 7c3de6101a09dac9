-- The judgement of a file of groups (specs/GroupsReading): each text is refused by a rule of specs/GroupsRefusals or is a whole file, and
-- the judgement says which.
--
--   between_sound, between_complete, between_none     a number from low to high
--   Cases, cases                  all tokens pass, or one is the first to be refused
--   WholeFile                     a text with nothing to refuse
--   GroupsVerdict                 refused by a rule, or whole
--   judge_of_verdict, verdict_of_judge     the judgement is the verdict
--
-- Assumes nothing.
use mathlib.Core.Path.{◌≡◌, refl, sym, ◌∙◌, ap, subst}
use mathlib.Core.Logic.{◌⊎◌, inl, inr}
use mathlib.Core.Bool.{Bool, true, false, ◌||◌}
use mathlib.Core.List.{List, [], ◌∷◌, ◌++◌, append-nil}
use mathlib.Core.Option.{Option, none, some}
use Prim.Native.Nat.{ℕ, zero, suc, ◌+◌, ◌≤◌, ◌<◌}
use lib.Dec.{leb, ltb}
use lib.IntN.{ℤ, pos, negsuc}
use lib.ListN.{length}
use borrow.Author.Tests.{leb-true, le-leb, lt-leb, lt-ltb, le-ltb}
use Rattle.texts.specs.Tokens.{all_tokens}
use Rattle.rules.specs.declared.GroupsAnswer.{GroupsAnswer}
use Rattle.rules.specs.Lists.{count, check, first_of, is_zero}
use Rattle.rules.specs.Numbers.{max_text, max_vars, max_clauses, max_entries}
use Rattle.rules.specs.Meaning.{var_of}
use Rattle.texts.specs.Text.{Piece, entry_of}
use Rattle.texts.specs.Grammar.{Token}
use Rattle.texts.specs.Groups.{max_groups, min_size, max_size, vars_in, expanded_entries}
use Rattle.texts.specs.GroupsReading.{Part, groups_due, sizes_due, entries_due, next, is_between, GroupsJudged, accepted, refused, clauses_in, is_long}
use Rattle.texts.specs.GroupsReading.{unless, judge_parts, judge_groups}
use Rattle.texts.specs.GroupsRefusals.{GroupsBegun, Between, between, Fits, group_count, clause_count_lem, size, entry, Passes, passed, pass}
use Rattle.texts.specs.GroupsRefusals.{Stops, bad_token, bad_groups, bad_size, many_vars, many_clauses, token_behind, token_over_vars}
use Rattle.texts.specs.GroupsRefusals.{Unfinished, no_groups, no_sizes, no_clauses, GroupsRefuses, short_buffer, long_text}
use Rattle.texts.specs.GroupsRefusals.{at_token, short_text, long_list}
use Rattle.rules.proofs.ListLaws.{le_or_lt, both, never, not-true, and_left, and_right}
use Rattle.texts.proofs.TokenLaws.{not_none, entry_sound, entry_complete, entry_none}

-- ---- a number from low to high

pub between_sound : (low high : ℕ) (l : ℤ) → is_between low high l ≡ true → Between low high l
between_sound low high (pos n) h =
    between (leb-true low n (and_left (leb low n) (leb n high) h)) (leb-true n high (and_right (leb low n) (leb n high) h))
between_sound low high (negsuc n) h = absurd (never h refl)

pub between_complete : {low high : ℕ} {l : ℤ} → Between low high l → is_between low high l ≡ true
between_complete {low} {high} (between {n} a b) = rw (le-leb low n a) (le-leb n high b)

pub between_none : (low high : ℕ) (l : ℤ) → (Between low high l → ⊥) → is_between low high l ≡ false
between_none low high l f = not-true (is_between low high l) (λ e. f (between_sound low high l e))

between_cases : (low high : ℕ) (l : ℤ) → Between low high l ⊎ (Between low high l → ⊥)
between_cases low high l = go (both (is_between low high l))
  where
    go : (is_between low high l ≡ true) ⊎ (is_between low high l ≡ false) → Between low high l ⊎ (Between low high l → ⊥)
    go (inl e) = inl (between_sound low high l e)
    go (inr e) = inr (λ b. never (between_complete b) e)

-- ---- one token: it passes, or is refused

data TokenCases (p : Part) (t : Piece) : Type 0 where
  fits : (l : ℤ) → Token t.bytes l → Fits p l → TokenCases p t
  stops : (a : GroupsAnswer) → Stops p t a → TokenCases p t

module _ (t : Piece) (l : ℤ) (w : Token t.bytes l) where
  number_cases : (p : Part) → TokenCases p t
  number_cases groups_due = go (between_cases 0 max_groups l)
    where
      go : Between 0 max_groups l ⊎ (Between 0 max_groups l → ⊥) → TokenCases groups_due t
      go (inl b) = fits l w (group_count b)
      go (inr f) = stops (GroupsAnswer.BadGroup t.at) (bad_groups w f)
  number_cases (sizes_due zero sizes) = go (between_cases 0 max_clauses l)
    where
      go : Between 0 max_clauses l ⊎ (Between 0 max_clauses l → ⊥) → TokenCases (sizes_due zero sizes) t
      go (inl b) = fits l w (clause_count_lem b)
      go (inr f) = stops (GroupsAnswer.OverSizes t.at) (many_clauses w f)
  number_cases (sizes_due (suc n) sizes) = go (between_cases min_size max_size l) (le_or_lt (vars_in sizes + var_of l) max_vars)
    where
      go : Between min_size max_size l ⊎ (Between min_size max_size l → ⊥) → (vars_in sizes + var_of l ≤ max_vars) ⊎ (max_vars < vars_in sizes + var_of l)
          → TokenCases (sizes_due (suc n) sizes) t
      go (inl b) (inl h) = fits l w (size b h)
      go (inl b) (inr h) = stops (GroupsAnswer.OverSizes t.at) (many_vars w b h)
      go (inr f) h = stops (GroupsAnswer.BadGroup t.at) (bad_size w f)
  number_cases (entries_due sizes c es) = go (le_or_lt c (count is_zero es)) (le_or_lt (var_of l) (vars_in sizes))
    where
      go : (c ≤ count is_zero es) ⊎ (count is_zero es < c) → (var_of l ≤ vars_in sizes) ⊎ (vars_in sizes < var_of l) → TokenCases (entries_due sizes c es) t
      go (inl h) u = stops (GroupsAnswer.TokenBehind t.at) (token_behind w h)
      go (inr h) (inl u) = fits l w (entry h u)
      go (inr h) (inr u) = stops (GroupsAnswer.TokenOverVars t.at) (token_over_vars w h u)

token_cases : (p : Part) (t : Piece) → TokenCases p t
token_cases p t = go (entry_of t.bytes) refl
  where
    go : (o : Option ℤ) → entry_of t.bytes ≡ o → TokenCases p t
    go none e = stops (GroupsAnswer.BadToken t.at) (bad_token (λ l w. not_none (entry_complete w) e))
    go (some l) e = number_cases t l (entry_sound t.bytes e) p

-- ---- all tokens

-- the first token that is refused
pub record Stopped (p : Part) (ts : List Piece) : Type 0 where
  pub before : List Piece
  pub token : Piece
  pub after : List Piece
  pub part : Part
  pub answer : GroupsAnswer
  pub tokens : ts ≡ before ++ token ∷ after
  pub passes : Passes p before part
  pub stop : Stops part token answer

pub data Cases (p : Part) (ts : List Piece) : Type 0 where
  all_pass_lem : (q : Part) → Passes p ts q → Cases p ts
  one_stops : Stopped p ts → Cases p ts

pub cases : (p : Part) (ts : List Piece) → Cases p ts
cases p [] = all_pass_lem p passed
cases p (t ∷ ts) = go (token_cases p t) (λ q. cases q ts)
  where
    later : (l : ℤ) → Token t.bytes l → Fits p l → Cases (next p l) ts → Cases p (t ∷ ts)
    later l w f (all_pass_lem q h) = all_pass_lem q (pass w f h)
    later l w f (one_stops d) =
        one_stops (record {
          before = t ∷ d.before;
          token = d.token;
          after = d.after;
          part = d.part;
          answer = d.answer;
          tokens = ap (λ (xs : List Piece). t ∷ xs) d.tokens;
          passes = pass w f d.passes;
          stop = d.stop;
        })

    go : TokenCases p t → ((q : Part) → Cases q ts) → Cases p (t ∷ ts)
    go (fits l w f) ih = later l w f (ih (next p l))
    go (stops a h) ih =
        one_stops (record { before = []; token = t; after = ts; part = p; answer = a; tokens = refl; passes = passed; stop = h })

-- ---- what the judgement is

module _ (end : ℕ) where
  judge_fits : {p : Part} (t : Piece) {l : ℤ} (ts : List Piece) → Token t.bytes l → Fits p l
      → judge_parts end p (t ∷ ts) ≡ judge_parts end (next p l) ts
  unfolding judge_parts
  judge_fits t {l = l} ts w (group_count b) = rw (entry_complete w, between_complete b)
  judge_fits t {l = l} ts w (clause_count_lem b) = rw (entry_complete w, between_complete b)
  judge_fits t {l = l} ts w (size {sizes = sizes} b h) = rw (entry_complete w, between_complete b, le-ltb max_vars (vars_in sizes + var_of l) h)
  judge_fits t {l = l} ts w (entry {sizes = sizes} {c = c} {es = es} h u) =
      rw (entry_complete w, lt-leb c (count is_zero es) h, le-ltb (vars_in sizes) (var_of l) u)

  judge_passes : {p q : Part} {ts : List Piece} (rest : List Piece) → Passes p ts q → judge_parts end p (ts ++ rest) ≡ judge_parts end q rest
  judge_passes rest passed = refl
  judge_passes rest (pass {t = t} {ts = ts} w f h) = judge_fits t (ts ++ rest) w f ∙ judge_passes rest h

  judge_stops : {p : Part} {t : Piece} {a : GroupsAnswer} (ts : List Piece) → Stops p t a → judge_parts end p (t ∷ ts) ≡ refused a
  unfolding judge_parts
  judge_stops {t = t} ts (bad_token f) = rw (entry_none t.bytes f)
  judge_stops ts (bad_groups {l = l} w f) = rw (entry_complete w, between_none 0 max_groups l f)
  judge_stops ts (bad_size {l = l} w f) = rw (entry_complete w, between_none min_size max_size l f)
  judge_stops ts (many_vars {sizes = sizes} {l = l} w b h) = rw (entry_complete w, between_complete b, lt-ltb max_vars (vars_in sizes + var_of l) h)
  judge_stops ts (many_clauses {l = l} w f) = rw (entry_complete w, between_none 0 max_clauses l f)
  judge_stops ts (token_behind {c = c} {es = es} w h) = rw (entry_complete w, le-leb c (count is_zero es) h)
  judge_stops ts (token_over_vars {sizes = sizes} {c = c} {es = es} {l = l} w h u) =
      rw (entry_complete w, lt-leb c (count is_zero es) h, lt-ltb (vars_in sizes) (var_of l) u)

  judge_ends : {p q : Part} {ts : List Piece} → Passes p ts q → judge_parts end p ts ≡ judge_parts end q []
  judge_ends {p} {ts = ts} h = ap (judge_parts end p) (sym (append-nil ts)) ∙ judge_passes [] h

  judge_unfinished : {p : Part} → Unfinished p → judge_parts end p [] ≡ refused (GroupsAnswer.ShortText end)
  unfolding judge_parts
  judge_unfinished no_groups = refl
  judge_unfinished no_sizes = refl
  judge_unfinished (no_clauses {c = c} {es = es} h) = rw (lt-ltb (count is_zero es) c h)

  judge_long : (ss : List ℕ) (c : ℕ) (es : List ℤ) → c ≤ count is_zero es → is_long ss c es ≡ true
      → judge_parts end (entries_due ss c es) [] ≡ refused GroupsAnswer.LongList
  unfolding judge_parts
  judge_long ss c es h k = rw (le-ltb (count is_zero es) c h, k)

  judge_fitting : (ss : List ℕ) (c : ℕ) (es : List ℤ) → c ≤ count is_zero es → is_long ss c es ≡ false
      → judge_parts end (entries_due ss c es) [] ≡ accepted ss c es
  unfolding judge_parts
  judge_fitting ss c es h k = rw (le-ltb (count is_zero es) c h, k)

long_true : (ss : List ℕ) (c : ℕ) (es : List ℤ) → (max_clauses < clauses_in ss c) ⊎ (max_entries < length (expanded_entries ss es)) → is_long ss c es ≡ true
long_true ss c es (inl h) = rw (lt-ltb max_clauses (clauses_in ss c) h)
long_true ss c es (inr h) = go (ltb max_clauses (clauses_in ss c))
  where
    go : (b : Bool) → (b || ltb max_entries (length (expanded_entries ss es))) ≡ true
    go true = refl
    go false = lt-ltb max_entries (length (expanded_entries ss es)) h

-- ---- the verdict

pub record WholeFile (entries sizes : ℕ) (text : List ℕ) (ss : List ℕ) (c : ℕ) (es : List ℤ) : Type 0 where
  pub begun : GroupsBegun entries sizes text
  pub passes : Passes groups_due (all_tokens text) (entries_due ss c es)
  pub complete : c ≤ count is_zero es
  pub clauses_fit : clauses_in ss c ≤ max_clauses
  pub list_fits : length (expanded_entries ss es) ≤ max_entries

pub data GroupsVerdict (entries sizes : ℕ) (text : List ℕ) : GroupsJudged → Type 0 where
  refuses : {a : GroupsAnswer} → GroupsRefuses entries sizes text a → GroupsVerdict entries sizes text (refused a)
  accepts : {ss : List ℕ} {c : ℕ} {es : List ℤ} → WholeFile entries sizes text ss c es → GroupsVerdict entries sizes text (accepted ss c es)

module _ {entries sizes : ℕ} {text : List ℕ} where
  judge-begun : GroupsBegun entries sizes text → judge_groups entries sizes text ≡ judge_parts (length text) groups_due (all_tokens text)
  unfolding judge_groups
  judge-begun b = rw (le-ltb entries max_entries b.entries_fit, le-ltb sizes max_groups b.sizes_fit, le-ltb max_text (length text) b.text_fits)

  judge_of_refuses : {a : GroupsAnswer} → GroupsRefuses entries sizes text a → judge_groups entries sizes text ≡ refused a
  unfolding judge_groups
  judge_of_refuses (short_buffer (inl h)) = rw (lt-ltb entries max_entries h)
  judge_of_refuses (short_buffer (inr h)) = go (ltb entries max_entries)
    where
      go : (b : Bool) → unless
          (first_of (check (b || ltb sizes max_groups) GroupsAnswer.ShortBuffer ∷ check (ltb max_text (length text)) GroupsAnswer.LongText ∷ []))
          (judge_parts (length text) groups_due (all_tokens text)) ≡ refused GroupsAnswer.ShortBuffer
      go true = refl
      go false = rw (lt-ltb sizes max_groups h)
  judge_of_refuses (long_text h k l) = rw (le-ltb entries max_entries h, le-ltb sizes max_groups k, lt-ltb max_text (length text) l)
  judge_of_refuses (at_token before t after b e p s) =
      judge-begun b ∙ ap (judge_parts (length text) groups_due) e ∙ judge_passes (length text) (t ∷ after) p ∙ judge_stops (length text) after s
  judge_of_refuses (short_text b p u) = judge-begun b ∙ judge_ends (length text) p ∙ judge_unfinished (length text) u
  judge_of_refuses (long_list {ss} {c} {es} b p h k) =
      judge-begun b ∙ judge_ends (length text) p ∙ judge_long (length text) ss c es h (long_true ss c es k)

  pub judge_of_verdict : {j : GroupsJudged} → GroupsVerdict entries sizes text j → judge_groups entries sizes text ≡ j
  judge_of_verdict (refuses r) = judge_of_refuses r
  judge_of_verdict (accepts {ss} {c} {es} w) =
      judge-begun w.begun ∙ judge_ends (length text) w.passes ∙
      judge_fitting (length text) ss c es w.complete
      (rw (le-ltb max_clauses (clauses_in ss c) w.clauses_fit) (le-ltb max_entries (length (expanded_entries ss es)) w.list_fits))

module _ (entries sizes : ℕ) (text : List ℕ) where
  abbrev Judgement : Type 0
  Judgement = (j : GroupsJudged) × GroupsVerdict entries sizes text j

  verdict_of_end : GroupsBegun entries sizes text → (q : Part) → Passes groups_due (all_tokens text) q → Judgement
  verdict_of_end b groups_due p = (refused (GroupsAnswer.ShortText (length text)), refuses (short_text b p no_groups))
  verdict_of_end b (sizes_due n ss) p = (refused (GroupsAnswer.ShortText (length text)), refuses (short_text b p no_sizes))
  verdict_of_end b (entries_due ss c es) p =
      go (le_or_lt c (count is_zero es)) (le_or_lt (clauses_in ss c) max_clauses) (le_or_lt (length (expanded_entries ss es)) max_entries)
    where
      go : (c ≤ count is_zero es) ⊎ (count is_zero es < c) → (clauses_in ss c ≤ max_clauses) ⊎ (max_clauses < clauses_in ss c)
          → (length (expanded_entries ss es) ≤ max_entries) ⊎ (max_entries < length (expanded_entries ss es)) → Judgement
      go (inr h) k l = (refused (GroupsAnswer.ShortText (length text)), refuses (short_text b p (no_clauses h)))
      go (inl h) (inr k) l = (refused GroupsAnswer.LongList, refuses (long_list b p h (inl k)))
      go (inl h) (inl k) (inr l) = (refused GroupsAnswer.LongList, refuses (long_list b p h (inr l)))
      go (inl h) (inl k) (inl l) =
          (accepted ss c es, accepts (record { begun = b; passes = p; complete = h; clauses_fit = k; list_fits = l }))

  verdict_exists : Judgement
  verdict_exists = go (le_or_lt max_entries entries) (le_or_lt max_groups sizes) (le_or_lt (length text) max_text)
    where
      tokens : GroupsBegun entries sizes text → Cases groups_due (all_tokens text) → Judgement
      tokens b (all_pass_lem q p) = verdict_of_end b q p
      tokens b (one_stops d) = (refused d.answer, refuses (at_token d.before d.token d.after b d.tokens d.passes d.stop))

      go : (max_entries ≤ entries) ⊎ (entries < max_entries) → (max_groups ≤ sizes) ⊎ (sizes < max_groups)
          → (length text ≤ max_text) ⊎ (max_text < length text) → Judgement
      go (inr h) k l = (refused GroupsAnswer.ShortBuffer, refuses (short_buffer (inl h)))
      go (inl h) (inr k) l = (refused GroupsAnswer.ShortBuffer, refuses (short_buffer (inr k)))
      go (inl h) (inl k) (inr l) = (refused GroupsAnswer.LongText, refuses (long_text h k l))
      go (inl h) (inl k) (inl l) = tokens (record { entries_fit = h; sizes_fit = k; text_fits = l }) (cases groups_due (all_tokens text))

  pub verdict_of_judge : {j : GroupsJudged} → judge_groups entries sizes text ≡ j → GroupsVerdict entries sizes text j
  verdict_of_judge e = let v = verdict_exists in subst (GroupsVerdict entries sizes text) (sym (judge_of_verdict v.1) ∙ e) v.1
