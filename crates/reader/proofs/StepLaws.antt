-- The laws of one step over the tokens (specs/Steps): the entry as a signed number, the step as src/tokens.rt takes it, and what
-- the text is judged to after it.
--
--   held, value_back              the entry as the machine holds it
--   var_is, zero_is               its variable, and whether it closes a clause
--   step_short, step_end          the step at the end of text
--   step_percent, step_bad, step_entry     at a closing `%`, at a malformed token, at an entry
--   step_of                       a step that is another
--
-- Assumes nothing.
use mathlib.Core.Path.{◌≡◌, refl, sym, ◌∙◌, ap, subst}
use mathlib.Core.Bool.{Bool, true, false}
use mathlib.Core.List.{List}
use mathlib.Core.Option.{Option as Maybe, none, some}
use Prim.Native.Nat.{ℕ, zero, suc, ◌+◌, ◌-◌, ◌≤◌, ◌<◌}
use native.Mathlib.Omega.{arith}
use native.Mathlib.Numerals.{add-one}
use borrow.Author.Tests.{leb-false, ltb-false, lt-ltb, le-ltb}
use lib.Dec.{eqb, leb, ltb, eqb-suc-zero}
use lib.IntN.{ℤ, pos, negsuc, nat_abs}
use lib.ListN.{length, take, drop, drop_of_length-le}
use mir.Syntax.{w32}
use mir.Val.{to_z, of_z}
use Rattle.std.specs.Prelude.{None, Some, Ok, Err}
use Rattle.rules.specs.declared.ReadAnswer.{ReadAnswer}
use Rattle.rules.specs.Lists.{first_of, or_next, count_if, is_zero}
use Rattle.rules.specs.Numbers.{max_entries}
use Rattle.texts.specs.Text.{is_blank, tokens_from, entry_of}
use Rattle.texts.specs.Reading.{Judged, unless, entry_rules, with_entry, judge_token, judge_end, ends_text, or_ended, judge_tokens}
use Rattle.reader.specs.declared.token.Entry.{Entry}
use Rattle.reader.specs.declared.header.Header.{Header}
use Rattle.reader.specs.declared.tokens.Cursor.{Cursor}
use Rattle.reader.specs.Scan.{first_from}
use Rattle.reader.specs.Words.{signed_value, max_number, value_of, token_of, sizes}
use Rattle.reader.specs.Skips.{Skips}
use Rattle.reader.specs.Steps.{Step, step_if, entry_step, left, Judges, Steps}
use Rattle.rules.proofs.ListLaws.{apart}
use Rattle.rules.proofs.BitLaws.{to_z-of_z_at}
use Rattle.texts.proofs.BodyLaws.{tokens_nil}
use Rattle.reader.proofs.ScanLaws.{from_le}
use Rattle.reader.proofs.SkipLaws.{tokens_here, token_lt}
use Rattle.reader.proofs.TokenLaws.{bad_of_token, entry_of_token}

-- ---- its variable, and whether it closes a clause

pub var_is : (e : Entry) → nat_abs (value_of e) ≡ e.number
var_is e = go e.minus e.number
  where
    go : (t : Bool) (n : ℕ) → nat_abs (signed_value t n) ≡ n
    go true zero = refl
    go true (suc n) = refl
    go false n = refl

pub zero_is : (e : Entry) → is_zero (value_of e) ≡ eqb e.number 0
zero_is e = go e.minus e.number
  where
    go : (t : Bool) (n : ℕ) → is_zero (signed_value t n) ≡ eqb n 0
    go true zero = refl
    go true (suc n) = sym (eqb-suc-zero n)
    go false n = refl

-- ---- the entry as the machine holds it

pub held : (l : ℤ) → nat_abs l ≤ max_number → to_z w32 (of_z w32 l) ≡ l
held (pos n) h = to_z-of_z_at (pos n) (record { sfits = omega arith })
held (negsuc n) h = to_z-of_z_at (negsuc n) (record { sfits = omega arith })

pub value_back : (e : Entry) → e.number ≤ max_number → to_z w32 (of_z w32 (value_of e)) ≡ value_of e
value_back e h = held (value_of e) (omega (arith, var_is e))

-- ---- the step at the cursor

no_rule : (b : Bool) (a : ReadAnswer) (o : Maybe ReadAnswer) → or_next b a o ≡ none → (b ≡ false) × (o ≡ none)
no_rule true a o e = apart cc
no_rule false a o e = (refl, e)

module _ (h : Header) (text : List ℕ) (c : Cursor) where
  -- an entry that no rule refuses: there is room for it, and its variable is not above V
  kept :
      (l : ℤ) (from : ℕ) → first_of (entry_rules (sizes h) c.clauses c.entries from l) ≡ none →
      (c.entries < max_entries) × (nat_abs l ≤ h.vars)
  kept l from e =
      let one = (no_rule (leb h.clauses c.clauses) (ReadAnswer.TokenBehind from) _ e).1 in
      let two = no_rule (ltb h.vars (nat_abs l)) (ReadAnswer.TokenOverVars from) _ one in (
        leb-false max_entries c.entries (no_rule (leb max_entries c.entries) (ReadAnswer.ManyTokens from) none two.1).0,
        ltb-false h.vars (nat_abs l) two.0,
      )

  -- `from` is where the next token would begin
  module _ (from : ℕ) (s : Skips text c.at from) where
    -- no token is left
    module _ (e : length text ≤ from) where
      none_left : left h text c ≡ judge_end (ltb c.clauses h.clauses) (sizes h) (length text)
      unfolding judge_tokens
      none_left =
          ap (judge_tokens (sizes h) (length text) c.clauses c.entries)
          (sym s.passed.same ∙ ap (tokens_from from) (drop_of_length-le text e) ∙ tokens_nil from)

      pub step_short : c.clauses < h.clauses → Steps h text c (Err (ReadAnswer.ShortText (length text)))
      step_short k = record { judges = none_left ∙ ap (λ (t : Bool). judge_end t (sizes h) (length text)) (lt-ltb c.clauses h.clauses k) }

      pub step_end : h.clauses ≤ c.clauses → Steps h text c (Ok None)
      step_end k = record { judges = none_left ∙ ap (λ (t : Bool). judge_end t (sizes h) (length text)) (le-ltb c.clauses h.clauses k) }

    -- one stands up to `to`
    module _ (to : ℕ) (e : to ≡ first_from is_blank text from) (l : from < length text) where
      abbrev word : List ℕ
      word = take (to - from) (drop from text)

      abbrev later : ℕ → Judged
      later k = judge_tokens (sizes h) (length text) k (suc c.entries) (tokens_from to (drop to text))

      token_left :
          left h text c
          ≡ or_ended (ends_text (sizes h) c.clauses word) (sizes h) (judge_token (entry_of word) (sizes h) c.clauses c.entries from (λ k. later k))
      unfolding judge_tokens
      token_left =
          ap (judge_tokens (sizes h) (length text) c.clauses c.entries)
          (sym s.passed.same ∙ tokens_here text from to l (s.no_blank l) e)

      pub step_percent : ends_text (sizes h) c.clauses word ≡ true → Steps h text c (Ok None)
      step_percent t = record { judges = token_left ∙ rw t }

      judged : ends_text (sizes h) c.clauses word ≡ false → {o : Maybe ℤ} → entry_of word ≡ o
          → left h text c ≡ judge_token o (sizes h) c.clauses c.entries from (λ k. later k)
      judged t q = token_left ∙ rw (t, q)

      pub step_bad :
          ends_text (sizes h) c.clauses word ≡ false → token_of (entry_of word) ≡ None → Steps h text c (Err (ReadAnswer.BadToken from))
      step_bad t q = record { judges = judged t (bad_of_token (entry_of word) q) }

      entry_says :
          (x : ℤ) (o : Maybe ReadAnswer) → first_of (entry_rules (sizes h) c.clauses c.entries from x) ≡ o →
          Judges h text c
          (unless o (with_entry x (later (count_if (is_zero x) c.clauses))))
          (step_if o (Ok (Some (x, record { at = to; clauses = count_if (is_zero x) c.clauses; entries = c.entries + 1 }))))
      entry_says x none q = record {
        judged =
            ap (λ (n : ℕ). with_entry x (judge_tokens (sizes h) (length text) (count_if (is_zero x) c.clauses) n (tokens_from to (drop to text))))
            (sym (add-one c.entries));
        onward = omega (arith, s.passed.onward, token_lt text from to l (s.no_blank l) e);
        within = omega (arith, e, from_le is_blank text from (omega arith));
        count = refl;
        room = (kept x from q).0;
        var = (kept x from q).1;
      }
      entry_says x (some a) q = refl

      pub step_entry :
          (en : Entry) → ends_text (sizes h) c.clauses word ≡ false → token_of (entry_of word) ≡ Some en →
          Steps h text c (entry_step h c from to (value_of en))
      step_entry en t q = record {
        judges =
            subst (λ (j : Judged). Judges h text c j (entry_step h c from to (value_of en))) (sym (judged t (entry_of_token (entry_of word) en q)))
            (entry_says (value_of en) (first_of (entry_rules (sizes h) c.clauses c.entries from (value_of en))) refl);
      }

pub step_of : {h : Header} {text : List ℕ} {c : Cursor} {r step : Step} → r ≡ step → Steps h text c step → Steps h text c r
step_of {h} {text} {c} e s = subst (Steps h text c) (sym e) s
