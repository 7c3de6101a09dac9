-- The laws of texts of tokens alone (specs/Tokens), and of numbers written plainly (specs/Claims).
--
--   tokens_sound, tokens_complete     tokens that say numbers, and a text of these tokens
--   tokens_plain                  numbers written plainly are a text that says them
--   length-plain_numbers           each takes two bytes at least
--
-- Assumes nothing.
use mathlib.Core.Path.{refl, sym, subst}
use mathlib.Core.List.Memᴰ
use mathlib.Core.List.{List, [], ◌∷◌}
use Prim.Native.Nat.{ℕ, ◌+◌, ◌*◌, ◌^◌, ◌≤◌, ◌<◌}
use native.Mathlib.Omega.{arith}
use lib.IntN.{ℤ, pos, negsuc}
use lib.ListN.{length, length-append}
use Rattle.rules.specs.Lists.{In}
use Rattle.rules.specs.Meaning.{var_of}
use Rattle.texts.specs.Text.{is_blank, Piece}
use Rattle.texts.specs.Grammar.{IsBlank, TokenEnd}
use Rattle.texts.specs.Plain.{plain_entry}
use Rattle.texts.specs.Refusals.{Say, nothing, one_more_lem}
use Rattle.texts.specs.Tokens.{all_tokens, Tokens}
use Rattle.texts.specs.Claims.{plain_numbers}
use Rattle.texts.proofs.ByteLaws.{blanks_sound, blanks_complete}
use Rattle.texts.proofs.CutLaws.{cut_exists, Words, none, word, words_of_cut, words_unique}
use Rattle.texts.proofs.TokenLaws.{word_of_token}
use Rattle.texts.proofs.GrammarLaws.{no_blanks, blanks_cons, stops_of_ended, ended_of_stops}
use Rattle.texts.proofs.DecimalLaws.{decimal_some}
use Rattle.texts.proofs.PlainLaws.{token_plain_entry}

-- ---- tokens alone

tokens_of_words : {at : ℕ} {xs : List ℕ} {ts : List Piece} {ls : List ℤ} → Words is_blank at xs ts → Say ts ls → Tokens xs ls
tokens_of_words (none {bs = bs} h) nothing = Tokens.blanks (blanks_sound bs h)
tokens_of_words (word bs h k i j s r) (one_more_lem w y) = Tokens.token (blanks_sound bs h) w (ended_of_stops s) (tokens_of_words r y)

record Found (at : ℕ) (xs : List ℕ) (ls : List ℤ) : Type 0 where
  tokens : List Piece
  words : Words is_blank at xs tokens
  say : Say tokens ls

words_of_tokens : (at : ℕ) {xs : List ℕ} {ls : List ℤ} → Tokens xs ls → Found at xs ls
words_of_tokens at (Tokens.blanks h) = record { tokens = []; words = none (blanks_complete h); say = nothing }
words_of_tokens at (Tokens.token {bs} {w} h t e y) =
    let f = words_of_tokens (at + length bs + length w) y in
    record {
      tokens = record { at = at + length bs; bytes = w } ∷ f.tokens;
      words = word bs (blanks_complete h) (word_of_token t) refl refl (stops_of_ended e) f.words;
      say = one_more_lem t f.say;
    }

pub tokens_sound : {text : List ℕ} {ls : List ℤ} → Say (all_tokens text) ls → Tokens text ls
tokens_sound {text} y = tokens_of_words (words_of_cut is_blank 0 (cut_exists is_blank text)) y

pub tokens_complete : {text : List ℕ} {ls : List ℤ} → Tokens text ls → Say (all_tokens text) ls
tokens_complete {text} {ls} y =
    let f = words_of_tokens 0 y in subst (λ (ts : List Piece). Say ts ls) (sym (words_unique is_blank f.words)) f.say

-- ---- numbers written plainly

tokens_blank : {b : ℕ} {bs : List ℕ} {ls : List ℤ} → IsBlank b → Tokens bs ls → Tokens (b ∷ bs) ls
tokens_blank e (Tokens.blanks h) = Tokens.blanks (blanks_cons e h)
tokens_blank e (Tokens.token h w d y) = Tokens.token (blanks_cons e h) w d y

pub tokens_plain : (ls : List ℤ) → ((l : ℤ) → In l ls → var_of l < 10 ^ 9) → Tokens (plain_numbers ls) ls
tokens_plain [] h = Tokens.blanks no_blanks
tokens_plain (l ∷ ls) h =
    Tokens.token no_blanks (token_plain_entry l (h l (Memᴰ.head refl))) (TokenEnd.at_blank IsBlank.space)
    (tokens_blank IsBlank.space (tokens_plain ls (λ k i. h k (Memᴰ.tail i))))

length_entry : (l : ℤ) → 1 ≤ length (plain_entry l)
length_entry (pos n) = decimal_some n
length_entry (negsuc n) = omega arith

pub length-plain_numbers : (ls : List ℤ) → 2 * length ls ≤ length (plain_numbers ls)
length-plain_numbers [] = omega arith
length-plain_numbers (l ∷ ls) = omega (arith, length-append (plain_entry l) (32 ∷ plain_numbers ls), length_entry l, length-plain_numbers ls)
