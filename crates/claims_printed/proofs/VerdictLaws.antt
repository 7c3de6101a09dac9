-- The laws of the printed verdict: its line as it is put, how long it is, what a reading leaves, and the contract.
--
--   accepted_line     the fields as they are put are the line
--   length-claims_text_of     no line is longer than 64 bytes
--   read_list, list_text, read_line     what a reading leaves: an entry list, or a refusal
--   prints_short, whole_room, prints_verdict     the contract, in a short buffer and in others
--   prints_claims_unique, prints_le     no second result meets it; how many bytes are put at most
--
-- Assumes nothing.
use mathlib.Core.Path.{◌≡◌, refl, sym, ◌∙◌, ap}
use mathlib.Core.Logic.{◌≢◌}
use mathlib.Core.Bool.{Bool, true, false}
use mathlib.Core.List.Memᴰ
use mathlib.Core.List.{List, [], ◌∷◌, ◌++◌, map, append_assoc}
use mathlib.Core.Option.{Option}
use Prim.Native.Nat.{ℕ, ◌≤◌, ◌<◌}
use native.Mathlib.Omega.{arith}
use lib.Dec.{leb}
use lib.IntN.{ℤ, pos}
use lib.ListN.{length, take, length-append}
use Rattle.rules.specs.declared.ReadAnswer.{ReadAnswer}
use Rattle.rules.specs.declared.Reading.{Reading}
use Rattle.rules.specs.declared.Refusal.{Refusal}
use Rattle.rules.specs.declared.ClaimsAnswer.{ClaimsAnswer}
use Rattle.rules.specs.Lists.{joined}
use Rattle.rules.specs.Numbers.{max_text, max_entries, read_number, read_place, refusal_number, refusal_place, claims_place}
use Rattle.rules.specs.Meaning.{Values}
use Rattle.texts.specs.Text.{Sizes}
use Rattle.texts.specs.Reading.{Judged, accepted, refused, judge, Reads}
use Rattle.texts.specs.Grammar.{Token, Dimacs}
use Rattle.texts.specs.Plain.{decimal}
use Rattle.texts.specs.Printed.{refused_line, count_if_room}
use Rattle.rules.specs.RunRefusals.{list_alone}
use Rattle.rules.specs.Witness.{literals_from}
use Rattle.texts.specs.Tokens.{Tokens}
use Rattle.texts.specs.Claims.{Claim, claim_numbers, file_numbers}
use Rattle.texts.specs.ClaimsReading.{ClaimsGiven, claims_given, judge_claims, claims_answer_if, claims_answer}
use Rattle.texts.specs.ClaimsRefusals.{FormulaTaken}
use Rattle.texts.specs.ClaimsPrinted.{accepted_word, claims_word, claims_line, claims_text_of_judged, claims_text_of, max_claims_line, PrintsClaims}
use Rattle.texts.proofs.DecimalLaws.{decimal_most}
use Rattle.texts.proofs.GrammarLaws.{accepted_sound}
use Rattle.texts.proofs.RefusalLaws.{refusal_sound}
use Rattle.texts.proofs.PlaceLaws.{refuses_place}
use Rattle.texts.proofs.TableLaws.{read_number_le, refusal_number_le, length-refused_line}
use Rattle.rules.proofs.AnswerLaws.{lent_alone}
use Rattle.texts.proofs.TextTheorems.{dimacs_runs}
use Rattle.texts.proofs.ReadList as reading
use Rattle.texts.proofs.ReadList.{ReadList}
use Rattle.texts.proofs.ClaimsJudged.{refusal_none}
use Rattle.texts.proofs.Theorems as text-theorems
use Rattle.lines.proofs.LineLaws.{refused_some}
use Rattle.buffers.specs.Put.{Room, Put}
use Rattle.buffers.proofs.RoomLaws.{short_count, short_bytes, whole_count, whole_bytes}

-- ---- the line

pub accepted_line : (n : ℕ) → (accepted_word ++ decimal n) ++ (claims_word ++ 10 ∷ []) ≡ claims_line (ClaimsAnswer.Accepted n)
accepted_line n = sym (append_assoc (accepted_word ++ decimal n) claims_word (10 ∷ []))

-- ---- how long it is

token_some : {w : List ℕ} {l : ℤ} → Token w l → 1 ≤ length w
token_some (Token.plain n) = n.some
token_some (Token.minus n) = omega arith

-- a text has no fewer bytes than numbers
length_tokens : {text : List ℕ} {ls : List ℤ} → Tokens text ls → length ls ≤ length text
length_tokens (Tokens.blanks h) = omega arith
length_tokens (Tokens.token {bs} {w} {rest} h t e y) =
    omega (arith, token_some t, length_tokens y, length-append (bs ++ w) rest, length-append bs w)

claims_le : (cs : List Claim) → length cs ≤ length (joined (map claim_numbers cs))
claims_le [] = omega arith
claims_le (c ∷ cs) = omega (arith, length-append (claim_numbers c) (joined (map claim_numbers cs)), claims_le cs)

file_le : (m : Values) (cs : List Claim) → length cs ≤ length (file_numbers m cs)
file_le m cs = omega (arith, length-append (literals_from 0 m) (pos (length cs) ∷ joined (map claim_numbers cs)), claims_le cs)

length_accepted : (n : ℕ) → n ≤ max_text → length (claims_line (ClaimsAnswer.Accepted n)) ≤ max_claims_line
length_accepted n h =
    omega (
      arith,
      length-append (decimal n ++ claims_word) (10 ∷ []),
      length-append (decimal n) claims_word,
      decimal_most 5 n (omega arith) (omega arith),
    )

module _ (g : ClaimsGiven) (t : FormulaTaken g) where
  answer_is : claims_answer g ≡ judge_claims g
  unfolding claims_answer
  answer_is = ap (λ (o : Option Refusal). claims_answer_if o (judge_claims g)) (refusal_none g t)

  place_le : claims_place (claims_answer g) ≤ max_text
  place_le = omega (arith, ap claims_place answer_is, text-theorems.claims_place_lem g)

  number_le : (n : ℕ) → claims_answer g ≡ ClaimsAnswer.Accepted n → n ≤ max_text
  number_le n e =
      let f = ((text-theorems.claims_accepted g n).0 e).1 in
      omega (arith, f.number, file_le f.model f.claims, length_tokens f.text_is.says, f.text_is.text_fits)

  length_line : length (claims_line (claims_answer g)) ≤ max_claims_line
  length_line = go (claims_answer g) refl place_le
    where
      go : (a : ClaimsAnswer) → claims_answer g ≡ a → claims_place a ≤ max_text → length (claims_line a) ≤ max_claims_line
      go (ClaimsAnswer.Accepted n) e h = length_accepted n (number_le n e)
      go ClaimsAnswer.LongText e h = omega (arith, length-refused_line 2 max_text (omega arith) h)
      go (ClaimsAnswer.BadToken at) e h = omega (arith, length-refused_line 5 at (omega arith) h)
      go (ClaimsAnswer.Rejected at) e h = omega (arith, length-refused_line 17 at (omega arith) h)
      go (ClaimsAnswer.Refused a) e h = omega (arith, length-refused_line (refusal_number a) (refusal_place a) (omega (arith, refusal_number_le a)) h)

taken : (text : List ℕ) {s : Sizes} {es : List ℤ} (claims : List ℕ) → judge max_entries text ≡ accepted s es → FormulaTaken (claims_given es s.vars claims)
taken text {s} {es} claims e =
    let d : Dimacs text s.vars s.clauses es = accepted_sound max_entries text e in
    record {
      vars_fit = d.vars_fit;
      list =
          dimacs_runs (list_alone es s.vars) d (lent_alone es s.vars d.vars_fit)
          (record { few = omega arith; up_to = λ l i. absurd (Memᴰ.not-nil i) });
    }

pub length-claims_text_of : (text claims : List ℕ) → length (claims_text_of text claims) ≤ max_claims_line
unfolding claims_text_of
length-claims_text_of text claims = go (judge max_entries text) refl
  where
    go : (j : Judged) → judge max_entries text ≡ j → length (claims_text_of_judged j claims) ≤ max_claims_line
    go (refused a) e =
        omega (arith, length-refused_line (read_number a) (read_place a) (omega (arith, read_number_le a)) (refuses_place (refusal_sound max_entries text e)))
    go (accepted s es) e = length_line (claims_given es s.vars claims) (taken text claims e)

-- ---- the reading

pub list_text : {text : List ℕ} {r : Reading} {after : List ℤ} (claims : List ℕ) → ReadList text r after
    → claims_text_of text claims ≡ claims_line (claims_answer (claims_given (take r.entries after) r.vars claims))
unfolding claims_text_of
list_text {r = r} {after = after} claims w =
    ap (λ (j : Judged). claims_text_of_judged j claims) w.judged ∙
    ap (λ (n : ℕ). claims_line (claims_answer (claims_given (take r.entries after) n claims))) (sym w.vars_are)

module _ {text : List ℕ} {before : List ℤ} {r : Reading} {after : List ℤ} (d : Reads text before r after) (z : length before ≡ max_entries) where
  pub read_list : r.answer ≡ ReadAnswer.Accepted → ReadList text r after
  read_list h = reading.read_list d z (ap read_number h)

  pub read_line : (claims : List ℕ) → r.answer ≢ ReadAnswer.Accepted → claims_text_of text claims ≡ refused_line (read_number r.answer) (read_place r.answer)
  unfolding claims_text_of
  read_line claims h = ap (λ (j : Judged). claims_text_of_judged j claims) (reading.read_refused d z (refused_some r.answer h))

-- ---- the contract

pub prints_short : (text claims before : List ℕ) → length before < max_claims_line → PrintsClaims text claims before 0 before
prints_short text claims before h =
    record {
      count_is = short_count max_claims_line (claims_text_of text claims) before h;
      after_is = short_bytes max_claims_line (claims_text_of text claims) before h;
    }

pub whole_room : (text claims out : List ℕ) → max_claims_line ≤ length out → Room 0 (claims_text_of text claims) out
whole_room text claims out h = record { fits = omega (arith, length-claims_text_of text claims) }

pub prints_verdict : {text claims before : List ℕ} {n : ℕ} {after : List ℕ} → max_claims_line ≤ length before
    → Put 0 (claims_text_of text claims) before n after → PrintsClaims text claims before n after
prints_verdict {text} {claims} {before} h p =
    record {
      count_is = whole_count max_claims_line (claims_text_of text claims) before (length-claims_text_of text claims) h p;
      after_is = whole_bytes max_claims_line (claims_text_of text claims) before (length-claims_text_of text claims) h p;
    }

-- no second result meets the contract
pub prints_claims_unique : {text claims before : List ℕ} {n m : ℕ} {b c : List ℕ} → PrintsClaims text claims before n b
    → PrintsClaims text claims before m c → (n ≡ m) × (b ≡ c)
prints_claims_unique p q = (p.count_is ∙ sym q.count_is, p.after_is ∙ sym q.after_is)

-- how many bytes are put at most
pub prints_le : {text claims before : List ℕ} {n : ℕ} {after : List ℕ} → PrintsClaims text claims before n after → n ≤ max_claims_line
prints_le {text} {claims} {before} {n} p = go (leb max_claims_line (length before)) p.count_is
  where
    go : (b : Bool) → n ≡ count_if_room b (claims_text_of text claims) → n ≤ max_claims_line
    go true e = omega (arith, e, length-claims_text_of text claims)
    go false e = omega (arith, e)
