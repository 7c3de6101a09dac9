-- What the two lines are put from: the literals of both models, and an entry list that was asked. Assumes nothing.
use Rattle.std.specs.Prelude.{◌≡◌, List, ◌++◌, map, ℕ, ◌≤◌, ℤ, length}
use Rattle.rules.specs.declared.RunAnswer.{RunAnswer}
use Rattle.rules.specs.declared.Report.{Report}
use Rattle.rules.specs.Numbers.{max_vars, refusal_number, refusal_place}
use Rattle.texts.specs.Reading.{entries_after}
use Rattle.rules.specs.RunRefusals.{Accepted}
use Rattle.texts.specs.Printed.{refused_line}
use Rattle.texts.specs.ModelLine.{model_line}
use Rattle.rules.specs.Witness.{Asked, asked_report, first_after, witness_after, lent_for}
use Rattle.texts.specs.WitnessPrinted.{literal_bit, witness_asked, witness_text_of_asked, witness_text_of}
use Rattle.buffers.specs.Put.{Room, Put}

abbrev pub line_of : List ℤ → List ℕ
line_of ls = model_line (map literal_bit ls)

abbrev pub lines_of : List ℤ → List ℤ → List ℕ
lines_of first witness = line_of first ++ line_of witness

-- what is printed for an answer
abbrev pub text_by : RunAnswer → List ℤ → List ℤ → List ℕ
text_by RunAnswer.Settled first witness = lines_of first witness
text_by RunAnswer.NoModel first witness = lines_of first witness
text_by RunAnswer.Stopped first witness = lines_of first witness
text_by (RunAnswer.Refused r) first witness = refused_line (refusal_number r) (refusal_place r)

abbrev pub answer_text : Report → List ℤ → List ℤ → List ℕ
answer_text r first witness = text_by r.answer first witness

-- ---- what is required

pub record LineReady (at : ℕ) (ls : List ℤ) (bits out : List ℕ) : Type 0 where
  pub len : length ls ≡ length bits
  pub vars_fit : length bits ≤ max_vars
  pub room : Room at (line_of ls) out

pub record PairReady (first witness : List ℤ) (bits out : List ℕ) : Type 0 where
  pub first_len : length first ≡ length bits
  pub witness_len : length witness ≡ length bits
  pub vars_fit : length bits ≤ max_vars
  pub room : Room 0 (lines_of first witness) out

pub record AnswerReady (r : Report) (first witness : List ℤ) (bits out : List ℕ) : Type 0 where
  pub first_len : length first ≡ length bits
  pub witness_len : length witness ≡ length bits
  pub vars_fit : length bits ≤ max_vars
  pub room : Room 0 (answer_text r first witness) out

-- a list that no rule refuses, and room for the answer
pub record ListReady (vars : ℕ) (es : List ℤ) (v : ℕ) (out : List ℕ) : Type 0 where
  pub listed : Accepted (lent_for (witness_asked vars es v))
  pub room : Room 0 (witness_text_of_asked (witness_asked vars es v)) out

-- buffers of just the size
pub record Sized (vars : ℕ) (first witness : List ℤ) (bits : List ℕ) : Type 0 where
  pub first_len : length first ≡ vars
  pub witness_len : length witness ≡ vars
  pub bits_len : length bits ≡ vars

-- ---- what is promised

pub record LinePut (at : ℕ) (ls : List ℤ) (before : List ℕ) (next : ℕ) (bits after : List ℕ) : Type 0 where
  pub put : Put at (line_of ls) before next after
  pub bits_are : bits ≡ map literal_bit ls

pub record PairPut (first witness : List ℤ) (before : List ℕ) (next : ℕ) (bits after : List ℕ) : Type 0 where
  pub put : Put 0 (lines_of first witness) before next after
  pub bits_are : bits ≡ map literal_bit witness

-- the bits are those of the second model, or as they were
abbrev pub bits_by : RunAnswer → List ℤ → List ℕ → List ℕ
bits_by RunAnswer.Settled witness bits = map literal_bit witness
bits_by RunAnswer.NoModel witness bits = map literal_bit witness
bits_by RunAnswer.Stopped witness bits = map literal_bit witness
bits_by (RunAnswer.Refused r) witness bits = bits

pub record AnswerPut (r : Report) (first witness : List ℤ) (bits before : List ℕ) (next : ℕ) (bits-after after : List ℕ) : Type 0 where
  pub put : Put 0 (answer_text r first witness) before next after
  pub bits_are : bits-after ≡ bits_by r.answer witness bits

-- the answer of a list is put, and the buffers are as it leaves them
pub record AskedPut (a : Asked) (bits before : List ℕ) (next : ℕ) (first witness : List ℤ) (bits-after after : List ℕ) : Type 0 where
  pub put : Put 0 (witness_text_of_asked (witness_asked a.vars a.entries a.variable)) before next after
  pub first_is : first ≡ first_after a
  pub witness_is : witness ≡ witness_after a
  pub bits_are : bits-after ≡ bits_by (asked_report a).answer witness bits

-- the answer for a text is put, and the entries are as its reading leaves them
pub record TextPut (text : List ℕ) (v : ℕ) (entries : List ℤ) (before : List ℕ) (next : ℕ) (read : List ℤ) (after : List ℕ) : Type 0 where
  pub put : Put 0 (witness_text_of text v) before next after
  pub entries_are : read ≡ entries_after text entries
