-- docs/RULES.md, "The shorter file": the formula with what a run has settled folded in, as text. Assumes nothing.
use Rattle.std.specs.Prelude.{◌≡◌, Bool, true, false, not, ◌||◌, List, [], ◌∷◌, ◌++◌, map, ℕ, eqb, ltb, ℤ, length, drop, replicate}
use Rattle.std.proofs.Math.Option.{Option, none, some}
use Rattle.rules.specs.declared.Refusal.{Refusal}
use Rattle.rules.specs.declared.RunAnswer.{RunAnswer}
use Rattle.rules.specs.declared.ShorterReport.{ShorterReport}
use Rattle.rules.specs.Lists.{any, keep, keep_if, first_of, eqz}
use Rattle.rules.specs.Numbers.{max_text, max_vars}
use Rattle.rules.specs.Meaning.{Clause, negated, index_of, true_byte, clauses}
use Rattle.texts.specs.Plain.{plain}
use Rattle.rules.specs.Run.{Task, status_at, forced_by, run}
use Rattle.rules.specs.Units.{forced_clauses}
use Rattle.rules.specs.Answer.{Given, given, buffers, log_length, taking_rules, out_of_limits, report_if}

-- ---- which clauses

-- the statuses say that a literal is forced
abbrev pub says_forced : List ℕ → ℤ → Bool
says_forced ss l = eqb (status_at ss (index_of l)) (forced_by (true_byte l))

abbrev pub holds_forced : List ℕ → Clause → Bool
holds_forced ss cl = any (says_forced ss) cl

-- a literal goes if its negation is forced, or if it stands among those `before` it in its clause
abbrev pub goes : List ℕ → Clause → ℤ → Bool
goes ss before l = says_forced ss (negated l) || any (eqz l) before

-- what stays of a clause, behind the literals `before`
abbrev pub stays_behind : List ℕ → Clause → Clause → Clause
stays_behind ss before [] = []
stays_behind ss before (l ∷ cl) = keep_if (not (goes ss before l)) l (stays_behind ss (before ++ l ∷ []) cl)

-- a clause less the negations of forced literals and later repeats
abbrev pub shortened : List ℕ → Clause → Clause
shortened ss cl = stays_behind ss [] cl

-- the clauses that hold no forced literal, in order, each shortened
abbrev pub others_of : List ℕ → List Clause → List Clause
others_of ss F = map (shortened ss) (keep (λ cl. not (holds_forced ss cl)) F)

-- the forced literals as clauses by variable, then the others
abbrev pub folded : List ℕ → List Clause → List Clause
folded ss F = forced_clauses 0 ss ++ others_of ss F

-- after 20 one clause, which is empty
abbrev pub shorter_by : RunAnswer → List ℕ → List Clause → List Clause
shorter_by RunAnswer.Settled ss F = folded ss F
shorter_by RunAnswer.NoModel ss F = [] ∷ []
shorter_by RunAnswer.Stopped ss F = folded ss F
shorter_by (RunAnswer.Refused a) ss F = []

unfoldable pub shorter_of : Task → List Clause
shorter_of k = shorter_by (run k).answer (run k).progress.statuses k.formula

-- the header, then one clause a line
unfoldable pub shorter_text : Task → List ℕ
shorter_text k = plain k.vars (shorter_of k)

-- ---- what is given, and the buffer as it is lent

pub record ShorterGiven : Type 0 where
  pub entries : List ℤ
  pub vars : ℕ
  pub budget : ℕ
  pub limit : ℕ
  pub text : List ℕ

abbrev pub shorter_given : List ℤ → ℕ → ℕ → ℕ → List ℕ → ShorterGiven
shorter_given es vars budget limit text = record { entries = es; vars = vars; budget = budget; limit = limit; text = text }

-- the run, with no literal held
abbrev pub shorter_task : ShorterGiven → Task
shorter_task g = record { vars = g.vars; budget = g.budget; limit = g.limit; formula = clauses g.entries }

-- ---- refusals: as for the run, and 1 where the buffer has less than 32,768 bytes

unfoldable pub shorter_refusal : ShorterGiven → Option Refusal
shorter_refusal g = first_of (taking_rules (out_of_limits g.vars g.limit) (ltb (length g.text) max_text) g.entries g.vars [])

-- the run that is made, and that is refused for the same: it has room for every V, and a log only where the text has its room
abbrev pub log_room : Bool → ℕ
log_room true = 0
log_room false = log_length max_vars

abbrev pub shorter_run : ShorterGiven → Given
shorter_run g =
    given g.entries g.vars [] g.budget g.limit
    (buffers (replicate max_vars 0) (replicate max_vars 0) (replicate max_vars 0) (replicate max_vars 0)
    (replicate (log_room (ltb (length g.text) max_text)) 0))

-- ---- what is returned, and what the buffer holds: nothing is written where it is refused, and the rest stays

abbrev pub bytes_if : Option Refusal → List ℕ → List ℕ
bytes_if none text = text
bytes_if (some a) text = []

-- what is written
unfoldable pub shorter_bytes : ShorterGiven → List ℕ
shorter_bytes g = bytes_if (shorter_refusal g) (shorter_text (shorter_task g))

unfoldable pub shorter_report_of : ShorterGiven → ShorterReport
shorter_report_of g = record { run = report_if (shorter_refusal g) (shorter_task g); length = length (shorter_bytes g) }

unfoldable pub shorter_text_after : ShorterGiven → List ℕ
shorter_text_after g = shorter_bytes g ++ drop (length (shorter_bytes g)) g.text

-- what is promised of the result and of the buffer
pub record Shortens (g : ShorterGiven) (result : ShorterReport) (after : List ℕ) : Type 0 where
  pub result_is : result ≡ shorter_report_of g
  pub text_is : after ≡ shorter_text_after g
