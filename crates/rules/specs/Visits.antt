-- docs/RULES.md, "Closing", in any order: what visits of the clauses, one after the other, may set. Closing by rounds is one such
-- order, and proofs/ClosingOrder shows that all end alike. Assumes nothing.
use Rattle.std.specs.Prelude.{◌≡◌, ◌≢◌, List}
use Rattle.rules.specs.declared.Lit.{Lit}
use Rattle.rules.specs.declared.ClauseState.TheVariants.{False, Unit}
use Rattle.rules.specs.Lists.{In}
use Rattle.rules.specs.Meaning.{Clause, Values, assign}
use Rattle.rules.specs.Closing.{state_of}

-- from vs, visits of clauses of F lead to the values: each visit that sets anything meets a unit and sets its literal
pub data Visits (F : List Clause) (vs : Values) : Values → Type 0 where
  start : Visits F vs vs
  unit : {ws : Values} (cl : Clause) (l : Lit) → Visits F vs ws → In cl F → state_of ws cl ≡ Unit l → Visits F vs (assign ws l.0)

-- no clause of F is false at ws, and none is a unit: no visit stops or sets anything
pub record Quiet (ws : Values) (F : List Clause) : Type 0 where
  pub not-false : (cl : Clause) → In cl F → state_of ws cl ≢ False
  pub not_unit : (cl : Clause) (l : Lit) → In cl F → state_of ws cl ≢ Unit l
