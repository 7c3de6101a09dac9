-- A call over the board: what it requires beside the board, and what it promises beside the call's end. Assumes nothing.
use Rattle.std.specs.Prelude.{◌≡◌, ◌≢◌, Bool, false, not, List, ℕ, pred, ◌≤◌, ◌<◌, ℤ, length}
use Rattle.rules.specs.declared.Outcome.{Outcome}
use Rattle.rules.specs.Meaning.{Clause, Values, value_at}
use Rattle.formula.specs.Starts.{clauses_with}
use Rattle.board.specs.Boards.{Shows}
use Rattle.board.specs.Trails.{Trail, Leads}
use Rattle.board.specs.Closings.{BoardOver}
use Rattle.search.specs.declared.meter.Meter.{Meter}
use Rattle.search.specs.declared.call.CallEnd.{CallEnd}
use Rattle.search.specs.Choices.{VarUpTo}
use Rattle.search.specs.Calls.{Calls, Tries, unless_model}

-- ---- the choice, from where all variables below are set

pub record SetBelow (from : ℕ) (vs : Values) : Type 0 where
  pub within : from ≤ length vs
  pub set : (i : ℕ) → i < from → value_at vs i ≢ 0

-- ---- taking back, unless there is a model

pub record TakenBack (lists holders marks : List ℕ) (vs : Values) (keys hot trail : List ℕ) (to : ℕ) (o : Outcome) (vs2 : Values)
    (keys2 hot2 trail2 : List ℕ) : Type 0 where
  pub values_are : (base : Values) → Trail base trail to vs → vs2 ≡ unless_model o vs base
  pub leads : (base : Values) (m : ℕ) → m ≤ to → Trail base trail m vs → Trail base trail2 m vs2
  pub shows : (F : List Clause) → Shows F lists holders marks vs keys hot trail → Shows F lists holders marks vs2 keys2 hot2 trail2

-- ---- going on

-- false is tried, and then true if that found nothing
abbrev pub goes_again : Outcome → Bool → Bool
goes_again Outcome.Model x = false
goes_again Outcome.NoModel x = not x
goes_again Outcome.Stopped x = false

pub record GoOver (es : List ℤ) (starts : List ℕ) (con : Clause) (lists holders marks : List ℕ) (vs : Values) (keys hot trail : List ℕ)
    (total from : ℕ) : Type 0 where
  pub board : BoardOver es starts con lists holders marks vs keys hot trail total
  pub below : SetBelow from vs

pub record WentOn (es : List ℤ) (con : Clause) (lists holders marks : List ℕ) (vs : Values) (trail : List ℕ) (total : ℕ) (m : Meter) (r : CallEnd)
    (vs2 : Values) (keys2 hot2 trail2 : List ℕ) : Type 0 where
  pub calls : Calls es con total vs m r vs2
  pub shows : Shows (clauses_with es con) lists holders marks vs2 keys2 hot2 trail2
  pub leads : Leads trail vs trail2 vs2

-- ---- trying

pub record TryBegins (es : List ℤ) (starts : List ℕ) (con : Clause) (lists holders marks : List ℕ) (vs : Values) (keys hot trail : List ℕ)
    (total v : ℕ) : Type 0 where
  pub board : BoardOver es starts con lists holders marks vs keys hot trail total
  pub variable : VarUpTo (length vs) v
  pub unset : value_at vs (pred v) ≡ 0
  pub below : SetBelow (pred v) vs

pub record Tried (es : List ℤ) (con : Clause) (lists holders marks : List ℕ) (vs : Values) (trail : List ℕ) (total : ℕ) (m : Meter) (v : ℕ)
    (x : Bool) (r : CallEnd) (vs2 : Values) (keys2 hot2 trail2 : List ℕ) : Type 0 where
  pub tries : Tries es con total vs m v x r vs2
  pub shows : Shows (clauses_with es con) lists holders marks vs2 keys2 hot2 trail2
  pub leads : Leads trail vs trail2 vs2
