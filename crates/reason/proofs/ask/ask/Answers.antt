-- `ask::ask` meets its contract: the answer by what the call on the formula alone ends with. Assumes nothing.
use mathlib.Core.Path.{refl, sym, ◌∙◌, ap}
use native.Mathlib.Omega.{arith}
use lib.ListN.{replicate}
use lib.Seq.{length-take-le}
use Prim.Native.Nat.{ℕ}
use Rattle.rules.proofs.ClauseLaws.{clauses_le}
use Rattle.reason.proofs.AskLaws.{asked_same, ask_over, first_model, first_none, first_stopped}
use Rattle.reason.proofs.ask.ask.Goals as goal

pub find_starts-count-requires : goal.find_starts-count-requires
find_starts-count-requires c =
    let p = c.requires in
    record { entries_fit = omega (arith, p.asks.entries_fit); room = p.starts_room }

pub overflow_add-count : goal.overflow_add-count
overflow_add-count c =
    omega (arith, c.find_starts-count.ensures.count_is, clauses_le c.args.entries.now, c.requires.asks.entries_fit)

pub slice_bounds-blank_call-end : goal.slice_bounds-blank_call-end
slice_bounds-blank_call-end c =
    omega (arith, c.find_starts-count.ensures.count_is, c.requires.starts_room, c.find_starts-count.auto.starts)

pub slice_bounds-blank_call-end-2 : goal.slice_bounds-blank_call-end-2
slice_bounds-blank_call-end-2 c =
    sym (length-take-le _ _ (omega (arith, c.find_starts-count.ensures.count_is, c.requires.starts_room, c.find_starts-count.auto.starts)))

pub overflow_cast-count : goal.overflow_cast-count
overflow_cast-count c =
    omega (arith, c.find_starts-count.ensures.count_is, clauses_le c.args.entries.now, c.requires.asks.entries_fit)

pub blank_call-end-requires : goal.blank_call-end-requires
blank_call-end-requires c =
    ask_over c.requires c.find_starts-count.ensures refl

pub second_call-requires : goal.second_call-requires
second_call-requires c = (
  asked_same c.requires c.blank_call-end.auto.values refl c.find_starts-count.auto.starts c.fill.auto.self,
  c.find_starts-count.ensures.count_is,
  (c.fill.ensures.after (λ y e. e)) ∙ ap (λ (k : ℕ). replicate k 0) (sym c.fill.auto.self),
)

pub shape_of-marks-in-Model : goal.shape_of-marks-in-Model
shape_of-marks-in-Model c =
    c.second_call.auto.marks ∙ c.fill.auto.self

pub returns-in-Model : goal.returns-in-Model
returns-in-Model c =
    first_model c.requires c.find_starts-count.ensures c.blank_call-end.ensures
    c.in-Model.is
    c.blank_call-end.auto.values c.second_call.ensures

pub returns-in-NoModel : goal.returns-in-NoModel
returns-in-NoModel c =
    first_none c.requires c.find_starts-count.ensures c.blank_call-end.ensures c.in-NoModel.is
    c.requires.asks.marks_are (c.fill.ensures.after (λ y e. e))

pub returns-in-Stopped : goal.returns-in-Stopped
returns-in-Stopped c =
    first_stopped c.requires c.find_starts-count.ensures c.blank_call-end.ensures c.in-Stopped.is
    c.requires.asks.marks_are (c.fill.ensures.after (λ y e. e))
