-- `visit::visit` meets its contract: the mark by what the call without the clause ends with. Assumes nothing.
use Rattle.reason.proofs.AskLaws.{asked_same, visited_model, visited_otherwise}
use mathlib.Core.Path.{refl}
use lib.ListN.{length-set}
use Rattle.reason.proofs.visit.visit.Goals as goal

pub marked_call-end-requires : goal.marked_call-end-requires
marked_call-end-requires c =
    let s = c.before in
    asked_same s.requires.0 refl refl refl (length-set s.args.marks.now s.args.asking.count 0)

pub returns-in-Model : goal.returns-in-Model
returns-in-Model c =
    let s = c.before in
    record {
      call_ends = c.marked_call-end.ensures;
      marks_are = visited_model c.marked_call-end.result.outcome s.args.marks.now s.args.asking.count c.in-Model.is;
    }

pub returns : goal.returns
returns c =
    let s = c.before in
    record {
      call_ends = c.marked_call-end.ensures;
      marks_are =
          visited_otherwise c.marked_call-end.result.outcome s.args.marks.now s.args.asking.count
          c.in_default.not-Model;
    }
