-- `first::accepted_run` meets its contract: what is cleared shows that nothing is known yet, and the starts are the list's.
-- Assumes nothing.
use mathlib.Core.Path.{sym, ◌∙◌, ap}
use Prim.Native.Nat.{ℕ}
use native.Mathlib.Omega.{arith}
use lib.ListN.{replicate}
use Rattle.backbone.proofs.ListingLaws.{found_formula, cleared, front_len}
use Rattle.backbone.proofs.first.accepted_run.Goals as goal

pub slice_bounds-with_hints-end : goal.slice_bounds-with_hints-end
slice_bounds-with_hints-end c =
    front_len _ _ (omega (arith, c.find_starts-count.ensures.count_is, c.requires.clauses_most, c.find_starts-count.auto.starts))

pub with_hints-requires : goal.with_hints-requires
with_hints-requires c =
    let len = c.fill-2.auto.self in
    let first_len = c.requires.first_len ∙ sym len in
    record {
      begins =
          record {
            formula = rw len (found_formula c.requires.formula c.find_starts-count.ensures);
            first_len = c.fill.auto.self ∙ first_len;
            cleared =
                cleared c.args.status.now c.args.calls.now c.args.ways.now c.args.log.now c.requires.lent c.requires.log_len len
                (c.fill-2.ensures.after (λ y e. e)) (c.fill-3.ensures.after (λ y e. e)) (c.fill-4.ensures.after (λ y e. e)) (c.fill-5.ensures.after (λ y e. e));
            allowed = c.requires.allowed;
          };
      blank_first = (c.fill.ensures.after (λ y e. e)) ∙ ap (λ (n : ℕ). replicate n 0) first_len;
      hints_len = c.requires.hints_len ∙ sym len;
    }

pub shape_of-first : goal.shape_of-first
shape_of-first c =
    c.with_hints.auto.first ∙ c.fill.auto.self

pub shape_of-status : goal.shape_of-status
shape_of-status c =
    c.with_hints.auto.status ∙ c.fill-2.auto.self

pub shape_of-calls : goal.shape_of-calls
shape_of-calls c =
    c.with_hints.auto.calls ∙ c.fill-3.auto.self

pub returns : goal.returns
returns c =
    rw c.fill-2.auto.self at c.with_hints.ensures
