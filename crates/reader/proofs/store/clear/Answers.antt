-- `reader::store::clear` meets its contract. A part of the buffer is filled. Assumes nothing.
use Rattle.std.proofs.Common.{◌≡◌, ◌∙◌, ap, ℕ, pos, ◌-◌, length, take, drop, replicate, length-drop, arith, rules}
use lib.Seq.{length-take-le}
use Rattle.reader.proofs.StoreLaws.{cleared_is}
use Rattle.reader.proofs.store.clear.Goals as goal

pub returns : goal.returns
returns c =
    let zeros : c.fill.new.self ≡ replicate (4096 - c.args.from) (pos 0) =
    let part : length (take (4096 - c.args.from) (drop c.args.from c.args.entries.now)) ≡ 4096 - c.args.from =
    length-take-le _ _ (omega (arith, length-drop c.args.from c.args.entries.now, c.requires)) in
    c.fill.ensures.after (λ y e. search rules) ∙ ap (λ (n : ℕ). replicate n (pos 0)) part in
    cleared_is c.args.entries.now c.fill.new.self c.args.from 4096 (omega arith) zeros
