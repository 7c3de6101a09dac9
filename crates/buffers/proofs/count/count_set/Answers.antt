-- `buffers::count::count_set` meets its contract. Assumes nothing.
use Rattle.std.proofs.Common.{◌≡◌, ◌∙◌, not, nat_eq, rules}
use Rattle.std.specs.List.{count_by}
use Rattle.buffers.proofs.CountLaws.{count_is}
use Rattle.buffers.proofs.count.count_set.Goals as goal

pub returns : goal.returns
returns c =
    let bytes = c.args.bytes.now in
    let set : c.count.result ≡ count_by (λ b. not (nat_eq b 0)) bytes = search rules in
    set ∙ count_is bytes
