-- `board::chain::link` meets its contract: by its three ways. Assumes nothing.
use mathlib.Core.Path.{refl}
use Prim.Native.Nat.{◌-◌}
use native.Mathlib.Omega.{arith}
use lib.ListN.{get_or, length-set}
use Rattle.board.specs.Chains.Links.{twice, first, other}
use Rattle.board.proofs.SameLaws.{chains_self}
use Rattle.board.proofs.chain.link.Goals as goal
use Rattle.board.proofs.chain.link.Goals.{then-head-ne0+else-chains-j, else-head-ne0}

pub returns-then-chains-j : goal.returns-then-chains-j
returns-then-chains-j c =
    record {
      done = twice (get_or c.args.chains.now.heads.now c.args.k 0 - 1) (omega (arith, c.if-head-ne0.true)) c.if-chains-j.true;
      same = chains_self;
    }

pub returns : goal.returns
returns c =
    let b = c.args.chains.now in
    record {
      done =
          elim c.if-head-ne0.branch [
            | then-head-ne0+else-chains-j w ↦ other (get_or b.heads.now c.args.k 0 - 1) (omega (arith, w.if-head-ne0.true)) w.if-chains-j.false
            | else-head-ne0 w ↦ first w.if-head-ne0.false
          ];
      same =
          record {
            heads = length-set b.heads.now _ _;
            nexts = length-set b.nexts.now _ _;
            owners = length-set b.owners.now _ _;
            heads_stay = refl;
            nexts_stay = refl;
            owners_stay = refl;
          };
    }
