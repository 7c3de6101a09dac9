-- `board::chain::link_all` meets its contract. The invariant of its loop: the chains are those of the clauses behind. Assumes nothing.
use Rattle.board.specs.Chains.{SameChains}
use Rattle.board.proofs.LinkLaws.{Linking}
use Rattle.board.proofs.chain.link_all.Given as goal

abbrev pub invariant-loop-e : goal.invariant-loop-e
invariant-loop-e l = Linking l.vars l.count l.entries l.initial.chains.heads.now l.initial.chains.nexts.now l.initial.chains.owners.now
    l.e l.m l.c l.chains.heads.now l.chains.nexts.now l.chains.owners.now
    × SameChains l.initial.chains l.chains
