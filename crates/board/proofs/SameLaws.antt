-- What is lent keeps its lengths and its references.
--
--   same_self, same_then          a board: where nothing is done, and one function after another
--   chains_self, chains_then      chains: the same
--
-- Assumes nothing.
use mathlib.Core.Path.{refl, ◌∙◌}
use Rattle.board.specs.declared.parts.Board.{Board}
use Rattle.board.specs.declared.chain.Chains.{Chains}
use Rattle.board.specs.Boards.{SameRoom}
use Rattle.board.specs.Chains.{SameChains}

pub same_self : {b : Board} → SameRoom b b
same_self =
    record {
      values = refl;
      keys = refl;
      hot = refl;
      trail = refl;
      values_stay = refl;
      keys_stay = refl;
      hot_stay = refl;
      trail_stay = refl;
    }

pub same_then : {a b c : Board} → SameRoom a b → SameRoom b c → SameRoom a c
same_then p q =
    record {
      values = q.values ∙ p.values;
      keys = q.keys ∙ p.keys;
      hot = q.hot ∙ p.hot;
      trail = q.trail ∙ p.trail;
      values_stay = q.values_stay ∙ p.values_stay;
      keys_stay = q.keys_stay ∙ p.keys_stay;
      hot_stay = q.hot_stay ∙ p.hot_stay;
      trail_stay = q.trail_stay ∙ p.trail_stay;
    }

pub chains_self : {c : Chains} → SameChains c c
chains_self =
    record { heads = refl; nexts = refl; owners = refl; heads_stay = refl; nexts_stay = refl; owners_stay = refl }

pub chains_then : {a b c : Chains} → SameChains a b → SameChains b c → SameChains a c
chains_then p q =
    record {
      heads = q.heads ∙ p.heads;
      nexts = q.nexts ∙ p.nexts;
      owners = q.owners ∙ p.owners;
      heads_stay = q.heads_stay ∙ p.heads_stay;
      nexts_stay = q.nexts_stay ∙ p.nexts_stay;
      owners_stay = q.owners_stay ∙ p.owners_stay;
    }
