-- Who holds a literal, as chains: for each literal a head, and cells that each have an owner, a clause, and the next cell. A cell is
-- named by its index plus one, and 0 ends a chain. They are made in one pass from the last entry to the first. Assumes nothing.
use Rattle.std.specs.Prelude.{◌≡◌, ◌≢◌, List, [], ◌∷◌, ℕ, zero, suc, ◌+◌, ◌*◌, ◌≤◌, ◌<◌, ℤ, get_or, set, length}
use Rattle.std.proofs.lemmas.List.Edits.{sets}
use Rattle.rules.specs.Lists.{In}
use Rattle.rules.specs.Numbers.{max_vars}
use Rattle.rules.specs.Meaning.{Clause, LitUpTo, var_of, clauses}
use Rattle.board.specs.declared.chain.Chains.{Chains}
use Rattle.board.specs.Holders.{code_of, holding, part_at}

-- the owners along a chain
pub data Chain (owners nexts : List ℕ) : ℕ → List ℕ → Type 0 where
  ends : {h : ℕ} → h ≡ 0 → Chain owners nexts h []
  cell : {h i : ℕ} {is : List ℕ} (j : ℕ) → h ≡ suc j → i ≡ get_or owners j 0 → get_or nexts j 0 ≤ j → Chain owners nexts (get_or nexts j 0) is
      → Chain owners nexts h (i ∷ is)

-- with m cells the chains are those of the clauses G, the first of which has index c
pub record Linked (n c : ℕ) (G : List Clause) (m : ℕ) (heads nexts owners : List ℕ) : Type 0 where
  pub room : 2 * n ≤ length heads
  pub below : (k : ℕ) → get_or heads k 0 ≤ m
  pub chains : (l : ℤ) → LitUpTo n l → Chain owners nexts (get_or heads (code_of l) 0) (holding l c G)

-- what linking one cell does: nothing if the first cell has the same owner, for a literal that stands twice in a clause
pub data Links (k c m : ℕ) (heads nexts owners : List ℕ) : ℕ → List ℕ → List ℕ → List ℕ → Type 0 where
  twice : (j : ℕ) → get_or heads k 0 ≡ suc j → get_or owners j 0 ≡ c → Links k c m heads nexts owners m heads nexts owners
  first : get_or heads k 0 ≡ 0 → Links k c m heads nexts owners (m + 1) (set heads k (m + 1)) (set nexts m (get_or heads k 0)) (set owners m c)
  other : (j : ℕ) → get_or heads k 0 ≡ suc j → get_or owners j 0 ≢ c
      → Links k c m heads nexts owners (m + 1) (set heads k (m + 1)) (set nexts m (get_or heads k 0)) (set owners m c)

-- the parts of chains that are lent keep their lengths, and stay the same references
pub record SameChains (before after : Chains) : Type 0 where
  pub heads : length after.heads.now ≡ length before.heads.now
  pub nexts : length after.nexts.now ≡ length before.nexts.now
  pub owners : length after.owners.now ≡ length before.owners.now
  pub heads_stay : after.heads.ghost_name ≡ before.heads.ghost_name
  pub nexts_stay : after.nexts.ghost_name ≡ before.nexts.ghost_name
  pub owners_stay : after.owners.ghost_name ≡ before.owners.ghost_name

pub record LinkAsked (k m : ℕ) (heads nexts owners : List ℕ) : Type 0 where
  pub head : k < length heads
  pub below : get_or heads k 0 ≤ m
  pub next_room : m < length nexts
  pub owner_room : m < length owners
  pub few : m < 65535

-- ---- all entries

pub record LinkAllAsked (n count : ℕ) (es : List ℤ) (heads nexts owners : List ℕ) : Type 0 where
  pub vars_fit : n ≤ max_vars
  pub entries_fit : length es < 65536
  pub count_is : count ≡ length (clauses es)
  pub over : (l : ℤ) → In l es → var_of l ≤ n
  pub head_room : 2 * n ≤ length heads
  pub next_room : length es ≤ length nexts
  pub owner_room : length es ≤ length owners
  pub blank : (k : ℕ) → get_or heads k 0 ≡ 0

pub record LinkedAll (n : ℕ) (es : List ℤ) (m : ℕ) (heads nexts owners : List ℕ) : Type 0 where
  pub few : m ≤ length es
  pub linked : Linked n 0 (clauses es) m heads nexts owners

-- ---- a chain written out

-- some chain starts at the head, below the cells that there are, and from `at` on there is room for it
pub record PutAsked (owners nexts : List ℕ) (head at : ℕ) (holders : List ℕ) : Type 0 where
  pub is : List ℕ
  pub chain : Chain owners nexts head is
  pub owner_room : head ≤ length owners
  pub next_room : head ≤ length nexts
  pub room : at + length is ≤ length holders

pub record ChainPut (is : List ℕ) (at : ℕ) (before : List ℕ) (r : ℕ) (holders : List ℕ) : Type 0 where
  pub ends_at : r ≡ at + length is
  pub holders_are : holders ≡ sets before at is

-- ---- all chains written out, one behind the other

abbrev pub total : (ℕ → List ℕ) → ℕ → ℕ
total L zero = 0
total L (suc k) = total L k + length (L k)

-- L k is what the chain of head k holds
pub record ChainsOf (L : ℕ → List ℕ) (codes : ℕ) (heads nexts owners : List ℕ) : Type 0 where
  pub each : (k : ℕ) → k < codes → Chain owners nexts (get_or heads k 0) (L k)

pub record PutAllAsked (codes : ℕ) (heads nexts owners starts holders : List ℕ) : Type 0 where
  pub L : ℕ → List ℕ
  pub chains : ChainsOf L codes heads nexts owners
  pub heads_fit : codes ≤ length heads
  pub owner_room : (k : ℕ) → get_or heads k 0 ≤ length owners
  pub next_room : (k : ℕ) → get_or heads k 0 ≤ length nexts
  pub start_room : codes < length starts
  pub room : total L codes ≤ length holders
  pub small : length holders ≤ 65535

pub record PutPart (starts holders : List ℕ) (k : ℕ) (is : List ℕ) : Type 0 where
  pub ordered : get_or starts k 0 ≤ get_or starts (k + 1) 0
  pub inside : get_or starts (k + 1) 0 ≤ length holders
  pub part_is : part_at starts holders k ≡ is

pub record AllPut (codes : ℕ) (heads nexts owners starts holders : List ℕ) : Type 0 where
  pub parts : (L : ℕ → List ℕ) → ChainsOf L codes heads nexts owners → (k : ℕ) → k < codes → PutPart starts holders k (L k)

-- ---- the index

-- room for the chains, and for the index that they are written out to
pub record IndexAsked (n count : ℕ) (es : List ℤ) (heads nexts owners starts holders : List ℕ) : Type 0 where
  pub link_all : LinkAllAsked n count es heads nexts owners
  pub start_room : 2 * n < length starts
  pub room : length es ≤ length holders
  pub small : length holders ≤ 65535
