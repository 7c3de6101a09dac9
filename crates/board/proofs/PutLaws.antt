-- A chain written out, as an invariant: what is left of the chain, written from k on, gives what the whole chain gives.
--
--   chain_unique                  a head has one chain
--   Putting, putting_start, putting_now, putting_falls, putting_step, putting_done     the invariant begins, goes on, pays off
--
-- Assumes nothing.
use mathlib.Core.Path.{◌≡◌, refl, ◌∙◌, ap}
use mathlib.Core.List.{List, [], ◌∷◌}
use Prim.Native.Nat.{ℕ, ◌+◌, ◌-◌, ◌≤◌, ◌<◌}
use native.Mathlib.Omega.{arith}
use native.Mathlib.Numerals.{add-one}
use lib.ListN.{get_or, set, length, length-set}
use lib.Seq.{sets}
use Rattle.board.specs.Chains.{Chain, PutAsked, ChainPut}
use Rattle.board.specs.Chains.Chain.{ends, cell}

pub chain_unique : {owners nexts : List ℕ} {h g : ℕ} {is js : List ℕ} → h ≡ g → Chain owners nexts h is → Chain owners nexts g js → is ≡ js
chain_unique e (ends a) (ends b) = refl
chain_unique e (ends a) (cell j b q d r) = absurd (omega arith)
chain_unique e (cell j b q d r) (ends a) = absurd (omega arith)
chain_unique {owners} {nexts} e (cell j a q d r) (cell k b p f s) =
    let t : j ≡ k = omega arith in
    cc (ap (λ (x : ℕ). get_or owners x 0) t, chain_unique (ap (λ (x : ℕ). get_or nexts x 0) t) r s)

pub record Putting (owners nexts : List ℕ) (head at : ℕ) (before : List ℕ) (h k : ℕ) (holders : List ℕ) : Type 0 where
  pub owner_room : h ≤ length owners
  pub next_room : h ≤ length nexts
  pub same_length : length holders ≡ length before
  pub rest : List ℕ
  pub left : Chain owners nexts h rest
  pub room : k + length rest ≤ length holders
  pub whole : (is : List ℕ) → Chain owners nexts head is → (sets holders k rest ≡ sets before at is) × (k + length rest ≡ at + length is)

pub putting_start : {owners nexts : List ℕ} {head at : ℕ} {holders : List ℕ} → PutAsked owners nexts head at holders
    → Putting owners nexts head at holders head at holders
putting_start {owners} {nexts} {head} {at} {holders} a =
    record {
      owner_room = a.owner_room;
      next_room = a.next_room;
      same_length = refl;
      rest = a.is;
      left = a.chain;
      room = a.room;
      whole = λ is t. let e : a.is ≡ is = chain_unique refl a.chain t in (rw e, rw e);
    }

-- the first cell of what is left
record Next (owners nexts : List ℕ) (j : ℕ) (rest : List ℕ) : Type 0 where
  pub tail : List ℕ
  pub rest_is : rest ≡ get_or owners j 0 ∷ tail
  pub lower : get_or nexts j 0 ≤ j
  pub chain : Chain owners nexts (get_or nexts j 0) tail

next : {owners nexts : List ℕ} {h : ℕ} {is : List ℕ} → 0 < h → Chain owners nexts h is → Next owners nexts (h - 1) is
next g (ends e) = absurd (omega arith)
next {owners} {nexts} {h} g (cell {i = i} {is = is} j e q d r) =
    let t : j ≡ h - 1 = omega arith in
    rw (← t) (record { tail = is; rest_is = ap (λ (x : ℕ). x ∷ is) q; lower = d; chain = r })

module _ {owners nexts : List ℕ} {head at : ℕ} {before : List ℕ} {h k : ℕ} {holders : List ℕ} (g : 0 < h)
    (w : Putting owners nexts head at before h k holders) where
  pub putting_now : k < length holders
  putting_now = let n = next g w.left in omega (arith, w.room, ap length n.rest_is)

  pub putting_falls : get_or nexts (h - 1) 0 < h
  putting_falls = let n = next g w.left in omega (arith, n.lower)

  pub putting_step : Putting owners nexts head at before (get_or nexts (h - 1) 0) (k + 1) (set holders k (get_or owners (h - 1) 0))
  putting_step =
      let n = next g w.left in
      record {
        owner_room = omega (arith, w.owner_room, n.lower);
        next_room = omega (arith, w.next_room, n.lower);
        same_length = length-set holders k (get_or owners (h - 1) 0) ∙ w.same_length;
        rest = n.tail;
        left = n.chain;
        room = omega (arith, w.room, ap length n.rest_is, length-set holders k (get_or owners (h - 1) 0));
        whole = λ is t. let (a, b) = w.whole is t in (rw (add-one k) (rw n.rest_is at a), omega (arith, b, ap length n.rest_is));
      }

pub putting_done : {owners nexts : List ℕ} {head at : ℕ} {before : List ℕ} {h k : ℕ} {holders : List ℕ} → h ≤ 0
    → Putting owners nexts head at before h k holders
    → (is : List ℕ) → Chain owners nexts head is → ChainPut is at before k holders
putting_done {owners} {nexts} {head} {at} {before} {h} {k} {holders} g w is t =
    let z : h ≡ 0 = omega arith in
    let e : w.rest ≡ [] = chain_unique z w.left (ends refl) in
    let (a, b) = w.whole is t in
    record { ends_at = omega (arith, b, ap length e); holders_are = rw e at a }
