-- Values that the board is to show, variable by variable.
--
--   one_zero, one_there, one_asks, one_set     one variable: no value wanted; it has it; it is set
--   Showing, showing_start, showing_one, showing_step, showing_done     the first i variables are shown, as an invariant
--
-- Assumes nothing.
use mathlib.Core.Path.{◌≡◌, refl, sym, ◌∙◌, ap}
use mathlib.Core.Logic.{◌≢◌, ◌⊎◌, inl, inr}
use mathlib.Core.Bool.{Bool, true, false}
use mathlib.Core.List.{List}
use Prim.Native.Nat.{ℕ, zero, suc, ◌+◌, ◌≤◌, ◌<◌}
use native.Mathlib.Omega.{arith}
use lib.Dec.{eqb}
use lib.IntN.{ℤ}
use lib.ListN.{get_or, length, set}
use lib.Seq.{set-get_or}
use borrow.Author.Tests.{eq-eqb}
use Rattle.rules.specs.Meaning.{Clause, Values, LitUpTo, value_at, is_unset, assign}
use Rattle.rules.specs.Run.{literal_at}
use Rattle.rules.proofs.ListLaws.{get_d_default}
use Rattle.rules.proofs.MeaningLaws.{set_cases}
use Rattle.formula.specs.Literals.{byte_of}
use Rattle.buffers.proofs.FillLaws.{Filled, filled_start, filled_step, filled_done}
use Rattle.board.specs.Boards.{Shows, Settable, SetAsked, SetDone}
use Rattle.board.specs.Trails.{Leads}
use Rattle.board.specs.Shown.{Agrees, OneAsked, OneShown, ShowAsked, Shown}
use Rattle.board.proofs.TrailLaws.{leads_refl, leads_trans, leads_set}

-- ---- one variable

-- the literal that a byte says, and what it makes of the values
abbrev said : ℕ → ℕ → ℤ
said i byte = literal_at i (byte_of (eqb byte 2))

said_assign : (vs : Values) (i byte : ℕ) → byte ≢ 0 → byte ≤ 2 → assign vs (said i byte) ≡ set vs i byte
said_assign vs i zero n h = absurd (n refl)
said_assign vs i (suc zero) n h = refl
said_assign vs i (suc (suc zero)) n h = refl
said_assign vs i (suc (suc (suc b))) n h = absurd (omega arith)

said_up_to : (n i byte : ℕ) → i < n → LitUpTo n (said i byte)
said_up_to n i byte h = go (eqb byte 2)
  where
    go : (x : Bool) → LitUpTo n (literal_at i (byte_of x))
    go true = record { some = omega arith; most = omega arith }
    go false = record { some = omega arith; most = omega arith }

said_unset : (vs : Values) (i byte : ℕ) → value_at vs i ≡ 0 → is_unset vs (said i byte) ≡ true
said_unset vs i byte z = go (eqb byte 2)
  where
    go : (x : Bool) → is_unset vs (literal_at i (byte_of x)) ≡ true
    go true = eq-eqb (value_at vs i) 0 z
    go false = eq-eqb (value_at vs i) 0 z

module _ {lists holders marks : List ℕ} {vs : Values} {keys hot trail : List ℕ} {i byte : ℕ} (a : OneAsked lists holders marks vs keys hot trail i byte) where
  stays : byte ≡ value_at vs i → OneShown lists holders marks vs keys hot trail i byte vs keys hot trail
  stays e =
      record { values_are = sym (ap (set vs i) e ∙ set-get_or vs i 1); shows = λ F w. w; leads = leads_refl }

  pub one_zero : byte ≡ 0 → OneShown lists holders marks vs keys hot trail i byte vs keys hot trail
  one_zero z = stays (go (value_at vs i) refl)
    where
      go : (b : ℕ) → value_at vs i ≡ b → byte ≡ value_at vs i
      go zero e = z ∙ sym e
      go (suc b) e = a.agrees (λ q. absurd (omega (arith, e, q)))

  at_zero : get_or vs i 0 ≡ value_at vs i
  at_zero = get_d_default vs i 0 1 a.within

  pub one_there : get_or vs i 0 ≢ 0 → OneShown lists holders marks vs keys hot trail i byte vs keys hot trail
  one_there n = stays (a.agrees (λ q. n (at_zero ∙ q)))

  module _ (n : byte ≢ 0) (z : get_or vs i 0 ≡ 0) where
    settable : (F : List Clause) → Shows F lists holders marks vs keys hot trail → Settable F lists holders marks vs keys hot trail (said i byte)
    settable F w = record { shows = w; literal = said_up_to (length vs) i byte a.within; unset = said_unset vs i byte (sym at_zero ∙ z) }

    pub one_asks : SetAsked lists holders marks vs keys hot trail (said i byte)
    one_asks = record { F = a.F; can = settable a.F a.shows }

    pub one_set : {vs2 : Values} {keys2 hot2 trail2 : List ℕ} → SetDone lists holders marks vs keys hot trail (said i byte) vs2 keys2 hot2 trail2
        → OneShown lists holders marks vs keys hot trail i byte vs2 keys2 hot2 trail2
    one_set d =
        record {
          values_are = d.values_are ∙ said_assign vs i byte n a.small;
          shows = d.shows;
          leads = leads_set (settable a.F a.shows) d.values_are d.trail_is;
        }

-- ---- all of them

pub record Showing (wanted : Values) (lists holders marks : List ℕ) (from : Values) (keys_from hot-from trail-from : List ℕ) (i : ℕ) (vs : Values)
    (keys hot trail : List ℕ) : Type 0 where
  pub filled : Filled wanted i vs
  pub F : List Clause
  pub shown : Shows F lists holders marks vs keys hot trail
  pub agrees : Agrees wanted vs
  pub shows : (G : List Clause) → Shows G lists holders marks from keys_from hot-from trail-from → Shows G lists holders marks vs keys hot trail
  pub leads : Leads trail-from from trail vs

module _ {wanted : Values} {lists holders marks : List ℕ} {from : Values} {keys_from hot-from trail-from : List ℕ}
    (a : ShowAsked wanted lists holders marks from keys_from hot-from trail-from) where
  pub showing_start : Showing wanted lists holders marks from keys_from hot-from trail-from 0 from keys_from hot-from trail-from
  showing_start =
      record {
        filled = filled_start wanted from a.len;
        F = a.F;
        shown = a.shows;
        agrees = a.agrees;
        shows = λ G w. w;
        leads = leads_refl;
      }

  module _ {i : ℕ} {vs : Values} {keys hot trail : List ℕ} (h : i < length wanted)
      (w : Showing wanted lists holders marks from keys_from hot-from trail-from i vs keys hot trail) where
    wanted_at : value_at wanted i ≡ get_or wanted i 0
    wanted_at = sym (get_d_default wanted i 0 1 h)

    pub showing_one : OneAsked lists holders marks vs keys hot trail i (get_or wanted i 0)
    showing_one =
        record {
          F = w.F;
          shows = w.shown;
          within = omega (arith, w.filled.len);
          small = a.small i h;
          agrees = λ n. sym wanted_at ∙ w.agrees.agrees i n;
        }

    pub showing_step : {vs2 : Values} {keys2 hot2 trail2 : List ℕ} → OneShown lists holders marks vs keys hot trail i (get_or wanted i 0) vs2 keys2 hot2 trail2
        → Showing wanted lists holders marks from keys_from hot-from trail-from (i + 1) vs2 keys2 hot2 trail2
    showing_step {vs2} d =
        record {
          filled = rw d.values_are (filled_step 0 (get_or wanted i 0) w.filled (omega (arith, w.filled.len)) refl);
          F = w.F;
          shown = d.shows w.F w.shown;
          agrees = rw d.values_are (record { agrees = λ j n. go j n (set_cases vs i (get_or wanted i 0) j) });
          shows = λ G t. d.shows G (w.shows G t);
          leads = leads_trans w.leads d.leads;
        }
      where
        go : (j : ℕ) → value_at (set vs i (get_or wanted i 0)) j ≢ 0
            → ((j ≡ i) × (value_at (set vs i (get_or wanted i 0)) j ≡ get_or wanted i 0)) ⊎ (value_at (set vs i (get_or wanted i 0)) j ≡ value_at vs j)
            → value_at wanted j ≡ value_at (set vs i (get_or wanted i 0)) j
        go j n (inl e) = ap (value_at wanted) e.0 ∙ wanted_at ∙ sym e.1
        go j n (inr e) = w.agrees.agrees j (λ z. n (e ∙ z)) ∙ sym e

  pub showing_done : {i : ℕ} {vs : Values} {keys hot trail : List ℕ} → length wanted ≤ i
      → Showing wanted lists holders marks from keys_from hot-from trail-from i vs keys hot trail
      → Shown wanted lists holders marks from keys_from hot-from trail-from vs keys hot trail
  showing_done h w =
      record { values_are = filled_done w.filled (omega (arith, w.filled.len)); shows = w.shows; leads = w.leads }
