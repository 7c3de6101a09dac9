-- The laws of src/next.rt: the next token, by the first byte that is no blank and the first blank behind it.
--
--   finds_none, finds_malformed, finds_number     what is found in each case
--
-- Assumes nothing.
use mathlib.Core.Path.{◌≡◌, sym, ap}
use mathlib.Core.Bool.{true, false, not}
use mathlib.Core.List.{List}
use mathlib.Core.Option.{Option as Maybe, none, some}
use Prim.Native.Nat.{ℕ, suc, ◌≤◌, ◌<◌}
use native.Mathlib.Omega.{arith}
use lib.IntN.{ℤ, pos, negsuc}
use lib.ListN.{length}
use Rattle.std.specs.Prelude.{None, Some, Ok, Err}
use Rattle.rules.proofs.ListLaws.{apart, never}
use Rattle.texts.specs.Text.{is_blank, entry_of}
use Rattle.reader.specs.declared.token.Entry.{Entry}
use Rattle.reader.specs.Scan.{first_from}
use Rattle.reader.specs.Words.{token_of}
use Rattle.reader.proofs.ScanLaws.{from_le, words_none, words_next, words_onward}
use Rattle.reader.proofs.TokenLaws.{bad_of_token, entry_of_token}
use Rattle.reader.specs.Next.{bytes_at, Next, Finds, no_token, malformed, number}

is-inj : {a b : Entry} → Some a ≡ Some b → a ≡ b
is-inj e = cc

-- no token says 0 with a minus
minus_some : (o : Maybe ℤ) (e : Entry) → token_of o ≡ Some e → e.minus ≡ true → 1 ≤ e.number
minus_some none e q m = apart cc
minus_some (some (pos n)) e q m =
    let s : record { minus = false; number = n } ≡ e = is-inj q in absurd (never m (sym (ap (λ (x : Entry). x.minus) s)))
minus_some (some (negsuc n)) e q m =
    let s : record { minus = true; number = suc n } ≡ e = is-inj q in omega (arith, ap (λ (x : Entry). x.number) s)

module _ (text : List ℕ) (at from : ℕ) (here : from ≡ first_from (λ b. not (is_blank b)) text at) where
  pub finds_none : length text ≤ from → Finds text at (Ok None)
  finds_none h = no_token (words_none is_blank text at from here h)

  module _ (to : ℕ) (there : to ≡ first_from is_blank text from) (h : from < length text) where
    next : Next text at from to
    next =
        record {
          tokens = words_next is_blank text at from here to there h;
          onward = omega (arith, here, words_onward is_blank text at from here to there h);
          within = omega (arith, there, from_le is_blank text from (omega arith));
        }

    pub finds_malformed : token_of (entry_of (bytes_at text from to)) ≡ None → Finds text at (Err from)
    finds_malformed e = malformed to next (bad_of_token (entry_of (bytes_at text from to)) e)

    pub finds_number : (e : Entry) → token_of (entry_of (bytes_at text from to)) ≡ Some e →
        Finds text at (Ok (Some (record { from = from; to = to; entry = e })))
    finds_number e q = number next (entry_of_token o e q) (minus_some o e q)
      where
        o : Maybe ℤ
        o = entry_of (bytes_at text from to)
