-- `search_deep::main` meets what the search requires: the list has no entry, and there are 256 variables. Assumes nothing.
use mathlib.Core.Path.{refl}
use mathlib.Core.List.Memᴰ
use Prim.Native.Nat.{zero-le}
use lib.Dec.{lit≤}
use Rattle.formula.specs.Starts.{starts_of}
use Rattle.search.proofs.WholeLaws.{call_blank}
use Rattle.search_deep.proofs.main.Goals as goal

pub whole_call-end-requires : goal.whole_call-end-requires
unfolding starts_of
whole_call-end-requires c =
    call_blank 256 refl
    (record {
      formula =
          record {
            vars_fit = lit≤ tt;
            entries_most = zero-le;
            clauses_most = zero-le;
            starts_are = c.find_starts.ensures.starts_are;
            up_to = λ l i. absurd (Memᴰ.not-nil i);
          };
      constraint_up_to = record { each = λ l i. absurd (Memᴰ.not-nil i) };
      total_most = zero-le;
    })
