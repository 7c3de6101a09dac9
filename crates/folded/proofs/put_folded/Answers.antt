-- `put_folded` meets its contract: the header with the number of clauses, the forced literals, the clauses that hold none. Assumes nothing.
use mathlib.Core.Path.{◌≡◌, ap}
use mathlib.Core.List.{List, ◌++◌}
use Prim.Native.Nat.{ℕ, ◌+◌}
use native.Mathlib.Omega.{arith}
use lib.ListN.{length}
use Rattle.rules.specs.Lists.{pieces}
use Rattle.rules.specs.Meaning.{clauses}
use Rattle.rules.proofs.ListLaws.{count_le}
use Rattle.rules.proofs.ClauseLaws.{clauses_le}
use Rattle.buffers.proofs.PutLaws.{put_then, put_same}
use Rattle.folded.specs.Folded.{other_line, is_other, unit_line, header_text, folded_text}
use Rattle.folded.proofs.put_folded.Goals as goal

pub overflow_add-forced : goal.overflow_add-forced
overflow_add-forced c =
    let es = c.args.entries.now in
    omega (
      arith,
      c.count_others-count.ensures,
      count_le (is_other c.args.values.now) (clauses es),
      clauses_le es,
      c.requires.formula.entries_most,
      c.requires.forced_fit,
    )

pub returns : goal.returns
returns c =
    let header : List ℕ =
    header_text (length c.args.values.now) (c.args.forced + c.count_others-count.result) in
    let units : List ℕ =
    pieces unit_line 1 c.args.values.now in
    let others : List ℕ =
    pieces (other_line c.args.values.now) 1 (clauses c.args.entries.now) in
    let whole : let a = c.args in header ++ (units ++ others) ≡ folded_text a.values.now (clauses a.entries.now) a.forced =
    let a = c.args in
    ap (λ (n : ℕ). header_text (length a.values.now) (a.forced + n) ++ (units ++ others)) c.count_others-count.ensures in
    put_same whole (put_then c.put_header-behind_header.ensures (put_then c.put_units-behind_units.ensures c.put_others.ensures))
