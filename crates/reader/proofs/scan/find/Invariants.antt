-- `reader::scan::find` meets its contract. The invariant of its loop: from i on the search finds what it finds from `at` on, for each
-- test that the closure computes. Assumes nothing.
use Rattle.std.proofs.Common.{◌≡◌, ℕ, Bool}
use Rattle.reader.specs.Scan.{Computes, first_from}
use Rattle.reader.proofs.scan.find.Given as goal

abbrev pub invariant-loop-i : goal.invariant-loop-i
invariant-loop-i g l =
    (test : ℕ → Bool) → Computes (λ b r. goal.P-post g l.passes b r) test → first_from test l.s l.i ≡ first_from test l.s l.at
