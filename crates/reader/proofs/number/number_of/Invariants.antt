-- `reader::number::number_of` meets its contract. The invariant of its loop, `Digits`: the digits before the index say n, and n is below
-- ten to the index. Assumes nothing.
use Rattle.reader.proofs.NumberLaws.{Digits}
use Rattle.reader.proofs.number.number_of.Given as goal

abbrev pub invariant-loop-b : goal.invariant-loop-b
invariant-loop-b l = Digits l.word l.n l.b-index
