-- The measure of the cycle of calls {put_decimal} is the number: a tenth of it is less. Assumes nothing.
use Rattle.buffers.proofs.put.+put_decimal.Given as goal

abbrev pub decreases-put_decimal : goal.decreases-put_decimal
decreases-put_decimal l = l.n
