-- The digits from a place on, after the value v of those before, have the value of the whole word. Assumes nothing.
use Rattle.std.proofs.Common.{◌≡◌, ◌^◌, ◌<◌, drop}
use Rattle.lines.proofs.Words.{decimal_from}
use Rattle.lines.proofs.numbers.decimal.Given as goal

abbrev pub invariant-loop-d : goal.invariant-loop-d
invariant-loop-d l = (l.v < 10 ^ l.d-index) × (decimal_from 0 l.word ≡ decimal_from l.v (drop l.d-index l.word))
