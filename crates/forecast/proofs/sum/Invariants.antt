-- `forecast::sum` meets its contract. The loop's invariant: the total and what is left to add are the sum. Assumes nothing.
use Rattle.forecast.proofs.ToldLaws.{Adding}
use Rattle.forecast.proofs.sum.Given as goal

abbrev pub invariant-loop-kind : goal.invariant-loop-kind
invariant-loop-kind l = Adding l.kinds l.universal l.numbers l.count l.total l.before l.kind-index
