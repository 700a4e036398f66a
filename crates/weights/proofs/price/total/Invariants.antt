use Rattle.std.proofs.Common.{take}
use Rattle.weights.proofs.Worth.{Sums}
use Rattle.weights.proofs.price.total.Given as goal

abbrev pub invariant-loop-price : goal.invariant-loop-price
invariant-loop-price g l = let w = g.W.Weight in Sums w.model (take l.price-index l.prices) (w.value l.sum)
