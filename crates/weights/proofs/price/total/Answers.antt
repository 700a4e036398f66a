use Rattle.weights.proofs.Worth.{sums_more}
use Rattle.weights.proofs.price.total.Goals as goal

pub loop-price-preserved : goal.loop-price-preserved
loop-price-preserved g c =
    let one = c.weight.ensures in
    sums_more g.W.Weight.model g.met.W.Weight.laws c.args.prices.now _ _ c.loop-price-test.true c.loop-price.invariant one.range one.value c.plus-sum.ensures
