use Rattle.weights.proofs.Worth.{worth-++}
use Rattle.weights.proofs.weight.laws_hold.Goals as goal

pub returns : goal.returns
returns g c = let laws = g.met.W.Weight.laws in (laws, worth-++ g.W.Weight.model laws)
