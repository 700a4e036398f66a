use Rattle.std.proofs.Common.{arith}
use Rattle.weights.specs.Grade.{sum}
use Rattle.weights.specs.WholeLemmas.{whole_bound}
use Rattle.own_weight.proofs.FlipsOnlyWeight.plus.Goals as goal

pub returns : goal.returns
returns c = λ a. omega (arith, whole_bound (λ _. 1) (λ _. 0) 1 (λ w h. omega arith) (λ p h. omega arith) (sum a.left a.right))
