use Rattle.std.proofs.Common.{arith}
use Rattle.weights.specs.Grade.{sum}
use Rattle.weights.specs.WholeLemmas.{whole_bound}
use Rattle.weights.proofs.level.LevelWeight.plus.Goals as goal

pub returns : goal.returns
returns c = λ a. omega (arith, whole_bound (λ w. w) (λ p. p) 65535 (λ w h. omega arith) (λ p h. omega arith) (sum a.left a.right))
