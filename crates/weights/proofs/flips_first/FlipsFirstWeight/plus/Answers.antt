use Rattle.std.proofs.Common.{arith}
use Rattle.weights.specs.Grade.{sum}
use Rattle.weights.specs.CountedLemmas.{counted_bound}
use Rattle.weights.proofs.flips_first.FlipsFirstWeight.plus.Goals as goal

pub returns : goal.returns
returns c = λ a. grind (arith, counted_bound (sum a.left a.right))
