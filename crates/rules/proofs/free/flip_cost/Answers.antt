use Rattle.std.proofs.Common.{sym, ◌∙◌, arith}
use Rattle.weights.proofs.Worth.{worth_one}
use Rattle.weights.specs.declared.price.Price.TheVariants.{Flip}
use Rattle.rules.proofs.free.flip_cost.Goals as goal

pub returns-then-flip : goal.returns-then-flip
returns-then-flip g c = rw c.if-flip.true (c.flip.ensures ∙ sym (worth_one g.W.Weight.model g.met.W.Weight.laws (Flip c.args.weight) (omega arith)))
