use Rattle.std.proofs.Common.{◌≡◌, [], ◌∷◌, false, nat_eq, sym, ◌∙◌, arith}
use Rattle.std.proofs.lemmas.Bool.{ne_eqb}
use Rattle.weights.proofs.Worth.{worth_one, worth_sum}
use Rattle.weights.specs.declared.price.Price.TheVariants.{Flip, Surcharge}
use Rattle.rules.proofs.burst.Burst.cost.Goals as goal

pub returns-then-state-eq1 : goal.returns-then-state-eq1
returns-then-state-eq1 g c = rw (c.if-not-flip.false, c.if-state-eq1.true) (c.flip-price.ensures ∙ sym (worth_one g.W.Weight.model g.met.W.Weight.laws (Flip c.args.weight) (omega arith)))

pub returns-else-state-eq1 : goal.returns-else-state-eq1
returns-else-state-eq1 g c =
    let m = g.W.Weight.model in
    let laws = g.met.W.Weight.laws in
    let flip = Flip c.args.weight in
    let surcharge = Surcharge c.args.self.now.surcharge in
    let after : nat_eq c.args.state 1 ≡ false = ne_eqb c.args.state 1 c.if-state-eq1.false in
    rw (c.if-not-flip.false, after) (worth_sum m laws (flip ∷ []) (surcharge ∷ []) (c.ranges.weight.fits, tt) (c.args.self.now.low, tt) (omega arith)
    (c.flip-price.ensures ∙ sym (worth_one m laws flip (omega arith))) (c.surcharge.ensures ∙ sym (worth_one m laws surcharge c.args.self.now.low)) c.plus.ensures)
