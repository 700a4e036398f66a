use Rattle.std.proofs.Common.{◌≡◌, [], length, drop, ap, ◌∙◌, arith}
use Rattle.frames.specs.Words.{places}
use Rattle.std.specs.Option.{option_map}
use Rattle.rules.proofs.Walks.{walked_barred, walked_more, walked_end}
use Rattle.rules.proofs.weigh.weigh.Goals as goal

pub returns-in_err-step : goal.returns-in_err-step
returns-in_err-step g c h =
    let r = c.args.rule.now in
    let rule = g.R.Rule in
    let value = g.R.Cost.Weight.value in
    let at = c.loop-place in
    ap (option_map value) c.from_residual.ensures
    ∙ walked_barred g.R.Cost.Weight.model (rule.trellis r) (places c.args.pattern.now.bits) (rule.admits r) (rule.prices r) (g.met.R.Rule.meaning r h)
    at.place at.state (value at.sum) c.in-Some.flip (drop c.next.new.self.place (places c.next.new.self.bits)) (rw c.in-Some.ensures.steps at at.invariant.walked h) (omega arith) (c.in_err-step.ensures h)

pub loop-place-preserved : goal.loop-place-preserved
loop-place-preserved g c =
    let r = c.args.rule.now in
    let rule = g.R.Rule in
    let value = g.R.Cost.Weight.value in
    let at = c.loop-place in
    record {
      fits = omega (arith, ap length c.in-Some.ensures.steps, at.invariant.fits);
      walked = λ h. walked_more g.R.Cost.Weight.model (rule.trellis r) (places c.args.pattern.now.bits) (rule.admits r) (rule.prices r) (g.met.R.Rule.meaning r h)
          at.place at.state (value at.sum) c.in-Some.flip (drop c.next.new.self.place (places c.next.new.self.bits)) (rw c.in-Some.ensures.steps at at.invariant.walked h) g.met.R.Cost.Weight.laws h
          c.in_ok-step.step.next (value c.in_ok-step.step.cost) (value c.plus-sum.result) (c.in_ok-step.ensures h) c.plus-sum.ensures;
    }

pub returns : goal.returns
returns g c h =
    let r = c.args.rule.now in
    let rule = g.R.Rule in
    let value = g.R.Cost.Weight.value in
    let at = c.loop-place in
    let past : drop at.flip-iterator.place (places at.flip-iterator.bits) ≡ [] = c.in-None.ensures.steps.0 in
    ap (option_map value) c.then_some.ensures
    ∙ walked_end g.R.Cost.Weight.model (rule.trellis r) (places c.args.pattern.now.bits) (rule.admits r) (rule.prices r) (g.met.R.Rule.meaning r h)
    value at.place at.state at.sum c.is_end.result (rw past at at.invariant.walked h) (c.is_end.ensures h) (omega arith)
