use Rattle.std.proofs.Common.{◌%◌, Some, None, refl}
use Rattle.rules.specs.Layers.{layered_below, layered_answers}
use Rattle.rules.proofs.layer.LayeredRule.step.Goals as goal

pub returns-in_err-below : goal.returns-in_err-below
returns-in_err-below g c h =
    let r = c.args.self.now in
    let t = g.R.Rule.trellis r.below in
    let keeps = g.met.L.Layer.keeps r.layer in
    let b = layered_below _ _ _ keeps t h in
    rw c.from_residual.ensures
    (layered_answers _ _ _ keeps t h _ _ (g.met.R.Rule.meaning r.below b) g.R.Cost.Weight.model g.R.Cost.Weight.value c.args.place c.args.state c.args.flip
    None ((g.L.Layer.own r.layer).turn c.args.place (c.args.state % (g.L.Layer.own r.layer).factor) c.args.flip) (rw c.outer.ensures at c.in_err-below.ensures b) (λ k. refl))

pub returns-in_err-own : goal.returns-in_err-own
returns-in_err-own g c h =
    let r = c.args.self.now in
    let t = g.R.Rule.trellis r.below in
    let keeps = g.met.L.Layer.keeps r.layer in
    let b = layered_below _ _ _ keeps t h in
    rw c.from_residual-in_err-own.ensures
    (layered_answers _ _ _ keeps t h _ _ (g.met.R.Rule.meaning r.below b) g.R.Cost.Weight.model g.R.Cost.Weight.value c.args.place c.args.state c.args.flip
    (Some c.in_ok-below.below) None (rw c.outer.ensures at c.in_ok-below.ensures b) (λ k. rw c.inner.ensures at c.in_err-own.ensures k))

pub returns : goal.returns
returns g c h =
    let r = c.args.self.now in
    let t = g.R.Rule.trellis r.below in
    let keeps = g.met.L.Layer.keeps r.layer in
    let b = layered_below _ _ _ keeps t h in
    rw (c.overlay.ensures, c.factor.ensures)
    (layered_answers _ _ _ keeps t h _ _ (g.met.R.Rule.meaning r.below b) g.R.Cost.Weight.model g.R.Cost.Weight.value c.args.place c.args.state c.args.flip
    (Some c.in_ok-below.below) (Some c.in_ok-own.own) (rw c.outer.ensures at c.in_ok-below.ensures b) (λ k. rw c.inner.ensures at c.in_ok-own.ensures k))
