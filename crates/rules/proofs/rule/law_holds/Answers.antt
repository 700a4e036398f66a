use Rattle.rules.proofs.rule.law_holds.Goals as goal

pub returns : goal.returns
returns g c = g.met.R.Rule.meaning c.args.rule.now
