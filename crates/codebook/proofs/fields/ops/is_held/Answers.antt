use Rattle.codebook.proofs.Numbers.{held_is}
use Rattle.codebook.proofs.fields.ops.is_held.Goals as goal

pub returns : goal.returns
returns c = held_is c.args.number c.args.count
