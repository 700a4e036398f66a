use Rattle.frames.proofs.Joined.{clear_is}
use Rattle.frames.proofs.halves.is_clear.Goals as goal

pub returns-else-kept-ge64 : goal.returns-else-kept-ge64
returns-else-kept-ge64 c = clear_is c.args.half c.args.kept c.if-kept-ge64.false
