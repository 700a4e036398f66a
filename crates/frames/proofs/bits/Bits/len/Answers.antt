use Rattle.std.proofs.Common.{sym, ◌∙◌}
use Rattle.frames.proofs.Joined.{length_spelled}
use Rattle.frames.proofs.bits.Bits.len.Goals as goal

pub returns : goal.returns
returns c = c.from.ensures ∙ sym (length_spelled c.args.self.now.len.places c.args.self.now.halves.first c.args.self.now.halves.second)
