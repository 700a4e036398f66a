use Rattle.frames.proofs.Joined.{marks_is}
use Rattle.frames.proofs.bits.Bits.marks.Goals as goal

pub returns : goal.returns
returns c = let s = c.args.self.now in marks_is s.len.places s.halves.first s.halves.second s.len.most s.above s.below s.clean
