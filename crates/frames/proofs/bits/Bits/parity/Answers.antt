use Rattle.std.proofs.Common.{ap}
use Rattle.frames.specs.Halves.{is_odd}
use Rattle.frames.proofs.Joined.{overlap_is}
use Rattle.frames.proofs.bits.Bits.parity.Goals as goal

pub returns : goal.returns
returns c =
    let s = c.args.self.now in
    let o = c.args.row.now.bits in
    ap is_odd (overlap_is s.len.places s.halves.first s.halves.second o.len.places o.halves.first o.halves.second s.len.most o.len.most s.above s.below o.below s.clean o.clean)
