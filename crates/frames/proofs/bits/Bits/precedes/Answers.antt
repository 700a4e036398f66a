use Rattle.std.proofs.Common.{◌∙◌, arith}
use Rattle.std.proofs.lemmas.Bool.Decides.{nat_tests}
use Rattle.frames.proofs.Joined.{precedes_is}
use Rattle.frames.proofs.bits.Bits.precedes.Goals as goal

pub returns : goal.returns
returns c =
    let s = c.args.self.now in
    let o = c.args.other.now in
    c.lt.ensures
    ∙ grind (arith, nat_tests)
    ∙ precedes_is s.len.places s.halves.first s.halves.second o.len.places o.halves.first o.halves.second s.len.most o.len.most s.above s.below o.above o.below s.clean o.clean
