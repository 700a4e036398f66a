use Rattle.std.proofs.Common.{arith}
use Rattle.frames.proofs.Joined.{shifted_unmarked, shifted_spelled}
use Rattle.frames.proofs.bits.Bits.spell.Goals as goal

pub invariant_of-result : goal.invariant_of-result
invariant_of-result c = record {
  above = omega arith;
  below = omega arith;
  clean = shifted_unmarked c.args.len.places c.args.value c.args.len.most c.requires;
}

pub returns : goal.returns
returns c = shifted_spelled c.args.len.places c.args.value c.args.len.most c.requires
