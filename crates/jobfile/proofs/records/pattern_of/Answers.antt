use Rattle.std.proofs.Common.{T, sym, ap, ◌∙◌, subst}
use lib.Ieee.{binary32, of_bits}
use lib.Ieee.Bits.{of_bits-to_bits}
use Rattle.jobfile.proofs.records.pattern_of.Goals as goal

pub returns-clause-back : goal.returns-clause-back
returns-clause-back c = ap (of_bits binary32) c.f32_to_bits_with_nan.ensures ∙ of_bits-to_bits binary32 c.args.level (subst T (sym c.well_formed.0.1) tt)
