use Rattle.std.proofs.Common.{◌∙◌, ap₂}
use lib.Ieee.{le}
use Rattle.frames.proofs.Weighs.{level_is, at_127}
use Rattle.frames.proofs.readings.is_level.Goals as goal

pub returns-clause-value : goal.returns-clause-value
returns-clause-value c = ap₂ le c.abs.ensures.value at_127 ∙ level_is c.args.y
