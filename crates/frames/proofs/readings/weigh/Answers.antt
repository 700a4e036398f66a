use Rattle.std.proofs.Common.{T, ap, ◌∙◌, ap₂, rules}
use lib.Ieee.{lt, mul, to_unsigned, fits, binary32}
use Rattle.frames.proofs.Weighs.{negative_is, weight_is, unsigned_held, at_0, at_256}
use Rattle.frames.proofs.readings.weigh.Goals as goal

pub returns : goal.returns
returns c =
    let y = c.args.y in
    let b = ap (lt y) at_0 ∙ negative_is y in
    let f : T (fits binary32 y) = search rules in
    let w = c.saturating_f32_to_u16.ensures ∙ ap (to_unsigned 16) (ap₂ (mul binary32) c.abs.ensures.value at_256) ∙ weight_is y c.requires (unsigned_held y f) in
    cc
