use Rattle.std.proofs.Common.{◌<◌, ◌≤◌, length, is_ok, ap, arith}
use Rattle.std.proofs.Output.{writes_in_calls_nil, has_written_append, has_written_of_eq}
use Rattle.std.proofs.lemmas.List.{take_all}
use Rattle.listing.specs.Shown.{spaced}
use Rattle.listing.proofs.Spaces.{spaced_more}
use Rattle.listing.proofs.lines.SpacedDisplay.fmt.Goals as goal

pub loop-weight-init : goal.loop-weight-init
loop-weight-init g c = λ p. record { wrote = writes_in_calls_nil g.W.Write.write_str_gives c.args.f.now.writer; plain = p }

pub loop-weight-preserved : goal.loop-weight-preserved
loop-weight-preserved g c = λ p.
    let ws = c.args.self.now.weights.now in
    let i = c.loop-weight.weight-index in
    let before = c.loop-weight.invariant p in
    let h : i < length ws = omega arith in
    has_written_of_eq g.W.Write.write_str_gives c.args.f.now _ _ c.write.new.self (spaced_more ws i h)
    (has_written_append g.W.Write.write_str_gives c.args.f.now _ c.loop-weight.f _ c.write.new.self before (c.write.ensures.writes before.plain (ap is_ok c.in_ok-write.was)))

pub returns-clause-writes : goal.returns-clause-writes
returns-clause-writes g c = λ p _.
    let ws = c.args.self.now.weights.now in
    let l : length ws ≤ c.loop-weight.weight-index = omega arith in
    has_written_of_eq g.W.Write.write_str_gives c.args.f.now _ _ c.loop-weight.f (ap spaced (take_all c.loop-weight.weight-index ws l)) (c.loop-weight.invariant p)
