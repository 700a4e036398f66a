use Rattle.std.proofs.Common.{T, subst}
use Rattle.frames.proofs.Pairs.{rounded, pair_is_sum, pair_near}
use Rattle.frames.proofs.readings.are_levels.Goals as goal

pub returns-then-is_level-clause-sum : goal.returns-then-is_level-clause-sum
returns-then-is_level-clause-sum c = λ t.
    let p = c.args.p in
    let l = c.if-is_level.ensures in
    let r = c.is_level-then-is_level.ensures in
    pair_is_sum p.left p.right (rounded p.left p.right (subst T l.value tt) (subst T r.value t) l.held r.held)

pub returns-then-is_level-clause-near : goal.returns-then-is_level-clause-near
returns-then-is_level-clause-near c = λ t.
    let p = c.args.p in
    let l = c.if-is_level.ensures in
    let r = c.is_level-then-is_level.ensures in
    pair_near p.left p.right (rounded p.left p.right (subst T l.value tt) (subst T r.value t) l.held r.held)
