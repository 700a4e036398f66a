use Rattle.std.proofs.Common.{◌+◌, ◌^◌, ◌<◌, drop}
use Rattle.frames.specs.Words.{places}
use Rattle.rules.specs.Meaning.{HasMeaning}
use Rattle.rules.proofs.Walks.{Walked}
use Rattle.rules.proofs.weigh.weigh.Given as goal

-- the places so far are walked, for what the sum is worth
abbrev pub invariant-loop-place : goal.invariant-loop-place
invariant-loop-place g l =
    let t = g.R.Rule.trellis l.rule in
    record {
      fits : l.place + (goal.iterator-loop-place g).remaining l.flip-iterator < 2 ^ 64;
      walked : HasMeaning t → Walked g.R.Cost.Weight.model t (places l.pattern.bits) l.place l.state (g.R.Cost.Weight.value l.sum) (drop l.flip-iterator.place (places l.flip-iterator.bits));
    }
