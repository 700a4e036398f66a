use Rattle.std.proofs.Common.{◌≡◌, map, Ok, vec_items}
use Rattle.jobfile.specs.Gathered.{gathered}
use Rattle.jobfile.proofs.sections.Good.entries.Given as goal

abbrev pub invariant-loop-index : goal.invariant-loop-index
invariant-loop-index g l = gathered (g.S.Section.gives l.self.section) l.index ≡ Ok (map g.S.Section.meaning (vec_items l.entries))
