use Rattle.std.proofs.Common.{◌≡◌, true, is_ok}
use Rattle.jobfile.specs.Gathered.{gathered}
use Rattle.jobfile.proofs.sections.Good.new.Given as goal

abbrev pub invariant-loop-index : goal.invariant-loop-index
invariant-loop-index g l = is_ok (gathered (g.S.Section.gives l.section) l.index) ≡ true
