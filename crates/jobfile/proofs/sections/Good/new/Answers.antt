use Rattle.std.proofs.Common.{sym, arith}
use Rattle.std.proofs.lemmas.Result.{err_from_is_err_and}
use Rattle.jobfile.proofs.Gathering.{gathered_fault, still_ok}
use Rattle.jobfile.proofs.sections.Good.new.Goals as goal

pub returns-in_err-entry : goal.returns-in_err-entry
returns-in_err-entry g c =
    let s = c.args.section in
    let p = err_from_is_err_and c.from_residual.result c.from_residual.ensures.1 in
    rw (p.1, p.2) (gathered_fault (g.S.Section.gives s) c.loop-index.index (g.S.Section.count s) _ c.loop-index.invariant (sym c.in_err-entry.ensures) (omega arith))

pub loop-index-preserved : goal.loop-index-preserved
loop-index-preserved g c = still_ok (g.S.Section.gives c.args.section) c.loop-index.index _ c.loop-index.invariant (sym c.in_ok-entry.ensures)
