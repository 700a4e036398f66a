use Rattle.std.proofs.Common.{sym, ◌∙◌, arith}
use Rattle.std.proofs.lemmas.Bool.{cond-true, cond-false}
use Rattle.std.proofs.lemmas.Result.{err_from_is_err_and}
use Rattle.jobfile.proofs.TrailerBytes.{apart_ok, apart_err}
use Rattle.jobfile.proofs.trailers.ops.read_trailer.Goals as goal

pub returns-in_err-trailer : goal.returns-in_err-trailer
returns-in_err-trailer c =
    let p = err_from_is_err_and c.from_residual.result c.from_residual.ensures.1 in
    let e = c.in-Some.ensures.cases in
    rw (p.1, p.2) (apart_err c.args.bytes.now c.in-Some.sections.now c.in-Some.last.now (omega arith) (omega arith) e.1 e.2 (omega arith) _ c.in_err-trailer.ensures)

pub returns-then-is_laid_out : goal.returns-then-is_laid_out
returns-then-is_laid_out c =
    let e = c.in-Some.ensures.cases in
    sym (apart_ok c.args.bytes.now c.in-Some.sections.now c.in-Some.last.now (omega arith) (omega arith) e.1 e.2 (omega arith) c.in_ok-trailer.trailer c.in_ok-trailer.ensures ∙ cond-true _ _ _ (sym c.if-is_laid_out.ensures))

pub returns-else-is_laid_out : goal.returns-else-is_laid_out
returns-else-is_laid_out c =
    let e = c.in-Some.ensures.cases in
    sym (apart_ok c.args.bytes.now c.in-Some.sections.now c.in-Some.last.now (omega arith) (omega arith) e.1 e.2 (omega arith) c.in_ok-trailer.trailer c.in_ok-trailer.ensures ∙ cond-false _ _ _ (sym c.if-is_laid_out.ensures))
