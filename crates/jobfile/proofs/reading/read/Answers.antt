use Rattle.std.proofs.Common.{Result, subst, arith}
use Rattle.jobfile.specs.Files.{job_of_trailer, Answers}
use Rattle.jobfile.specs.Jobs.{contents}
use Rattle.jobfile.specs.declared.faults.FileFault.{FileFault}
use Rattle.jobfile.specs.declared.trailers.Trailer.{Trailer}
use Rattle.jobfile.proofs.Rewritten.{answers_back}
use Rattle.jobfile.proofs.reading.read.Goals as goal

pub returns : goal.returns
returns c =
    let bs = c.args.bytes.now in
    let r = c.job.result in
    let v = subst (λ (t : Result Trailer FileFault). Answers contents r (job_of_trailer bs t)) c.in_ok-trailer.ensures c.job.ensures in
    record { value = v; back = answers_back bs (λ i. omega (arith, c.type_inv.bytes i)) r v }
