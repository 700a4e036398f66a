use Rattle.std.proofs.Common.{length, drop, Ok, ap, ◌∙◌}
use Rattle.jobfile.specs.Jobs.{contents}
use Rattle.jobfile.specs.Written.{job_bytes}
use Rattle.jobfile.specs.declared.jobs.Job.{Job}
use Rattle.jobfile.proofs.ReadBack.{written_back}
use Rattle.jobfile.proofs.writing.write.Goals as goal

pub returns-clause-back : goal.returns-clause-back
returns-clause-back c =
    let job = c.in_ok-writable.writable.job.now in
    written_back job _ c.put.new.out (drop (length (job_bytes (contents job))) c.args.out.now) c.in_ok-writable.writable.held c.put.ensures.held c.sections_len-size.ensures.value c.put.ensures.bytes
    ∙ ap (λ (j : Job). Ok (contents j)) c.in_ok-writable.ensures.job
