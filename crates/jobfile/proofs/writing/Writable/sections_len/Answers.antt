use Rattle.std.proofs.Common.{arith}
use Rattle.jobfile.proofs.JobFacts.{sections_size}
use Rattle.jobfile.proofs.writing.Writable.sections_len.Goals as goal

pub returns-clause-value : goal.returns-clause-value
returns-clause-value c = omega (arith, sections_size c.args.self.now.job.now c.args.self.now.held)
