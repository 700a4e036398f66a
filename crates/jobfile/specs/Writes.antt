-- What a write answers, and what it leaves in its buffer.
use Rattle.std.specs.Prelude.{ℕ, cond, List, ◌++◌, length, drop, Some, None, Ok, Err, Option, Result, nat_le}
use Rattle.jobfile.specs.Jobs.{Contents}
use Rattle.jobfile.specs.declared.faults.FileFault.{FileFault}
use Rattle.jobfile.specs.declared.faults.FileFault.TheVariants.{Room}
use Rattle.jobfile.specs.Written.{job_bytes}
use Rattle.jobfile.specs.JobFaults.{job_fault}

-- bytes that are to be written, unless there is a fault or no room for them
abbrev pub writable : Option FileFault → List ℕ → ℕ → Result (List ℕ) FileFault
writable (Some e) bytes space = Err e
writable None bytes space = cond (nat_le (length bytes) space) (Ok bytes) (Err Room)

-- what is written of a job where there is space for so many bytes
abbrev pub written_of : Contents → ℕ → Result (List ℕ) FileFault
written_of c space = writable (job_fault c) (job_bytes c) space

-- what stands in a buffer after a write: the bytes, and then what stood there before
abbrev pub overwritten : Result (List ℕ) FileFault → List ℕ → List ℕ
overwritten (Ok bytes) before = bytes ++ drop (length bytes) before
overwritten (Err e) before = before
