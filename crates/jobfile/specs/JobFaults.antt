-- Why no file can hold a job.
use Rattle.std.specs.Prelude.{ℕ, ◌+◌, ◌*◌, Bool, cond, List, length, Some, None, Option}
use Rattle.std.specs.Option.{option_map}
use Rattle.frames.specs.Cells.{is_good}
use Rattle.frames.specs.Firsts.{first_failing}
use Rattle.frames.specs.declared.readings.Reading.{Reading}
use Rattle.jobfile.specs.Jobs.{Contents}
use Rattle.jobfile.specs.RowPlaces.{ends_before}
use Rattle.jobfile.specs.Trailers.{is_good_trailer}
use Rattle.jobfile.specs.declared.faults.BadReading.{BadReading}
use Rattle.jobfile.specs.declared.faults.BadRow.{BadRow}
use Rattle.jobfile.specs.declared.faults.FileFault.{FileFault}
use Rattle.jobfile.specs.declared.faults.FileFault.TheVariants.{Numbers, Section}
use Rattle.jobfile.specs.declared.faults.SectionFault.TheVariants as section
use Rattle.jobfile.specs.declared.records.ReadingFault.TheVariants.{Level}
use Rattle.jobfile.specs.Written.{trailer_for}

-- the first reading that no record can hold, at its place in the file
abbrev pub bad_reading_of : List Reading → Option BadReading
bad_reading_of heard = option_map (λ k. record { cause = Level; index = k; byte = 9 * k }) (first_failing is_good heard)

-- the first row with a mark at or past n, at its place in the file
abbrev pub bad_row_of : ℕ → List (List Bool) → Option BadRow
bad_row_of n marked = option_map (λ k. record { index = k; byte = 9 * n + 16 * k }) (first_failing (ends_before n) marked)

-- the first fault of two sections
abbrev pub section_fault_of : Option BadReading → Option BadRow → Option FileFault
section_fault_of (Some e) o = Some (Section (section.Reading e))
section_fault_of None (Some e) = Some (Section (section.Row e))
section_fault_of None None = None

-- the first fault of a job, if no file can hold it
abbrev pub job_fault : Contents → Option FileFault
job_fault c = cond (is_good_trailer (trailer_for c)) (section_fault_of (bad_reading_of c.readings) (bad_row_of (length c.readings) c.rows)) (Some Numbers)
