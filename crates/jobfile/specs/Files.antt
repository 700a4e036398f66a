-- The job that a file gives, wherever its sections stand, or the file's first fault.
use Rattle.std.specs.Prelude.{◌≡◌, ℕ, ◌+◌, ◌*◌, ◌/◌, Bool, true, cond, ◌⊎◌, List, length, take, drop, is_ok, Ok, Err, Result}
use Rattle.frames.specs.declared.readings.Reading.{Reading}
use Rattle.jobfile.specs.Gathered.{gathered}
use Rattle.jobfile.specs.Jobs.{Contents}
use Rattle.jobfile.specs.Records.{reading_of}
use Rattle.jobfile.specs.RowPlaces.{byte_places, ends_before}
use Rattle.jobfile.specs.Trailers.{trailer_in}
use Rattle.jobfile.specs.declared.faults.BadReading.{BadReading}
use Rattle.jobfile.specs.declared.faults.BadRow.{BadRow}
use Rattle.jobfile.specs.declared.faults.FileFault.{FileFault}
use Rattle.jobfile.specs.declared.faults.FileFault.TheVariants.{Section, Memory}
use Rattle.jobfile.specs.declared.faults.SectionFault.TheVariants as section
use Rattle.jobfile.specs.declared.records.ReadingFault.{ReadingFault}
use Rattle.jobfile.specs.declared.trailers.Trailer.{Trailer}

-- what a record gives; its fault tells its index and the place of its first byte
abbrev pub located : ℕ → ℕ → Result Reading ReadingFault → Result Reading BadReading
located number place (Ok x) = Ok x
located number place (Err why) = Err record { cause = why; index = number; byte = place }

-- record number `number` of those from `from` on
unfoldable pub reading_at : List ℕ → ℕ → ℕ → Result Reading BadReading
reading_at bytes from number = located number (from + 9 * number) (reading_of (take 9 (drop (from + 9 * number) bytes)))

-- places of which none at or past n is marked, or the fault of their row
abbrev pub checked_row : ℕ → ℕ → ℕ → List Bool → Result (List Bool) BadRow
checked_row n number place marked = cond (ends_before n marked) (Ok marked) (Err record { index = number; byte = place })

-- row number `number` of those from `from` on
unfoldable pub row_at : ℕ → List ℕ → ℕ → ℕ → Result (List Bool) BadRow
row_at n bytes from number = checked_row n number (from + 16 * number) (byte_places (take 16 (drop (from + 16 * number) bytes)))

-- what a section of readings gives, as a file's answer
abbrev pub of_readings : Result (List Reading) BadReading → Result (List Reading) FileFault
of_readings (Ok heard) = Ok heard
of_readings (Err e) = Err (Section (section.Reading e))

-- the readings of the whole records that stand from 0 on, or the first that gives none
abbrev pub readings_of : List ℕ → Result (List Reading) FileFault
readings_of bytes = of_readings (gathered (reading_at bytes 0) (length bytes / 9))

-- the job of a trailer and what its sections give; a bad reading comes before a bad row
abbrev pub job_of_sections : Trailer → Result (List Reading) BadReading → Result (List (List Bool)) BadRow → Result Contents FileFault
job_of_sections t (Err e) marked = Err (Section (section.Reading e))
job_of_sections t (Ok heard) (Err e) = Err (Section (section.Row e))
job_of_sections t (Ok heard) (Ok marked) = Ok record { readings = heard; rows = marked; guessed = t.guessed; limit = t.limit; kind = t.kind }

-- the readings of a file, or the first that is bad
abbrev pub readings_in : List ℕ → Trailer → Result (List Reading) BadReading
readings_in bytes t = gathered (reading_at bytes t.readings_at) t.n

-- the rows of a file, or the first that is bad
abbrev pub rows_in : List ℕ → Trailer → Result (List (List Bool)) BadRow
rows_in bytes t = gathered (row_at t.n bytes t.rows_at) t.rows

-- the job of a file whose trailer is known
abbrev pub job_of_trailer : List ℕ → Result Trailer FileFault → Result Contents FileFault
job_of_trailer bytes (Err e) = Err e
job_of_trailer bytes (Ok t) = job_of_sections t (readings_in bytes t) (rows_in bytes t)

-- the job of a file, or its first fault
abbrev pub job_of : List ℕ → Result Contents FileFault
job_of bytes = job_of_trailer bytes (trailer_in bytes)

-- a call that may want memory gives the expected answer, or lacked memory where that is no fault
abbrev pub Answers : {X A : Type 0} → (X → A) → Result X FileFault → Result A FileFault → Type 0
Answers meaning (Ok x) expected = Ok (meaning x) ≡ expected
Answers meaning (Err fault) expected = (Err fault ≡ expected) ⊎ ((fault ≡ Memory) × (is_ok expected ≡ true))
