-- What the sections of a file give, once their entries are told apart.
use Rattle.std.specs.Prelude.{ℕ, ◌+◌, ◌*◌, Bool, List, [], length, Result, slice_index_or}
use Rattle.frames.specs.declared.readings.Reading.{Reading}
use Rattle.jobfile.specs.Files.{located, checked_row}
use Rattle.jobfile.specs.Gathered.{gathered}
use Rattle.jobfile.specs.Records.{reading_of}
use Rattle.jobfile.specs.RowPlaces.{byte_places}
use Rattle.jobfile.specs.declared.faults.BadReading.{BadReading}
use Rattle.jobfile.specs.declared.faults.BadRow.{BadRow}
use Rattle.jobfile.specs.declared.sections.Readings.{Readings}
use Rattle.jobfile.specs.declared.sections.Rows.{Rows}

-- what record number `number` gives
abbrev pub record_gives : Readings → ℕ → Result Reading BadReading
record_gives s number = located number (s.at + 9 * number) (reading_of (slice_index_or s.records.now number []))

-- what row number `number` gives
abbrev pub row_gives : Rows → ℕ → Result (List Bool) BadRow
row_gives s number = checked_row s.len.places number (s.at + 16 * number) (byte_places (slice_index_or s.rows.now number []))

-- the readings of all records, or the first fault
abbrev pub readings_here : Readings → Result (List Reading) BadReading
readings_here s = gathered (record_gives s) (length s.records.now)

-- all rows, or the first fault
abbrev pub rows_here : Rows → Result (List (List Bool)) BadRow
rows_here s = gathered (row_gives s) (length s.rows.now)
