-- The file that a job is written to: readings, rows and trailer, one right after another.
use Rattle.std.specs.Prelude.{◌≡◌, ℕ, ◌+◌, ◌*◌, List, ◌++◌, length, slice_index}
use Rattle.std.specs.List.{flat_map}
use Rattle.jobfile.specs.Jobs.{Contents}
use Rattle.jobfile.specs.Records.{pattern, record_of}
use Rattle.jobfile.specs.RowPlaces.{packed}
use Rattle.jobfile.specs.Trailers.{trailer_start, pair_at, trailer_bytes}
use Rattle.jobfile.specs.declared.trailers.Trailer.{Trailer}

-- the trailer of a job: the readings stand at 0, the rows right after them
abbrev pub trailer_for : Contents → Trailer
trailer_for c = record {
  n = length c.readings;
  rows = length c.rows;
  guessed = c.guessed;
  readings_at = 0;
  rows_at = 9 * length c.readings;
  limit = c.limit;
  kind = c.kind;
}

-- the bytes of a job's file
abbrev pub job_bytes : Contents → List ℕ
job_bytes c = flat_map record_of c.readings ++ (flat_map (packed 16) c.rows ++ trailer_bytes (trailer_for c))

-- whether a file's readings stand at 0, its rows right after them, and its trailer right after the rows
abbrev pub InWrittenLayout : List ℕ → Type 0
InWrittenLayout bytes =
    (pattern bytes (trailer_start bytes + 4) ≡ 0)
    × (pattern bytes (trailer_start bytes + 8) ≡ 9 * pair_at bytes (trailer_start bytes))
    × (trailer_start bytes ≡ 9 * pair_at bytes (trailer_start bytes) + 16 * slice_index bytes (trailer_start bytes + 2))
