-- The trailer: the last 16 bytes of a file.
use Rattle.std.specs.Prelude.{ℕ, ◌+◌, ◌-◌, ◌*◌, ◌/◌, ◌%◌, ◌^◌, Bool, cond, ◌&&◌, ◌||◌, List, [], ◌∷◌, ◌++◌, length, Some, None, Ok, Err, Option, Result, ◌==◌, nat_le, slice_index}
use Rattle.jobfile.specs.Records.{pattern, four_bytes}
use Rattle.jobfile.specs.declared.jobs.WeightKind.{WeightKind}
use Rattle.jobfile.specs.declared.jobs.WeightKind.TheVariants.{Level, FlipsFirst}
use Rattle.jobfile.specs.declared.faults.FileFault.{FileFault}
use Rattle.jobfile.specs.declared.faults.FileFault.TheVariants.{Form, Numbers, Layout}
use Rattle.jobfile.specs.declared.trailers.Trailer.{Trailer}

-- the place of the trailer's first byte
abbrev pub trailer_start : List ℕ → ℕ
trailer_start bytes = length bytes - 16

-- the number of the two bytes from a place on, the least byte first
abbrev pub pair_at : List ℕ → ℕ → ℕ
pair_at bytes at = slice_index bytes at + slice_index bytes (at + 1) * 256

-- the two bytes of a number, the least first
abbrev pub two_bytes : ℕ → List ℕ
two_bytes n = (n % 256) ∷ (n / 256 % 256) ∷ []

-- whether there are 16 to 4,096 bytes, and the last is the mark, hexadecimal 5A
abbrev pub has_form : List ℕ → Bool
has_form bytes = nat_le 16 (length bytes) && nat_le (length bytes) 4096 && slice_index bytes (trailer_start bytes + 15) == 90

-- whether a job may have these numbers
abbrev pub good_numbers : ℕ → ℕ → ℕ → ℕ → Bool
good_numbers n rowCount guesses most =
    nat_le 1 n && nat_le n 128 && nat_le 1 most && nat_le most 1024 && nat_le rowCount 32 && nat_le guesses 6 && nat_le guesses rowCount && nat_le (n * most) 1024 && nat_le ((n + 1) * 2 ^ guesses) 1024

-- the kind that a byte stands for
abbrev pub kind_of : ℕ → Option WeightKind
kind_of byte = cond (byte == 0) (Some Level) (cond (byte == 1) (Some FlipsFirst) None)

-- the byte of a kind
abbrev pub kind_byte : WeightKind → ℕ
kind_byte Level = 0
kind_byte FlipsFirst = 1

-- what the 16 bytes from a place on say, at a kind
abbrev pub trailer_at : List ℕ → ℕ → WeightKind → Trailer
trailer_at bytes at weighs = record {
  n = pair_at bytes at;
  rows = slice_index bytes (at + 2);
  guessed = slice_index bytes (at + 3);
  readings_at = pattern bytes (at + 4);
  rows_at = pattern bytes (at + 8);
  limit = pair_at bytes (at + 12);
  kind = weighs;
}

-- whether a trailer's numbers are a job's
abbrev pub is_good_trailer : Trailer → Bool
is_good_trailer t = good_numbers t.n t.rows t.guessed t.limit

-- the trailer, if its numbers are a job's
abbrev pub checked_trailer : Trailer → Option Trailer
checked_trailer t = cond (is_good_trailer t) (Some t) None

-- the trailer at a kind that may be none
abbrev pub trailer_of_kind : List ℕ → Option WeightKind → Option Trailer
trailer_of_kind bytes None = None
trailer_of_kind bytes (Some weighs) = checked_trailer (trailer_at bytes (trailer_start bytes) weighs)

-- the trailer of a file, if its numbers are a job's
abbrev pub trailer_of : List ℕ → Option Trailer
trailer_of bytes = trailer_of_kind bytes (kind_of (slice_index bytes (trailer_start bytes + 14)))

-- whether no section has a byte in or past the trailer, or in the other; no rows stand anywhere
abbrev pub is_laid_out : Trailer → ℕ → Bool
is_laid_out t end =
    nat_le (t.readings_at + 9 * t.n) end
    && (t.rows == 0 || (nat_le (t.rows_at + 16 * t.rows) end && (nat_le (t.readings_at + 9 * t.n) t.rows_at || nat_le (t.rows_at + 16 * t.rows) t.readings_at)))

-- a trailer whose sections are laid out before `end`, or its fault
abbrev pub laid_out : ℕ → Option Trailer → Result Trailer FileFault
laid_out end None = Err Numbers
laid_out end (Some t) = cond (is_laid_out t end) (Ok t) (Err Layout)

-- the trailer of a file, or the first of the faults 32, 33 and 34
abbrev pub trailer_in : List ℕ → Result Trailer FileFault
trailer_in bytes = cond (has_form bytes) (laid_out (trailer_start bytes) (trailer_of bytes)) (Err Form)

-- the 16 bytes of a trailer
abbrev pub trailer_bytes : Trailer → List ℕ
trailer_bytes t = two_bytes t.n ++ t.rows ∷ t.guessed ∷ four_bytes t.readings_at ++ four_bytes t.rows_at ++ two_bytes t.limit ++ kind_byte t.kind ∷ 90 ∷ []
