-- A record: the byte of its kind, then two patterns of 32-bit floats, each of four bytes, the least first.
use Rattle.std.specs.Prelude.{◌≡◌, ℕ, ◌+◌, ◌*◌, ◌/◌, ◌%◌, ◌<◌, Bool, true, cond, ◌&&◌, List, [], ◌∷◌, ◌++◌, length, take, drop, Some, None, Ok, Err, Option, Result, ◌==◌, from_bits, nat_le, slice_index, slice_index_or, to_bits}
use Rattle.std.specs.Float.{binary32}
use Rattle.frames.specs.Cells.{is_good}
use Rattle.frames.specs.declared.readings.Reading.{Reading}
use Rattle.frames.specs.declared.readings.Reading.TheVariants.{Dropout, Single, Pair}
use Rattle.jobfile.specs.declared.records.ReadingFault.{ReadingFault}
use Rattle.jobfile.specs.declared.records.RecordKind.{RecordKind}
use Rattle.jobfile.specs.declared.records.RecordKind.TheVariants.{Dropout as DropoutRecord, Single as SingleRecord, Pair as PairRecord}
use Rattle.jobfile.specs.declared.records.ReadingFault.TheVariants.{Kind, Spare, Level}

-- the number of the four bytes from a place on, the least byte first
abbrev pub pattern : List ℕ → ℕ → ℕ
pattern bytes at = slice_index bytes at + slice_index bytes (at + 1) * 256 + slice_index bytes (at + 2) * 65536 + slice_index bytes (at + 3) * 16777216

-- the four bytes of a number, the least first
abbrev pub four_bytes : ℕ → List ℕ
four_bytes n = (n % 256) ∷ (n / 256 % 256) ∷ (n / 65536 % 256) ∷ (n / 16777216 % 256) ∷ []

-- the kind that a byte stands for
abbrev pub record_kind : ℕ → Option RecordKind
record_kind byte = cond (byte == 0) (Some DropoutRecord) (cond (byte == 1) (Some SingleRecord) (cond (byte == 2) (Some PairRecord) None))

-- the byte of a kind
abbrev pub record_byte : RecordKind → ℕ
record_byte DropoutRecord = 0
record_byte SingleRecord = 1
record_byte PairRecord = 2

-- the record of a kind's byte and two patterns
abbrev pub record_of_parts : ℕ → ℕ → ℕ → List ℕ
record_of_parts kind left right = kind ∷ four_bytes left ++ four_bytes right

-- the record of a reading; the patterns that it does not use are zero
abbrev pub record_of : Reading → List ℕ
record_of Dropout = record_of_parts 0 0 0
record_of (Single y) = record_of_parts 1 (to_bits binary32 y) 0
record_of (Pair p) = record_of_parts 2 (to_bits binary32 p.left) (to_bits binary32 p.right)

-- a reading, or its fault: first that an unused pattern is not zero, then that a level may not be read
abbrev pub checked_by : Bool → Reading → Result Reading ReadingFault
checked_by unusedIsZero reading = cond unusedIsZero (cond (is_good reading) (Ok reading) (Err Level)) (Err Spare)

-- the reading of a kind and two patterns
abbrev pub reading_of_parts : ℕ → ℕ → ℕ → Result Reading ReadingFault
reading_of_parts kind left right =
    cond (kind == 0) (checked_by (left == 0 && right == 0) Dropout)
    (cond (kind == 1) (checked_by (right == 0) (Single (from_bits binary32 left)))
    (cond (kind == 2) (checked_by true (Pair record { left = from_bits binary32 left; right = from_bits binary32 right }))
    (Err Kind)))

-- the reading of a record: its kind stands at 0, its patterns at 1 and 5
abbrev pub reading_of : List ℕ → Result Reading ReadingFault
reading_of bytes = reading_of_parts (slice_index bytes 0) (pattern bytes 1) (pattern bytes 5)

-- record number `index` of records one after another, if its nine bytes are there
abbrev pub record_at : List ℕ → ℕ → Option (List ℕ)
record_at bytes index = cond (nat_le (9 * index + 9) (length bytes)) (Some (take 9 (drop (9 * index) bytes))) None

-- each reading is read back from its record
abbrev pub AllHeld : List Reading → Type 0
AllHeld heard = (k : ℕ) → k < length heard → reading_of (record_of (slice_index_or heard k Dropout)) ≡ Ok (slice_index_or heard k Dropout)
