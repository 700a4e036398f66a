-- The cells that records of nine bytes give, one record after another.
use Rattle.std.specs.Prelude.{◌≡◌, ℕ, ◌/◌, ◌%◌, Bool, true, cond, ◌&&◌, List, map, length, is_some, Ok, Err, Result, ◌==◌}
use Rattle.frames.specs.Faults.{refusal}
use Rattle.frames.specs.Frames.{bit_for, weight_for}
use Rattle.frames.specs.Halves.{is_length}
use Rattle.frames.specs.declared.faults.Fault.TheVariants.{Length}
use Rattle.frames.specs.declared.readings.Reading.{Reading}
use Rattle.jobfile.specs.FaultTexts.{fault_number}
use Rattle.jobfile.specs.Files.{readings_of}
use Rattle.jobfile.specs.declared.faults.FileFault.{FileFault}
use Rattle.listing.specs.declared.reads.ListFault.{ListFault}
use Rattle.listing.specs.declared.reads.ListFault.TheVariants.{Frame, File}

-- what a file of records gives, as an answer here
abbrev pub of_file : Result (List Reading) FileFault → Result (List Reading) ListFault
of_file (Ok rs) = Ok rs
of_file (Err fault) = Err (File fault)

-- the readings of 1 to 128 whole records
abbrev pub records_of : List ℕ → Result (List Reading) ListFault
records_of bytes = cond (length bytes % 9 == 0 && is_length (length bytes / 9)) (of_file (readings_of bytes)) (Err (Frame Length))

-- the hard bits and the weights of readings
abbrev pub cells_for : Result (List Reading) ListFault → Result (List Bool × List ℕ) ListFault
cells_for (Ok rs) = Ok (map bit_for rs, map weight_for rs)
cells_for (Err x) = Err x

-- the hard bits and the weights that records give, or why they give none
abbrev pub cells_of : List ℕ → Result (List Bool × List ℕ) ListFault
cells_of bytes = cells_for (records_of bytes)

-- whether a fault has a number: want of memory has none
abbrev pub is_numbered : ListFault → Bool
is_numbered (Frame fault) = is_some (refusal fault)
is_numbered (File fault) = is_some (fault_number fault)

-- a call gives what is expected by the meaning of its value, or that fault, or lacked memory
abbrev pub Gives : {X A : Type 0} → (X → A) → Result X ListFault → Result A ListFault → Type 0
Gives meaning (Ok x) expected = Ok (meaning x) ≡ expected
Gives meaning (Err x) expected = is_numbered x ≡ true → Err x ≡ expected
