-- What the program `cells` prints.
use Rattle.std.specs.Prelude.{ℕ, Bool, List, [], ◌∷◌, ◌++◌, Ok, Err, codes, decimal, Result}
use Rattle.frames.specs.Faults.{fault_text}
use Rattle.frames.specs.Texts.{bits_text}
use Rattle.jobfile.specs.FaultTexts.{file_fault_text}
use Rattle.listing.specs.Records.{cells_of}
use Rattle.listing.specs.declared.reads.ListFault.{ListFault}
use Rattle.listing.specs.declared.reads.ListFault.TheVariants.{Frame, File}

-- what is printed of a fault
abbrev pub list_fault_text : ListFault → List ℕ
list_fault_text (Frame fault) = fault_text fault
list_fault_text (File fault) = file_fault_text fault

-- each number after a space
abbrev pub spaced : List ℕ → List ℕ
spaced [] = []
spaced (w ∷ ws) = codes " " ++ (decimal w ++ spaced ws)

-- two lines for a frame, the hard bits and the weights; one for a fault
abbrev pub lines_for : Result (List Bool × List ℕ) ListFault → List ℕ
lines_for (Ok cells) = codes "hard " ++ (bits_text cells.0 ++ (codes "\nweights" ++ (spaced cells.1 ++ codes "\n")))
lines_for (Err x) = list_fault_text x ++ codes "\n"

-- what is printed of bytes
abbrev pub lines_of : List ℕ → List ℕ
lines_of bytes = lines_for (cells_of bytes)
