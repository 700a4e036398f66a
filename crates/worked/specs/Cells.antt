-- Worked cells: levels, and the bit and weight that each gives.
use Rattle.std.specs.Prelude.{◌≡◌, ℕ, Bool, true, false, [], ◌∷◌, map, ℤ, pos, negsuc, Some, Option}
use Rattle.std.specs.Float.{fin}
use Rattle.frames.specs.Cells.{cell_of}
use Rattle.frames.specs.declared.readings.Cell.{Cell}
use Rattle.frames.specs.declared.readings.Reading.{Reading}
use Rattle.frames.specs.declared.readings.Reading.TheVariants.{Dropout, Single, Pair}

-- m times 2 to the e, with a sign
abbrev pub single : Bool → ℕ → ℤ → Reading
single minus m e = Single (fin minus m e)

-- two levels that are whole numbers
abbrev pub pair : Bool → ℕ → Bool → ℕ → Reading
pair minus m minus' m' = Pair record { left = fin minus m (pos 0); right = fin minus' m' (pos 0) }

-- a cell
abbrev pub cell : Bool → ℕ → Option Cell
cell b w = Some record { bit = b; weight = w }

-- 0.5; minus zero; -1/512; the pairs 127, 127 and 1, -1; a dropout
abbrev pub WorkedCells : Type 0
WorkedCells =
    map cell_of (single false 1 (negsuc 0) ∷ single true 0 (pos 0) ∷ single true 1 (negsuc 8) ∷ pair false 127 false 127 ∷ pair false 1 true 1 ∷ Dropout ∷ [])
    ≡ cell false 128 ∷ cell false 0 ∷ cell true 0 ∷ cell false 65024 ∷ cell false 0 ∷ cell false 0 ∷ []
