-- The cell that a reading gives.
use Rattle.std.specs.Prelude.{ℕ, ◌*◌, ◌/◌, Bool, true, false, cond, ◌&&◌, Some, None, Option, nat_le, nat_lt, Float}
use Rattle.std.specs.Float.{nan, inf, fin, binary32}
use Rattle.std.specs.Float.Ieee.{up, down, add}
use Rattle.frames.specs.declared.readings.Cell.{Cell}
use Rattle.frames.specs.declared.readings.Reading.{Reading}
use Rattle.frames.specs.declared.readings.Reading.TheVariants.{Dropout, Single, Pair}

-- a number of magnitude `most` at most; `fin s m e` is m times 2 to the e, and up e / down e is 2 to the e
abbrev pub within : ℕ → Float → Bool
within most nan = false
within most (inf s) = false
within most (fin s m e) = nat_le (m * up e) (most * down e)

-- a level that may be read
abbrev pub is_level : Float → Bool
is_level y = within 127 y

-- what two levels can add up to
abbrev pub is_sum : Float → Bool
is_sum y = within 254 y

-- below zero, which minus zero is not
abbrev pub negative : Float → Bool
negative nan = false
negative (inf s) = s
negative (fin s m e) = s && nat_lt 0 m

-- the whole part of 256 times the magnitude
abbrev pub weight_of : Float → ℕ
weight_of nan = 0
weight_of (inf s) = 0
weight_of (fin s m e) = 256 * (m * up e) / down e

-- the cell of one number
abbrev pub cell_at : Float → Cell
cell_at y = record { bit = negative y; weight = weight_of y }

-- whether each level of a reading may be read
abbrev pub is_good : Reading → Bool
is_good Dropout = true
is_good (Single y) = is_level y
is_good (Pair p) = is_level p.left && is_level p.right

-- the cell of a good reading; a pair is added as two 32-bit floats are, with one rounding
abbrev pub cell_for : Reading → Cell
cell_for Dropout = record { bit = false; weight = 0 }
cell_for (Single y) = cell_at y
cell_for (Pair p) = cell_at (add binary32 p.left p.right)

-- the cell of a reading, if it is good
abbrev pub cell_of : Reading → Option Cell
cell_of r = cond (is_good r) (Some (cell_for r)) None
