-- The row test.
use Rattle.std.specs.Prelude.{ℕ, Bool, true, cond, not, ◌&&◌, List, [], ◌∷◌, length, Err, Result, ◌==◌, nat_le}
use Rattle.frames.specs.Faults.{Refusal, plain}
use Rattle.frames.specs.Halves.{is_odd, is_length}
use Rattle.frames.specs.Places.{overlap}
use Rattle.frames.specs.Rows.{rows_of}
use Rattle.frames.specs.declared.halves.Halves.{Halves}

-- whether a word has even parity over each row
abbrev pub even_over : List (List Bool) → List Bool → Bool
even_over [] w = true
even_over (r ∷ rs) w = not (is_odd (overlap w r)) && even_over rs w

-- the words of the rows' length with even parity over each row
abbrev pub accepted_by_rows : ℕ × List (List Bool) → List Bool → Bool
accepted_by_rows rows w = length w == rows.0 && even_over rows.1 w

-- the length and the rows of a test, or why it is refused: 1, then 3 above 32 rows, then 4
abbrev pub row_test_of : ℕ → List Halves → Result (ℕ × List (List Bool)) Refusal
row_test_of n hs = cond (is_length n) (cond (nat_le (length hs) 32) (rows_of n hs) (Err (plain 3))) (Err (plain 1))
