-- Tables of rows that lie as plain halves.
use Rattle.std.specs.Prelude.{ℕ, Bool, cond, List, map, Some, None, Ok, Err, Option, Result}
use Rattle.frames.specs.Faults.{Refusal, plain, telling}
use Rattle.frames.specs.Firsts.{first_failing}
use Rattle.frames.specs.Halves.{spelled, unmarked, is_length}
use Rattle.frames.specs.declared.halves.Halves.{Halves}

-- halves with no mark
abbrev pub unset : Halves
unset = record { first = 0; second = 0 }

-- whether halves hold a row of n places: no mark at or past n
abbrev pub holds_row : ℕ → Halves → Bool
holds_row n h = unmarked n h.first h.second

-- the n places of a row
abbrev pub row_of : ℕ → Halves → List Bool
row_of n h = spelled n h.first h.second

-- a table's length and rows, or the first row that is refused
abbrev pub rows_unless : Option ℕ → ℕ → List Halves → Result (ℕ × List (List Bool)) Refusal
rows_unless None n hs = Ok (n, map (row_of n) hs)
rows_unless (Some k) n hs = Err (telling 4 k)

-- the length and the rows that halves give, or why they give none
abbrev pub rows_of : ℕ → List Halves → Result (ℕ × List (List Bool)) Refusal
rows_of n hs = cond (is_length n) (rows_unless (first_failing (holds_row n) hs) n hs) (Err (plain 1))
