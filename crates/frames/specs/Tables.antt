-- What a table of rows stands for.
use Rattle.std.specs.Prelude.{ℕ, Bool, List, map, vec_items}
use Rattle.frames.specs.Rows.{row_of}
use Rattle.frames.specs.declared.tables.RowTable.{RowTable}

-- the rows, in order
abbrev pub table_rows : RowTable → List (List Bool)
table_rows t = map (row_of t.len.places) (vec_items t.halves)

-- the length, which every row has, and the rows
abbrev pub table_of : RowTable → ℕ × List (List Bool)
table_of t = (t.len.places, table_rows t)
