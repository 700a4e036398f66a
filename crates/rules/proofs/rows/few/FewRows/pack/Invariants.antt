use Rattle.std.proofs.Common.{◌≡◌, ◌+◌, ◌*◌, ◌^◌, ◌<◌, Bool, List, map, length}
use Rattle.frames.specs.Rows.{row_of}
use Rattle.frames.specs.Tables.{table_rows}
use Rattle.frames.specs.Words.{places}
use Rattle.rules.specs.Rows.{packed}
use Rattle.rules.proofs.rows.few.FewRows.pack.Given as goal

-- what the test says of the rows before `index` is packed
abbrev pub invariant-loop-index : goal.invariant-loop-index
invariant-loop-index g l =
    let rows = table_rows l.self.table in
    let rest = map (row_of l.row-iterator.len.places) l.row-iterator.rest.now in
    record {
      count : l.index + length rest ≡ length rows;
      room : l.bits < 2 ^ l.index;
      packed : (says : List Bool → Bool) → ((row : _) (b : _) → goal.F-post g l.test row b → b ≡ says (places row.bits)) → l.bits + 2 ^ l.index * packed (map says rest) ≡ packed (map says rows);
    }
