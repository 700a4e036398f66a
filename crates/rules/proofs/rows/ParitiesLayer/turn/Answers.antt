use Rattle.std.proofs.Common.{◌≡◌, ◌≤◌, length, get_or, vec_items, arith, rules}
use Rattle.frames.specs.Tables.{table_rows}
use Rattle.frames.specs.Words.{places}
use Rattle.rules.proofs.Columns.{columns_length, columns_at}
use Rattle.rules.proofs.rows.ParitiesLayer.turn.Goals as goal

pub returns-in_err-column : goal.returns-in_err-column
returns-in_err-column c h =
    let r = c.args.self.now in
    let past : length (vec_items r.columns) ≤ c.args.place = search rules in
    absurd (omega (arith, columns_length (length (places r.hard.bits)) (table_rows r.rows.table) (vec_items r.columns) r.cut))

pub returns-then-flip : goal.returns-then-flip
returns-then-flip c h =
    let r = c.args.self.now in
    let at : c.from.result ≡ get_or (vec_items r.columns) c.args.place 0 = search rules in
    rw (at, columns_at (length (places r.hard.bits)) (table_rows r.rows.table) (vec_items r.columns) c.args.place r.cut h, c.if-flip.true)
