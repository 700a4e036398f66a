use Rattle.std.proofs.Common.{length}
use Rattle.frames.specs.Tables.{table_rows}
use Rattle.std.proofs.lemmas.Nat.{and_mask}
use Rattle.rules.proofs.rows.ParitiesLayer.inner.Goals as goal

pub returns : goal.returns
returns c = rw c.factor.ensures (and_mask c.args.state (length (table_rows c.args.self.now.rows.table)))
