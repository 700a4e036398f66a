use Rattle.std.proofs.Common.{length, sym, ap}
use Rattle.frames.specs.Faults.{refused}
use Rattle.frames.specs.Words.{places}
use Rattle.rules.proofs.Lengths.{places_length}
use Rattle.rules.proofs.Columns.{rows_many}
use Rattle.rules.proofs.rows.few.FewRows.new.Goals as goal

pub returns-then-rows-gt-MOST : goal.returns-then-rows-gt-MOST
returns-then-rows-gt-MOST c = ap refused (sym (rows_many (length (places c.args.word.now.bits)) c.args.rows.now (places_length c.args.word.now.bits) c.if-rows-gt-MOST.true))
