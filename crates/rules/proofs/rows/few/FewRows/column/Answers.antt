use Rattle.std.proofs.Common.{◌≡◌, false, slice_index_or, rules, unwrap_or}
use Rattle.std.proofs.lemmas.Option.{unwrap_or-slice_get}
use Rattle.std.specs.List.{slice_get}
use Rattle.frames.specs.Words.{places}
use Rattle.rules.proofs.rows.few.FewRows.column.Goals as goal

pub returns : goal.returns
returns c = c.pack.ensures (λ row. slice_index_or row c.args.place false) (λ row b p.
    let read : b ≡ unwrap_or (slice_get (places row.bits) c.args.place) false = search rules in
    rw unwrap_or-slice_get at read)
