use Rattle.std.proofs.Common.{ap, ◌∙◌, arith, ℕ, Some}
use Rattle.frames.specs.Words.{bits_of}
use Rattle.jobfile.proofs.RowBytes.{marks_test}
use Rattle.jobfile.proofs.rows.ends_before.Goals as goal

pub returns : goal.returns
returns c = c.is_ok.ensures.value ∙ marks_test c.args.len.places c.args.row.first c.args.row.second c.new.result c.args.len.some c.args.len.most (omega arith) (c.new.ensures ∙ ap (λ (n : ℕ). Some (bits_of n c.args.row.first c.args.row.second)) c.from.ensures)
