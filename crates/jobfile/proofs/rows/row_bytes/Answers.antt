use Rattle.std.proofs.Common.{refl, ◌∙◌}
use Rattle.jobfile.proofs.RowBytes.{row_written}
use Rattle.jobfile.proofs.rows.row_bytes.Goals as goal

pub returns : goal.returns
returns c = row_written _ _ _ c.args.row.first c.args.row.second (c.copy_from_slice.ensures.after ∙ c.half_bytes.ensures) (c.copy_from_slice-2.ensures.after ∙ c.half_bytes-2.ensures) refl
