use Rattle.jobfile.proofs.RowBytes.{half_bytes}
use Rattle.jobfile.proofs.rows.half_bytes.Goals as goal

pub returns : goal.returns
returns c = half_bytes c.args.half c.reverse_bits.result c.to_le_bytes.result c.reverse_bits.ensures c.to_le_bytes.ensures
