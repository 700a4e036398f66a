use Rattle.jobfile.proofs.RowBytes.{half_is}
use Rattle.jobfile.proofs.rows.half_of.Goals as goal

pub returns : goal.returns
returns c = half_is c.args.bytes.now c.from_le_bytes.result c.reverse_bits.result c.told-bytes c.fits-bytes c.from_le_bytes.ensures c.reverse_bits.ensures
