use Rattle.std.proofs.Common.{refl}
use lib.Ieee.{add}
use Rattle.worked.proofs.cells_stand.Goals as goal

pub returns : goal.returns
unfolding add
returns c = refl
