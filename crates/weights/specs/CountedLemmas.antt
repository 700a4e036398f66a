-- Flips first: its laws, and how large its promised values are.
use Rattle.std.specs.Prelude.{ℕ, ◌*◌, ◌≤◌}
use Rattle.std.proofs.Common.{arith}
use Rattle.std.proofs.lemmas.Bool.Decides.{nat_tests}
use Rattle.weights.specs.Counted.{Counted, flips_first_model}
use Rattle.weights.specs.Grade.{Graded, nothing, flipped, charged, sum}
use Rattle.weights.specs.Laws.{Laws}

pub counted_laws : Laws flips_first_model
counted_laws = grind (arith, nat_tests)

pub counted_bound : {g : ℕ} {v : Counted} → Graded flips_first_model g v → (v.flips ≤ g) × (v.number ≤ 65535 * g)
counted_bound nothing = grind arith
counted_bound (flipped w h) = grind arith
counted_bound (charged p h) = grind arith
counted_bound (sum x y) = grind (arith, counted_bound x, counted_bound y)
