-- Kinds of weight whose values are whole numbers: their laws, and how large their promised values are.
use Rattle.std.specs.Prelude.{ℕ, ◌*◌, ◌<◌, ◌≤◌}
use Rattle.std.proofs.Common.{mul-add, arith}
use Rattle.std.proofs.lemmas.Bool.Decides.{nat_tests}
use Rattle.weights.specs.Grade.{Graded, nothing, flipped, charged, sum}
use Rattle.weights.specs.Laws.{Laws}
use Rattle.weights.specs.Whole.{whole}

module _ (flip surcharge : ℕ → ℕ) where
  pub whole_laws : Laws (whole flip surcharge)
  whole_laws = grind (arith, nat_tests)

  -- prices of at most `most` each come to at most `most` times the grade
  pub whole_bound : (most : ℕ) → ((w : ℕ) → w < 65536 → flip w ≤ most) → ((p : ℕ) → p < 65536 → surcharge p ≤ most) → {g v : ℕ} → Graded (whole flip surcharge) g v → v ≤ most * g
  whole_bound most f s nothing = omega arith
  whole_bound most f s (flipped w h) = omega (arith, f w h)
  whole_bound most f s (charged p h) = omega (arith, s p h)
  whole_bound most f s (sum {g} {h} x y) = rw mul-add (omega (arith, whole_bound most f s x, whole_bound most f s y))
