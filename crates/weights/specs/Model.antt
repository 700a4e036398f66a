-- What a kind of weight does to the values of its weights.
use Rattle.std.specs.Prelude.{ℕ, Bool}

-- The weight of nothing, the sum, the comparison, the price of a flip, and the price of a surcharge.
pub record Model (V : Type 0) : Type 0 where
  pub zero : V
  pub plus : V → V → V
  pub at_most : V → V → Bool
  pub flip : ℕ → V
  pub surcharge : ℕ → V
