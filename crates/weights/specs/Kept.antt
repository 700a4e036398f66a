-- What holds of every kind of weight.
use Rattle.std.specs.Prelude.{◌≡◌, ◌+◌, ◌≤◌, List, ◌++◌, length}
use Rattle.weights.specs.Laws.{Laws}
use Rattle.weights.specs.Model.{Model}
use Rattle.weights.specs.Price.{InRange, worth}
use Rattle.weights.specs.declared.price.Price.{Price}

-- Two lists of at most 256 prices together: joined, they are worth the sum of their worths.
abbrev pub Joins : {V : Type 0} → Model V → Type 0
Joins m = (ps qs : List Price) → InRange ps → InRange qs → length ps + length qs ≤ 256 → worth m (ps ++ qs) ≡ m.plus (worth m ps) (worth m qs)

-- The laws, and what they give of lists of prices.
abbrev pub Kept : {V : Type 0} → Model V → Type 0
Kept m = Laws m × Joins m
