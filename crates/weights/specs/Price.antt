-- What prices and lists of prices are worth under a model.
use Rattle.std.specs.Prelude.{ℕ, ◌<◌, List, [], ◌∷◌}
use Rattle.std.specs.List.{AllByRecursion}
use Rattle.weights.specs.Model.{Model}
use Rattle.weights.specs.declared.price.Price.{Price}
use Rattle.weights.specs.declared.price.Price.TheVariants.{Flip, Surcharge}

-- The number that a price is asked with.
abbrev pub asked : Price → ℕ
asked (Flip w) = w
asked (Surcharge p) = p

-- Every number asked with is below 65,536, as the code's always are.
abbrev pub InRange : List Price → Type 0
InRange ps = AllByRecursion (λ p. asked p < 65536) ps

-- What one price is worth.
abbrev pub price_of : {V : Type 0} → Model V → Price → V
price_of m (Flip w) = m.flip w
price_of m (Surcharge p) = m.surcharge p

-- What a list of prices is worth: their sum, in order.
abbrev pub worth : {V : Type 0} → Model V → List Price → V
worth m [] = m.zero
worth m (p ∷ ps) = m.plus (price_of m p) (worth m ps)
