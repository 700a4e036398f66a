-- Kinds of weight whose values are whole numbers.
use Rattle.std.specs.Prelude.{ℕ, ◌+◌, leb}
use Rattle.weights.specs.Model.{Model}

-- Whole numbers, added and compared as such, at any two prices.
abbrev pub whole : (ℕ → ℕ) → (ℕ → ℕ) → Model ℕ
whole flip surcharge = record { zero = 0; plus = λ a b. a + b; at_most = leb; flip = flip; surcharge = surcharge }

-- Level weight: each price is the number asked with.
abbrev pub level_model : Model ℕ
level_model = whole (λ w. w) (λ p. p)
