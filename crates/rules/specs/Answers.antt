-- What a rule's step and a weighing answer, by the values of their weights.
use Rattle.std.specs.Prelude.{ℕ, Bool, cond, ◌&&◌, List, length, Some, None, Option, ◌==◌}
use Rattle.std.specs.Option.{option_map}
use Rattle.weights.specs.Model.{Model}
use Rattle.weights.specs.Price.{worth}
use Rattle.weights.specs.declared.price.Price.{Price}
use Rattle.rules.specs.Trellis.{Move}
use Rattle.rules.specs.declared.step.Step.{Step}

-- A step as it is answered: the next state, and the value of its cost.
abbrev pub answered : {V C : Type 0} → (C → V) → Option (Step C) → Option (ℕ × V)
answered value o = option_map (λ s. (s.next, value s.cost)) o

-- The answer that a move calls for: its state, and what its prices are worth.
abbrev pub due : {V : Type 0} → Model V → Option Move → Option (ℕ × V)
due model o = option_map (λ m. (m.target, worth model m.fees)) o

-- What a pattern weighs: what its prices are worth, if it has the length n and is admitted.
abbrev pub weighed : {V : Type 0} → Model V → ℕ → (List Bool → Bool) → (List Bool → List Price) → List Bool → Option V
weighed model n admits prices bs = cond (length bs == n && admits bs) (Some (worth model (prices bs))) None
