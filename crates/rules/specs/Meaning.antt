-- When a rule has a meaning, and the law that ties its steps to it.
use Rattle.std.specs.Prelude.{◌≡◌, ℕ, ◌<◌, ◌≤◌, Bool, cond, List, length, Some, None}
use Rattle.weights.specs.Price.{InRange}
use Rattle.weights.specs.declared.price.Price.{Price}
use Rattle.rules.specs.Trellis.{Move, Trellis, walked}

-- A rule with further meaning: 1 to 128 places, and at most 1,024 states told.
pub record HasMeaning (t : Trellis) : Type 0 where
  pub some : 1 ≤ t.places
  pub short : t.places ≤ 128
  pub few : t.states ≤ 1024

-- A move from place i and state s: inside length and states, to a state that is told, for at most two prices in range.
pub record Fair (t : Trellis) (i s : ℕ) (m : Move) : Type 0 where
  pub inside : i < t.places
  pub known : s < t.states
  pub lands : m.target < t.states
  pub cheap : length m.fees ≤ 2
  pub range : InRange m.fees

-- The law: what is admitted and what it costs is what the steps come to, for each pattern of the rule's length.
pub record Lawful (t : Trellis) (admits : List Bool → Bool) (prices : List Bool → List Price) : Type 0 where
  pub begins : t.start < t.states
  pub fair : (i s : ℕ) (b : Bool) (m : Move) → t.moves i s b ≡ Some m → Fair t i s m
  pub means : (bs : List Bool) → length bs ≡ t.places → walked t bs ≡ cond (admits bs) (Some (prices bs)) None
