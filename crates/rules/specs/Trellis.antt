-- The steps of a guess rule, and what a walk through them costs.
use Rattle.std.specs.Prelude.{ℕ, suc, Bool, cond, List, [], ◌∷◌, ◌++◌, Some, None, Option}
use Rattle.std.specs.Option.{option_map}
use Rattle.weights.specs.declared.price.Price.{Price}

-- One step that is not barred: the state that it leads to, and the prices that it costs.
pub record Move : Type 0 where
  pub target : ℕ
  pub fees : List Price

-- How many places and states, the state at the start, which states are ends, and the move from each place and state, with a flip or without.
pub record Trellis : Type 0 where
  pub places : ℕ
  pub states : ℕ
  pub start : ℕ
  pub ends : ℕ → Bool
  pub moves : ℕ → ℕ → Bool → Option Move

-- What comes after an option, if it is there.
abbrev pub then : {X Y : Type 0} → Option X → (X → Option Y) → Option Y
then None rest = None
then (Some x) rest = rest x

-- The prices in order of place, from a place and a state on; none where a step is barred or the last state is no end.
abbrev pub walk : Trellis → ℕ → ℕ → List Bool → Option (List Price)
walk t i s [] = cond (t.ends s) (Some []) None
walk t i s (b ∷ bs) = then (t.moves i s b) (λ m. option_map (λ ps. m.fees ++ ps) (walk t (suc i) m.target bs))

-- The same for a whole pattern, from the start.
abbrev pub walked : Trellis → List Bool → Option (List Price)
walked t bs = walk t 0 t.start bs
