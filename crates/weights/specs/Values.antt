-- What the weights of our own kinds mean.
use Rattle.std.specs.Prelude.{ℕ}
use Rattle.weights.specs.Counted.{Counted}
use Rattle.weights.specs.declared.flips_first.FlipsFirst.{FlipsFirst}
use Rattle.weights.specs.declared.level.Level.{Level}

-- the whole number of a level weight
abbrev pub level_value : Level → ℕ
level_value w = w.number

-- the count and the whole number of flips first
abbrev pub flips_first_value : FlipsFirst → Counted
flips_first_value w = record { flips = w.flips; number = w.number }
