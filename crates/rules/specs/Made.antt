-- What Free and Burst are made from.
use Rattle.std.specs.Prelude.{ℕ, cond, List, length, Ok, Err, Result}
use Rattle.frames.specs.Faults.{Refusal, plain}
use Rattle.frames.specs.Halves.{is_length}

-- The weights of 1 to 128 cells; others are refused.
abbrev pub cells_from : List ℕ → Result (List ℕ) Refusal
cells_from ws = cond (is_length (length ws)) (Ok ws) (Err (plain 1))
