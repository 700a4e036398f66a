-- The number of places that a frame, a word, a pattern or a row has.
use Rattle.std.specs.Prelude.{ℕ, cond, Ok, Err, Result}
use Rattle.frames.specs.Faults.{Refusal, plain}
use Rattle.frames.specs.Halves.{is_length}

-- a length, or the refusal 1 of a number that is none
abbrev pub length_of : ℕ → Result ℕ Refusal
length_of n = cond (is_length n) (Ok n) (Err (plain 1))
