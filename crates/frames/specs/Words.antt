-- What a word, a pattern or a row stands for, and when one is made.
use Rattle.std.specs.Prelude.{ℕ, Bool, cond, List, Ok, Err, Result}
use Rattle.frames.specs.Faults.{Refusal, plain}
use Rattle.frames.specs.Halves.{spelled, unmarked, is_length}
use Rattle.frames.specs.declared.bits.Bits.{Bits}

-- the places of a word, a pattern or a row
abbrev pub places : Bits → List Bool
places b = spelled b.len.places b.halves.first b.halves.second

-- the places that a length and two halves give, or why they give none
abbrev pub bits_of : ℕ → ℕ → ℕ → Result (List Bool) Refusal
bits_of n first second = cond (is_length n) (cond (unmarked n first second) (Ok (spelled n first second)) (Err (plain 4))) (Err (plain 1))
