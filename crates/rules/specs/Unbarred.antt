-- Steps that are barred nowhere inside length and states.
use Rattle.std.specs.Prelude.{ℕ, Bool, cond, ◌&&◌, Some, None, nat_lt}
use Rattle.rules.specs.Trellis.{Move, Trellis}

-- A trellis of n places and k states, from 0 to any, that bars no step inside them.
abbrev pub unbarred : ℕ → ℕ → (ℕ → ℕ → Bool → Move) → Trellis
unbarred n k move = record {
  places = n;
  states = k;
  start = 0;
  ends = λ s. nat_lt s k;
  moves = λ i s b. cond (nat_lt i n && nat_lt s k) (Some (move i s b)) None;
}
