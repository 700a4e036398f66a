-- One price for every flip.
use Rattle.std.specs.Prelude.{ℕ}
use Rattle.rules.specs.Free.{free_move}
use Rattle.rules.specs.Trellis.{Trellis}
use Rattle.rules.specs.Unbarred.{unbarred}

-- The steps over n places, each flip at the price p.
abbrev pub flat_trellis : ℕ → ℕ → Trellis
flat_trellis n p = unbarred n 1 (λ i s b. free_move p b)
