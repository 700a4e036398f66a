-- No two neighbouring flips.
use Rattle.std.specs.Prelude.{ℕ, Bool, true, false, cond, not, ◌&&◌, List, [], ◌∷◌, Some, None, Option, ◌==◌}
use Rattle.rules.specs.Layer.{Own}

-- Whether the first place is flipped.
abbrev pub starts_flipped : List Bool → Bool
starts_flipped [] = false
starts_flipped (b ∷ bs) = b

-- Whether no flip stands right after another.
abbrev pub no_pairs : List Bool → Bool
no_pairs [] = true
no_pairs (b ∷ bs) = not (b && starts_flipped bs) && no_pairs bs

-- The own state after one more place: 1 after a flip; a flip after a flip is barred.
abbrev pub apart_turn : ℕ → Bool → Option ℕ
apart_turn q false = Some 0
apart_turn q true = cond (q == 0) (Some 1) None

-- The layer's own part.
abbrev pub apart_own : Own
apart_own = record { factor = 2; start = 0; ends = λ q. true; turn = λ i q b. apart_turn q b }
