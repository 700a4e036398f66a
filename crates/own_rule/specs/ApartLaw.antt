-- No two neighbouring flips keep the law of a layer.
use Rattle.std.specs.Prelude.{◌≡◌, ℕ, suc, ◌<◌, Bool, true, false, not, ◌&&◌, List, [], ◌∷◌, Some, None, ◌==◌, refl}
use Rattle.std.proofs.Common.{arith}
use Rattle.rules.specs.Layer.{Closed, Keeps, passes}
use Rattle.std.proofs.lemmas.Option.{cond_some}
use Rattle.own_rule.specs.Apart.{starts_flipped, no_pairs, apart_turn, apart_own}

apart_low : (q : ℕ) (b : Bool) (r : ℕ) → apart_turn q b ≡ Some r → r < 2
apart_low q true r e = let g = cond_some (q == 0) 1 r e in omega (arith, g.1)
apart_low q false r e = let g : 0 ≡ r = cc in omega arith

apart_closed : Closed apart_own
apart_closed = record { begins = omega arith; turns = λ i q b r h e. apart_low q b r e }

-- after a flip, and after none
apart_passes : (bs : List Bool) (i : ℕ) → (passes apart_own i 0 bs ≡ no_pairs bs) × (passes apart_own i 1 bs ≡ (not (starts_flipped bs) && no_pairs bs))
apart_passes [] i = (refl, refl)
apart_passes (true ∷ bs) i = ((apart_passes bs (suc i)).1, refl)
apart_passes (false ∷ bs) i = ((apart_passes bs (suc i)).0, (apart_passes bs (suc i)).0)

pub apart_keeps : Keeps None apart_own no_pairs
apart_keeps = record { closed = apart_closed; means = λ bs _. (apart_passes bs 0).0 }
