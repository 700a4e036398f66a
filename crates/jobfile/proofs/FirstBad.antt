-- The first bad row, told of the places or of the halves that hold them.
use Rattle.std.proofs.Common.{◌≡◌, ℕ, suc, Bool, cond, List, [], ◌∷◌, map, Some, Option, refl, ap}
use Rattle.std.specs.Option.{option_map}
use Rattle.frames.specs.Firsts.{first_failing}

pub failing_map : {X Y : Type 0} (test : Y → Bool) (g : X → Y) (xs : List X) → first_failing test (map g xs) ≡ first_failing (λ (x : X). test (g x)) xs
failing_map test g [] = refl
failing_map test g (x ∷ xs) = ap (λ (o : Option ℕ). cond (test (g x)) (option_map suc o) (Some 0)) (failing_map test g xs)
