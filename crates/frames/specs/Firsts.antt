-- The first element that fails a test.
use Rattle.std.specs.Prelude.{ℕ, suc, Bool, cond, List, [], ◌∷◌, Some, None, Option}
use Rattle.std.specs.Option.{option_map}

-- the place of the first element that fails the test, if one does
abbrev pub first_failing : {X : Type 0} → (X → Bool) → List X → Option ℕ
first_failing test [] = None
first_failing test (x ∷ xs) = cond (test x) (option_map suc (first_failing test xs)) (Some 0)
