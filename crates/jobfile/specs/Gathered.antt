-- What is read one after another, up to the first fault.
use Rattle.std.specs.Prelude.{ℕ, zero, suc, List, [], ◌∷◌, ◌++◌, Ok, Err, Result}

-- one more value after those so far; the first fault stays
abbrev pub with_next : {X E : Type 0} → Result (List X) E → Result X E → Result (List X) E
with_next (Err e) r = Err e
with_next (Ok xs) (Err e) = Err e
with_next (Ok xs) (Ok x) = Ok (xs ++ x ∷ [])

-- the first `count` values, or the first fault among them
abbrev pub gathered : {X E : Type 0} → (ℕ → Result X E) → ℕ → Result (List X) E
gathered f zero = Ok []
gathered f (suc count) = with_next (gathered f count) (f count)

-- a result by the meaning of its value
abbrev pub with_meaning : {X Y E : Type 0} → (X → Y) → Result X E → Result Y E
with_meaning meaning (Ok x) = Ok (meaning x)
with_meaning meaning (Err e) = Err e
