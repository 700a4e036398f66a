-- Burst: every pattern, each flip costs its cell's price, and the first flip of a run costs a surcharge too.
use Rattle.std.specs.Prelude.{ℕ, Bool, true, false, cond, List, [], ◌∷◌, ◌++◌, length, ◌==◌, slice_index}
use Rattle.weights.specs.declared.price.Price.{Price}
use Rattle.weights.specs.declared.price.Price.TheVariants.{Flip, Surcharge}
use Rattle.rules.specs.Trellis.{Move, Trellis}
use Rattle.rules.specs.Unbarred.{unbarred}

-- What a flip costs at a cell of weight w: the surcharge p comes on top unless the place before is flipped.
abbrev pub flip_prices : ℕ → Bool → ℕ → List Price
flip_prices p flippedBefore w = Flip w ∷ cond flippedBefore [] (Surcharge p ∷ [])

-- The prices of the flips, in order of place, where the place before the first is flipped or not.
abbrev pub burst_prices : ℕ → Bool → List ℕ → List Bool → List Price
burst_prices p flippedBefore [] bs = []
burst_prices p flippedBefore (w ∷ ws) [] = []
burst_prices p flippedBefore (w ∷ ws) (true ∷ bs) = flip_prices p flippedBefore w ++ burst_prices p true ws bs
burst_prices p flippedBefore (w ∷ ws) (false ∷ bs) = burst_prices p false ws bs

-- A step of Burst from the state s, which is 1 after a flip, at a cell of weight w.
abbrev pub burst_move : ℕ → ℕ → ℕ → Bool → Move
burst_move p s w flipped = record { target = cond flipped 1 0; fees = cond flipped (flip_prices p (s == 1) w) [] }

-- Burst's steps, by its surcharge and the weights of its cells.
abbrev pub burst_trellis : ℕ → List ℕ → Trellis
burst_trellis p ws = unbarred (length ws) 2 (λ i s b. burst_move p s (slice_index ws i) b)
