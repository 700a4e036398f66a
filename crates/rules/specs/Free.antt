-- Free: every pattern, and each flip costs its cell's price.
use Rattle.std.specs.Prelude.{ℕ, Bool, true, false, cond, List, [], ◌∷◌, length, slice_index}
use Rattle.weights.specs.declared.price.Price.{Price}
use Rattle.weights.specs.declared.price.Price.TheVariants.{Flip}
use Rattle.rules.specs.Trellis.{Move, Trellis}
use Rattle.rules.specs.Unbarred.{unbarred}

-- The prices of the flipped cells, in order of place.
abbrev pub cell_prices : List ℕ → List Bool → List Price
cell_prices [] bs = []
cell_prices (w ∷ ws) [] = []
cell_prices (w ∷ ws) (true ∷ bs) = Flip w ∷ cell_prices ws bs
cell_prices (w ∷ ws) (false ∷ bs) = cell_prices ws bs

-- A step of Free at a cell of weight w.
abbrev pub free_move : ℕ → Bool → Move
free_move w flipped = record { target = 0; fees = cond flipped (Flip w ∷ []) [] }

-- Free's steps, by the weights of its cells.
abbrev pub free_trellis : List ℕ → Trellis
free_trellis ws = unbarred (length ws) 1 (λ i s b. free_move (slice_index ws i) b)
