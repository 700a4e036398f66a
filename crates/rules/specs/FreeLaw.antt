-- Free keeps the law.
use Rattle.std.specs.Prelude.{◌≡◌, ℕ, suc, ◌<◌, ◌≤◌, Bool, true, false, List, [], ◌∷◌, ◌++◌, length, drop, slice_index, refl}
use Rattle.std.proofs.Common.{sym, ap, ◌∙◌, arith, drop-cons}
use Rattle.weights.specs.Price.{InRange}
use Rattle.rules.specs.Free.{cell_prices, free_move, free_trellis}
use Rattle.rules.specs.Meaning.{Lawful}
use Rattle.rules.specs.UnbarredLemmas.{unbarred_lawful}

cell_none : (ws : List ℕ) → [] ≡ cell_prices ws []
cell_none [] = refl
cell_none (w ∷ ws) = refl

cell_more : (w : ℕ) (ws : List ℕ) (b : Bool) (bs : List Bool) → (free_move w b).fees ++ cell_prices ws bs ≡ cell_prices (w ∷ ws) (b ∷ bs)
cell_more w ws true bs = refl
cell_more w ws false bs = refl

-- a step costs one price at most, in range
pub free_cheap : (w : ℕ) (b : Bool) → length (free_move w b).fees ≤ 2
free_cheap w true = omega arith
free_cheap w false = omega arith

pub free_range : (w : ℕ) (b : Bool) → w < 65536 → InRange (free_move w b).fees
free_range w true h = (h, tt)
free_range w false h = tt

pub free_lawful : (ws : List ℕ) → ((k : ℕ) → slice_index ws k < 65536) → Lawful (free_trellis ws) (λ bs. true) (cell_prices ws)
free_lawful ws fit =
    unbarred_lawful (length ws) 1 (λ i s b. free_move (slice_index ws i) b) (λ i s b. omega arith) (λ i s bs. cell_prices (drop i ws) bs)
    (λ i s. cell_none (drop i ws))
    (λ i s b bs h. cell_more (slice_index ws i) (drop (suc i) ws) b bs ∙ ap (λ l. cell_prices l (b ∷ bs)) (sym (drop-cons ws i 0 h)))
    (omega arith) (λ i s b. free_cheap (slice_index ws i) b) (λ i s b. free_range (slice_index ws i) b (fit i))
