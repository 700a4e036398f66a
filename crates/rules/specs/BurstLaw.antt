-- Burst keeps the law.
use Rattle.std.specs.Prelude.{◌≡◌, ℕ, suc, ◌<◌, ◌≤◌, Bool, true, false, cond, List, [], ◌∷◌, ◌++◌, length, drop, ◌==◌, slice_index, refl}
use Rattle.std.proofs.Common.{sym, ap, ◌∙◌, arith, drop-cons}
use Rattle.weights.specs.Price.{InRange}
use Rattle.rules.specs.Burst.{flip_prices, burst_prices, burst_move, burst_trellis}
use Rattle.rules.specs.Meaning.{Lawful}
use Rattle.rules.specs.UnbarredLemmas.{unbarred_lawful}

burst_low : (b : Bool) → cond b 1 0 < 2
burst_low true = omega arith
burst_low false = omega arith

flip_cheap : (p : ℕ) (before : Bool) (w : ℕ) (b : Bool) → length (cond b (flip_prices p before w) []) ≤ 2
flip_cheap p true w true = omega arith
flip_cheap p false w true = omega arith
flip_cheap p before w false = omega arith

flip_range : (p : ℕ) → p < 65536 → (before : Bool) (w : ℕ) (b : Bool) → w < 65536 → InRange (cond b (flip_prices p before w) [])
flip_range p low true w true h = (h, tt)
flip_range p low false w true h = (h, (low, tt))
flip_range p low before w false h = tt

burst_none : (p : ℕ) (before : Bool) (ws : List ℕ) → [] ≡ burst_prices p before ws []
burst_none p before [] = refl
burst_none p before (w ∷ ws) = refl

burst_more : (p s w : ℕ) (ws : List ℕ) (b : Bool) (bs : List Bool) → (burst_move p s w b).fees ++ burst_prices p ((burst_move p s w b).target == 1) ws bs ≡ burst_prices p (s == 1) (w ∷ ws) (b ∷ bs)
burst_more p s w ws true bs = refl
burst_more p s w ws false bs = refl

pub burst_lawful : (p : ℕ) (ws : List ℕ) → ((k : ℕ) → slice_index ws k < 65536) → p < 65536 → Lawful (burst_trellis p ws) (λ bs. true) (burst_prices p false ws)
burst_lawful p ws fit low =
    unbarred_lawful (length ws) 2 (λ i s b. burst_move p s (slice_index ws i) b) (λ i s b. burst_low b) (λ i s bs. burst_prices p (s == 1) (drop i ws) bs)
    (λ i s. burst_none p (s == 1) (drop i ws))
    (λ i s b bs h. burst_more p s (slice_index ws i) (drop (suc i) ws) b bs ∙ ap (λ l. burst_prices p (s == 1) l (b ∷ bs)) (sym (drop-cons ws i 0 h)))
    (omega arith) (λ i s b. flip_cheap p (s == 1) (slice_index ws i) b) (λ i s b. flip_range p low (s == 1) (slice_index ws i) b (fit i))
