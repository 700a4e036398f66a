-- One more number after a space.
use Rattle.std.proofs.Common.{◌≡◌, ℕ, ◌+◌, ◌<◌, List, [], ◌∷◌, ◌++◌, length, get_or, take, codes, decimal, sym, ap, ◌∙◌, append_assoc, append-nil}
use Rattle.std.proofs.lemmas.List.{take_more}
use Rattle.listing.specs.Shown.{spaced}

spaced_push : (ws : List ℕ) (w : ℕ) → spaced ws ++ (codes " " ++ decimal w) ≡ spaced (ws ++ w ∷ [])
spaced_push [] w = ap (λ (xs : List ℕ). codes " " ++ xs) (sym (append-nil (decimal w)))
spaced_push (v ∷ ws) w = ap (λ (xs : List ℕ). codes " " ++ xs) (append_assoc (decimal v) (spaced ws) (codes " " ++ decimal w) ∙ ap (λ (xs : List ℕ). decimal v ++ xs) (spaced_push ws w))

pub spaced_more : (ws : List ℕ) (i : ℕ) → i < length ws → spaced (take i ws) ++ (codes " " ++ decimal (get_or ws i 0)) ≡ spaced (take (i + 1) ws)
spaced_more ws i h = spaced_push (take i ws) (get_or ws i 0) ∙ ap spaced (sym (take_more ws i 0 h))
