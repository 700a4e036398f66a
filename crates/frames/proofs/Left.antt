-- What is left of a list from a place on.
use Rattle.std.proofs.Common.{◌≡◌, ℕ, ◌+◌, List, [], ◌∷◌, drop, Some, None, inl, inr, sym, ◌∙◌, ap₂, add-one, drop-cons}
use Rattle.std.specs.List.{slice_get}
use Rattle.std.proofs.lemmas.List.{drop_all}
use Rattle.std.proofs.lemmas.Option.{none-some, slice_get_cases, slice_get_within, get_or_from_slice_get}

pub one_left : {X : Type 0} (xs : List X) (i : ℕ) (x : X) → slice_get xs i ≡ Some x → drop i xs ≡ x ∷ drop (i + 1) xs
one_left xs i x e =
    drop-cons xs i x (slice_get_within xs i x e)
    ∙ ap₂ (λ (y : _) (n : ℕ). y ∷ drop n xs) (get_or_from_slice_get xs i x x e) (sym (add-one i))

pub none_left : {X : Type 0} (xs : List X) (i : ℕ) → None ≡ slice_get xs i → drop i xs ≡ []
none_left xs i e =
    elim (slice_get_cases xs i).1 [
      | inl h ↦ absurd (none-some h.0 (e ∙ h.2))
      | inr h ↦ drop_all i xs h.0
    ]
