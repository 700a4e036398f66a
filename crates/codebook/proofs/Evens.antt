-- Even parity over one row after another.
use Rattle.std.proofs.Common.{◌≡◌, Bool, true, false, not, ◌&&◌, List, [], ◌∷◌, ◌++◌, map, sym, refl, ap, ◌∙◌}
use Rattle.std.proofs.lemmas.List.{map-append}
use Rattle.frames.specs.Halves.{is_odd}
use Rattle.frames.specs.Places.{overlap}
use Rattle.frames.specs.Words.{places}
use Rattle.frames.specs.declared.words.Row.{Row}
use Rattle.codebook.specs.Parity.{even_over}

even_push : (rs : List (List Bool)) (r w : List Bool) → even_over (rs ++ r ∷ []) w ≡ (even_over rs w && not (is_odd (overlap w r)))
even_push [] r w = go (not (is_odd (overlap w r)))
  where
    go : (b : Bool) → (b && true) ≡ b
    go true = refl
    go false = refl
even_push (x ∷ rs) r w = ap (λ (b : Bool). not (is_odd (overlap w x)) && b) (even_push rs r w) ∙ go (not (is_odd (overlap w x))) (even_over rs w) (not (is_odd (overlap w r)))
  where
    go : (a b c : Bool) → (a && (b && c)) ≡ (a && b && c)
    go true b c = refl
    go false b c = refl

pub even_more : (rows : List Row) (row : Row) (w : List Bool) → (even_over (map (λ (r : Row). places r.bits) rows) w && not (is_odd (overlap w (places row.bits)))) ≡ even_over (map (λ (r : Row). places r.bits) (rows ++ row ∷ [])) w
even_more rows row w = sym (ap (λ (xs : List (List Bool)). even_over xs w) (map-append (λ (r : Row). places r.bits) rows (row ∷ [])) ∙ even_push (map (λ (r : Row). places r.bits) rows) (places row.bits) w)
