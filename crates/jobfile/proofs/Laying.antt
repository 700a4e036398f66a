-- Bytes that are put one after another.
use Rattle.std.proofs.Common.{◌≡◌, ℕ, suc, ◌+◌, ◌*◌, ◌<◌, ◌≤◌, List, [], ◌∷◌, ◌++◌, length, get_or, take, drop, sym, refl, ap, ◌∙◌, ap₂, add-zero, add_assoc, mul-zero, mul-suc, arith}
use Rattle.std.proofs.lemmas.List.{append_assoc, append-nil, length-append, length-take-le, take-append-drop, take_at, drop_at, drop-drop, take_more}
use Rattle.std.specs.List.{flat_map}
use Rattle.std.proofs.lemmas.Grind.{flat_map-append}
use Rattle.frames.specs.declared.readings.Reading.{Reading}
use Rattle.frames.specs.declared.readings.Reading.TheVariants.{Dropout, Single, Pair}
use Rattle.jobfile.specs.Records.{record_of}
use Rattle.jobfile.specs.Pasted.{pasted}

pub pasted_none : (at : ℕ) (out : List ℕ) → pasted at [] out ≡ out
pasted_none at out = ap (λ (n : ℕ). take at out ++ drop n out) (add-zero at) ∙ take-append-drop at out

pub pasted_more : (at : ℕ) (ys zs out : List ℕ) → at ≤ length out → pasted (at + length ys) zs (pasted at ys out) ≡ pasted at (ys ++ zs) out
pasted_more at ys zs out h =
    let front = take at out ++ ys in
    let back = drop (at + length ys) out in
    let l : length (take at out ++ ys) ≡ at + length ys = length-append (take at out) ys ∙ ap (λ (n : ℕ). n + length ys) (length-take-le at out h) in
    let d : drop (at + length ys + length zs) (front ++ back) ≡ drop (at + length (ys ++ zs)) out =
    sym (drop-drop (length zs) (at + length ys) (front ++ back))
    ∙ ap (drop (length zs)) (drop_at front back (at + length ys) l)
    ∙ drop-drop (length zs) (at + length ys) out
    ∙ ap (λ (n : ℕ). drop n out) (add_assoc at (length ys) (length zs) ∙ ap (λ (n : ℕ). at + n) (sym (length-append ys zs))) in
    ap (λ (xs : List ℕ). pasted (at + length ys) zs xs) (sym (append_assoc (take at out) ys back))
    ∙ ap₂ (λ (us vs : List ℕ). us ++ (zs ++ vs)) (take_at front back (at + length ys) l) d
    ∙ append_assoc (take at out) ys (zs ++ drop (at + length (ys ++ zs)) out)
    ∙ ap (λ (us : List ℕ). take at out ++ us) (sym (append_assoc ys zs (drop (at + length (ys ++ zs)) out)))

module _ {X : Type 0} (f : X → List ℕ) (size : ℕ) (sized : (x : X) → length (f x) ≡ size) where
  pub length_joined : (xs : List X) → length (flat_map f xs) ≡ size * length xs
  length_joined [] = sym (mul-zero size)
  length_joined (x ∷ xs) = length-append (f x) (flat_map f xs) ∙ ap₂ ◌+◌ (sized x) (length_joined xs) ∙ (let e : size + size * length xs ≡ size * suc (length xs) = omega (arith, mul-suc size (length xs)) in e)

-- one more piece
module _ {X : Type 0} (f : X → List ℕ) (xs : List X) (i : ℕ) (d : X) (h : i < length xs) where
  pub joined_next : flat_map f (take (i + 1) xs) ≡ flat_map f (take i xs) ++ f (get_or xs i d)
  joined_next = ap (flat_map f) (take_more xs i d h) ∙ flat_map-append f (take i xs) (get_or xs i d ∷ []) ∙ ap (λ (ys : List ℕ). flat_map f (take i xs) ++ ys) (append-nil (f (get_or xs i d)))

  pub pasted_next : (at n : ℕ) (out : List ℕ) → at ≤ length out → length (flat_map f (take i xs)) ≡ n → pasted (at + n) (f (get_or xs i d)) (pasted at (flat_map f (take i xs)) out) ≡ pasted at (flat_map f (take (i + 1) xs)) out
  pasted_next at n out l e =
      ap (λ (k : ℕ). pasted (at + k) (f (get_or xs i d)) (pasted at (flat_map f (take i xs)) out)) (sym e)
      ∙ pasted_more at (flat_map f (take i xs)) (f (get_or xs i d)) out l
      ∙ ap (λ (ys : List ℕ). pasted at ys out) (sym joined_next)

-- ---- records

pub length_record : (x : Reading) → length (record_of x) ≡ 9
length_record Dropout = refl
length_record (Single y) = refl
length_record (Pair p) = refl
