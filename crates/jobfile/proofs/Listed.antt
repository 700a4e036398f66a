-- A list of known length, element by element.
use Rattle.std.proofs.Common.{◌≡◌, ℕ, zero, suc, ◌+◌, ◌<◌, ◌≤◌, List, [], ◌∷◌, length, get_or, take, drop, sym, refl, ap, ◌∙◌, arith, drop-cons}
use Rattle.std.proofs.lemmas.List.{take_all}

-- the k elements from a place on, one by one
abbrev pub listed : ℕ → ℕ → List ℕ → List ℕ
listed zero at xs = []
listed (suc k) at xs = get_or xs at 0 ∷ listed k (suc at) xs

listed_is : (k at : ℕ) (xs : List ℕ) → at + k ≤ length xs → listed k at xs ≡ take k (drop at xs)
listed_is zero at xs h = refl
listed_is (suc k) at xs h =
    let l : at < length xs = omega arith in
    ap (λ (ys : List ℕ). get_or xs at 0 ∷ ys) (listed_is k (suc at) xs (omega arith)) ∙ ap (take (suc k)) (sym (drop-cons xs at 0 l))

pub listed_whole : (k : ℕ) (xs : List ℕ) → length xs ≡ k → listed k 0 xs ≡ xs
listed_whole k xs l = listed_is k 0 xs (omega arith) ∙ take_all k xs (omega arith)
