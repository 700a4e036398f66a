-- The first element that fails a test.
use Rattle.std.proofs.Common.{◌≡◌, ℕ, zero, suc, ◌+◌, ◌<◌, Bool, true, false, cond, not, List, [], ◌∷◌, length, get_or, Some, None, Option, sym, refl, ap, ◌∙◌, add-zero, zero-add, arith}
use Rattle.std.specs.List.{position, position_from}
use Rattle.std.proofs.lemmas.Iterator.Adapters.{position_from-zero}
use Rattle.std.specs.Option.{option_map}
use Rattle.frames.specs.Firsts.{first_failing}

-- it is what the library's `position` finds
module _ {X : Type 0} (test : X → Bool) where
  mapped_mapped : (i : ℕ) (o : Option ℕ) → option_map (λ k. i + 1 + k) o ≡ option_map (λ k. i + k) (option_map suc o)
  mapped_mapped i None = refl
  mapped_mapped i (Some k) = let e : i + 1 + k ≡ i + suc k = omega arith in ap Some e

  mapped_zero : (o : Option ℕ) → option_map (λ k. 0 + k) o ≡ o
  mapped_zero None = refl
  mapped_zero (Some k) = ap Some (zero-add k)

  from_place : (i : ℕ) (xs : List X) → position_from (λ x. not (test x)) i xs ≡ option_map (λ k. i + k) (first_failing test xs)
  from_place i [] = refl
  from_place i (x ∷ xs) = go (test x) (from_place (i + 1) xs)
    where
      go : (b : Bool) → position_from (λ y. not (test y)) (i + 1) xs ≡ option_map (λ k. i + 1 + k) (first_failing test xs) → cond (not b) (Some i) (position_from (λ y. not (test y)) (i + 1) xs) ≡ option_map (λ k. i + k) (cond b (option_map suc (first_failing test xs)) (Some 0))
      go true p = p ∙ mapped_mapped i (first_failing test xs)
      go false p = ap Some (sym (add-zero i))

  pub found_first : (xs : List X) (o : Option ℕ) → o ≡ position (λ x. not (test x)) xs → first_failing test xs ≡ o
  found_first xs o e = sym (e ∙ position_from-zero (λ x. not (test x)) xs ∙ from_place 0 xs ∙ mapped_zero (first_failing test xs))

-- where none fails, each passes
pub each_passes : {X : Type 0} (test : X → Bool) (xs : List X) (i : ℕ) (d : X) → first_failing test xs ≡ None → i < length xs → test (get_or xs i d) ≡ true
each_passes test [] i d e h = absurd (omega arith)
each_passes test (x ∷ xs) zero d e h = go (test x) e
  where
    go : (b : Bool) → cond b (option_map suc (first_failing test xs)) (Some 0) ≡ None → b ≡ true
    go true p = refl
    go false p = let z : ◌≡◌ {A = ℕ} 0 1 = cc in absurd (omega arith)
each_passes test (x ∷ xs) (suc i) d e h = each_passes test xs i d (go (test x) (first_failing test xs) e) (omega arith)
  where
    go : (b : Bool) (o : Option ℕ) → cond b (option_map suc o) (Some 0) ≡ None → o ≡ None
    go b None p = refl
    go true (Some k) p = let z : ◌≡◌ {A = ℕ} 0 1 = cc in absurd (omega arith)
    go false (Some k) p = let z : ◌≡◌ {A = ℕ} 0 1 = cc in absurd (omega arith)
