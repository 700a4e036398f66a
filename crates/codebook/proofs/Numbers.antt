-- The number that a field holds, one place after another.
use Rattle.std.proofs.Common.{◌≡◌, ℕ, ◌+◌, ◌*◌, ◌/◌, ◌^◌, ◌<◌, ◌≤◌, Bool, true, false, cond, eqb, ltb, List, [], ◌∷◌, ◌++◌, sym, refl, ap, ◌∙◌, inl, inr, pow-suc, add-one, arith, pow_pos}
use native.Mathlib.Nat.{div-eq_of_lt}
use mir.Val.{bool_byte}
use Rattle.std.proofs.lemmas.Nat.{le-div}
use Rattle.std.proofs.lemmas.Bool.{cases_lt, lt-ltb, le-ltb, ne_eqb}
use Rattle.codebook.specs.Fields.{number_on}

-- a number shifted to nothing
pub held_is : (v k : ℕ) → eqb (v / 2 ^ k) 0 ≡ ltb v (2 ^ k)
held_is v k =
    elim (cases_lt v (2 ^ k)) [
      | inl h ↦ rw (div-eq_of_lt h, lt-ltb v (2 ^ k) h)
      | inr h ↦ let p : 1 ≤ v / 2 ^ k = le-div 1 v (2 ^ k) (pow_pos k) (omega arith) in ne_eqb (v / 2 ^ k) 0 (λ z. omega arith) ∙ sym (le-ltb v (2 ^ k) h)
    ]

number_after : (v : ℕ) (xs : List Bool) (b : Bool) → number_on v (xs ++ b ∷ []) ≡ 2 * number_on v xs + cond b 1 0
number_after v [] b = refl
number_after v (x ∷ xs) b = number_after (2 * v + cond x 1 0) xs b

-- one more place, whose bit is v as a number
pub number_push : (xs : List Bool) (b : Bool) (v : ℕ) → v ≡ cond b 1 0 → 2 * number_on 0 xs + v ≡ number_on 0 (xs ++ b ∷ [])
number_push xs b v e = ap (λ (n : ℕ). 2 * number_on 0 xs + n) e ∙ sym (number_after 0 xs b)

pub room_more : (v b k : ℕ) → v < 2 ^ k → b ≤ 1 → 2 * v + b < 2 ^ (k + 1)
room_more v b k h l = rw (add-one k, pow-suc 2 k) (omega arith)

-- a bit as a number
pub bit_is : (b : Bool) (v : ℕ) → v ≡ bool_byte b → (v ≡ cond b 1 0) × (v ≤ 1)
bit_is true v e = (e, omega arith)
bit_is false v e = (e, omega arith)
