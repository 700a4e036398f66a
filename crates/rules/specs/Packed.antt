-- Bits packed into numbers.
use Rattle.std.specs.Prelude.{◌≡◌, ℕ, ◌+◌, ◌*◌, ◌^◌, ◌<◌, Bool, true, false, cond, not, ◌&&◌, List, [], ◌∷◌, map, length, ◌==◌, bit_xor, refl}
use Rattle.std.specs.Bool.{beq}
use Rattle.std.proofs.Common.{sym, ap, ap₂, ◌∙◌, pow-suc, arith}
use Rattle.std.proofs.lemmas.Nat.{xor_block}
use Rattle.std.proofs.lemmas.Bool.Decides.{nat_tests}
use Rattle.rules.specs.Rows.{packed}

digit_low : (b : Bool) → cond b 1 0 < 2
digit_low true = omega arith
digit_low false = omega arith

pub packed_low : (bs : List Bool) → packed bs < 2 ^ length bs
packed_low [] = omega arith
packed_low (b ∷ bs) = rw (pow-suc 2 (length bs)) (omega (arith, packed_low bs, digit_low b))

pub packed_none : {X : Type 0} (f : X → Bool) (xs : List X) → ((x : X) → f x ≡ false) → packed (map f xs) ≡ 0
packed_none f [] h = refl
packed_none f (x ∷ xs) h = ap₂ (λ n b. n * 2 + cond b 1 0) (packed_none f xs h) (h x)

-- bit by bit: the sum of two is packed as the sum of both numbers
pub packed_xor : {X : Type 0} (f g h : X → Bool) → ((x : X) → h x ≡ not (beq (f x) (g x))) → (xs : List X) → packed (map h xs) ≡ bit_xor (packed (map f xs)) (packed (map g xs))
packed_xor f g h e [] = refl
packed_xor f g h e (x ∷ xs) =
    ap₂ (λ n b. n * 2 + b) (packed_xor f g h e xs) (ap (λ b. cond b 1 0) (e x) ∙ digits (f x) (g x))
    ∙ sym (xor_block 1 (packed (map f xs)) (packed (map g xs)) (cond (f x) 1 0) (cond (g x) 1 0) (digit_low (f x)) (digit_low (g x)))
  where
    digits : (a b : Bool) → cond (not (beq a b)) 1 0 ≡ bit_xor (cond a 1 0) (cond b 1 0)
    digits true true = refl
    digits true false = refl
    digits false true = refl
    digits false false = refl

-- two numbers are equal as their last digits and their other digits are
pub packed_equal : (n k : ℕ) (a b : Bool) → (n * 2 + cond a 1 0 == k * 2 + cond b 1 0) ≡ (beq a b && n == k)
packed_equal n k true true = grind (arith, nat_tests)
packed_equal n k true false = grind (arith, nat_tests)
packed_equal n k false true = grind (arith, nat_tests)
packed_equal n k false false = grind (arith, nat_tests)
