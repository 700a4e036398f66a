-- A byte that digits are put into, the lowest first.
use Rattle.std.proofs.Common.{◌≡◌, ℕ, ◌+◌, ◌*◌, ◌%◌, ◌^◌, ◌<◌, ◌≤◌, Bool, true, false, cond, refl, add-one, mod-eq_of_lt, pow-suc, arith, pow_mono}
use mir.Val.{bool_byte}

byte_is : (b : Bool) → bool_byte b ≡ cond b 1 0
byte_is true = refl
byte_is false = refl

-- a digit at the place i of a byte that has digits below it
module _ (i v w : ℕ) (b : Bool) (few : i < 6) (low : v < 2 ^ i) (e : w ≡ bool_byte b) where
  half : 2 ^ i ≤ 32
  half = let h : i ≤ 5 = omega arith in pow_mono {j = 5} h

  at_place : w * 2 ^ i % 256 ≡ cond b 1 0 * 2 ^ i
  at_place = rw (e, byte_is b) (mod-eq_of_lt (elim b as (λ c. cond c 1 0 * 2 ^ i < 256) [ true ↦ omega (arith, half) | false ↦ omega arith ]))

  pub digit_room : v + w * 2 ^ i % 256 < 2 ^ (i + 1)
  digit_room = rw (at_place, add-one i, pow-suc 2 i) (elim b as (λ c. v + cond c 1 0 * 2 ^ i < 2 ^ i * 2) [ true ↦ omega arith | false ↦ omega arith ])

  pub digit_fits : v + w * 2 ^ i % 256 < 256
  digit_fits = let h : i + 1 ≤ 6 = omega arith in omega (arith, digit_room, pow_mono {j = 6} h)

  -- one digit more
  pub digit_more : (p q n : ℕ) → v + 2 ^ i * q ≡ n → q ≡ p * 2 + cond b 1 0 → v + w * 2 ^ i % 256 + 2 ^ (i + 1) * p ≡ n
  digit_more p q n g h = rw (at_place, add-one i, pow-suc 2 i) (elim b as (λ c. v + 2 ^ i * (p * 2 + cond c 1 0) ≡ n → v + cond c 1 0 * 2 ^ i + 2 ^ i * 2 * p ≡ n) [ true ↦ (λ k. grind (arith, k)) | false ↦ (λ k. grind (arith, k)) ] (rw h at g))
