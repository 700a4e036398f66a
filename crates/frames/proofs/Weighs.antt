-- What `is_good` and `weigh` compute.
use Rattle.std.proofs.Common.{◌≡◌, ℕ, zero, suc, ◌+◌, ◌-◌, ◌*◌, ◌/◌, ◌%◌, ◌^◌, ◌<◌, ◌≤◌, Bool, true, false, ◌&&◌, ◌||◌, T, eqb, ltb, leb, ◌⊎◌, ℤ, pos, negsuc, sym, refl, ap, ◌∙◌, ap₂, inl, inr, le_trans, le_of_suc-le-suc, mul-le-mul_right, mul_assoc, mul_comm, div-lt_iff_lt-mul, eq-zero-or-pos, mul-pos, one-mul, lt_of_not-le, zero-mul, mul-one, not-le_of_lt, le_of_mul-le-mul_right, arith, lit<, lit≤, eqb→eq, ltb→lt, leb→le, pow-add}
use lib.Pow.{pow-lt}
use lib.Ieee.{Float, nan, inf, fin, binary32, up, down, mul, lt, le, to_unsigned, fits, of_bits}
use lib.Ieee.Fits.{up_pos, down_pos, and_l, and_r}
use lib.Ieee.Exact.{HasValue, round_exact}
use lib.Ieee.Nearest.{div_same}
use Rattle.std.specs.Float.{float_with_sign}
use Rattle.std.proofs.lemmas.Bool.Decides.{nat_tests}
use Rattle.std.proofs.lemmas.Bool.{le-ltb, lt-ltb}
use Rattle.frames.specs.Cells.{is_level, is_sum, negative, weight_of}

-- ---- the constants
pub at_0 : of_bits binary32 0 ≡ fin false 0 (pos 0)
unfolding of_bits
at_0 = refl

pub at_127 : of_bits binary32 1123942400 ≡ fin false 127 (pos 0)
unfolding of_bits
at_127 = refl

pub at_256 : of_bits binary32 1132462080 ≡ fin false 1 (pos 8)
unfolding of_bits
at_256 = refl

-- ---- the tests
le_nat : (a b : ℕ) → (ltb a b || (eqb a b && true)) ≡ leb a b
le_nat a b = grind (arith, nat_tests)

pub level_is : (y : Float) → le (float_with_sign false y) (fin false 127 (pos 0)) ≡ is_level y
unfolding le float_with_sign
level_is nan = refl
level_is (inf s) = refl
level_is (fin s m e) = le_nat (m * up e * 1) (127 * down e) ∙ ap (λ (x : ℕ). leb x (127 * down e)) (mul-one (m * up e))

pub negative_is : (y : Float) → lt y (fin false 0 (pos 0)) ≡ negative y
unfolding lt
negative_is nan = refl
negative_is (inf s) = refl
negative_is (fin false m e) = le-ltb (m * up e * 1) (0 * down e) (omega (arith, zero-mul (down e)))
negative_is (fin true m e) = sign_of (m * up e * 1 + 0 * down e) m (eq-zero-or-pos m) (λ z. rw z (omega (arith, zero-mul (up e), zero-mul (down e)))) (λ p. omega (arith, mul-pos p (up_pos e)))
  where
    sign_of : (a m : ℕ) → (m ≡ 0) ⊎ (0 < m) → (m ≡ 0 → a ≡ 0) → (0 < m → 0 < a) → ltb 0 a ≡ ltb 0 m
    sign_of a m (inl z) f g = rw (f z, z)
    sign_of a m (inr p) f g = lt-ltb 0 a (g p) ∙ sym (lt-ltb 0 m p)

-- ---- what an f32 holds
pub held : (s : Bool) (m : ℕ) (e : ℤ) → T (fits binary32 (fin s m e)) → (m < 2 ^ 24) × (down e ≤ 2 ^ 149)
unfolding fits
held s zero e t = (lit< tt, one_down (up e) (down e) (up_pos e) (eqb→eq (up e * down e) 1 t))
  where
    one_down : (u d : ℕ) → 0 < u → u * d ≡ 1 → d ≤ 2 ^ 149
    one_down u d p q = let h : 1 * d ≤ u * d = mul-le-mul_right d p in omega arith
held s (suc m) e t =
    let a : Bool = eqb (suc m % 2) 1 in
    let b : Bool = ltb (suc m) (2 ^ 24) in
    let c : Bool = leb (down e) (2 ^ 149) in
    let d : Bool = ltb (suc m * up e) (2 ^ 128 * down e) in
    (ltb→lt (suc m) (2 ^ 24) (and_r a b (and_l (a && b) c (and_l (a && b && c) d t))), leb→le (down e) (2 ^ 149) (and_r (a && b) c (and_l (a && b && c) d t)))

-- up e / down e is 2 ^ j / 2 ^ l
pub shift : (l : ℕ) (e : ℤ) → down e ≤ 2 ^ l → (j : ℕ) × (up e * 2 ^ l ≡ 2 ^ j * down e)
shift l (pos k) h = (k + l, sym (pow-add 2 k l) ∙ sym (mul-one (2 ^ (k + l))))
shift l (negsuc k) h =
    let g : suc k ≤ l = le_of_suc-le-suc (lt_of_not-le (λ (n : suc l ≤ suc k). not-le_of_lt (pow-lt n) h)) in
    let j : l - suc k + suc k ≡ l = omega arith in
    (l - suc k, one-mul (2 ^ l) ∙ ap (λ (x : ℕ). 2 ^ x) (sym j) ∙ pow-add 2 (l - suc k) (suc k))

-- ---- 256 * |y| is exact
pub times_256 : (m : ℕ) (e : ℤ) → m < 2 ^ 24 → down e ≤ 2 ^ 149 → m * up e ≤ 254 * down e → HasValue (mul binary32 (fin false m e) (fin false 1 (pos 8))) false (m * up e * 256) (down e * 1)
unfolding mul
times_256 m e h k l =
    let z = shift 157 e (le_trans k (lit≤ tt)) in
    let j = z.0 in
    let p : m * up e * 2 ^ 157 ≡ m * 2 ^ j * down e = mul_assoc m (up e) (2 ^ 157) ∙ ap (λ (x : ℕ). m * x) z.1 ∙ sym (mul_assoc m (2 ^ j) (down e)) in
    let q : m * 2 ^ j * down e ≤ 254 * 2 ^ 157 * down e = omega arith in
    let r : m * 2 ^ j ≤ 254 * 2 ^ 157 = le_of_mul-le-mul_right q (down_pos e) in
    round_exact binary32 false (m * up e * 256) (down e * 1) m j (omega (arith, down_pos e)) h (omega arith) (omega (arith, mul-one (down e), ap (λ (x : ℕ). m * 2 ^ j * x) (mul-one (down e))))

cut_value : (x : Float) (a c : ℕ) → 0 < c → a < 2 ^ 16 * c → HasValue x false a c → to_unsigned 16 x ≡ a / c
unfolding to_unsigned
cut_value nan a c C h v = absurd v
cut_value (inf s) a c C h v = absurd v
cut_value (fin s m e) a c C h v =
    let d : m * up e / down e ≡ a / c = div_same (m * up e) (down e) a c (down_pos e) C v.1 in
    let l : a / c < 2 ^ 16 = (div-lt_iff_lt-mul C).1 h in
    rw v.0 (rw d (omega arith))

pub weight_is : (y : Float) → T (is_sum y) → T (fits binary32 (float_with_sign false y)) → to_unsigned 16 (mul binary32 (float_with_sign false y) (fin false 1 (pos 8))) ≡ weight_of y
unfolding float_with_sign
weight_is nan t f = absurd t
weight_is (inf s) t f = absurd t
weight_is (fin s m e) t f =
    let g = held false m e f in
    let l : m * up e ≤ 254 * down e = leb→le (m * up e) (254 * down e) t in
    cut_value (mul binary32 (fin false m e) (fin false 1 (pos 8))) (m * up e * 256) (down e * 1) (omega (arith, down_pos e)) (omega (arith, down_pos e)) (times_256 m e g.0 g.1 l)
    ∙ ap₂ ◌/◌ (mul_comm (m * up e) 256) (mul-one (down e))

pub unsigned_held : (y : Float) → T (fits binary32 y) → T (fits binary32 (float_with_sign false y))
unfolding fits float_with_sign
unsigned_held nan t = tt
unsigned_held (inf s) t = tt
unsigned_held (fin s zero e) t = t
unsigned_held (fin s (suc m) e) t = t
