-- What `round` does to a fraction of size 254 at most, in units of 2 ^ -149.
use Rattle.std.proofs.Common.{◌≡◌, ℕ, zero, suc, ◌+◌, ◌-◌, ◌*◌, ◌/◌, ◌%◌, ◌^◌, ◌<◌, ◌≤◌, Bool, not, T, eqb, sym, ap, ◌∙◌, subst, le_trans, le_of_eq, lt_of_le_of_lt, lt_irrefl, mul-le-mul_right, mod-lt, mul_assoc, suc-mul, mul_comm, div-lt_iff_lt-mul, add-mul, mul-le-mul_left, mul-pos, div-add-mod', mul-div_cancel, mul_left_comm, arith, lit<, eqb→eq, leb→le, pow_pos, pow_mono, pow-add}
use Prim.Native.Nat.compare
use Prim.Native.Nat.{compare, Ordering}
use native.Mathlib.Nat.{mul-mod_left}
use lib.Dec.{is_le, compare_is_eq, nleb→lt, eqb_refl}
use lib.Arith.{lt_of_le-ne}
use lib.Ieee.{Float, binary32, size, nearest, round}
use lib.Ieee.Digits.{size-le}
use lib.Ieee.Fits.{round_is}
use lib.Ieee.Exact.{HasValue, units_val}
use lib.Ieee.Nearest.{closest, closest_mono}
use lib.Ieee.Order.{drop, kept}
use lib.Ieee.Scale.{grid}

-- ---- the nearest whole number is off by half at most

abbrev Cmp : Ordering → ℕ → ℕ → Type 0
Cmp Ordering.lt a b = a < b
Cmp Ordering.eq a b = a ≡ b
Cmp Ordering.gt a b = b < a

cmp : (a b : ℕ) → Cmp (compare a b) a b
cmp a b = go (compare a b) (leb→le a b) (nleb→lt a b) (eqb→eq a b) (λ (e : a ≡ b). subst (λ (x : ℕ). T (eqb a x)) e (eqb_refl a))
  where
    go : (o : Ordering) → (T (is_le o) → a ≤ b) → (T (not (is_le o)) → b < a) → (T (compare_is_eq o) → a ≡ b) → (a ≡ b → T (compare_is_eq o)) → Cmp o a b
    go Ordering.lt h k e n = lt_of_le-ne (h tt) n
    go Ordering.eq h k e n = e tt
    go Ordering.gt h k e n = k tt

off_by : (q r b : ℕ) (o : Ordering) → Cmp o (r * 2) b → r < b → (2 * (nearest q o * b) ≤ 2 * (q * b + r) + b) × (2 * (q * b + r) ≤ 2 * (nearest q o * b) + b)
off_by q r b Ordering.lt h k = (omega arith, omega arith)
off_by q r b Ordering.eq h k =
    let d : q % 2 * b ≤ 1 * b = mul-le-mul_right b (omega arith) in
    let s : (q + q % 2) * b ≡ q * b + q % 2 * b = add-mul q (q % 2) b in
    (omega arith, omega arith)
off_by q r b Ordering.gt h k = let s : suc q * b ≡ q * b + b = suc-mul q b in (omega arith, omega arith)

pub closest_off : (a b : ℕ) → 0 < b → (2 * (closest a b * b) ≤ 2 * a + b) × (2 * a ≤ 2 * (closest a b * b) + b)
closest_off a b B =
    let s : a / b * b + a % b ≡ a = div-add-mod' a b in
    let o = off_by (a / b) (a % b) b (compare (a % b * 2) b) (cmp (a % b * 2) b) (mod-lt a B) in
    (subst (λ (x : ℕ). 2 * (closest a b * b) ≤ 2 * x + b) s o.0, subst (λ (x : ℕ). 2 * x ≤ 2 * (closest a b * b) + b) s o.1)

above_zero : (u : ℕ) → 0 < u → compare 0 u ≡ Ordering.lt
above_zero zero h = absurd (lt_irrefl 0 h)
above_zero (suc u) h = compare.zero-suc u

closest_whole : (q b : ℕ) → 0 < b → closest (q * b) b ≡ q
closest_whole q b h =
    ap (λ (x : ℕ). nearest x (compare (q * b % b * 2) b)) (mul-div_cancel q h)
    ∙ ap (λ (x : ℕ). nearest q (compare (x * 2) b)) (mul-mod_left q b)
    ∙ ap (λ (o : Ordering). nearest q o) (above_zero b h)

-- ---- a fraction A / C of size 254 at most, as an f32

regroup : (x y c z : ℕ) → x * y ≡ z → 254 * x * (c * y) ≡ 254 * z * c
regroup x y c z p = mul_assoc 254 x (c * y) ∙ ap (λ (i : ℕ). 254 * i) (mul_left_comm x c y ∙ ap (λ (i : ℕ). c * i) p ∙ mul_comm c z) ∙ sym (mul_assoc 254 z c)

module _ (A C : ℕ) (P : 0 < C) (H : A ≤ 254 * C) where
  few_dropped : drop 24 (A * 2 ^ 149) C ≤ 133
  few_dropped = let z : size (A * 2 ^ 149 / C) ≤ 157 = size-le (A * 2 ^ 149 / C) 157 ((div-lt_iff_lt-mul P).1 (omega arith)) in omega arith

  pub grid_le : grid binary32 A C ≤ 254 * 2 ^ 149
  grid_le =
      let k = drop 24 (A * 2 ^ 149) C in
      let u = C * 2 ^ k in
      let U : 0 < u = mul-pos P (pow_pos k) in
      let q = 254 * 2 ^ (149 - k) in
      let z : k ≤ 133 = few_dropped in
      let j : 149 - k + k ≡ 149 = omega arith in
      let p : 2 ^ (149 - k) * 2 ^ k ≡ 2 ^ 149 = sym (pow-add 2 (149 - k) k) ∙ ap (λ (x : ℕ). 2 ^ x) j in
      let e : q * u ≡ 254 * 2 ^ 149 * C = regroup (2 ^ (149 - k)) (2 ^ k) C (2 ^ 149) p in
      let n : A * 2 ^ 149 * u ≤ q * u * u = mul-le-mul_right u (le_trans (omega arith) (le_of_eq (sym e))) in
      let m : closest (A * 2 ^ 149) u ≤ q = subst (λ (x : ℕ). closest (A * 2 ^ 149) u ≤ x) (closest_whole q u U) (closest_mono (A * 2 ^ 149) u (q * u) u U U n) in
      le_trans (mul-le-mul_right (2 ^ k) m) (le_of_eq (mul_assoc 254 (2 ^ (149 - k)) (2 ^ k) ∙ ap (λ (x : ℕ). 254 * x) p))

  -- off by half of 2 ^ 133 units
  pub grid_off : (2 * (grid binary32 A C * C) ≤ 2 * (A * 2 ^ 149) + C * 2 ^ 133) × (2 * (A * 2 ^ 149) ≤ 2 * (grid binary32 A C * C) + C * 2 ^ 133)
  grid_off =
      let k = drop 24 (A * 2 ^ 149) C in
      let u = C * 2 ^ k in
      let o = closest_off (A * 2 ^ 149) u (mul-pos P (pow_pos k)) in
      let l : u ≤ C * 2 ^ 133 = mul-le-mul_left C (pow_mono few_dropped) in
      let e : closest (A * 2 ^ 149) u * u ≡ grid binary32 A C * C = ap (λ (x : ℕ). closest (A * 2 ^ 149) u * x) (mul_comm C (2 ^ k)) ∙ sym (mul_assoc (closest (A * 2 ^ 149) u) (2 ^ k) C) in
      (omega arith, omega arith)

  pub round_value : (s : Bool) → HasValue (round binary32 s A C) s (grid binary32 A C) (2 ^ 149)
  round_value s =
      subst (λ (z : Float). HasValue z s (grid binary32 A C) (2 ^ 149)) (sym (round_is binary32 s A C))
      (units_val binary32 s (kept 24 (A * 2 ^ 149) C) (drop 24 (A * 2 ^ 149) C) (lt_of_le_of_lt grid_le (lit< tt)))
