-- Two halves of 64 digits as one number of 128, of which the n highest are in use.
use Rattle.std.proofs.Common.{◌≡◌, ℕ, suc, ◌+◌, ◌-◌, ◌*◌, ◌/◌, ◌%◌, ◌^◌, ◌<◌, ◌≤◌, true, ◌&&◌, eqb, ltb, length, Some, None, sym, ap, ◌∙◌, subst, ap₂, inl, inr, lt_of_le_of_lt, mod-eq_of_lt, arith, shl_lt, shr-shr}
use native.Mathlib.Nat.{mod-one, mul-mod_left}
use lib.Bits.{bit_and, bit_xor, xor_mod, xor_shr, xor_block, and_block, and_le_l, and_self, and_mask}
use lib.Count.{ones, ones_cat}
use lib.Pow.{mod-pow-add, mod-mod-pow, field, high, low, split, shl-shr, ones_split, ones_lt}
use Rattle.std.proofs.lemmas.Option.{slice_get_past}
use Rattle.std.proofs.lemmas.Bool.{eq-eqb, ne_eqb, eqb-true, cases_lt, cond-true, cond-false}
use Rattle.std.proofs.lemmas.Bool.Decides.{nat_tests}
use Rattle.std.specs.List.{slice_get}
use Rattle.frames.specs.Halves.{is_odd, digits_of, joined, spelled, unmarked}
use Rattle.frames.specs.Places.{differences, flipped_by, marks, overlap, precedes}
use Rattle.frames.proofs.Digits.{length_digits, nth_digits, differences_digits, overlap_wide, precedes_wide, marks_overlap}

pub length_spelled : (n a b : ℕ) → length (spelled n a b) ≡ n
length_spelled n a b = length_digits n (joined a b / 2 ^ (128 - n))

joined_lt : (a b : ℕ) → a < 2 ^ 64 → b < 2 ^ 64 → joined a b < 2 ^ 128
joined_lt a b h k = omega arith

fill : (n : ℕ) → n ≤ 128 → n + (128 - n) ≡ 128
fill n h = omega arith

-- the digits past the length are 0
pub whole : (n a b : ℕ) → unmarked n a b ≡ true → joined a b / 2 ^ (128 - n) * 2 ^ (128 - n) ≡ joined a b
whole n a b u = let z = eqb-true (joined a b % 2 ^ (128 - n)) 0 u in let e = split (joined a b) (128 - n) in omega arith

-- ---- what is counted and compared

and_halves : (a b c d : ℕ) → a < 2 ^ 64 → b < 2 ^ 64 → d < 2 ^ 64 → ones (bit_and (joined a b) (joined c d) % 2 ^ 128) ≡ ones (bit_and a c) + ones (bit_and b d)
and_halves a b c d A B D =
    let l : bit_and (joined a b) (joined c d) < 2 ^ 128 = lt_of_le_of_lt (and_le_l (joined a b) (joined c d)) (joined_lt a b A B) in
    ap ones (mod-eq_of_lt l ∙ and_block 64 a c b d B D) ∙ ones_cat 64 (bit_and a c) (bit_and b d) (lt_of_le_of_lt (and_le_l b d) B)

pub overlap_is : (m a b n c d : ℕ) → m ≤ 128 → n ≤ 128 → a < 2 ^ 64 → b < 2 ^ 64 → d < 2 ^ 64 → unmarked m a b ≡ true → unmarked n c d ≡ true → ones (bit_and a c) + ones (bit_and b d) ≡ overlap (spelled m a b) (spelled n c d)
overlap_is m a b n c d M N A B D u v =
    sym (overlap_wide m (128 - m) n (128 - n) (joined a b / 2 ^ (128 - m)) (joined c d / 2 ^ (128 - n)) (fill m M ∙ sym (fill n N))
    ∙ ap₂ (λ (x y : ℕ). ones (bit_and x y % 2 ^ (m + (128 - m)))) (whole m a b u) (whole n c d v)
    ∙ ap (λ (i : ℕ). ones (bit_and (joined a b) (joined c d) % 2 ^ i)) (fill m M)
    ∙ and_halves a b c d A B D)

pub marks_is : (n a b : ℕ) → n ≤ 128 → a < 2 ^ 64 → b < 2 ^ 64 → unmarked n a b ≡ true → ones a + ones b ≡ marks (spelled n a b)
marks_is n a b N A B u =
    ap₂ (λ (x y : ℕ). ones x + ones y) (sym (and_self a)) (sym (and_self b))
    ∙ overlap_is n a b n a b N N A B B u u
    ∙ sym (marks_overlap (spelled n a b))

pub precedes_is : (m a b n c d : ℕ) → m ≤ 128 → n ≤ 128 → a < 2 ^ 64 → b < 2 ^ 64 → c < 2 ^ 64 → d < 2 ^ 64 → unmarked m a b ≡ true → unmarked n c d ≡ true → ltb (joined a b) (joined c d) ≡ precedes (spelled m a b) (spelled n c d)
precedes_is m a b n c d M N A B C D u v =
    sym (precedes_wide m (128 - m) n (128 - n) (joined a b / 2 ^ (128 - m)) (joined c d / 2 ^ (128 - n)) (fill m M ∙ sym (fill n N))
    ∙ ap₂ (λ (x y : ℕ). ltb (x % 2 ^ (m + (128 - m))) (y % 2 ^ (m + (128 - m)))) (whole m a b u) (whole n c d v)
    ∙ ap (λ (i : ℕ). ltb (joined a b % 2 ^ i) (joined c d % 2 ^ i)) (fill m M)
    ∙ ap₂ ltb (mod-eq_of_lt (joined_lt a b A B)) (mod-eq_of_lt (joined_lt c d C D)))

-- ---- flips

pub xor_unmarked : (n a b c d : ℕ) → b < 2 ^ 64 → d < 2 ^ 64 → unmarked n a b ≡ true → unmarked n c d ≡ true → unmarked n (bit_xor a c) (bit_xor b d) ≡ true
xor_unmarked n a b c d B D u v =
    eq-eqb (joined (bit_xor a c) (bit_xor b d) % 2 ^ (128 - n)) 0
    (ap (λ (x : ℕ). x % 2 ^ (128 - n)) (sym (xor_block 64 a c b d B D))
    ∙ xor_mod (joined a b) (joined c d) (128 - n)
    ∙ ap₂ bit_xor (eqb-true (joined a b % 2 ^ (128 - n)) 0 u) (eqb-true (joined c d % 2 ^ (128 - n)) 0 v))

pub flipped_same : (m a b n c d : ℕ) → m ≡ n → b < 2 ^ 64 → d < 2 ^ 64 → Some (spelled m (bit_xor a c) (bit_xor b d)) ≡ flipped_by (spelled m a b) (spelled n c d)
flipped_same m a b n c d e B D =
    let s : spelled m (bit_xor a c) (bit_xor b d) ≡ differences (spelled m a b) (spelled m c d) =
    ap (λ (x : ℕ). digits_of m (x / 2 ^ (128 - m))) (sym (xor_block 64 a c b d B D))
    ∙ ap (digits_of m) (xor_shr (joined a b) (joined c d) (128 - m))
    ∙ sym (differences_digits m (joined a b / 2 ^ (128 - m)) (joined c d / 2 ^ (128 - m))) in
    ap Some (s ∙ ap (λ (i : ℕ). differences (spelled m a b) (spelled i c d)) e)
    ∙ sym (cond-true (eqb (length (spelled m a b)) (length (spelled n c d))) (Some (differences (spelled m a b) (spelled n c d))) None (eq-eqb (length (spelled m a b)) (length (spelled n c d)) (length_spelled m a b ∙ e ∙ sym (length_spelled n c d))))

pub flipped_other : (m a b n c d : ℕ) → (m ≡ n → ⊥) → None ≡ flipped_by (spelled m a b) (spelled n c d)
flipped_other m a b n c d e = sym (cond-false (eqb (length (spelled m a b)) (length (spelled n c d))) (Some (differences (spelled m a b) (spelled n c d))) None (ne_eqb (length (spelled m a b)) (length (spelled n c d)) (λ s. e (sym (length_spelled m a b) ∙ s ∙ length_spelled n c d))))

-- ---- one place

second_odd : (a b k : ℕ) → k < 64 → b < 2 ^ 64 → is_odd (b / 2 ^ k) ≡ is_odd (joined a b / 2 ^ k)
second_odd a b k h B =
    let e : 63 - k + (1 + k) ≡ 64 = omega arith in
    let m : joined a b % 2 ^ (1 + k) ≡ b % 2 ^ (1 + k) = sym (mod-mod-pow (joined a b) (63 - k) (1 + k)) ∙ ap (λ (j : ℕ). joined a b % 2 ^ j % 2 ^ (1 + k)) e ∙ ap (λ (v : ℕ). v % 2 ^ (1 + k)) (low a 64 B) in
    ap (λ (v : ℕ). eqb v 1) (sym (field b 1 k) ∙ ap (λ (v : ℕ). v / 2 ^ k) (sym m) ∙ field (joined a b) 1 k)

nth_spelled : (n a b i : ℕ) → i < n → n ≤ 128 → slice_get (spelled n a b) i ≡ Some (is_odd (joined a b / 2 ^ (127 - i)))
nth_spelled n a b i h N =
    let e : 128 - n + (n - suc i) ≡ 127 - i = omega arith in
    nth_digits n (joined a b / 2 ^ (128 - n)) i h ∙ ap (λ (v : ℕ). Some (is_odd v)) (shr-shr (joined a b) (128 - n) (n - suc i) ∙ ap (λ (j : ℕ). joined a b / 2 ^ j) e)

pub bit_first : (n a b i : ℕ) → i < n → n ≤ 128 → b < 2 ^ 64 → i < 64 → Some (is_odd (a / 2 ^ (63 - i))) ≡ slice_get (spelled n a b) i
bit_first n a b i h N B l =
    let e : 127 - i ≡ 64 + (63 - i) = omega arith in
    sym (nth_spelled n a b i h N ∙ ap (λ (v : ℕ). Some (is_odd v)) (ap (λ (j : ℕ). joined a b / 2 ^ j) e ∙ sym (shr-shr (joined a b) 64 (63 - i)) ∙ ap (λ (v : ℕ). v / 2 ^ (63 - i)) (high a 64 B)))

pub bit_second : (n a b i : ℕ) → i < n → n ≤ 128 → b < 2 ^ 64 → 64 ≤ i → Some (is_odd (b / 2 ^ (127 - i))) ≡ slice_get (spelled n a b) i
bit_second n a b i h N B l = let j : 127 - i < 64 = omega arith in ap Some (second_odd a b (127 - i) j B) ∙ sym (nth_spelled n a b i h N)

pub bit_past : (n a b i : ℕ) → n ≤ i → None ≡ slice_get (spelled n a b) i
bit_past n a b i h = sym (slice_get_past (spelled n a b) i (omega (arith, length_spelled n a b)))

-- ---- no mark past the length

pub first_part : (n a b : ℕ) → n ≤ 64 → b < 2 ^ 64 → joined a b % 2 ^ (128 - n) ≡ (a % 2 ^ (64 - n)) * 2 ^ 64 + b
first_part n a b h B =
    let e : 128 - n ≡ 64 - n + 64 = omega arith in
    ap (λ (j : ℕ). joined a b % 2 ^ j) e ∙ mod-pow-add (joined a b) (64 - n) 64 ∙ ap₂ (λ (x y : ℕ). (x % 2 ^ (64 - n)) * 2 ^ 64 + y) (high a 64 B) (low a 64 B)

pub second_part : (n a b : ℕ) → 64 ≤ n → n ≤ 128 → b < 2 ^ 64 → joined a b % 2 ^ (128 - n) ≡ b % 2 ^ (128 - n)
second_part n a b h N B =
    let e : n - 64 + (128 - n) ≡ 64 = omega arith in
    sym (mod-mod-pow (joined a b) (n - 64) (128 - n)) ∙ ap (λ (j : ℕ). joined a b % 2 ^ j % 2 ^ (128 - n)) e ∙ ap (λ (v : ℕ). v % 2 ^ (128 - n)) (low a 64 B)

both_zero : (x y : ℕ) → (eqb x 0 && eqb y 0) ≡ eqb (x * 2 ^ 64 + y) 0
both_zero x y = grind (arith, nat_tests)

-- each half is tested for itself
pub unmarked_is : (n a b : ℕ) → n ≤ 128 → b < 2 ^ 64 → (eqb (a % 2 ^ (64 - n)) 0 && eqb (b % 2 ^ (64 - (n - 64))) 0) ≡ unmarked n a b
unmarked_is n a b N B =
    elim (cases_lt n 64) [
      | inl h ↦
          let e : 64 - (n - 64) ≡ 64 = omega arith in
          both_zero (a % 2 ^ (64 - n)) (b % 2 ^ (64 - (n - 64)))
          ∙ ap (λ (v : ℕ). eqb (a % 2 ^ (64 - n) * 2 ^ 64 + v) 0) (ap (λ (j : ℕ). b % 2 ^ j) e ∙ mod-eq_of_lt B)
          ∙ ap (λ (v : ℕ). eqb v 0) (sym (first_part n a b (omega arith) B))
      | inr h ↦
          let e : 64 - (n - 64) ≡ 128 - n = omega arith in
          let z : 64 - n ≡ 0 = omega arith in
          let o : a % 2 ^ (64 - n) ≡ 0 = ap (λ (j : ℕ). a % 2 ^ j) z ∙ mod-one a in
          ap (λ (v : ℕ). eqb v 0 && eqb (b % 2 ^ (64 - (n - 64))) 0) o
          ∙ ap (λ (j : ℕ). eqb (b % 2 ^ j) 0) e
          ∙ ap (λ (v : ℕ). eqb v 0) (sym (second_part n a b h N B))
    ]

-- the mask of all digits below the k highest
pub clear_is : (half k : ℕ) → k < 64 → eqb (bit_and half ((2 ^ 64 - 1) / 2 ^ k)) 0 ≡ eqb (half % 2 ^ (64 - k)) 0
clear_is half k h =
    let e : 64 - k + k ≡ 64 = omega arith in
    let m : (2 ^ 64 - 1) / 2 ^ k ≡ 2 ^ (64 - k) - 1 = ap (λ (j : ℕ). (2 ^ j - 1) / 2 ^ k) (sym e) ∙ ap (λ (v : ℕ). v / 2 ^ k) (ones_split (64 - k) k) ∙ high (2 ^ (64 - k) - 1) k (ones_lt k) in
    ap (λ (v : ℕ). eqb v 0) (ap (bit_and half) m ∙ and_mask half (64 - k))

-- ---- a number of n digits, moved to the top of two halves

pub shifted_joined : (n v : ℕ) → n ≤ 128 → v < 2 ^ n → joined (v * 2 ^ (128 - n) % 2 ^ 128 / 2 ^ 64) (v * 2 ^ (128 - n) % 2 ^ 128 % 2 ^ 64) ≡ v * 2 ^ (128 - n)
shifted_joined n v N h =
    let l : v * 2 ^ (128 - n) < 2 ^ 128 = subst (λ (i : ℕ). v * 2 ^ (128 - n) < 2 ^ i) (fill n N) (shl_lt n (128 - n) h) in
    split (v * 2 ^ (128 - n) % 2 ^ 128) 64 ∙ mod-eq_of_lt l

pub shifted_unmarked : (n v : ℕ) → n ≤ 128 → v < 2 ^ n → unmarked n (v * 2 ^ (128 - n) % 2 ^ 128 / 2 ^ 64) (v * 2 ^ (128 - n) % 2 ^ 128 % 2 ^ 64) ≡ true
shifted_unmarked n v N h = ap (λ (x : ℕ). eqb (x % 2 ^ (128 - n)) 0) (shifted_joined n v N h) ∙ ap (λ (x : ℕ). eqb x 0) (mul-mod_left v (2 ^ (128 - n)))

pub shifted_spelled : (n v : ℕ) → n ≤ 128 → v < 2 ^ n → spelled n (v * 2 ^ (128 - n) % 2 ^ 128 / 2 ^ 64) (v * 2 ^ (128 - n) % 2 ^ 128 % 2 ^ 64) ≡ digits_of n v
shifted_spelled n v N h = ap (λ (x : ℕ). digits_of n (x / 2 ^ (128 - n))) (shifted_joined n v N h) ∙ ap (digits_of n) (shl-shr v (128 - n))
