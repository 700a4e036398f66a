-- The binary digits of a number, and what `^`, `&`, `count_ones`, `<` and `>>` do to them.
use Rattle.std.proofs.Common.{◌≡◌, ℕ, zero, suc, ◌+◌, ◌-◌, ◌*◌, ◌/◌, ◌%◌, ◌^◌, ◌<◌, Bool, true, false, cond, not, ◌&&◌, eqb, ltb, ◌⊎◌, List, [], ◌∷◌, ◌++◌, length, replicate, Some, sym, refl, ap, ◌∙◌, ap₂, inl, inr, mod-lt, zero-lt-suc, mul_assoc, mul_comm, add_comm, suc-add, pow-suc, zero-add, one-add, arith, pow_pos, shr-shr}
use mathlib.Core.Bool.{beq}
use native.Mathlib.Nat.{mul-mod_left}
use lib.Bits.{bit_and, bit_xor, xor_mod, xor_shr, and_mod, and_shr}
use lib.Count.{ones, ones_cat}
use lib.Pow.{shl-shr, mod-pow-add}
use Rattle.std.proofs.lemmas.Bool.Decides.{nat_tests}
use Rattle.std.proofs.lemmas.Bool.{cases_eq, lt-ltb, le-ltb}
use Rattle.std.specs.List.{slice_get}
use Rattle.frames.specs.Halves.{is_odd, digits_of}
use Rattle.frames.specs.Places.{differences, marks, overlap, precedes}

-- ---- one digit

parity_of : (v : ℕ) → (v % 2 ≡ 0) ⊎ (v % 2 ≡ 1)
parity_of v = elim (cases_eq (v % 2) 0) [ inl p ↦ inl p | inr q ↦ inr (omega arith) ]

odd_xor : (a b : ℕ) → is_odd (bit_xor a b) ≡ not (beq (is_odd a) (is_odd b))
odd_xor a b =
    elim (parity_of a) [
      | inl p ↦ elim (parity_of b) [ inl q ↦ rw (xor_mod a b 1, p, q) | inr q ↦ rw (xor_mod a b 1, p, q) ]
      | inr p ↦ elim (parity_of b) [ inl q ↦ rw (xor_mod a b 1, p, q) | inr q ↦ rw (xor_mod a b 1, p, q) ]
    ]

odd_and : (a b : ℕ) → cond (is_odd a && is_odd b) 1 0 ≡ bit_and a b % 2
odd_and a b =
    elim (parity_of a) [
      | inl p ↦ rw (and_mod a b 1, p)
      | inr p ↦ elim (parity_of b) [ inl q ↦ rw (and_mod a b 1, p, q) | inr q ↦ rw (and_mod a b 1, p, q) ]
    ]

ones_digit : (d : ℕ) → d < 2 → d ≡ ones d
unfolding ones
ones_digit zero h = refl
ones_digit (suc zero) h = refl
ones_digit (suc (suc d)) h = absurd (omega arith)

-- the n + 1 lowest digits of v: the highest of them, and the n others
top_digit : (n v : ℕ) → v % 2 ^ suc n ≡ (v / 2 ^ n % 2) * 2 ^ n + v % 2 ^ n
top_digit n v = ap (λ k. v % 2 ^ k) (sym (one-add n)) ∙ mod-pow-add v 1 n

-- ---- n digits

pub length_digits : (n v : ℕ) → length (digits_of n v) ≡ n
length_digits zero v = refl
length_digits (suc n) v = ap suc (length_digits n v)

pub nth_digits : (n v i : ℕ) → i < n → slice_get (digits_of n v) i ≡ Some (is_odd (v / 2 ^ (n - suc i)))
nth_digits zero v i h = absurd (omega arith)
nth_digits (suc n) v zero h = let e : n ≡ suc n - 1 = omega arith in ap (λ k. Some (is_odd (v / 2 ^ k))) e
nth_digits (suc n) v (suc i) h = nth_digits n v i (omega arith) ∙ (let e : n - suc i ≡ suc n - suc (suc i) = omega arith in ap (λ k. Some (is_odd (v / 2 ^ k))) e)

pub differences_digits : (n a b : ℕ) → differences (digits_of n a) (digits_of n b) ≡ digits_of n (bit_xor a b)
differences_digits zero a b = refl
differences_digits (suc n) a b = ap₂ ◌∷◌ (sym (odd_xor (a / 2 ^ n) (b / 2 ^ n)) ∙ ap is_odd (sym (xor_shr a b n))) (differences_digits n a b)

overlap_digits : (n a b : ℕ) → overlap (digits_of n a) (digits_of n b) ≡ ones (bit_and a b % 2 ^ n)
overlap_digits zero a b = let z : bit_and a b % 1 ≡ 0 = omega arith in rw z (unfold ones in refl)
overlap_digits (suc n) a b =
    ap₂ ◌+◌ (odd_and (a / 2 ^ n) (b / 2 ^ n) ∙ ap (λ k. k % 2) (sym (and_shr a b n)) ∙ ones_digit (bit_and a b / 2 ^ n % 2) (mod-lt (bit_and a b / 2 ^ n) (zero-lt-suc 1))) (overlap_digits n a b)
    ∙ sym (ones_cat n (bit_and a b / 2 ^ n % 2) (bit_and a b % 2 ^ n) (mod-lt (bit_and a b) (pow_pos n)))
    ∙ ap ones (sym (top_digit n (bit_and a b)))

-- the order of the lists is the numbers'
precedes_digits : (n a b : ℕ) → precedes (digits_of n a) (digits_of n b) ≡ ltb (a % 2 ^ n) (b % 2 ^ n)
precedes_digits zero a b = sym (le-ltb (a % 1) (b % 1) (omega arith))
precedes_digits (suc n) a b = step (a / 2 ^ n % 2) (b / 2 ^ n % 2) (parity_of (a / 2 ^ n)) (parity_of (b / 2 ^ n)) (precedes_digits n a b) ∙ sym (ap₂ ltb (top_digit n a) (top_digit n b))
  where
    step : (x y : ℕ) → (x ≡ 0) ⊎ (x ≡ 1) → (y ≡ 0) ⊎ (y ≡ 1) → precedes (digits_of n a) (digits_of n b) ≡ ltb (a % 2 ^ n) (b % 2 ^ n) → cond (beq (eqb x 1) (eqb y 1)) (precedes (digits_of n a) (digits_of n b)) (eqb y 1) ≡ ltb (x * 2 ^ n + a % 2 ^ n) (y * 2 ^ n + b % 2 ^ n)
    step x y (inl p) (inl q) ih = rw (p, q, ih) (grind (arith, nat_tests))
    step x y (inl p) (inr q) ih = let h : a % 2 ^ n < 2 ^ n = mod-lt a (pow_pos n) in rw (p, q) (sym (lt-ltb (0 * 2 ^ n + a % 2 ^ n) (1 * 2 ^ n + b % 2 ^ n) (omega arith)))
    step x y (inr p) (inl q) ih = let h : b % 2 ^ n < 2 ^ n = mod-lt b (pow_pos n) in rw (p, q) (sym (le-ltb (1 * 2 ^ n + a % 2 ^ n) (0 * 2 ^ n + b % 2 ^ n) (omega arith)))
    step x y (inr p) (inr q) ih = rw (p, q, ih) (grind (arith, nat_tests))

-- ---- unmarked places at the end change nothing

abbrev blank : ℕ → List Bool
blank k = replicate k false

-- k digits 0 at the end of a number
digits_blank : (k v : ℕ) → digits_of k (v * 2 ^ k) ≡ blank k
digits_blank zero v = refl
digits_blank (suc k) v =
    let e : v * 2 ^ suc k ≡ v * 2 * 2 ^ k = ap (λ (x : ℕ). v * x) (pow-suc 2 k ∙ mul_comm (2 ^ k) 2) ∙ sym (mul_assoc v 2 (2 ^ k)) in
    let t : is_odd (v * 2 ^ suc k / 2 ^ k) ≡ false = ap (λ (x : ℕ). is_odd (x / 2 ^ k)) e ∙ ap is_odd (shl-shr (v * 2) k) ∙ ap (λ (x : ℕ). eqb x 1) (mul-mod_left v 2) in
    ap₂ ◌∷◌ t (ap (digits_of k) e ∙ digits_blank k (v * 2))

pub digits_more : (n k v : ℕ) → digits_of (n + k) (v * 2 ^ k) ≡ digits_of n v ++ blank k
digits_more zero k v = ap (λ (i : ℕ). digits_of i (v * 2 ^ k)) (zero-add k) ∙ digits_blank k v
digits_more (suc n) k v =
    let t : v * 2 ^ k / 2 ^ (n + k) ≡ v / 2 ^ n = ap (λ (i : ℕ). v * 2 ^ k / 2 ^ i) (add_comm n k) ∙ sym (shr-shr (v * 2 ^ k) k n) ∙ ap (λ (x : ℕ). x / 2 ^ n) (shl-shr v k) in
    ap (λ (i : ℕ). digits_of i (v * 2 ^ k)) (suc-add n k) ∙ ap₂ ◌∷◌ (ap is_odd t) (digits_more n k v)

overlap_none : (ys : List Bool) → overlap ys [] ≡ 0
overlap_none [] = refl
overlap_none (y ∷ ys) = refl

overlap_comm : (xs ys : List Bool) → overlap xs ys ≡ overlap ys xs
overlap_comm [] ys = sym (overlap_none ys)
overlap_comm (x ∷ xs) [] = refl
overlap_comm (x ∷ xs) (y ∷ ys) = ap₂ ◌+◌ (ap (λ (b : Bool). cond b 1 0) (swap x y)) (overlap_comm xs ys)
  where
    swap : (x y : Bool) → (x && y) ≡ (y && x)
    swap true true = refl
    swap true false = refl
    swap false true = refl
    swap false false = refl

overlap_more : (xs : List Bool) (k : ℕ) (ys : List Bool) → overlap (xs ++ blank k) ys ≡ overlap xs ys
overlap_more [] zero ys = refl
overlap_more [] (suc k) [] = refl
overlap_more [] (suc k) (y ∷ ys) = zero-add (overlap (blank k) ys) ∙ overlap_more [] k ys
overlap_more (x ∷ xs) k [] = refl
overlap_more (x ∷ xs) k (y ∷ ys) = ap (λ (n : ℕ). cond (x && y) 1 0 + n) (overlap_more xs k ys)

precedes_none : (xs : List Bool) → precedes xs [] ≡ false
precedes_none [] = refl
precedes_none (x ∷ xs) = refl

precedes_more : (xs : List Bool) (k : ℕ) (ys : List Bool) → precedes (xs ++ blank k) ys ≡ precedes xs ys
precedes_more [] zero ys = refl
precedes_more [] (suc k) [] = refl
precedes_more [] (suc k) (true ∷ ys) = refl
precedes_more [] (suc k) (false ∷ ys) = precedes_more [] k ys
precedes_more (x ∷ xs) k [] = refl
precedes_more (x ∷ xs) k (y ∷ ys) = ap (λ (b : Bool). cond (beq x y) b y) (precedes_more xs k ys)

precedes_blank : (xs : List Bool) (k : ℕ) → precedes xs (blank k) ≡ false
precedes_blank xs zero = precedes_none xs
precedes_blank [] (suc k) = precedes_blank [] k
precedes_blank (true ∷ xs) (suc k) = refl
precedes_blank (false ∷ xs) (suc k) = precedes_blank xs k

more_precedes : (xs ys : List Bool) (k : ℕ) → precedes xs (ys ++ blank k) ≡ precedes xs ys
more_precedes xs [] k = precedes_blank xs k ∙ sym (precedes_none xs)
more_precedes [] (true ∷ ys) k = refl
more_precedes [] (false ∷ ys) k = more_precedes [] ys k
more_precedes (x ∷ xs) (y ∷ ys) k = ap (λ (b : Bool). cond (beq x y) b y) (more_precedes xs ys k)

-- ---- lists of any two lengths, filled up to one width

pub overlap_wide : (n k m j a b : ℕ) → n + k ≡ m + j → overlap (digits_of n a) (digits_of m b) ≡ ones (bit_and (a * 2 ^ k) (b * 2 ^ j) % 2 ^ (n + k))
overlap_wide n k m j a b e =
    sym (overlap_more (digits_of n a) k (digits_of m b))
    ∙ overlap_comm (digits_of n a ++ blank k) (digits_of m b)
    ∙ sym (overlap_more (digits_of m b) j (digits_of n a ++ blank k))
    ∙ ap₂ overlap (sym (digits_more m j b) ∙ ap (λ (i : ℕ). digits_of i (b * 2 ^ j)) (sym e)) (sym (digits_more n k a))
    ∙ overlap_comm (digits_of (n + k) (b * 2 ^ j)) (digits_of (n + k) (a * 2 ^ k))
    ∙ overlap_digits (n + k) (a * 2 ^ k) (b * 2 ^ j)

pub precedes_wide : (n k m j a b : ℕ) → n + k ≡ m + j → precedes (digits_of n a) (digits_of m b) ≡ ltb (a * 2 ^ k % 2 ^ (n + k)) (b * 2 ^ j % 2 ^ (n + k))
precedes_wide n k m j a b e =
    sym (precedes_more (digits_of n a) k (digits_of m b))
    ∙ sym (more_precedes (digits_of n a ++ blank k) (digits_of m b) j)
    ∙ ap₂ precedes (sym (digits_more n k a)) (sym (digits_more m j b) ∙ ap (λ (i : ℕ). digits_of i (b * 2 ^ j)) (sym e))
    ∙ precedes_digits (n + k) (a * 2 ^ k) (b * 2 ^ j)

pub marks_overlap : (xs : List Bool) → marks xs ≡ overlap xs xs
marks_overlap [] = refl
marks_overlap (true ∷ xs) = ap (λ (n : ℕ). 1 + n) (marks_overlap xs)
marks_overlap (false ∷ xs) = ap (λ (n : ℕ). 0 + n) (marks_overlap xs)
