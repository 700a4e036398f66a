-- Binary digits, the lowest first: of bytes, and of a number whose digits are turned round.
use Rattle.std.proofs.Common.{◌≡◌, ℕ, zero, suc, ◌+◌, ◌-◌, ◌*◌, ◌/◌, ◌%◌, ◌^◌, ◌<◌, ◌≤◌, Bool, true, false, cond, eqb, List, [], ◌∷◌, ◌++◌, length, get_or, take, drop, sym, refl, ap, ◌∙◌, ap₂, add-zero, mul_assoc, suc-mul, mul_comm, add_comm, suc-add, pow-suc, zero-add, arith, pow_pos, shr-shr}
use native.Mathlib.Nat.{mul-add-div_right}
use lib.Pow.{mod-pow-add, high}
use Rattle.std.proofs.lemmas.List.{append_assoc, append-nil, take_at, drop_at, take-append-drop, length-take-le, length-drop}
use Rattle.std.proofs.lemmas.Bool.{ne_eqb}
use Rattle.std.proofs.lemmas.Bool.Decides.{nat_tests}
use Rattle.std.specs.Int.{reverse_bits_onto}
use Rattle.frames.proofs.Digits.{length_digits}
use Rattle.frames.specs.Halves.{is_odd, digits_of, unmarked}
use Rattle.frames.specs.Places.{marks}
use Rattle.jobfile.specs.RowPlaces.{low_digits, number_of, byte_places, packed, half_places, ends_before}

pub length_low : (n v : ℕ) → length (low_digits n v) ≡ n
unfolding low_digits
length_low zero v = refl
length_low (suc n) v = ap suc (length_low n (v / 2))

-- ---- a number in two parts

odd_sum : (b x : ℕ) → is_odd (b + 2 * x) ≡ is_odd b
odd_sum b x = let e : (b + 2 * x) % 2 ≡ b % 2 = omega arith in ap (λ (y : ℕ). eqb y 1) e

pub low_split : (k m b r : ℕ) → b < 2 ^ k → low_digits (k + m) (b + 2 ^ k * r) ≡ low_digits k b ++ low_digits m r
unfolding low_digits
low_split zero m b r h = let e : b + 1 * r ≡ r = omega arith in ap₂ low_digits (zero-add m) e
low_split (suc k) m b r h =
    let p : 2 ^ suc k ≡ 2 ^ k * 2 = pow-suc 2 k in
    let q : 2 ^ suc k * r ≡ 2 * (2 ^ k * r) = ap (λ (x : ℕ). x * r) (p ∙ mul_comm (2 ^ k) 2) ∙ mul_assoc 2 (2 ^ k) r in
    let e : b + 2 ^ suc k * r ≡ b + 2 * (2 ^ k * r) = ap (λ (x : ℕ). b + x) q in
    let d : (b + 2 * (2 ^ k * r)) / 2 ≡ b / 2 + 2 ^ k * r = omega arith in
    let l : b / 2 < 2 ^ k = omega arith in
    ap₂ low_digits (suc-add k m) e
    ∙ ap₂ (λ (x : Bool) (xs : List Bool). x ∷ xs) (odd_sum b (2 ^ k * r)) (ap (low_digits (k + m)) d ∙ low_split k m (b / 2) r l)

-- ---- the number of bytes, the least byte first

abbrev pub le_number : List ℕ → ℕ
le_number [] = 0
le_number (b ∷ bs) = b + 256 * le_number bs

pub low_bytes : (bs : List ℕ) → ((i : ℕ) → get_or bs i 0 < 256) → low_digits (8 * length bs) (le_number bs) ≡ byte_places bs
low_bytes [] h = unfold low_digits in refl
low_bytes (b ∷ bs) h =
    ap (λ (n : ℕ). low_digits n (b + 256 * le_number bs)) (let e : 8 * suc (length bs) ≡ 8 + 8 * length bs = omega arith in e)
    ∙ low_split 8 (8 * length bs) b (le_number bs) (h 0)
    ∙ ap (λ (xs : List Bool). low_digits 8 b ++ xs) (low_bytes bs (λ i. h (suc i)))

-- ---- digits turned round

digits_push : (n v b : ℕ) → b < 2 → digits_of (suc n) (v * 2 + b) ≡ digits_of n v ++ is_odd b ∷ []
digits_push zero v b h = let e : (v * 2 + b) / 1 % 2 ≡ b % 2 = omega arith in ap (λ (x : ℕ). eqb x 1 ∷ []) e
digits_push (suc n) v b h =
    let d : (v * 2 + b) / 2 ≡ v = omega arith in
    let e : (v * 2 + b) / 2 ^ suc n ≡ v / 2 ^ n = ap (λ (k : ℕ). (v * 2 + b) / 2 ^ k) (let o : suc n ≡ 1 + n = omega arith in o) ∙ sym (shr-shr (v * 2 + b) 1 n) ∙ ap (λ (x : ℕ). x / 2 ^ n) d in
    ap₂ (λ (x : Bool) (xs : List Bool). x ∷ xs) (ap is_odd e) (digits_push n v b h)

digits_last : (k n : ℕ) → digits_of (suc k) n ≡ digits_of k (n / 2) ++ is_odd n ∷ []
digits_last k n =
    let s : n / 2 * 2 + n % 2 ≡ n = omega arith in
    let o : is_odd (n % 2) ≡ is_odd n = let e : n % 2 % 2 ≡ n % 2 = omega arith in ap (λ (x : ℕ). eqb x 1) e in
    ap (digits_of (suc k)) (sym s) ∙ digits_push k (n / 2) (n % 2) (omega arith) ∙ ap (λ (x : Bool). digits_of k (n / 2) ++ x ∷ []) o

pub digits_turned : (k j n a : ℕ) → digits_of (j + k) (reverse_bits_onto k n a) ≡ digits_of j a ++ low_digits k n
unfolding low_digits reverse_bits_onto
digits_turned zero j n a = ap (λ (i : ℕ). digits_of i a) (add-zero j) ∙ sym (append-nil (digits_of j a))
digits_turned (suc k) j n a =
    let o : is_odd (n % 2) ≡ is_odd n = let e : n % 2 % 2 ≡ n % 2 = omega arith in ap (λ (x : ℕ). eqb x 1) e in
    ap (λ (i : ℕ). digits_of i (reverse_bits_onto k (n / 2) (a * 2 + n % 2))) (let e : j + suc k ≡ suc j + k = omega arith in e)
    ∙ digits_turned k (suc j) (n / 2) (a * 2 + n % 2)
    ∙ ap (λ (xs : List Bool). xs ++ low_digits k (n / 2)) (digits_push j a (n % 2) (omega arith) ∙ ap (λ (x : Bool). digits_of j a ++ x ∷ []) o)
    ∙ append_assoc (digits_of j a) (is_odd n ∷ []) (low_digits k (n / 2))

pub low_turned : (k j n a : ℕ) → low_digits (k + j) (reverse_bits_onto k n a) ≡ digits_of k n ++ low_digits j a
unfolding low_digits reverse_bits_onto
low_turned zero j n a = ap (λ (i : ℕ). low_digits i a) (zero-add j)
low_turned (suc k) j n a =
    let o : (a * 2 + n % 2) / 2 ≡ a = omega arith in
    let p : (a * 2 + n % 2) % 2 ≡ n % 2 = omega arith in
    ap (λ (i : ℕ). low_digits i (reverse_bits_onto k (n / 2) (a * 2 + n % 2))) (let e : suc k + j ≡ k + suc j = omega arith in e)
    ∙ low_turned k (suc j) (n / 2) (a * 2 + n % 2)
    ∙ ap₂ (λ (x y : ℕ). digits_of k (n / 2) ++ eqb x 1 ∷ low_digits j y) p o
    ∙ sym (append_assoc (digits_of k (n / 2)) (is_odd n ∷ []) (low_digits j a))
    ∙ ap (λ (xs : List Bool). xs ++ low_digits j a) (sym (digits_last k n))

-- ---- a number and its digits

digit_of : (v : ℕ) → cond (is_odd v) 1 0 ≡ v % 2
digit_of v = grind (arith, nat_tests)

pub number_low : (n v : ℕ) → v < 2 ^ n → number_of (low_digits n v) ≡ v
unfolding low_digits
number_low zero v h = omega arith
number_low (suc n) v h =
    let p : 2 ^ suc n ≡ 2 ^ n * 2 = pow-suc 2 n in
    let l : v / 2 < 2 ^ n = omega arith in
    let i = number_low n (v / 2) l in
    let d = digit_of v in
    omega arith

pub low_number : (bs : List Bool) → low_digits (length bs) (number_of bs) ≡ bs
unfolding low_digits
low_number [] = refl
low_number (true ∷ bs) =
    let e : (1 + 2 * number_of bs) / 2 ≡ number_of bs = omega arith in
    ap₂ (λ (x : Bool) (xs : List Bool). x ∷ xs) (odd_sum 1 (number_of bs)) (ap (low_digits (length bs)) e ∙ low_number bs)
low_number (false ∷ bs) =
    let e : (0 + 2 * number_of bs) / 2 ≡ number_of bs = omega arith in
    ap₂ (λ (x : Bool) (xs : List Bool). x ∷ xs) (odd_sum 0 (number_of bs)) (ap (low_digits (length bs)) e ∙ low_number bs)

-- ---- places and bytes

pub length_packed : (k : ℕ) (ms : List Bool) → length (packed k ms) ≡ k
unfolding packed
length_packed zero ms = refl
length_packed (suc k) ms = ap suc (length_packed k (drop 8 ms))

packed_cons : (k : ℕ) (xs ys : List Bool) → length xs ≡ 8 → packed (suc k) (xs ++ ys) ≡ number_of xs ∷ packed k ys
unfolding packed
packed_cons k xs ys l = ap₂ (λ (us vs : List Bool). number_of us ∷ packed k vs) (take_at xs ys 8 l) (drop_at xs ys 8 l)

pub packed_back : (bs : List ℕ) → ((i : ℕ) → get_or bs i 0 < 256) → packed (length bs) (byte_places bs) ≡ bs
packed_back [] h = unfold packed in refl
packed_back (b ∷ bs) h =
    packed_cons (length bs) (low_digits 8 b) (byte_places bs) (length_low 8 b)
    ∙ ap₂ (λ (x : ℕ) (xs : List ℕ). x ∷ xs) (number_low 8 b (h 0)) (packed_back bs (λ i. h (suc i)))

pub places_back : (k : ℕ) (ms : List Bool) → length ms ≡ 8 * k → byte_places (packed k ms) ≡ ms
unfolding packed
places_back zero [] l = refl
places_back zero (m ∷ ms) l = absurd (omega arith)
places_back (suc k) ms l =
    let t : length (take 8 ms) ≡ 8 = length-take-le 8 ms (omega arith) in
    let d : length (drop 8 ms) ≡ 8 * k = omega (arith, length-drop 8 ms) in
    ap₂ (λ (xs ys : List Bool). xs ++ ys) (ap (λ (n : ℕ). low_digits n (number_of (take 8 ms))) (sym t) ∙ low_number (take 8 ms)) (places_back k (drop 8 ms) d)
    ∙ take-append-drop 8 ms

pub packed_append : (k m : ℕ) (xs ys : List Bool) → length xs ≡ 8 * k → packed (k + m) (xs ++ ys) ≡ packed k xs ++ packed m ys
unfolding packed
packed_append zero m [] ys l = ap (λ (i : ℕ). packed i ys) (zero-add m)
packed_append zero m (x ∷ xs) ys l = absurd (omega arith)
packed_append (suc k) m xs ys l =
    let t : length (take 8 xs) ≡ 8 = length-take-le 8 xs (omega arith) in
    let d : length (drop 8 xs) ≡ 8 * k = omega (arith, length-drop 8 xs) in
    ap₂ (λ (i : ℕ) (zs : List Bool). packed i (zs ++ ys)) (suc-add k m) (sym (take-append-drop 8 xs))
    ∙ ap (λ (zs : List Bool). packed (suc (k + m)) zs) (append_assoc (take 8 xs) (drop 8 xs) ys)
    ∙ packed_cons (k + m) (take 8 xs) (drop 8 xs ++ ys) t
    ∙ ap (λ (zs : List ℕ). number_of (take 8 xs) ∷ zs) (packed_append k m (drop 8 xs) ys d)

-- the k bytes of a number, the least first
abbrev pub le_bytes : ℕ → ℕ → List ℕ
le_bytes zero v = []
le_bytes (suc k) v = v % 256 ∷ le_bytes k (v / 256)

pub packed_low : (k v : ℕ) → packed k (low_digits (8 * k) v) ≡ le_bytes k v
packed_low zero v = unfold packed in refl
packed_low (suc k) v =
    let s : v % 256 + 256 * (v / 256) ≡ v = omega arith in
    let l : v % 256 < 256 = omega arith in
    ap₂ (λ (n w : ℕ). packed (suc k) (low_digits n w)) (let e : 8 * suc k ≡ 8 + 8 * k = omega arith in e) (sym s)
    ∙ ap (packed (suc k)) (low_split 8 (8 * k) (v % 256) (v / 256) l)
    ∙ packed_cons k (low_digits 8 (v % 256)) (low_digits (8 * k) (v / 256)) (length_low 8 (v % 256))
    ∙ ap₂ (λ (x : ℕ) (xs : List ℕ). x ∷ xs) (number_low 8 (v % 256) l) (packed_low k (v / 256))

-- ---- marks past a place

pub digits_drop : (n m v : ℕ) → drop n (digits_of (n + m) v) ≡ digits_of m v
digits_drop zero m v = ap (λ (i : ℕ). digits_of i v) (zero-add m)
digits_drop (suc n) m v = ap (λ (i : ℕ). drop (suc n) (digits_of i v)) (suc-add n m) ∙ digits_drop n m v

-- a multiple of 2 ^ m does not change the m lowest digits
digits_low : (m a b : ℕ) → digits_of m (a * 2 ^ m + b) ≡ digits_of m b
digits_low zero a b = refl
digits_low (suc m) a b =
    let p : a * 2 ^ suc m ≡ a * 2 * 2 ^ m = ap (λ (x : ℕ). a * x) (pow-suc 2 m ∙ mul_comm (2 ^ m) 2) ∙ sym (mul_assoc a 2 (2 ^ m)) in
    let q : (a * 2 * 2 ^ m + b) / 2 ^ m ≡ a * 2 + b / 2 ^ m = mul-add-div_right (pow_pos m) (a * 2) b in
    let e : (a * 2 + b / 2 ^ m) % 2 ≡ b / 2 ^ m % 2 = omega arith in
    ap (λ (x : ℕ). digits_of (suc m) (x + b)) p
    ∙ ap₂ (λ (x : Bool) (xs : List Bool). x ∷ xs) (ap is_odd q ∙ ap (λ (x : ℕ). eqb x 1) e) (digits_low m (a * 2) b)

pub digits_split : (n m a b : ℕ) → b < 2 ^ m → digits_of (n + m) (a * 2 ^ m + b) ≡ digits_of n a ++ digits_of m b
digits_split zero m a b h = ap (λ (i : ℕ). digits_of i (a * 2 ^ m + b)) (zero-add m) ∙ digits_low m a b
digits_split (suc n) m a b h =
    let e : (a * 2 ^ m + b) / 2 ^ (n + m) ≡ a / 2 ^ n = ap (λ (i : ℕ). (a * 2 ^ m + b) / 2 ^ i) (add_comm n m) ∙ sym (shr-shr (a * 2 ^ m + b) m n) ∙ ap (λ (x : ℕ). x / 2 ^ n) (high a m h) in
    ap (λ (i : ℕ). digits_of i (a * 2 ^ m + b)) (suc-add n m)
    ∙ ap₂ (λ (x : Bool) (xs : List Bool). x ∷ xs) (ap is_odd e) (digits_split n m a b h)

zero_sum : (d m p r : ℕ) → 0 < p → eqb m 0 ≡ eqb r 0 → eqb (d + m) 0 ≡ eqb (d * p + r) 0
zero_sum zero m p r h e = ap (λ (x : ℕ). eqb x 0) (zero-add m) ∙ e ∙ ap (λ (x : ℕ). eqb x 0) (let z : r ≡ 0 * p + r = omega arith in z)
zero_sum (suc d) m p r h e = ne_eqb (suc d + m) 0 (λ z. omega arith) ∙ sym (ne_eqb (suc d * p + r) 0 (λ z. let q : suc d * p ≡ d * p + p = suc-mul d p in omega arith))

no_marks : (m v : ℕ) → eqb (marks (digits_of m v)) 0 ≡ eqb (v % 2 ^ m) 0
no_marks zero v = let z : 0 ≡ v % 1 = omega arith in ap (λ (x : ℕ). eqb x 0) z
no_marks (suc m) v =
    ap (λ (x : ℕ). eqb (x + marks (digits_of m v)) 0) (digit_of (v / 2 ^ m))
    ∙ zero_sum (v / 2 ^ m % 2) (marks (digits_of m v)) (2 ^ m) (v % 2 ^ m) (pow_pos m) (no_marks m v)
    ∙ ap (λ (x : ℕ). eqb x 0) (sym (mod-pow-add v 1 m) ∙ ap (λ (i : ℕ). v % 2 ^ i) (let e : 1 + m ≡ suc m = omega arith in e))

ends_at : (w m n a b : ℕ) → n ≤ w + m → b < 2 ^ m → ends_before n (digits_of w a ++ digits_of m b) ≡ eqb ((a * 2 ^ m + b) % 2 ^ (w + m - n)) 0
ends_at w m n a b h B =
    let e : w + m ≡ n + (w + m - n) = omega arith in
    ap (ends_before n) (sym (digits_split w m a b B) ∙ ap (λ (i : ℕ). digits_of i (a * 2 ^ m + b)) e)
    ∙ ap (λ (xs : List Bool). eqb (marks xs) 0) (digits_drop n (w + m - n) (a * 2 ^ m + b))
    ∙ no_marks (w + m - n) (a * 2 ^ m + b)

none : (k a : ℕ) → digits_of k a ++ low_digits 0 0 ≡ digits_of k a
unfolding low_digits
none k a = append-nil (digits_of k a)

-- ---- a half and a row

pub length_half : (a : ℕ) → length (half_places a) ≡ 64
unfolding half_places
length_half a = length_digits 64 a

-- where a row may have marks
pub ends_before_lem : (n a b : ℕ) → n ≤ 128 → b < 2 ^ 64 → ends_before n (half_places a ++ half_places b) ≡ unmarked n a b
unfolding half_places
ends_before_lem n a b h B = ends_at 64 64 n a b h B

-- a half that is read, and one that is written
pub half_read : (bs : List ℕ) → length bs ≡ 8 → ((i : ℕ) → get_or bs i 0 < 256) → half_places (reverse_bits_onto 64 (le_number bs) 0) ≡ byte_places bs
unfolding half_places
half_read bs l h = digits_turned 64 0 (le_number bs) 0 ∙ ap (λ (i : ℕ). low_digits (8 * i) (le_number bs)) (sym l) ∙ low_bytes bs h

pub half_written : (a : ℕ) → le_bytes 8 (reverse_bits_onto 64 a 0) ≡ packed 8 (half_places a)
unfolding half_places
half_written a = sym (packed_low 8 (reverse_bits_onto 64 a 0)) ∙ ap (packed 8) (low_turned 64 0 a 0 ∙ none 64 a)
