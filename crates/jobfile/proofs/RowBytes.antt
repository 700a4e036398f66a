-- A row that is read of 16 bytes, and where it may have marks.
use Rattle.std.proofs.Common.{◌≡◌, ℕ, ◌+◌, ◌/◌, ◌%◌, ◌^◌, ◌<◌, ◌≤◌, Bool, true, false, cond, List, [], ◌∷◌, ◌++◌, length, get_or, take, drop, is_ok, Some, None, Ok, Err, Option, Result, sym, refl, ap, ◌∙◌, subst, ap₂, inl, inr, arith, lit<}
use Rattle.std.proofs.lemmas.List.{append-nil, take_at, drop_at, drop_all, get_or-take, get_or-drop, get_or_past, length-take, length-take-le, length-drop, drop-drop, take-append-drop, drop-take, take-take}
use Rattle.std.proofs.lemmas.Bool.{cases_lt, and_from, le-leb, cond-true}
use Rattle.std.specs.Int.{w64, from_le_bytes, reverse_bits, reverse_bits_onto}
use Rattle.std.specs.Option.{option_map}
use Rattle.std.proofs.lemmas.Grind.{flat_map-append}
use borrow.Rule.Slice.PartMut.{put_mid}
use Rattle.frames.specs.Faults.{Refusal, plain, answer, refusal}
use Rattle.frames.specs.Halves.{spelled, unmarked, is_length}
use Rattle.frames.specs.Words as frames-words
use Rattle.frames.specs.Words.{bits_of}
use Rattle.frames.specs.declared.bits.Bits.{Bits}
use Rattle.frames.specs.declared.faults.Fault.{Fault}
use Rattle.jobfile.specs.RowPlaces.{low_digits, byte_places, packed, half_places, ends_before}
use Rattle.jobfile.proofs.Listed.{listed_whole}
use Rattle.jobfile.proofs.LowDigits.{length_packed, packed_append, length_half, le_number, le_bytes, half_read, half_written, ends_before_lem}

-- ---- parts of bytes

-- bytes of a part are bytes
pub part_fits : (k at : ℕ) (xs : List ℕ) → ((i : ℕ) → get_or xs i 0 < 256) → (i : ℕ) → get_or (take k (drop at xs)) i 0 < 256
part_fits k at xs h i =
    elim (cases_lt i k) [
      | inl l ↦ subst (λ (x : ℕ). x < 256) (sym (get_or-take k (drop at xs) i 0 l ∙ get_or-drop at xs i 0)) (h (at + i))
      | inr g ↦ subst (λ (x : ℕ). x < 256) (sym (get_or_past (take k (drop at xs)) i 0 (omega (arith, length-take k (drop at xs))))) (lit< tt)
    ]

pub part_length : (k at : ℕ) (xs : List ℕ) → at + k ≤ length xs → length (take k (drop at xs)) ≡ k
part_length k at xs h = length-take-le k (drop at xs) (omega (arith, length-drop at xs))

-- two parts, one after the other
pub part_append : (j k at : ℕ) (xs : List ℕ) → take (j + k) (drop at xs) ≡ take j (drop at xs) ++ take k (drop (at + j) xs)
part_append j k at xs =
    let le : j ≤ j + k = omega arith in
    sym (take-append-drop j (take (j + k) (drop at xs)))
    ∙ ap₂ (λ (us vs : List ℕ). us ++ vs) (take-take j (j + k) (drop at xs) le) (drop-take j k (drop at xs) ∙ ap (take k) (drop-drop j at xs))

-- ---- a half

pub half_is : (xs : List ℕ) (v r : ℕ) → length xs ≡ 8 → ((i : ℕ) → get_or xs i 0 < 256) → v ≡ from_le_bytes w64 xs → r ≡ reverse_bits w64 v → half_places r ≡ byte_places xs
half_is xs v r l h e f =
    let n : v ≡ le_number (get_or xs 0 0 ∷ get_or xs 1 0 ∷ get_or xs 2 0 ∷ get_or xs 3 0 ∷ get_or xs 4 0 ∷ get_or xs 5 0 ∷ get_or xs 6 0 ∷ get_or xs 7 0 ∷ []) = omega arith in
    ap half_places (f ∙ ap (λ (x : ℕ). reverse_bits_onto 64 x 0) (n ∙ ap le_number (listed_whole 8 xs l))) ∙ half_read xs l h

pub half_bytes : (a v : ℕ) (r : List ℕ) → v ≡ reverse_bits_onto 64 a 0
    → r ≡ (v % 256) ∷ (v / 256 % 256) ∷ (v / 65536 % 256) ∷ (v / 16777216 % 256) ∷ (v / 4294967296 % 256) ∷ (v / 1099511627776 % 256) ∷ (v / 281474976710656 % 256) ∷ (v / 72057594037927936 % 256) ∷ []
    → r ≡ packed 8 (half_places a)
half_bytes a v r e f =
    let a2 : v / 256 / 256 ≡ v / 65536 = omega arith in
    let a3 : v / 65536 / 256 ≡ v / 16777216 = omega arith in
    let a4 : v / 16777216 / 256 ≡ v / 4294967296 = omega arith in
    let a5 : v / 4294967296 / 256 ≡ v / 1099511627776 = omega arith in
    let a6 : v / 1099511627776 / 256 ≡ v / 281474976710656 = omega arith in
    let a7 : v / 281474976710656 / 256 ≡ v / 72057594037927936 = omega arith in
    let s : r ≡ le_bytes 8 v = rw (a2, a3, a4, a5, a6, a7) f in
    s ∙ ap (le_bytes 8) e ∙ half_written a

-- ---- a row

pub row_is : (xs us vs : List ℕ) (a b : ℕ) → us ≡ take 8 xs → vs ≡ drop 8 xs → half_places a ≡ byte_places us → half_places b ≡ byte_places vs → half_places a ++ half_places b ≡ byte_places xs
row_is xs us vs a b e f p q =
    ap₂ (λ (ms ns : List Bool). ms ++ ns) (p ∙ ap byte_places e) (q ∙ ap byte_places f)
    ∙ sym (flat_map-append (low_digits 8) (take 8 xs) (drop 8 xs))
    ∙ ap byte_places (take-append-drop 8 xs)

-- 16 bytes whose halves were written one after the other
pub row_written : (us vs zs : List ℕ) (a b : ℕ) → us ≡ packed 8 (half_places a) → vs ≡ packed 8 (half_places b) → length zs ≡ 8 → put_mid 8 8 (us ++ zs) vs ≡ packed 16 (half_places a ++ half_places b)
row_written us vs zs a b p q l =
    let u : length us ≡ 8 = ap length p ∙ length_packed 8 (half_places a) in
    ap₂ (λ (xs ys : List ℕ). xs ++ (vs ++ drop 8 ys)) (take_at us zs 8 u) (drop_at us zs 8 u)
    ∙ ap (λ (xs : List ℕ). us ++ (vs ++ xs)) (drop_all 8 zs (omega arith))
    ∙ ap (λ (xs : List ℕ). us ++ xs) (append-nil vs)
    ∙ ap₂ (λ (xs ys : List ℕ). xs ++ ys) p q
    ∙ sym (packed_append 8 8 (half_places a) (half_places b) (length_half a))

-- ---- marks

answered : (r : Result Bits Fault) (o : Result (List Bool) Refusal) → answer frames-words.places r ≡ Some o → is_ok r ≡ is_ok o
answered (Ok x) o e = let p : Ok (frames-words.places x) ≡ o = cc in ap is_ok p
answered (Err fault) o e = go (refusal fault) e
  where
    go : (q : Option Refusal) → option_map Err q ≡ Some o → false ≡ is_ok o
    go None p = absurd (cc)
    go (Some q) p = let s : Err q ≡ o = cc in ap is_ok s

bits_test : (n a b : ℕ) → is_length n ≡ true → is_ok (bits_of n a b) ≡ unmarked n a b
bits_test n a b l =
    ap is_ok (cond-true (is_length n) (cond (unmarked n a b) (Ok (spelled n a b)) (Err (plain 4))) (Err (plain 1)) l)
    ∙ go (unmarked n a b)
  where
    go : (t : Bool) → is_ok {E = Refusal} (cond t (Ok (spelled n a b)) (Err (plain 4))) ≡ t
    go true = refl
    go false = refl

pub marks_test : (n a b : ℕ) (r : Result Bits Fault) → 1 ≤ n → n ≤ 128 → b < 2 ^ 64 → answer frames-words.places r ≡ Some (bits_of n a b) → is_ok r ≡ ends_before n (half_places a ++ half_places b)
marks_test n a b r some most B e =
    answered r (bits_of n a b) e
    ∙ bits_test n a b (and_from _ _ (le-leb 1 n some) (le-leb n 128 most))
    ∙ sym (ends_before_lem n a b most B)
