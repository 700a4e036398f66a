-- A trailer and its 16 bytes.
use Rattle.std.proofs.Common.{◌≡◌, ℕ, zero, suc, ◌+◌, ◌*◌, ◌/◌, ◌%◌, ◌<◌, ◌≤◌, true, cond, List, [], ◌∷◌, ◌++◌, length, get_or, drop, Some, None, Ok, Err, Option, ok_or, sym, refl, ap, ◌∙◌, ap₂, add-zero, add_assoc, ◌-◌, lit<, arith}
use Rattle.std.proofs.lemmas.List.{get_or-drop, drop_at, length-append, length-drop}
use Rattle.std.proofs.lemmas.Nat.{from_le_bytes-to_le_bytes_2, from_le_bytes-to_le_bytes_4, le_bytes_2}
use Rattle.std.proofs.lemmas.Bool.{and_from, le-leb, eq-eqb, cond-true}
use Rattle.std.proofs.lemmas.Bool.Decides.{nat_tests}
use Rattle.jobfile.specs.Records.{pattern}
use Rattle.jobfile.specs.Trailers.{trailer_start, pair_at, two_bytes, has_form, kind_of, kind_byte, trailer_at, is_good_trailer, checked_trailer, trailer_of_kind, trailer_of, is_laid_out, laid_out, trailer_in, trailer_bytes}
use Rattle.jobfile.specs.declared.faults.FileFault.{FileFault}
use Rattle.jobfile.specs.declared.faults.FileFault.TheVariants.{Form, Numbers, Layout}
use Rattle.jobfile.specs.declared.jobs.WeightKind.{WeightKind}
use Rattle.jobfile.specs.declared.jobs.WeightKind.TheVariants.{Level, FlipsFirst}
use Rattle.jobfile.specs.declared.trailers.Trailer.{Trailer}
use Rattle.jobfile.proofs.Backs.{four_is}
use Rattle.jobfile.proofs.Listed.{listed_whole}

-- ---- what stands past a place, read from there on

module _ (xs : List ℕ) (at : ℕ) where
  byte_past : (i : ℕ) → get_or xs (at + i) 0 ≡ get_or (drop at xs) i 0
  byte_past i = sym (get_or-drop at xs i 0)

  byte_past_two : (i j : ℕ) → get_or xs (at + i + j) 0 ≡ get_or (drop at xs) (i + j) 0
  byte_past_two i j = ap (λ (k : ℕ). get_or xs k 0) (add_assoc at i j) ∙ byte_past (i + j)

  pair_past : (i : ℕ) → pair_at xs (at + i) ≡ pair_at (drop at xs) i
  pair_past i = ap₂ (λ (a b : ℕ). a + b * 256) (byte_past i) (byte_past_two i 1)

  four_past : (i : ℕ) → pattern xs (at + i) ≡ pattern (drop at xs) i
  four_past i = ap₂ ◌+◌ (ap₂ ◌+◌ (ap₂ (λ (a b : ℕ). a + b * 256) (byte_past i) (byte_past_two i 1)) (ap (λ (a : ℕ). a * 65536) (byte_past_two i 2))) (ap (λ (a : ℕ). a * 16777216) (byte_past_two i 3))

  pair_here : pair_at xs at ≡ pair_at (drop at xs) 0
  pair_here = ap₂ (λ (a b : ℕ). a + b * 256) (ap (λ (k : ℕ). get_or xs k 0) (sym (add-zero at)) ∙ byte_past 0) (byte_past 1)

  pub trailer_past : (k : WeightKind) → trailer_at xs at k ≡ trailer_at (drop at xs) 0 k
  trailer_past k =
      let a = pair_here in
      let b = byte_past 2 in
      let c = byte_past 3 in
      let d = four_past 4 in
      let e = four_past 8 in
      let f = pair_past 12 in
      cc

  pub kind_past : get_or xs (at + 14) 0 ≡ get_or (drop at xs) 14 0
  kind_past = byte_past 14

  pub mark_past : get_or xs (at + 15) 0 ≡ get_or (drop at xs) 15 0
  mark_past = byte_past 15

module _ (xs : List ℕ) where
  of_kind : trailer_start (drop (trailer_start xs) xs) ≡ 0 → (o : Option WeightKind) → trailer_of_kind (drop (trailer_start xs) xs) o ≡ trailer_of_kind xs o
  of_kind e None = refl
  of_kind e (Some w) = ap checked_trailer (ap (λ (k : ℕ). trailer_at (drop (trailer_start xs) xs) k w) e ∙ sym (trailer_past xs (trailer_start xs) w))

  -- the trailer that the last 16 bytes tell
  last_trailer : 16 ≤ length xs → trailer_of (drop (trailer_start xs) xs) ≡ trailer_of xs
  last_trailer h =
      let last = drop (trailer_start xs) xs in
      let e : trailer_start last ≡ 0 = omega (arith, length-drop (trailer_start xs) xs) in
      ap (λ (k : ℕ). trailer_of_kind last (kind_of (get_or last (k + 14) 0))) e
      ∙ ap (λ (b : ℕ). trailer_of_kind last (kind_of b)) (sym (kind_past xs (trailer_start xs)))
      ∙ of_kind e (kind_of (get_or xs (trailer_start xs + 14) 0))

-- what a file's trailer comes to, by its last 16 bytes
by_last : (xs : List ℕ) → 16 ≤ length xs → length xs ≤ 4096 → get_or (drop (trailer_start xs) xs) 15 0 ≡ 90 → trailer_in xs ≡ laid_out (trailer_start xs) (trailer_of (drop (trailer_start xs) xs))
by_last xs low high mark =
    let form : has_form xs ≡ true = and_from _ _ (and_from _ _ (le-leb 16 (length xs) low) (le-leb (length xs) 4096 high)) (eq-eqb (get_or xs (trailer_start xs + 15) 0) 90 (mark_past xs (trailer_start xs) ∙ mark)) in
    cond-true (has_form xs) (laid_out (trailer_start xs) (trailer_of xs)) (Err Form) form ∙ ap (laid_out (trailer_start xs)) (sym (last_trailer xs low))

laid_ok : (end : ℕ) (o : Option Trailer) (t : Trailer) → Ok t ≡ ok_or o Numbers → laid_out end o ≡ cond (is_laid_out t end) (Ok t) (Err Layout)
laid_ok end None t e = absurd (cc)
laid_ok end (Some u) t e = let q : u ≡ t = cc in ap (λ (v : Trailer). cond (is_laid_out v end) (Ok v) (Err Layout)) q

laid_err : (end : ℕ) (o : Option Trailer) (e : FileFault) → Err e ≡ ok_or o Numbers → Err e ≡ laid_out end o
laid_err end None e h = cc
laid_err end (Some u) e h = absurd (cc)

-- the same of a file that was taken apart
module _ (xs front last : List ℕ) (low : 16 ≤ length xs) (high : length xs ≤ 4096) (l : last ≡ drop (length xs - 16) xs) (f : length front + 16 ≡ length xs) (mark : get_or last 15 0 ≡ 90) where
  taken_apart : trailer_in xs ≡ laid_out (length front) (trailer_of last)
  taken_apart =
      by_last xs low high (ap (λ (ys : List ℕ). get_or ys 15 0) (sym l) ∙ mark)
      ∙ ap₂ laid_out (let e : trailer_start xs ≡ length front = omega arith in e) (ap trailer_of (sym l))

  pub apart_ok : (t : Trailer) → Ok t ≡ ok_or (trailer_of last) Numbers → trailer_in xs ≡ cond (is_laid_out t (length front)) (Ok t) (Err Layout)
  apart_ok t e = taken_apart ∙ laid_ok (length front) (trailer_of last) t e

  pub apart_err : (e : FileFault) → Err e ≡ ok_or (trailer_of last) Numbers → Err e ≡ trailer_in xs
  apart_err e h = laid_err (length front) (trailer_of last) e h ∙ sym taken_apart

-- ---- a trailer is read from its bytes

pub record Narrow (t : Trailer) : Type 0 where
  pub n_small : t.n < 65536
  pub readings_small : t.readings_at < 4294967296
  pub rows_small : t.rows_at < 4294967296
  pub limit_small : t.limit < 65536

pair_number : (n : ℕ) → n < 65536 → n % 256 + n / 256 % 256 * 256 ≡ n
pair_number n h = from_le_bytes-to_le_bytes_2 n h

four_number : (n : ℕ) → n < 4294967296 → n % 256 + n / 256 % 256 * 256 + n / 65536 % 256 * 65536 + n / 16777216 % 256 * 16777216 ≡ n
four_number n h = from_le_bytes-to_le_bytes_4 n h

-- the same four numbers
same_numbers : (t : Trailer) (a b c d : ℕ) → a ≡ t.n → b ≡ t.readings_at → c ≡ t.rows_at → d ≡ t.limit → ◌≡◌ {A = Trailer} record { n = a; rows = t.rows; guessed = t.guessed; readings_at = b; rows_at = c; limit = d; kind = t.kind } t
same_numbers t a b c d p q r s = rw (p, q, r, s)

read_back : (t : Trailer) → Narrow t → trailer_at (trailer_bytes t) 0 t.kind ≡ t
read_back t s = same_numbers t _ _ _ _ (pair_number t.n s.n_small) (four_number t.readings_at s.readings_small) (four_number t.rows_at s.rows_small) (pair_number t.limit s.limit_small)

kind_back : (k : WeightKind) → kind_of (kind_byte k) ≡ Some k
kind_back Level = refl
kind_back FlipsFirst = refl

pub trailer_read : (front : List ℕ) (t : Trailer) → length front ≤ 4080 → Narrow t → is_good_trailer t ≡ true → is_laid_out t (length front) ≡ true → trailer_in (front ++ trailer_bytes t) ≡ Ok t
trailer_read front t l s g o =
    let xs = front ++ trailer_bytes t in
    let n : length xs ≡ length front + 16 = length-append front (trailer_bytes t) in
    let start : trailer_start xs ≡ length front = omega arith in
    let last : drop (trailer_start xs) xs ≡ trailer_bytes t = ap (λ (k : ℕ). drop k xs) start ∙ drop_at front (trailer_bytes t) (length front) refl in
    let told : trailer_of (trailer_bytes t) ≡ Some t = ap (trailer_of_kind (trailer_bytes t)) (kind_back t.kind) ∙ ap checked_trailer (read_back t s) ∙ cond-true (is_good_trailer t) (Some t) None g in
    by_last xs (omega arith) (omega arith) (ap (λ (ys : List ℕ). get_or ys 15 0) last)
    ∙ ap₂ laid_out start (ap trailer_of last ∙ told)
    ∙ cond-true (is_laid_out t (length front)) (Ok t) (Err Layout) o

-- ---- the bytes of a trailer that was read

kind_of_byte : (b : ℕ) (k : WeightKind) → kind_of b ≡ Some k → kind_byte k ≡ b
kind_of_byte b Level e = grind (arith, nat_tests)
kind_of_byte b FlipsFirst e = grind (arith, nat_tests)

two_is : (a b : ℕ) → a < 256 → b < 256 → two_bytes (a + b * 256) ≡ a ∷ b ∷ []
two_is a b A B = le_bytes_2 (a ∷ b ∷ []) (a + b * 256) refl fits refl
  where
    fits : (i : ℕ) → get_or (a ∷ b ∷ []) i 0 < 256
    fits zero = A
    fits (suc zero) = B
    fits (suc (suc i)) = lit< tt

pub bytes_back : (ys : List ℕ) (k : WeightKind) → length ys ≡ 16 → ((i : ℕ) → get_or ys i 0 < 256) → kind_of (get_or ys 14 0) ≡ Some k → get_or ys 15 0 ≡ 90 → trailer_bytes (trailer_at ys 0 k) ≡ ys
bytes_back ys k l h e m =
    let p = two_is (get_or ys 0 0) (get_or ys 1 0) (h 0) (h 1) in
    let a = four_is (get_or ys 4 0) (get_or ys 5 0) (get_or ys 6 0) (get_or ys 7 0) (h 4) (h 5) (h 6) (h 7) in
    let b = four_is (get_or ys 8 0) (get_or ys 9 0) (get_or ys 10 0) (get_or ys 11 0) (h 8) (h 9) (h 10) (h 11) in
    let c = two_is (get_or ys 12 0) (get_or ys 13 0) (h 12) (h 13) in
    let w = kind_of_byte (get_or ys 14 0) k e in
    let all = listed_whole 16 ys l in
    cc
