-- The entries of a section, told apart, are those of the file's bytes.
use Rattle.std.proofs.Common.{◌≡◌, ℕ, zero, suc, ◌+◌, ◌-◌, ◌*◌, ◌<◌, ◌≤◌, List, [], length, get_or, take, drop, Some, None, Ok, Err, Option, Result, Bool, true, false, cond, slice_range, inl, inr, ◌⊎◌, Bor, sym, refl, ap, ◌∙◌, ap₂, mul-zero, mul-suc, mul-le-mul_left, arith}
use Rattle.std.proofs.lemmas.List.{drop-drop, drop-take, take-take}
use Rattle.std.proofs.lemmas.Bool.{cases_lt}
use Rattle.std.specs.Option.{MatchOption, unwrap_or}
use Rattle.std.specs.Simd.{first_chunks}
use Rattle.frames.specs.Faults.{Refusal, plain}
use Rattle.frames.specs.Halves.{is_length}
use Rattle.frames.specs.Lengths.{length_of}
use Rattle.jobfile.specs.Files.{located, reading_at, checked_row, row_at}
use Rattle.jobfile.specs.Gathered.{with_next, gathered}
use Rattle.jobfile.specs.Records.{reading_of}
use Rattle.jobfile.specs.RowPlaces.{byte_places}

gathered_same : {X E : Type 0} (f g : ℕ → Result X E) (n : ℕ) → ((i : ℕ) → i < n → f i ≡ g i) → gathered f n ≡ gathered g n
gathered_same f g zero h = refl
gathered_same f g (suc n) h = ap₂ with_next (gathered_same f g n (λ i l. h i (omega arith))) (h n (omega arith))

pub chunk_at : (size k : ℕ) (xs : List ℕ) (i : ℕ) → i < k → get_or (first_chunks size k xs) i [] ≡ take size (drop (size * i) xs)
chunk_at size zero xs i h = absurd (omega arith)
chunk_at size (suc k) xs zero h = ap (λ (j : ℕ). take size (drop j xs)) (sym (mul-zero size))
chunk_at size (suc k) xs (suc i) h =
    chunk_at size k (drop size xs) i (omega arith)
    ∙ ap (take size) (drop-drop (size * i) size xs ∙ ap (λ (j : ℕ). drop j xs) (let e : size + size * i ≡ size * suc i = omega (arith, mul-suc size i) in e))

-- the same of bytes that are a part of others
pub chunk_in : (size k m at : ℕ) (xs : List ℕ) (i : ℕ) → i < k → size * i + size ≤ m → get_or (first_chunks size k (take m (drop at xs))) i [] ≡ take size (drop (at + size * i) xs)
chunk_in size k m at xs i h l =
    let r = m - size * i in
    let e : m ≡ size * i + r = omega arith in
    chunk_at size k (take m (drop at xs)) i h
    ∙ ap (λ (j : ℕ). take size (drop (size * i) (take j (drop at xs)))) e
    ∙ ap (take size) (drop-take (size * i) r (drop at xs))
    ∙ take-take size r (drop (size * i) (drop at xs)) (omega arith)
    ∙ ap (take size) (drop-drop (size * i) at xs)

-- records that were told apart
module _ (xs : List ℕ) (at n : ℕ) (es : List (List ℕ)) where
  abbrev pub EachIs : ℕ → Type 0
  EachIs size = (i : ℕ) → i < n → get_or es i [] ≡ take size (drop (at + size * i) xs)

  pub each_in : (size : ℕ) (part : List ℕ) → part ≡ take (size * n) (drop at xs) → es ≡ first_chunks size n part → EachIs size
  each_in size part p e i h =
      ap (λ (ys : List (List ℕ)). get_or ys i []) e
      ∙ ap (λ (ys : List ℕ). get_or (first_chunks size n ys) i []) p
      ∙ chunk_in size n (size * n) at xs i h (let l : size * suc i ≤ size * n = mul-le-mul_left size (omega arith) in omega (arith, mul-suc size i))

  pub readings_are : length es ≡ n → EachIs 9 → gathered (λ (i : ℕ). located i (at + 9 * i) (reading_of (get_or es i []))) (length es) ≡ gathered (reading_at xs at) n
  unfolding reading_at
  readings_are l h =
      ap (gathered (λ (i : ℕ). located i (at + 9 * i) (reading_of (get_or es i [])))) l
      ∙ gathered_same _ (reading_at xs at) n (λ i b. ap (λ (ys : List ℕ). located i (at + 9 * i) (reading_of ys)) (h i b))

  pub rows_are : (len : ℕ) → length es ≡ n → EachIs 16 → gathered (λ (i : ℕ). checked_row len i (at + 16 * i) (byte_places (get_or es i []))) (length es) ≡ gathered (row_at len xs at) n
  unfolding row_at
  rows_are len l h =
      ap (gathered (λ (i : ℕ). checked_row len i (at + 16 * i) (byte_places (get_or es i [])))) l
      ∙ gathered_same _ (row_at len xs at) n (λ i b. ap (λ (ys : List ℕ). checked_row len i (at + 16 * i) (byte_places ys)) (h i b))

-- the part of bytes that holds rows, if there are any, and nothing where there are none
pub part_is : (xs : List ℕ) (at m n : ℕ) (o : Option (Bor (List ℕ))) (d : Bor (List ℕ)) → m ≡ n → (0 < n → at + 16 * n ≤ length xs) → d.now ≡ []
    → MatchOption o ((at + 16 * m < at) ⊎ (length xs < at + 16 * m)) (λ x. (at ≤ at + 16 * m) × (at + 16 * m ≤ length xs) × (x.now ≡ slice_range xs at (at + 16 * m)) × (length x.now + at ≡ at + 16 * m))
    → ((unwrap_or o d).now ≡ take (16 * n) (drop at xs)) × (length (unwrap_or o d).now ≡ 16 * n)
part_is xs at m n None d e f z h =
    let k : n ≡ 0 = elim (cases_lt 0 n) [ inl l ↦ absurd (elim h [ inl a ↦ omega arith | inr b ↦ omega (arith, f l) ]) | inr g ↦ omega arith ] in
    (z ∙ ap (λ (j : ℕ). take (16 * j) (drop at xs)) (sym k), ap length z ∙ ap (λ (j : ℕ). 16 * j) (sym k))
part_is xs at m n (Some x) d e f z h = (h.2 ∙ ap (λ (j : ℕ). take j (drop at xs)) (let q : at + 16 * m - at ≡ 16 * n = omega arith in q), omega (arith, h.3))

-- a length that was made of a number is that number
pub length_is : (n m : ℕ) → ◌≡◌ {A = Option (Result ℕ Refusal)} (Some (Ok m)) (Some (length_of n)) → m ≡ n
length_is n m e = go (is_length n) e
  where
    go : (b : Bool) → ◌≡◌ {A = Option (Result ℕ Refusal)} (Some (Ok m)) (Some (cond b (Ok n) (Err (plain 1)))) → m ≡ n
    go true p = cc
    go false p = absurd (cc)
