-- Writing what was read gives the bytes back.
use Rattle.std.proofs.Common.{◌≡◌, ℕ, zero, suc, ◌+◌, ◌*◌, ◌^◌, ◌<◌, Bool, true, not, T, eqb, List, [], ◌∷◌, ◌++◌, length, get_or, IfOk, Ok, Err, Result, sym, refl, ◌∙◌, subst, ap₂, arith, lit<}
use lib.Ieee.{Float, nan, inf, fin, binary32, is_nan, of_bits, to_bits}
use lib.Ieee.Bits.{to_bits-of_bits}
use Rattle.std.proofs.lemmas.Nat.{le_bytes_4}
use Rattle.std.proofs.lemmas.Bool.{and_parts, eqb-true, cond_both}
use Rattle.frames.specs.Cells.{is_level, is_good}
use Rattle.frames.specs.declared.readings.Reading.{Reading}
use Rattle.frames.specs.declared.readings.Reading.TheVariants.{Dropout, Single, Pair}
use Rattle.jobfile.proofs.Listed.{listed_whole}
use Rattle.jobfile.specs.declared.records.ReadingFault.{ReadingFault}
use Rattle.jobfile.specs.declared.records.ReadingFault.TheVariants.{Level}
use Rattle.jobfile.specs.Records.{pattern, four_bytes, record_of_parts, record_of, checked_by, reading_of_parts, reading_of}

-- ---- four bytes and their number
pub four_is : (a b c d : ℕ) → a < 256 → b < 256 → c < 256 → d < 256 → four_bytes (a + b * 256 + c * 65536 + d * 16777216) ≡ a ∷ b ∷ c ∷ d ∷ []
four_is a b c d ha hb hc hd = le_bytes_4 (a ∷ b ∷ c ∷ d ∷ []) (a + b * 256 + c * 65536 + d * 16777216) refl fits refl
  where
    fits : (i : ℕ) → get_or (a ∷ b ∷ c ∷ d ∷ []) i 0 < 256
    fits zero = ha
    fits (suc zero) = hb
    fits (suc (suc zero)) = hc
    fits (suc (suc (suc zero))) = hd
    fits (suc (suc (suc (suc i)))) = lit< tt

-- ---- the pattern of a level
number : (y : Float) → is_level y ≡ true → T (not (is_nan y))
unfolding is_nan
number nan e = absurd (subst T (sym e) tt)
number (inf s) e = tt
number (fin s m e) h = tt

level_back : (n : ℕ) → n < 2 ^ 32 → is_level (of_bits binary32 n) ≡ true → to_bits binary32 (of_bits binary32 n) ≡ n
level_back n h e = to_bits-of_bits binary32 n h (number (of_bits binary32 n) e)

-- ---- a kind and two patterns
module _ (kind left right : ℕ) (L : left < 2 ^ 32) (R : right < 2 ^ 32) where
  abbrev Back : Reading → Type 0
  Back x = record_of x ≡ record_of_parts kind left right

  checked_back : (unused : Bool) (x : Reading) → (unused ≡ true → is_good x ≡ true → Back x) → IfOk (checked_by unused x) Back
  checked_back unused x h = cond_both unused _ _ (λ r. IfOk r Back) (λ u. cond_both (is_good x) (Ok x) (Err Level) (λ r. IfOk r Back) (h u) (λ _. tt)) (λ _. tt)

  parts_back : IfOk (reading_of_parts kind left right) Back
  parts_back =
      cond_both (eqb kind 0) _ _ (λ r. IfOk r Back)
      (λ k. checked_back _ Dropout (λ u g. let h = and_parts _ _ u in rw (eqb-true kind 0 k, eqb-true left 0 h.0, eqb-true right 0 h.1)))
      (λ _. cond_both (eqb kind 1) _ _ (λ r. IfOk r Back)
      (λ k. checked_back _ (Single (of_bits binary32 left)) (λ u g. rw (eqb-true kind 1 k, level_back left L g, eqb-true right 0 u)))
      (λ _. cond_both (eqb kind 2) _ _ (λ r. IfOk r Back)
      (λ k. checked_back true (Pair record { left = of_bits binary32 left; right = of_bits binary32 right }) (λ u g. let h = and_parts _ _ g in rw (eqb-true kind 2 k, level_back left L h.0, level_back right R h.1)))
      (λ _. tt)))

-- ---- a record
record_is : (xs : List ℕ) → length xs ≡ 9 → ((i : ℕ) → get_or xs i 0 < 256) → record_of_parts (get_or xs 0 0) (pattern xs 1) (pattern xs 5) ≡ xs
record_is xs l h =
    let a = four_is _ _ _ _ (h 1) (h 2) (h 3) (h 4) in
    let b = four_is _ _ _ _ (h 5) (h 6) (h 7) (h 8) in
    ap₂ (λ (ys zs : List ℕ). get_or xs 0 0 ∷ ys ++ zs) a b ∙ listed_whole 9 xs l

pub record_back : (xs : List ℕ) (r : Result Reading ReadingFault) → r ≡ reading_of xs → length xs ≡ 9 → ((i : ℕ) → get_or xs i 0 < 256) → IfOk r (λ x. record_of x ≡ xs)
record_back xs r e l h = rw e (subst (λ (ys : List ℕ). IfOk (reading_of xs) (λ x. record_of x ≡ ys)) (record_is xs l h) (parts_back (get_or xs 0 0) (pattern xs 1) (pattern xs 5) (omega (arith, h 1, h 2, h 3, h 4)) (omega (arith, h 5, h 6, h 7, h 8))))
