-- What is read of records is good.
use Rattle.std.proofs.Common.{◌≡◌, ℕ, zero, suc, ◌+◌, ◌*◌, ◌/◌, ◌%◌, Bool, true, false, cond, ◌&&◌, eqb, List, [], ◌∷◌, ◌++◌, map, length, take, drop, IfOk, Some, None, Ok, Err, Option, Result, refl, ap, ◌∙◌, add-one, length-append}
use Rattle.std.proofs.lemmas.Bool.{cond-true}
use Rattle.std.specs.Option.{option_map}
use Rattle.frames.specs.Cells.{is_good}
use Rattle.frames.specs.Faults.{plain}
use Rattle.frames.specs.Firsts.{first_failing}
use Rattle.frames.specs.Frames.{bit_for, weight_for, frame_unless, frame_of}
use Rattle.frames.specs.Halves.{is_length}
use Rattle.frames.specs.declared.faults.Fault.TheVariants.{Length}
use Rattle.frames.specs.declared.readings.Reading.{Reading}
use Rattle.jobfile.proofs.Goods.{reading_good}
use Rattle.jobfile.specs.Files.{located, reading_at, of_readings, readings_of}
use Rattle.jobfile.specs.Gathered.{with_next, gathered}
use Rattle.jobfile.specs.Records.{reading_of}
use Rattle.jobfile.specs.declared.faults.BadReading.{BadReading}
use Rattle.jobfile.specs.declared.records.ReadingFault.{ReadingFault}
use Rattle.listing.specs.Records.{of_file, records_of}
use Rattle.listing.specs.declared.reads.ListFault.TheVariants.{Frame}

reading_at_lem : (bytes : List ℕ) (i : ℕ) (r : Reading) → Ok r ≡ reading_at bytes 0 i → is_good r ≡ true
unfolding reading_at
reading_at_lem bytes i r e = go (reading_of (take 9 (drop (0 + 9 * i) bytes))) (reading_good (take 9 (drop (0 + 9 * i) bytes))) e
  where
    go : (o : Result Reading ReadingFault) → IfOk o (λ x. is_good x ≡ true) → Ok r ≡ located i (0 + 9 * i) o → is_good r ≡ true
    go (Ok x) g q = let s : r ≡ x = cc in ap is_good s ∙ g
    go (Err c) g q = absurd (cc)

good_push : (xs : List Reading) (x : Reading) → first_failing is_good xs ≡ None → is_good x ≡ true → first_failing is_good (xs ++ x ∷ []) ≡ None
good_push [] x h g = ap (λ (b : Bool). cond b None (Some 0)) g
good_push (y ∷ xs) x h g = go (is_good y) (first_failing is_good xs) (λ p. good_push xs x p g) h
  where
    go : (b : Bool) (o : Option ℕ) → (o ≡ None → first_failing is_good (xs ++ x ∷ []) ≡ None) → cond b (option_map suc o) (Some 0) ≡ None → cond b (option_map suc (first_failing is_good (xs ++ x ∷ []))) (Some 0) ≡ None
    go true None f p = ap (option_map suc) (f refl)
    go true (Some k) f p = absurd (cc)
    go false o f p = p

-- k records give k good readings
all_read : (bytes : List ℕ) (k : ℕ) (rs : List Reading) → Ok rs ≡ gathered (reading_at bytes 0) k → (length rs ≡ k) × (first_failing is_good rs ≡ None)
all_read bytes zero rs e = let s : rs ≡ [] = cc in (ap length s, ap (first_failing is_good) s)
all_read bytes (suc k) rs e = go (gathered (reading_at bytes 0) k) (reading_at bytes 0 k) (λ ys p. all_read bytes k ys p) (λ x p. reading_at_lem bytes k x p) e
  where
    go : (rest : Result (List Reading) BadReading) (o : Result Reading BadReading) → ((ys : List Reading) → Ok ys ≡ rest → (length ys ≡ k) × (first_failing is_good ys ≡ None)) → ((x : Reading) → Ok x ≡ o → is_good x ≡ true) → Ok rs ≡ with_next rest o → (length rs ≡ suc k) × (first_failing is_good rs ≡ None)
    go (Ok ys) (Ok x) h f q =
        let s : rs ≡ ys ++ x ∷ [] = cc in
        let n = h ys refl in (
          ap length s ∙ length-append ys (x ∷ []) ∙ ap (λ (m : ℕ). m + 1) n.0 ∙ add-one k,
          ap (first_failing is_good) s ∙ good_push ys x n.1 (f x refl),
        )
    go (Ok ys) (Err y) h f q = absurd (cc)
    go (Err y) o h f q = absurd (cc)

of_readings_lem : (o : Result (List Reading) BadReading) (rs : List Reading) → Ok rs ≡ of_file (of_readings o) → Ok rs ≡ o
of_readings_lem (Ok xs) rs e = cc
of_readings_lem (Err x) rs e = absurd (cc)

-- the frame of what was read is not refused
pub frame_read : (bytes : List ℕ) (rs : List Reading) → Ok rs ≡ records_of bytes → frame_of rs ≡ Ok (map bit_for rs, map weight_for rs)
frame_read bytes rs e = go (eqb (length bytes % 9) 0) (is_length (length bytes / 9)) refl e
  where
    go : (a b : Bool) → is_length (length bytes / 9) ≡ b → Ok rs ≡ cond (a && b) (of_file (readings_of bytes)) (Err (Frame Length)) → frame_of rs ≡ Ok (map bit_for rs, map weight_for rs)
    go true true l q =
        let n = all_read bytes (length bytes / 9) rs (of_readings_lem (gathered (reading_at bytes 0) (length bytes / 9)) rs q) in
        cond-true (is_length (length rs)) (frame_unless (first_failing is_good rs) rs) (Err (plain 1)) (ap is_length n.0 ∙ l)
        ∙ ap (λ (o : Option ℕ). frame_unless o rs) n.1
    go true false l q = absurd (cc)
    go false b l q = absurd (cc)
