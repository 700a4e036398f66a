-- What is read of a record is good.
use Rattle.std.proofs.Common.{◌≡◌, ℕ, Bool, true, false, cond, ◌&&◌, eqb, List, get_or, IfOk, Ok, Err}
use lib.Ieee.{binary32, of_bits}
use Rattle.std.proofs.lemmas.Bool.{cond_both}
use Rattle.frames.specs.Cells.{is_good}
use Rattle.frames.specs.declared.readings.Reading.{Reading}
use Rattle.frames.specs.declared.readings.Reading.TheVariants.{Dropout, Single, Pair}
use Rattle.jobfile.specs.Records.{pattern, checked_by, reading_of_parts, reading_of}
use Rattle.jobfile.specs.declared.records.ReadingFault.TheVariants.{Kind, Level}

abbrev Good : Reading → Type 0
Good r = is_good r ≡ true

checked_good : (unused : Bool) (x : Reading) → IfOk (checked_by unused x) Good
checked_good unused x = cond_both unused _ _ (λ r. IfOk r Good) (λ _. cond_both (is_good x) (Ok x) (Err Level) (λ r. IfOk r Good) (λ g. g) (λ _. tt)) (λ _. tt)

parts_good : (kind left right : ℕ) → IfOk (reading_of_parts kind left right) Good
parts_good kind left right = go (eqb kind 0) (eqb kind 1) (eqb kind 2)
  where
    go : (a b c : Bool) → IfOk (cond a (checked_by (eqb left 0 && eqb right 0) Dropout) (cond b (checked_by (eqb right 0) (Single (of_bits binary32 left))) (cond c (checked_by true (Pair record { left = of_bits binary32 left; right = of_bits binary32 right })) (Err Kind)))) Good
    go true b c = checked_good (eqb left 0 && eqb right 0) Dropout
    go false true c = checked_good (eqb right 0) (Single (of_bits binary32 left))
    go false false true = checked_good true (Pair record { left = of_bits binary32 left; right = of_bits binary32 right })
    go false false false = tt

pub reading_good : (bytes : List ℕ) → IfOk (reading_of bytes) (λ r. is_good r ≡ true)
reading_good bytes = parts_good (get_or bytes 0 0) (pattern bytes 1) (pattern bytes 5)
