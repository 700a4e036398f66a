-- The numbers and the size of a job.
use Rattle.std.proofs.Common.{◌≡◌, ℕ, ◌+◌, ◌*◌, Bool, true, false, cond, List, ◌++◌, length, drop, Some, None, vec_items, vec_len, Option, sym, refl, ap, ◌∙◌, ap₂, zero-add, arith}
use Rattle.std.proofs.lemmas.List.{append_assoc, length-append, length-map}
use Rattle.std.specs.Option.{option_map}
use Rattle.std.specs.List.{flat_map}
use Rattle.frames.specs.Cells.{is_good}
use Rattle.frames.specs.Firsts.{first_failing}
use Rattle.frames.specs.declared.readings.Reading.{Reading}
use Rattle.jobfile.specs.declared.records.ReadingFault.TheVariants.{Level}
use Rattle.jobfile.specs.Jobs.{Contents, contents}
use Rattle.jobfile.specs.Records.{record_of}
use Rattle.jobfile.specs.RowPlaces.{packed, places_of, ends_before}
use Rattle.jobfile.specs.Trailers.{is_good_trailer, trailer_bytes}
use Rattle.jobfile.specs.JobFaults.{bad_reading_of, bad_row_of, section_fault_of, job_fault}
use Rattle.jobfile.specs.Pasted.{pasted}
use Rattle.jobfile.specs.Written.{trailer_for, job_bytes}
use Rattle.jobfile.specs.declared.faults.BadReading.{BadReading}
use Rattle.jobfile.specs.declared.faults.BadRow.{BadRow}
use Rattle.jobfile.specs.declared.faults.FileFault.{FileFault}
use Rattle.jobfile.specs.declared.faults.FileFault.TheVariants.{Numbers}
use Rattle.jobfile.specs.declared.jobs.Job.{Job}
use Rattle.jobfile.proofs.LowDigits.{length_packed}
use Rattle.jobfile.proofs.Laying.{length_joined, length_record, pasted_more}
use Rattle.jobfile.proofs.TrailerFacts.{Small, small}

pub count_readings : (job : Job) → vec_len job.readings ≡ length (contents job).readings
count_readings job = job.readings.ok.0

pub count_rows : (job : Job) → vec_len job.rows ≡ length (contents job).rows
count_rows job = job.rows.ok.0 ∙ sym (length-map (vec_items job.rows) places_of)

pub file_size : (c : Contents) → length (job_bytes c) ≡ 9 * length c.readings + 16 * length c.rows + 16
file_size c =
    let a = length-append (flat_map record_of c.readings) (flat_map (packed 16) c.rows ++ trailer_bytes (trailer_for c)) in
    let b = length-append (flat_map (packed 16) c.rows) (trailer_bytes (trailer_for c)) in
    let d = length_joined record_of 9 length_record c.readings in
    let e = length_joined (packed 16) 16 (length_packed 16) c.rows in
    omega arith

-- a job that a file can hold
pub record Holdable (c : Contents) : Type 0 where
  pub numbered : is_good_trailer (trailer_for c) ≡ true
  pub heard : first_failing is_good c.readings ≡ None
  pub marked : first_failing (ends_before (length c.readings)) c.rows ≡ None

none_mapped : {X Y : Type 0} (f : X → Y) (o : Option X) → option_map f o ≡ None → o ≡ None
none_mapped f None e = refl
none_mapped f (Some x) e = absurd (cc)

none_sections : (o : Option BadReading) (q : Option BadRow) → section_fault_of o q ≡ None → (o ≡ None) × (q ≡ None)
none_sections None None e = (refl, refl)
none_sections None (Some x) e = absurd (cc)
none_sections (Some x) q e = absurd (cc)

none_numbers : (b : Bool) (o : Option FileFault) → cond b o (Some Numbers) ≡ None → (b ≡ true) × (o ≡ None)
none_numbers true o e = (refl, e)
none_numbers false o e = absurd (cc)

pub holdable : (c : Contents) → job_fault c ≡ None → Holdable c
holdable c e =
    let p = none_numbers (is_good_trailer (trailer_for c)) (section_fault_of (bad_reading_of c.readings) (bad_row_of (length c.readings) c.rows)) e in
    let q = none_sections (bad_reading_of c.readings) (bad_row_of (length c.readings) c.rows) p.1 in
    record { numbered = p.0; heard = none_mapped _ (first_failing is_good c.readings) q.0; marked = none_mapped _ (first_failing (ends_before (length c.readings)) c.rows) q.1 }

pub job_small : (c : Contents) → is_good_trailer (trailer_for c) ≡ true → Small (length c.readings) (length c.rows) c.guessed c.limit
job_small c e = small (length c.readings) (length c.rows) c.guessed c.limit e

-- the same of the vectors that hold it
module _ (job : Job) (e : job_fault (contents job) ≡ None) where
  pub sections_size : 9 * vec_len job.readings + 16 * vec_len job.rows + 16 ≡ length (job_bytes (contents job))
  sections_size = omega (arith, file_size (contents job), count_readings job, count_rows job)

-- the three parts of a file, put one after another
pub file_put : (c : Contents) (at end : ℕ) (out o₁ o₂ o₃ : List ℕ)
    → at ≡ 9 * length c.readings → end + 16 ≡ length (job_bytes c)
    → o₁ ≡ pasted 0 (flat_map record_of c.readings) out
    → o₂ ≡ pasted at (flat_map (packed 16) c.rows) o₁
    → o₃ ≡ pasted end (trailer_bytes (trailer_for c)) o₂
    → o₃ ≡ job_bytes c ++ drop (length (job_bytes c)) out
file_put c at end out o₁ o₂ o₃ a b p q r =
    let R = flat_map record_of c.readings in
    let W = flat_map (packed 16) c.rows in
    let T = trailer_bytes (trailer_for c) in
    let d = length_joined record_of 9 length_record c.readings in
    let e = length_joined (packed 16) 16 (length_packed 16) c.rows in
    let f = file_size c in
    let g = length-append (flat_map record_of c.readings) (flat_map (packed 16) c.rows) in
    let u : at ≡ 0 + length R = omega arith in
    let v : end ≡ 0 + length (R ++ W) = omega arith in
    r
    ∙ ap₂ (λ (k : ℕ) (xs : List ℕ). pasted k T xs) v (q ∙ ap₂ (λ (k : ℕ) (xs : List ℕ). pasted k W xs) u p ∙ pasted_more 0 R W out (omega arith))
    ∙ pasted_more 0 (R ++ W) T out (omega arith)
    ∙ ap (λ (xs : List ℕ). pasted 0 xs out) (append_assoc R W T)
    ∙ ap (λ (k : ℕ). job_bytes c ++ drop k out) (zero-add (length (job_bytes c)))

-- ---- the first fault of two sections, by the first reading and the first row at fault

module _ (heard : List Reading) (n : ℕ) (marked : List (List Bool)) where
  abbrev pub told : Option ℕ → Option ℕ → Option FileFault
  told o q = section_fault_of (option_map (λ k. record { cause = Level; index = k; byte = 9 * k }) o) (option_map (λ k. record { index = k; byte = 9 * n + 16 * k }) q)

  pub reading_told : (k : ℕ) → first_failing is_good heard ≡ Some k → told (Some k) None ≡ section_fault_of (bad_reading_of heard) (bad_row_of n marked)
  reading_told k e = sym (ap (λ (o : Option ℕ). told o (first_failing (ends_before n) marked)) e)

  pub rows_told : (q : Option ℕ) → first_failing is_good heard ≡ None → first_failing (ends_before n) marked ≡ q → told None q ≡ section_fault_of (bad_reading_of heard) (bad_row_of n marked)
  rows_told q e f = sym (ap₂ told e f)
