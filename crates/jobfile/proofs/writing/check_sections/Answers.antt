use Rattle.std.proofs.Common.{◌≡◌, ℕ, not, List, map, length, Some, None, Option, vec_items, ap, ◌∙◌}
use Rattle.std.specs.List.{position}
use Rattle.frames.specs.Cells.{is_good}
use Rattle.frames.specs.Firsts.{first_failing}
use Rattle.frames.specs.declared.halves.Halves.{Halves}
use Rattle.frames.specs.declared.readings.Reading.{Reading}
use Rattle.frames.proofs.Firsts.{found_first}
use Rattle.jobfile.specs.declared.faults.FileFault.TheVariants.{Section}
use Rattle.jobfile.specs.declared.faults.SectionFault.{SectionFault}
use Rattle.jobfile.specs.RowPlaces.{places_of, ends_before}
use Rattle.jobfile.proofs.FirstBad.{failing_map}
use Rattle.jobfile.proofs.JobFacts.{count_readings, told, reading_told, rows_told}
use Rattle.jobfile.proofs.writing.check_sections.Goals as goal

-- of a vector that was read as a slice
heard : (xs ys : List Reading) (o : Option ℕ) → xs ≡ ys → o ≡ position (λ r. not (is_good r)) xs → first_failing is_good ys ≡ o
heard xs ys o e p = found_first is_good ys o (p ∙ ap (position (λ r. not (is_good r))) e)

marked : (n m : ℕ) (xs ys : List Halves) (o : Option ℕ) → n ≡ m → xs ≡ ys → o ≡ position (λ h. not (ends_before n (places_of h))) xs → first_failing (ends_before m) (map places_of ys) ≡ o
marked n m xs ys o d e p =
    failing_map (ends_before m) places_of ys
    ∙ found_first (λ (h : Halves). ends_before m (places_of h)) ys o (p ∙ ap (position (λ h. not (ends_before n (places_of h)))) e ∙ ap (λ (k : ℕ). position (λ h. not (ends_before k (places_of h))) ys) d)

pub returns-in-Some : goal.returns-in-Some
returns-in-Some c =
    let job = c.args.job.now in
    let hs = vec_items job.readings in
    ap (λ (f : SectionFault). Some (Section f)) c.into.ensures
    ∙ reading_told hs (length hs) (map places_of (vec_items job.rows)) c.in-Some.index (heard _ hs (Some c.in-Some.index) c.deref.ensures.value c.in-Some.ensures)

pub returns-in-Some-bad_row : goal.returns-in-Some-bad_row
returns-in-Some-bad_row c =
    let job = c.args.job.now in
    let hs = vec_items job.readings in
    let ms = map places_of (vec_items job.rows) in
    let k = c.in-Some-bad_row.index in
    let e = marked c.args.len.places (length hs) _ (vec_items job.rows) (Some k) c.requires.measured c.deref-2.ensures.value c.in-Some-bad_row.ensures in
    ap (λ (f : SectionFault). Some (Section f)) c.into-in-Some-bad_row.ensures
    ∙ ap (λ (n : ℕ). told hs n ms None (Some k)) (c.len.ensures ∙ count_readings job)
    ∙ rows_told hs (length hs) ms (Some k) (heard _ hs None c.deref.ensures.value c.in_default.ensures) e

pub returns : goal.returns
returns c =
    let job = c.args.job.now in
    let hs = vec_items job.readings in
    let e = marked c.args.len.places (length hs) _ (vec_items job.rows) None c.requires.measured c.deref-2.ensures.value c.in_default-bad_row.ensures in
    rows_told hs (length hs) (map places_of (vec_items job.rows)) None (heard _ hs None c.deref.ensures.value c.in_default.ensures) e
