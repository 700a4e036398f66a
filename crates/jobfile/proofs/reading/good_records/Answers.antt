use Rattle.std.proofs.Common.{◌≡◌, ℕ, ◌*◌, ◌/◌, List, [], length, get_or, take, drop, sym, ap, ◌∙◌, zero-add}
use Rattle.std.proofs.lemmas.Result.{err_from_is_err_and}
use Rattle.std.specs.Simd.{first_chunks}
use Rattle.jobfile.specs.Files.{of_readings}
use Rattle.jobfile.specs.SectionsRead.{readings_here}
use Rattle.jobfile.specs.declared.sections.Readings.{Readings}
use Rattle.jobfile.proofs.SectionFacts.{EachIs, readings_are, chunk_at}
use Rattle.jobfile.proofs.reading.good_records.Goals as goal

each : (xs : List ℕ) (es : List (List ℕ)) → es ≡ first_chunks 9 (length xs / 9) xs → EachIs xs 0 (length xs / 9) es 9
each xs es e i h = ap (λ (ys : List (List ℕ)). get_or ys i []) e ∙ chunk_at 9 (length xs / 9) xs i h ∙ ap (λ (j : ℕ). take 9 (drop j xs)) (sym (zero-add (9 * i)))

pub returns-in_err-new : goal.returns-in_err-new
returns-in_err-new c =
    let xs = c.args.bytes.now in
    let e = c.as_chunks.ensures in
    let s = readings_are xs 0 (length xs / 9) c.as_chunks.result.0.now e.front_len (each xs c.as_chunks.result.0.now e.front) in
    let p = err_from_is_err_and c.from_residual.result c.from_residual.ensures.1 in
    rw (p.1, p.2) (ap of_readings (sym s ∙ c.in_err-new.ensures))

pub returns : goal.returns
returns c =
    let xs = c.args.bytes.now in
    let e = c.as_chunks.ensures in
    let s = readings_are xs 0 (length xs / 9) c.as_chunks.result.0.now e.front_len (each xs c.as_chunks.result.0.now e.front) in
    ap (λ (r : Readings). of_readings (readings_here r)) c.in_ok-new.ensures ∙ ap of_readings s
