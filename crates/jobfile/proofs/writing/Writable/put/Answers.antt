use Rattle.std.proofs.Common.{ℕ, ◌*◌, List, map, sym, ap, ◌∙◌, arith}
use Rattle.std.specs.List.{flat_map}
use Rattle.std.proofs.lemmas.List.Folds.{flat_map-map}
use Rattle.frames.proofs.Firsts.{each_passes}
use Rattle.frames.specs.Cells.{is_good}
use Rattle.frames.specs.Firsts.{first_failing}
use Rattle.frames.specs.declared.halves.Halves.{Halves}
use Rattle.frames.specs.declared.readings.Reading.{Reading}
use Rattle.jobfile.specs.Jobs.{contents}
use Rattle.jobfile.specs.Records.{record_of}
use Rattle.jobfile.specs.RowPlaces.{packed, places_of}
use Rattle.jobfile.specs.Trailers.{trailer_bytes}
use Rattle.jobfile.specs.Pasted.{pasted}
use Rattle.jobfile.proofs.JobFacts.{holdable, sections_size, count_readings, file_put}
use Rattle.jobfile.proofs.writing.Writable.put.Goals as goal

pub put_all-requires-clause-space : goal.put_all-requires-clause-space
put_all-requires-clause-space c =
    let job = c.args.self.now.job.now in
    omega (arith, sections_size job c.args.self.now.held, c.deref.ensures.len)

pub put_all-requires-clause-held : goal.put_all-requires-clause-held
put_all-requires-clause-held c = λ k d h.
    let job = c.args.self.now.job.now in
    each_passes is_good c.deref.result.now k d (ap (first_failing is_good) c.deref.ensures.value ∙ (holdable (contents job) c.args.self.now.held).heard) h

pub put_all-requires-2-clause-space : goal.put_all-requires-2-clause-space
put_all-requires-2-clause-space c =
    let job = c.args.self.now.job.now in
    omega (arith, sections_size job c.args.self.now.held, c.deref-2.ensures.len, c.put_all.auto.out)

pub returns-clause-bytes : goal.returns-clause-bytes
returns-clause-bytes c =
    let job = c.args.self.now.job.now in
    file_put (contents job) (9 * c.len.result) c.sections_len.result c.args.out.now c.put_all.new.out c.put_all-2.new.out c.put.new.out
    (ap (λ (n : ℕ). 9 * n) (c.len.ensures ∙ count_readings job))
    c.sections_len.ensures.value
    (c.put_all.ensures.bytes ∙ ap (λ (xs : List Reading). pasted 0 (flat_map record_of xs) c.args.out.now) c.deref.ensures.value)
    (c.put_all-2.ensures.bytes ∙ ap (λ (xs : List ℕ). pasted (9 * c.len.result) xs c.put_all.new.out) (sym (flat_map-map (packed 16) places_of c.deref-2.result.now) ∙ ap (λ (hs : List Halves). flat_map (packed 16) (map places_of hs)) c.deref-2.ensures.value))
    (c.put.ensures ∙ ap (λ (xs : List ℕ). pasted c.sections_len.result xs c.put_all-2.new.out) (c.from.ensures ∙ ap trailer_bytes c.trailer.ensures))
