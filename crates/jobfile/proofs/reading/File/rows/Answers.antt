use Rattle.std.proofs.Common.{◌≡◌, ℕ, ◌*◌, ◌/◌, length, ap, refl, ◌∙◌, arith}
use Rattle.std.specs.Simd.{first_chunks}
use Rattle.jobfile.proofs.SectionFacts.{rows_are, each_in, part_is, length_is}
use Rattle.jobfile.proofs.TrailerFacts.{rows_fit}
use Rattle.jobfile.specs.Files.{row_at}
use Rattle.jobfile.specs.Gathered.{gathered}
use Rattle.jobfile.proofs.reading.File.rows.Goals as goal

pub returns : goal.returns
returns c =
    let xs = c.args.self.now.bytes.now in
    let t = c.args.self.now.trailer in
    let rows = c.as_chunks.result.0.now in
    let part = c.unwrap_or-section.result.now in
    let e = c.as_chunks.ensures in
    let p = part_is xs t.rows_at c.from-size.result t.rows c.get.result _ c.from-size.ensures (rows_fit xs t c.args.self.now.told) refl c.get.ensures.lookup.0 in
    let u = c.unwrap_or-section.ensures in
    let q : length part ≡ 16 * t.rows = ap (λ b. length b.now) u ∙ p.1 in
    let l : length part / 16 ≡ t.rows = omega arith in
    let n : c.in-Ok.len.places ≡ t.n = length_is c.from.result c.in-Ok.len.places c.in-Ok.ensures ∙ c.from.ensures in
    rows_are xs t.rows_at t.rows rows c.in-Ok.len.places (e.front_len ∙ l) (each_in xs t.rows_at t.rows rows 16 part (ap (λ b. b.now) u ∙ p.0) (e.front ∙ ap (λ (k : ℕ). first_chunks 16 k part) l))
    ∙ ap (λ (k : ℕ). gathered (row_at k xs t.rows_at) t.rows) n
