use Rattle.std.proofs.Common.{◌≡◌, ℕ, ◌+◌, ◌-◌, ◌*◌, ◌/◌, length, take, drop, ap, ◌∙◌, arith}
use Rattle.std.specs.Simd.{first_chunks}
use Rattle.jobfile.proofs.RowBytes.{part_length}
use Rattle.jobfile.proofs.SectionFacts.{readings_are, each_in}
use Rattle.jobfile.proofs.TrailerFacts.{readings_fit}
use Rattle.jobfile.proofs.reading.File.readings.Goals as goal

pub returns : goal.returns
returns c =
    let xs = c.args.self.now.bytes.now in
    let t = c.args.self.now.trailer in
    let m = c.from-len.result in
    let at = t.readings_at in
    let part = take (at + 9 * m - at) (drop at xs) in
    let e = c.as_chunks.ensures in
    let p : part ≡ take (9 * t.n) (drop at xs) = ap (λ (k : ℕ). take k (drop at xs)) (let q : at + 9 * m - at ≡ 9 * t.n = omega arith in q) in
    let l : length part / 9 ≡ t.n = let q : length part ≡ 9 * t.n = ap length p ∙ part_length (9 * t.n) at xs (readings_fit xs t c.args.self.now.told) in omega arith in
    readings_are xs at t.n c.as_chunks.result.0.now (e.front_len ∙ l) (each_in xs at t.n c.as_chunks.result.0.now 9 part p (e.front ∙ ap (λ (k : ℕ). first_chunks 9 k part) l))
