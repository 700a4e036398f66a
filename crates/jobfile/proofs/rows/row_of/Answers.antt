use Rattle.std.proofs.Common.{◌≡◌, ℕ, ◌-◌, length, drop, ap, ◌∙◌, arith}
use Rattle.jobfile.proofs.RowBytes.{row_is}
use Rattle.jobfile.proofs.rows.row_of.Goals as goal

pub returns : goal.returns
returns c = row_is c.args.bytes.now c.in-Some-Some.first.now c.in-Some-Some.second.now c.half_of.result c.half_of-2.result c.in-Some-Some.ensures.cases.same (c.in-Some-Some.ensures'.cases.1.same ∙ ap (λ (k : ℕ). drop k c.args.bytes.now) (let e : length c.args.bytes.now - 8 ≡ 8 = omega arith in e)) c.half_of.ensures c.half_of-2.ensures
