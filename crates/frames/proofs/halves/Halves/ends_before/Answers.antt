use Rattle.std.proofs.Common.{ℕ, ◌-◌, ◌%◌, ◌^◌, ◌<◌, Bool, ◌&&◌, eqb, ap, ◌∙◌, ap₂, arith}
use Rattle.frames.proofs.Joined.{unmarked_is}
use Rattle.frames.proofs.halves.Halves.ends_before.Goals as goal

pub returns-then-is_clear : goal.returns-then-is_clear
returns-then-is_clear c =
    let h = c.args.self in
    let B : h.second < 2 ^ 64 = omega arith in
    c.is_clear-then-is_clear.ensures
    ∙ ap₂ (λ (b : Bool) (k : ℕ). b && eqb (h.second % 2 ^ (64 - k)) 0) c.if-is_clear.ensures c.saturating_sub.ensures
    ∙ unmarked_is c.args.len.places h.first h.second c.args.len.most B

pub returns-else-is_clear : goal.returns-else-is_clear
returns-else-is_clear c =
    let h = c.args.self in
    let B : h.second < 2 ^ 64 = omega arith in
    c.if-is_clear.false
    ∙ ap (λ (b : Bool). b && eqb (h.second % 2 ^ (64 - (c.args.len.places - 64))) 0) c.if-is_clear.ensures
    ∙ unmarked_is c.args.len.places h.first h.second c.args.len.most B
