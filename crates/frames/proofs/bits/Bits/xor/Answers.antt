use Rattle.std.proofs.Common.{◌≡◌, ℕ, true, sym, subst, arith}
use Rattle.std.proofs.lemmas.Bool.Decides.{nat_tests}
use Rattle.std.proofs.lemmas.Nat.{xor_lt}
use Rattle.frames.specs.Halves.{unmarked}
use Rattle.frames.proofs.Joined.{xor_unmarked, flipped_same, flipped_other}
use Rattle.frames.proofs.bits.Bits.xor.Goals as goal

pub returns-then-ne : goal.returns-then-ne
returns-then-ne c =
    let s = c.args.self.now in
    let o = c.args.other.now in
    flipped_other s.len.places s.halves.first s.halves.second o.len.places o.halves.first o.halves.second (λ e. grind (arith, nat_tests, e, c.ne.ensures, c.if-ne.true))

pub invariant_of-result : goal.invariant_of-result
invariant_of-result c =
    let s = c.args.self.now in
    let o = c.args.other.now in
    let e : s.len.places ≡ o.len.places = grind (arith, nat_tests, c.ne.ensures, c.if-ne.false) in
    let u : unmarked s.len.places o.halves.first o.halves.second ≡ true = subst (λ (n : ℕ). unmarked n o.halves.first o.halves.second ≡ true) (sym e) o.clean in
    record {
      above = xor_lt 64 s.halves.first o.halves.first s.above o.above;
      below = xor_lt 64 s.halves.second o.halves.second s.below o.below;
      clean = xor_unmarked s.len.places s.halves.first s.halves.second o.halves.first o.halves.second s.below o.below s.clean u;
    }

pub returns : goal.returns
returns c =
    let s = c.args.self.now in
    let o = c.args.other.now in
    flipped_same s.len.places s.halves.first s.halves.second o.len.places o.halves.first o.halves.second (grind (arith, nat_tests, c.ne.ensures, c.if-ne.false)) s.below o.below
