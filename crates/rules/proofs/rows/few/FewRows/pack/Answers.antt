use Rattle.std.proofs.Common.{◌+◌, ◌*◌, ◌<◌, cond, map, length, sym, ap, ◌∙◌, arith}
use Rattle.frames.specs.Rows.{row_of}
use Rattle.rules.proofs.Bytes.{digit_room, digit_fits, digit_more}
use Rattle.rules.specs.Rows.{packed}
use Rattle.rules.proofs.rows.few.FewRows.pack.Goals as goal

pub overflow_add-bits : goal.overflow_add-bits
overflow_add-bits g c =
    let at = c.loop-index in
    let few : at.index < 6 = omega (arith, ap length c.in-Some.ensures.steps, at.invariant.count, c.args.self.now.few) in
    omega (arith, digit_fits at.index at.bits c.from.result c.test.result few at.invariant.room c.from.ensures)

pub loop-index-preserved : goal.loop-index-preserved
loop-index-preserved g c =
    let at = c.loop-index in
    let few : at.index < 6 = omega (arith, ap length c.in-Some.ensures.steps, at.invariant.count, c.args.self.now.few) in
    record {
      count = omega (arith, ap length c.in-Some.ensures.steps, at.invariant.count);
      room = digit_room at.index at.bits c.from.result c.test.result few at.invariant.room c.from.ensures;
      packed = λ says h.
          let rest = map says (map (row_of c.next.new.self.len.places) c.next.new.self.rest.now) in
          let digit = ap (λ rows. packed (map says rows)) c.in-Some.ensures.steps ∙ ap (λ b. packed rest * 2 + cond b 1 0) (sym (h c.in-Some.row c.test.result c.test.ensures)) in
          digit_more at.index at.bits c.from.result c.test.result few at.invariant.room c.from.ensures (packed rest) _ _ (at.invariant.packed says h) digit;
    }
