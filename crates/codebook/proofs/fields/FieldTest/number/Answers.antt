use Rattle.std.proofs.Common.{ℕ, ◌+◌, ◌*◌, ◌^◌, ◌<◌, Bool, length, drop, sym, ap, ◌∙◌, subst, arith}
use Rattle.std.proofs.lemmas.List.{length_push, map-id}
use Rattle.std.proofs.lemmas.Iterator.{YieldsList-from_take}
use Rattle.std.proofs.lemmas.Iterator.Consumers.{YieldsList-at, YieldsList-from_first, YieldsList-end}
use Rattle.frames.specs.Words.{places}
use Rattle.frames.specs.declared.bits.iter.Iter.{Iter}
use Rattle.codebook.specs.Fields.{number_on}
use Rattle.codebook.proofs.Numbers.{number_push, room_more, bit_is}
use Rattle.codebook.proofs.fields.FieldTest.number.Goals as goal

pub loop-bit-preserved : goal.loop-bit-preserved
loop-bit-preserved c =
    let b = bit_is c.in-Some.bit c.from.result c.from.ensures in
    let l = length_push c.loop-bit.yielded c.in-Some.bit in (
      subst (λ (i : ℕ). 2 * c.loop-bit.number + c.from.result < 2 ^ i) (sym l) (room_more c.loop-bit.number c.from.result (length c.loop-bit.yielded) c.loop-bit.invariant.0 b.1),
      ap (λ (v : ℕ). 2 * v + c.from.result) c.loop-bit.invariant.1 ∙ number_push c.loop-bit.yielded c.in-Some.bit c.from.result b.0,
      omega (arith, l, c.in-Some.ensures.steps.1),
    )

pub returns : goal.returns
returns c =
    let s = c.args.self.now in
    let ps = places c.args.word.now.bits in
    let left = λ (i : Iter). drop i.place (places i.bits) in
    let road = YieldsList-from_take s.count (YieldsList-at c.take-bit-items.ensures.source (YieldsList-from_first (λ (b : Bool). b) left (drop s.first ps) c.iter_from.ensures)) c.take-bit-items.ensures.count in
    let all = YieldsList-end (YieldsList-at c.into_iter-bit-iterator.ensures.into_iter_gives road) c.loop-bit.yielded _ c.loop-bit.yielded_by _ c.next.new.self c.in-None.is c.next.ensures.steps in
    c.loop-bit.invariant.1 ∙ ap (number_on 0) (sym (map-id c.loop-bit.yielded) ∙ all.0)
