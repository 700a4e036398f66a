use Rattle.std.proofs.Common.{◌+◌, sym, arith, rules}
use Rattle.std.proofs.lemmas.List.{length-drop}
use Rattle.std.proofs.lemmas.Option.{slice_get_within}
use Rattle.frames.specs.Words.{places}
use Rattle.frames.proofs.Left.{one_left, none_left}
use Rattle.frames.proofs.Joined.{length_spelled}
use Rattle.frames.proofs.bits.iter.IterIterator.next.Goals as goal

pub returns-in_err-bit-clause-steps : goal.returns-in_err-bit-clause-steps
returns-in_err-bit-clause-steps c = let s = c.args.self.now in let d = none_left (places s.bits) s.place c.in_err-bit.ensures in rw c.from_residual.ensures (d, d)

pub overflow_add-self : goal.overflow_add-self
overflow_add-self c =
    let s = c.args.self.now in
    let b = s.bits in
    omega (arith, slice_get_within (places b) s.place c.in_ok-bit.bit (sym c.in_ok-bit.ensures), length_spelled b.len.places b.halves.first b.halves.second, b.len.most)

pub returns-clause-steps : goal.returns-clause-steps
returns-clause-steps c = let s = c.args.self.now in one_left (places s.bits) s.place c.in_ok-bit.bit (sym c.in_ok-bit.ensures)

pub returns-clause-goes : goal.returns-clause-goes
returns-clause-goes c =
    let s = c.args.self.now in
    let ps = places s.bits in
    let h = slice_get_within ps s.place c.in_ok-bit.bit (sym c.in_ok-bit.ensures) in
    record {
      on = λ _. (tt, tt, omega (arith, h, length-drop s.place ps, length-drop (s.place + 1) ps));
      keeps = search rules;
      rests = search rules;
    }
