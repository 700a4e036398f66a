use Rattle.std.proofs.Common.{◌≡◌, ◌+◌, ◌^◌, ◌<◌, ◌≤◌, length}
use Rattle.codebook.specs.Fields.{number_on}
use Rattle.codebook.proofs.fields.FieldTest.number.Given as goal

abbrev pub invariant-loop-bit : goal.invariant-loop-bit
invariant-loop-bit l = (l.number < 2 ^ length l.yielded) × (l.number ≡ number_on 0 l.yielded) × (length l.yielded + l.bit-iterator.n ≤ 16)
