use Rattle.std.proofs.Common.{◌≡◌, map}
use Rattle.frames.specs.Words.{places}
use Rattle.frames.specs.declared.words.Row.{Row}
use Rattle.codebook.specs.Parity.{even_over}
use Rattle.codebook.proofs.parity.RowTestTest.accepts.Given as goal

abbrev pub invariant-loop-row : goal.invariant-loop-row
invariant-loop-row l = l.even ≡ even_over (map (λ (r : Row). places r.bits) l.yielded) (places l.word.bits)
