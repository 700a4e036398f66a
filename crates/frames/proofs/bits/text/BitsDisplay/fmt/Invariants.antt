use Rattle.std.proofs.Common.{◌≡◌, ◌++◌, drop}
use Rattle.std.specs.Fmt.{IsPlainFormatter, HasWritten}
use Rattle.frames.specs.Texts.{bits_text}
use Rattle.frames.specs.Words.{places}
use Rattle.frames.proofs.bits.text.BitsDisplay.fmt.Given as goal

abbrev pub invariant-loop-bit : goal.invariant-loop-bit
invariant-loop-bit g l =
    (l.yielded ++ drop l.bit-iterator.place (places l.bit-iterator.bits) ≡ places l.self)
    × (IsPlainFormatter l.initial.f → HasWritten g.W.Write.write_str_gives l.initial.f (bits_text l.yielded) l.f)
