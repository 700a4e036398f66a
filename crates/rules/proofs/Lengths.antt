-- How long a word is.
use Rattle.std.proofs.Common.{◌≡◌, true, length, arith}
use Rattle.std.proofs.lemmas.Bool.{and_from, le-leb}
use Rattle.std.specs.Prelude.{nat_le}
use Rattle.frames.proofs.Joined.{length_spelled}
use Rattle.frames.specs.Halves.{is_length}
use Rattle.frames.specs.Words.{places}
use Rattle.frames.specs.declared.bits.Bits.{Bits}

pub places_length : (b : Bits) → is_length (length (places b)) ≡ true
places_length b =
    let l = length_spelled b.len.places b.halves.first b.halves.second in
    and_from (nat_le 1 (length (places b))) (nat_le (length (places b)) 128) (le-leb 1 (length (places b)) (omega (arith, l, b.len.some))) (le-leb (length (places b)) 128 (omega (arith, l, b.len.most)))
