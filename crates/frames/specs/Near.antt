-- How far a pair's weight may be from 256 times the magnitude of the exact sum.
use Rattle.std.specs.Prelude.{ℕ, ◌+◌, ◌*◌, ◌/◌, ◌^◌, ◌<◌, Bool, true, false, ℤ, pos, ◌+ℤ◌, neg_ℤ, unsigned_abs, Float}
use Rattle.std.specs.Float.{nan, inf, fin}
use Rattle.std.specs.Float.Ieee.{up, down}
use Rattle.frames.specs.declared.readings.Reading.{Reading}
use Rattle.frames.specs.declared.readings.Reading.TheVariants.{Dropout, Single, Pair}

-- n with a sign
abbrev pub signed : Bool → ℕ → ℤ
signed false n = pos n
signed true n = neg_ℤ (pos n)

-- y times 2 ^ 149, which is whole for each 32-bit float y that is a number
abbrev pub scaled : Float → ℤ
scaled nan = pos 0
scaled (inf s) = pos 0
scaled (fin s m e) = signed s (m * up e * 2 ^ 149 / down e)

-- |x + y| times 2 ^ 149, with no rounding
abbrev pub exact_sum : Float → Float → ℕ
exact_sum x y = unsigned_abs (scaled x +ℤ scaled y)

-- |w - 256 * |x + y|| < 513 / 512, both sides times 512 * 2 ^ 149
abbrev pub Near : Float → Float → ℕ → Type 0
Near x y w = (512 * (w * 2 ^ 149) < 512 * (256 * exact_sum x y) + 513 * 2 ^ 149) × (512 * (256 * exact_sum x y) < 512 * (w * 2 ^ 149) + 513 * 2 ^ 149)

-- a pair's weight is that near; nothing is asked of other readings
abbrev pub NearFor : Reading → ℕ → Type 0
NearFor Dropout w = Unit {0}
NearFor (Single y) w = Unit {0}
NearFor (Pair p) w = Near p.left p.right w
