-- What is printed of places.
use Rattle.std.specs.Prelude.{ℕ, Bool, cond, List, map}

-- the character 0 or 1
abbrev pub bit_char : Bool → ℕ
bit_char b = cond b 49 48

-- one character for each place, place 0 first
abbrev pub bits_text : List Bool → List ℕ
bits_text bits = map bit_char bits
