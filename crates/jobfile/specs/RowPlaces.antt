-- The 128 places of a row, as halves and as 16 bytes hold them.
use Rattle.std.specs.Prelude.{ℕ, zero, suc, ◌+◌, ◌*◌, ◌/◌, Bool, cond, List, [], ◌∷◌, ◌++◌, take, drop, ◌==◌}
use Rattle.std.specs.List.{flat_map}
use Rattle.frames.specs.Halves.{is_odd, digits_of}
use Rattle.frames.specs.Places.{marks}
use Rattle.frames.specs.declared.halves.Halves.{Halves}

-- the n lowest binary digits of v, the lowest first
unfoldable pub low_digits : ℕ → ℕ → List Bool
low_digits zero v = []
low_digits (suc n) v = is_odd v ∷ low_digits n (v / 2)

-- the number of binary digits, the lowest first
abbrev pub number_of : List Bool → ℕ
number_of [] = 0
number_of (b ∷ bs) = cond b 1 0 + 2 * number_of bs

-- the places of bytes: place i is bit i mod 8, counted from the lowest, of byte i div 8
abbrev pub byte_places : List ℕ → List Bool
byte_places bytes = flat_map (low_digits 8) bytes

-- the k bytes of 8 * k places
unfoldable pub packed : ℕ → List Bool → List ℕ
packed zero marked = []
packed (suc k) marked = number_of (take 8 marked) ∷ packed k (drop 8 marked)

-- the 64 places of a half, its highest bit first
unfoldable pub half_places : ℕ → List Bool
half_places half = digits_of 64 half

-- the places of both halves
abbrev pub places_of : Halves → List Bool
places_of h = half_places h.first ++ half_places h.second

-- whether no place at or past n is marked
abbrev pub ends_before : ℕ → List Bool → Bool
ends_before n marked = marks (drop n marked) == 0
