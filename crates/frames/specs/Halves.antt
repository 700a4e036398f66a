-- Two halves of 64 binary digits each, and the places that they hold.
use Rattle.std.specs.Prelude.{ℕ, zero, suc, ◌+◌, ◌-◌, ◌*◌, ◌/◌, ◌%◌, ◌^◌, Bool, ◌&&◌, List, [], ◌∷◌, ◌==◌, nat_le}

-- whether a number's last binary digit is 1
abbrev pub is_odd : ℕ → Bool
is_odd v = v % 2 == 1

-- the n lowest binary digits of v, the highest first
abbrev pub digits_of : ℕ → ℕ → List Bool
digits_of zero v = []
digits_of (suc n) v = is_odd (v / 2 ^ n) ∷ digits_of n v

-- both halves as one number of 128 digits; its highest digit is place 0, its lowest place 127
abbrev pub joined : ℕ → ℕ → ℕ
joined first second = first * 2 ^ 64 + second

-- the first n of the 128 places
abbrev pub spelled : ℕ → ℕ → ℕ → List Bool
spelled n first second = digits_of n (joined first second / 2 ^ (128 - n))

-- whether no place from n on is marked
abbrev pub unmarked : ℕ → ℕ → ℕ → Bool
unmarked n first second = joined first second % 2 ^ (128 - n) == 0

-- the lengths that a frame, a word, a pattern or a row may have
abbrev pub is_length : ℕ → Bool
is_length n = nat_le 1 n && nat_le n 128
