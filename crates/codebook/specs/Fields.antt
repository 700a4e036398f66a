-- The field test.
use Rattle.std.specs.Prelude.{ℕ, ◌+◌, ◌*◌, ◌^◌, Bool, cond, ◌&&◌, List, [], ◌∷◌, length, take, drop, Ok, Err, Result, ◌==◌, nat_le, nat_lt}
use Rattle.frames.specs.Faults.{Refusal, plain}
use Rattle.frames.specs.Halves.{is_length}

-- neighbouring places of words of one length, and the least and greatest number that they may hold
pub record Range : Type 0 where
  pub long : ℕ
  pub from : ℕ
  pub count : ℕ
  pub least : ℕ
  pub most : ℕ

-- v followed by more binary digits
abbrev pub number_on : ℕ → List Bool → ℕ
number_on v [] = v
number_on v (b ∷ bs) = number_on (2 * v + cond b 1 0) bs

-- the number that `count` places from `from` on hold, the first most significant
abbrev pub field_number : ℕ → ℕ → List Bool → ℕ
field_number from count w = number_on 0 (take count (drop from w))

-- the words whose field holds a number in the range
abbrev pub accepted_by_field : Range → List Bool → Bool
accepted_by_field f w = length w == f.long && (nat_le f.least (field_number f.from f.count w) && nat_le (field_number f.from f.count w) f.most)

-- 1 to 16 places, none past the length, and a range of numbers that they can hold
abbrev pub is_field : Range → Bool
is_field f = nat_le 1 f.count && (nat_le f.count 16 && (nat_le (f.from + f.count) f.long && (nat_le f.least f.most && nat_lt f.most (2 ^ f.count))))

-- the field of a test, or why it is refused: 1, then 10
abbrev pub field_test_of : Range → Result Range Refusal
field_test_of f = cond (is_length f.long) (cond (is_field f) (Ok f) (Err (plain 10))) (Err (plain 1))
