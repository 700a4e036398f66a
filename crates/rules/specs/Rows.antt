-- Rows: the parity over each row is the hard word's.
use Rattle.std.specs.Prelude.{ℕ, ◌+◌, ◌*◌, ◌^◌, Bool, true, false, cond, ◌&&◌, List, [], ◌∷◌, map, length, Some, Err, Result, ◌==◌, bit_xor, nat_lt, slice_index_or}
use Rattle.std.specs.Bool.{beq}
use Rattle.frames.specs.Faults.{Refusal, plain}
use Rattle.frames.specs.Halves.{is_odd, is_length}
use Rattle.frames.specs.Places.{overlap}
use Rattle.frames.specs.Rows.{rows_of}
use Rattle.frames.specs.declared.halves.Halves.{Halves}
use Rattle.std.specs.List.{range_with_len}
use Rattle.rules.specs.Layer.{Own}

-- The length and the rows that a layer is made with, at most six; others are refused.
abbrev pub rows_from : ℕ → List Halves → Result (ℕ × List (List Bool)) Refusal
rows_from n hs = cond (is_length n && nat_lt 6 (length hs)) (Err (plain 3)) (rows_of n hs)

-- Whether two words have the same parity over each row.
abbrev pub alike : List (List Bool) → List Bool → List Bool → Bool
alike [] xs ys = true
alike (row ∷ rest) xs ys = beq (is_odd (overlap xs row)) (is_odd (overlap ys row)) && alike rest xs ys

-- Bits as a number, the first one lowest.
abbrev pub packed : List Bool → ℕ
packed [] = 0
packed (b ∷ bs) = packed bs * 2 + cond b 1 0

-- The marks of all rows at a place, as a number.
abbrev pub marks_at : ℕ → List (List Bool) → ℕ
marks_at i table = packed (map (λ row. slice_index_or row i false) table)

-- A column for each of n places.
abbrev pub columns_of : ℕ → List (List Bool) → List ℕ
columns_of n table = map (λ i. marks_at i table) (range_with_len 0 n)

-- The parities of a word over all rows, as a number.
abbrev pub parities : List Bool → List (List Bool) → ℕ
parities bs table = packed (map (λ row. is_odd (overlap bs row)) table)

-- The layer's own part keeps the parities of the flips so far; they end as the hard word's.
abbrev pub rows_own : List (List Bool) → List Bool → Own
rows_own table word = record {
  factor = 2 ^ length table;
  start = 0;
  ends = λ q. (q == parities word table);
  turn = λ i q b. Some (bit_xor q (cond b (marks_at i table) 0));
}
