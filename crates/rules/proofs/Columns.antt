-- The rows and columns that a layer of rows is made with.
use Rattle.std.proofs.Common.{◌≡◌, ℕ, ◌<◌, Bool, true, ◌&&◌, List, length, Err, ap, ◌∙◌, arith}
use Rattle.std.specs.Prelude.{nat_lt, slice_index}
use Rattle.frames.specs.Faults.{plain}
use Rattle.frames.specs.Halves.{is_length}
use Rattle.frames.specs.Rows.{rows_of}
use Rattle.frames.specs.declared.halves.Halves.{Halves}
use Rattle.std.proofs.lemmas.Bool.{and_from, cond-true, lt-ltb}
use Rattle.std.proofs.lemmas.List.FromFn.{get_or-map-range_with_len, length-map-range_with_len}
use Rattle.rules.specs.Rows.{rows_from, marks_at, columns_of}

-- more than six rows are refused
pub rows_many : (n : ℕ) (hs : List Halves) → is_length n ≡ true → 6 < length hs → rows_from n hs ≡ Err (plain 3)
rows_many n hs h l = cond-true (is_length n && nat_lt 6 (length hs)) (Err (plain 3)) (rows_of n hs) (and_from (is_length n) (nat_lt 6 (length hs)) h (lt-ltb 6 (length hs) l))

pub columns_length : (n : ℕ) (table : List (List Bool)) (cs : List ℕ) → cs ≡ columns_of n table → length cs ≡ n
columns_length n table cs e = ap length e ∙ length-map-range_with_len (λ i. marks_at i table) 0 n

pub columns_at : (n : ℕ) (table : List (List Bool)) (cs : List ℕ) (i : ℕ) → cs ≡ columns_of n table → i < n → slice_index cs i ≡ marks_at i table
columns_at n table cs i e h = ap (λ l. slice_index l i) e ∙ get_or-map-range_with_len (λ k. marks_at k table) 0 n i i 0 h (omega arith)
