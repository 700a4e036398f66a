-- Rows that are read out of a table.
use Rattle.std.proofs.Common.{◌≡◌, ℕ, ◌-◌, ◌^◌, Bool, true, false, cond, eqb, List, map, length, get_or, Some, None, Ok, Err, Option, sym, refl, ap, ◌∙◌, inl, inr, arith}
use native.Mathlib.Nat.{zero-mod}
use Rattle.std.proofs.lemmas.List.{get_or_past}
use Rattle.std.proofs.lemmas.Bool.{cases_lt, cond-true}
use Rattle.frames.specs.Faults.{plain, telling, refused}
use Rattle.frames.specs.Firsts.{first_failing}
use Rattle.frames.specs.Halves.{is_length}
use Rattle.frames.specs.Rows.{unset, holds_row, row_of, rows_unless, rows_of}
use Rattle.frames.specs.Lengths.{length_of}
use Rattle.frames.specs.declared.halves.Halves.{Halves}
use Rattle.frames.proofs.Firsts.{each_passes}

-- a table whose rows all pass, read at any index
pub all_clean : (n : ℕ) (hs : List Halves) → first_failing (holds_row n) hs ≡ None → holds_row n unset ≡ true → (k : ℕ) → holds_row n (get_or hs k unset) ≡ true
all_clean n hs e z k =
    elim (cases_lt k (length hs)) [
      | inl h ↦ each_passes (holds_row n) hs k unset e h
      | inr h ↦ ap (holds_row n) (get_or_past hs k unset h) ∙ z
    ]

pub unset_clean : (n : ℕ) → holds_row n unset ≡ true
unset_clean n = ap (λ (x : ℕ). eqb x 0) (zero-mod (2 ^ (128 - n)))

-- a length that is one, and what rows of that length give
pub same_length : (m n : ℕ) → Some (Ok n) ≡ Some (length_of m) → (n ≡ m) × (is_length m ≡ true)
same_length m n e = go (is_length m) e
  where
    go : (b : Bool) → Some (Ok n) ≡ Some (cond b (Ok m) (Err (plain 1))) → (n ≡ m) × (b ≡ true)
    go true q = (cc, refl)
    go false q = let z : ◌≡◌ {A = ℕ} 0 1 = cc in absurd (omega arith)

module _ (m n : ℕ) (hs : List Halves) (e : Some (Ok n) ≡ Some (length_of m)) where
  rows_by : rows_of m hs ≡ rows_unless (first_failing (holds_row n) hs) n hs
  rows_by =
      let l = same_length m n e in
      cond-true (is_length m) (rows_unless (first_failing (holds_row m) hs) m hs) (Err (plain 1)) l.1
      ∙ ap (λ (k : ℕ). rows_unless (first_failing (holds_row k) hs) k hs) (sym l.0)

  pub table_refused : (row : ℕ) → first_failing (holds_row n) hs ≡ Some row → Some (telling 4 row) ≡ refused (rows_of m hs)
  table_refused row f = sym (ap refused (rows_by ∙ ap (λ (o : Option ℕ). rows_unless o n hs) f))

  pub table_given : first_failing (holds_row n) hs ≡ None → rows_of m hs ≡ Ok (n, map (row_of n) hs)
  table_given f = rows_by ∙ ap (λ (o : Option ℕ). rows_unless o n hs) f
