-- Rows keeps the law of a layer.
use Rattle.std.specs.Prelude.{◌≡◌, ℕ, zero, suc, ◌+◌, ◌^◌, ◌<◌, Bool, true, false, cond, not, ◌&&◌, List, [], ◌∷◌, map, length, get_or, drop, Option, ◌==◌, bit_xor, nat_eq, slice_index_or, refl}
use Rattle.std.specs.Bool.{beq}
use Rattle.std.proofs.Common.{sym, ap, subst, ◌∙◌, arith}
use Rattle.std.specs.Int.Bits.{xor_assoc, xor_zero_l, xor_zero_r}
use Rattle.frames.specs.Halves.{is_odd}
use Rattle.frames.specs.Places.{overlap}
use Rattle.std.proofs.lemmas.Nat.{pow_pos, xor_lt}
use Rattle.std.proofs.lemmas.List.{drop_all, length-map}
use Rattle.std.proofs.lemmas.Bool.{and_right}
use Rattle.std.proofs.lemmas.Bool.Decides.{nat_tests}
use Rattle.rules.specs.Layer.{Closed, Keeps, passes}
use Rattle.rules.specs.Rows.{alike, packed, marks_at, parities, rows_own}
use Rattle.rules.specs.Packed.{packed_low, packed_none, packed_xor, packed_equal}

overlap_none : (bs : List Bool) → overlap bs [] ≡ 0
overlap_none [] = refl
overlap_none (b ∷ bs) = refl

odd_more : (b : Bool) (n : ℕ) → is_odd (cond b 1 0 + n) ≡ not (beq b (is_odd n))
odd_more true n = grind (arith, nat_tests)
odd_more false n = grind (arith, nat_tests)

-- the parity over what is left of a row, at one place more
odd_step : (b : Bool) (bs row : List Bool) (i : ℕ) → is_odd (overlap (b ∷ bs) (drop i row)) ≡ not (beq (b && slice_index_or row i false) (is_odd (overlap bs (drop (suc i) row))))
odd_step b bs [] i = rw (drop_all {X = Bool} i [] (omega arith), overlap_none bs, and_right b false refl)
odd_step b bs (x ∷ row) zero = odd_more (b && x) (overlap bs row)
odd_step b bs (x ∷ row) (suc i) = odd_step b bs row i

-- the parities over what is left of the rows
abbrev rest : List (List Bool) → ℕ → List Bool → ℕ
rest table i bs = packed (map (λ row. is_odd (overlap bs (drop i row))) table)

module _ (table : List (List Bool)) (word : List Bool) where
  column_low : (i : ℕ) (b : Bool) → cond b (marks_at i table) 0 < 2 ^ length table
  column_low i true = omega (arith, ap (λ n. 2 ^ n) (length-map table (λ row. get_or row i false)), packed_low (map (λ row. get_or row i false) table))
  column_low i false = pow_pos (length table)

  rows_closed : Closed (rows_own table word)
  rows_closed = record {
    begins = pow_pos (length table);
    turns = λ i q b r h e.
        let g : bit_xor q (cond b (marks_at i table) 0) ≡ r = cc in
        let P : ℕ → Type 0 = λ z. z < 2 ^ length table in
        subst P g (xor_lt (length table) q (cond b (marks_at i table) 0) h (column_low i b));
  }

  column_is : (i : ℕ) (b : Bool) → cond b (marks_at i table) 0 ≡ packed (map (λ row. b && slice_index_or row i false) table)
  column_is i true = refl
  column_is i false = sym (packed_none (λ row. false) table (λ row. refl))

  rows_passes : (bs : List Bool) (i q : ℕ) → passes (rows_own table word) i q bs ≡ (bit_xor q (rest table i bs) == parities word table)
  rows_passes [] i q = ap (λ n. nat_eq n (parities word table)) (sym (ap (bit_xor q) (packed_none (λ row. is_odd (overlap [] (drop i row))) table (λ row. refl)) ∙ xor_zero_r q))
  rows_passes (b ∷ bs) i q =
      rows_passes bs (suc i) (bit_xor q (cond b (marks_at i table) 0))
      ∙ ap (λ n. nat_eq n (parities word table))
      (xor_assoc q (cond b (marks_at i table) 0) (rest table (suc i) bs)
      ∙ ap (bit_xor q) (ap (λ n. bit_xor n (rest table (suc i) bs)) (column_is i b)
      ∙ sym (packed_xor (λ row. b && slice_index_or row i false) (λ row. is_odd (overlap bs (drop (suc i) row))) (λ row. is_odd (overlap (b ∷ bs) (drop i row))) (λ row. odd_step b bs row i) table)))

  alike_is : (xs ys : List Bool) (rows : List (List Bool)) → (parities xs rows == parities ys rows) ≡ alike rows xs ys
  alike_is xs ys [] = refl
  alike_is xs ys (row ∷ rows) =
      packed_equal (parities xs rows) (parities ys rows) (is_odd (overlap xs row)) (is_odd (overlap ys row))
      ∙ ap (λ p. beq (is_odd (overlap xs row)) (is_odd (overlap ys row)) && p) (alike_is xs ys rows)

  -- its own part passes what has the word's parities
  rows_alike : (bs : List Bool) → passes (rows_own table word) 0 0 bs ≡ alike table bs word
  rows_alike bs = rows_passes bs 0 0 ∙ ap (λ n. nat_eq n (parities word table)) (xor_zero_l (rest table 0 bs)) ∙ alike_is bs word table

  -- with any length of its own, or none
  pub rows_keep : (n : Option ℕ) → Keeps n (rows_own table word) (λ bs. alike table bs word)
  rows_keep n = record { closed = rows_closed; means = λ bs _. rows_alike bs }
