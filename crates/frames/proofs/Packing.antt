-- One more reading: its bit below the digits so far, its weight after the weights so far.
use Rattle.std.proofs.Common.{◌≡◌, ℕ, zero, suc, ◌+◌, ◌*◌, ◌/◌, ◌%◌, ◌^◌, ◌<◌, ◌≤◌, Bool, true, false, cond, eqb, List, [], ◌∷◌, ◌++◌, map, length, get_or, take, Some, None, Ok, Err, Option, sym, refl, ap, ◌∙◌, ap₂, pow-suc, div-one, add-one, one-add, arith, lit<, pow_mono, shr-shr}
use mir.Val.{bool_byte}
use Rattle.std.proofs.lemmas.List.{take_more, map_more}
use Rattle.std.proofs.lemmas.Bool.{cond-true}
use Rattle.frames.specs.Cells.{is_good, cell_for, cell_of}
use Rattle.frames.specs.Faults.{plain, telling, refused}
use Rattle.frames.specs.Firsts.{first_failing}
use Rattle.frames.specs.Frames.{bit_for, weight_for, frame_unless, frame_of, AllNear}
use Rattle.frames.specs.Halves.{is_odd, digits_of, is_length}
use Rattle.frames.specs.Lengths.{length_of}
use Rattle.frames.specs.Near.{NearFor}
use Rattle.frames.specs.declared.readings.Cell.{Cell}
use Rattle.frames.specs.declared.readings.Reading.{Reading}
use Rattle.frames.proofs.TableRows.{same_length}

-- what `cell` says where it gives one, and where it gives none
pub some_cell : (r : Reading) (k : Cell) → Some k ≡ cell_of r → k ≡ cell_for r
some_cell r k e = go (is_good r) e
  where
    go : (b : Bool) → Some k ≡ cond b (Some (cell_for r)) None → k ≡ cell_for r
    go true q = cc
    go false q = let z : ◌≡◌ {A = ℕ} 0 1 = cc in absurd (omega arith)

pub no_cell : (r : Reading) → None ≡ cell_of r → is_good r ≡ true → ⊥
no_cell r e g = let p : None ≡ Some (cell_for r) = e ∙ ap (λ (b : Bool). cond b (Some (cell_for r)) None) g in let z : ◌≡◌ {A = ℕ} 0 1 = cc in omega arith

-- ---- the digits

digits_push : (n v b : ℕ) → b < 2 → digits_of (suc n) (v * 2 + b) ≡ digits_of n v ++ eqb b 1 ∷ []
digits_push zero v b h =
    let e : (v * 2 + b) / 1 % 2 ≡ b = rw div-one (omega arith) in
    ap (λ (x : ℕ). eqb x 1 ∷ []) e
digits_push (suc n) v b h =
    let d : (v * 2 + b) / 2 ≡ v = omega arith in
    let e : (v * 2 + b) / 2 ^ suc n ≡ v / 2 ^ n = ap (λ k. (v * 2 + b) / 2 ^ k) (sym (one-add n)) ∙ sym (shr-shr (v * 2 + b) 1 n) ∙ ap (λ k. k / 2 ^ n) d in
    ap₂ (λ (x : Bool) (xs : List Bool). x ∷ xs) (ap is_odd e) (digits_push n v b h)

-- a bit as a byte, and as the digit that it stands for
pub byte_digit : (b : Bool) → bool_byte b ≡ cond b 1 0
byte_digit true = refl
byte_digit false = refl

pub bit_le : (x : Bool) (b : ℕ) → b ≡ cond x 1 0 → b ≤ 1
bit_le true b e = omega arith
bit_le false b e = omega arith

pub room_more : (v b i : ℕ) → v < 2 ^ i → b ≤ 1 → v * 2 + b < 2 ^ (i + 1)
room_more v b i h k = rw (add-one i, pow-suc 2 i) (omega arith)

pub room_fits : (v b i n : ℕ) → v < 2 ^ i → i < n → n ≤ 128 → b ≤ 1 → v * 2 + b < 2 ^ 128
room_fits v b i n h l m k = let q : i ≤ 127 = omega arith in let p : 2 ^ i ≤ 2 ^ 127 = pow_mono q in omega arith

pub digits_reading : (rs : List Reading) (i : ℕ) (d : Reading) (v b : ℕ) → i < length rs → digits_of i v ≡ map bit_for (take i rs) → b ≡ cond (bit_for (get_or rs i d)) 1 0 → digits_of (i + 1) (v * 2 + b) ≡ map bit_for (take (i + 1) rs)
digits_reading rs i d v b l h e = ap (λ (n : ℕ). digits_of n (v * 2 + b)) (add-one i) ∙ go (bit_for (get_or rs i d)) e ∙ ap (λ (xs : List Bool). xs ++ bit_for (get_or rs i d) ∷ []) h ∙ sym (map_more bit_for rs i d l)
  where
    go : (x : Bool) → b ≡ cond x 1 0 → digits_of (suc i) (v * 2 + b) ≡ digits_of i v ++ x ∷ []
    go true p = rw p (digits_push i v 1 (lit< tt))
    go false p = rw p (digits_push i v 0 (lit< tt))

-- ---- the weights

near_push : (rs : List Reading) (ws : List ℕ) (r : Reading) (w : ℕ) → AllNear rs ws → NearFor r w → AllNear (rs ++ r ∷ []) (ws ++ w ∷ [])
near_push [] [] r w a n = (n, tt)
near_push [] (v ∷ ws) r w a n = absurd a
near_push (x ∷ rs) [] r w a n = absurd a
near_push (x ∷ rs) (v ∷ ws) r w a n = (a.0, near_push rs ws r w a.1 n)

pub near_more : (rs : List Reading) (i : ℕ) (d : Reading) (ws : List ℕ) (w : ℕ) → i < length rs → AllNear (take i rs) ws → NearFor (get_or rs i d) w → AllNear (take (i + 1) rs) (ws ++ w ∷ [])
near_more rs i d ws w l a n = rw (take_more rs i d l) (near_push (take i rs) ws (get_or rs i d) w a n)

-- what readings give, whose number is a length
module _ (rs : List Reading) (n : ℕ) (e : Some (Ok n) ≡ Some (length_of (length rs))) where
  frame_by : frame_of rs ≡ frame_unless (first_failing is_good rs) rs
  frame_by = cond-true (is_length (length rs)) (frame_unless (first_failing is_good rs) rs) (Err (plain 1)) (same_length (length rs) n e).1

  pub frame_refused : (place : ℕ) → first_failing is_good rs ≡ Some place → Some (telling 2 place) ≡ refused (frame_of rs)
  frame_refused place f = sym (ap refused (frame_by ∙ ap (λ (o : Option ℕ). frame_unless o rs) f))

  pub frame_good : first_failing is_good rs ≡ None → frame_of rs ≡ Ok (map bit_for rs, map weight_for rs)
  frame_good f = frame_by ∙ ap (λ (o : Option ℕ). frame_unless o rs) f
