-- Cap keeps the law of a layer.
use Rattle.std.specs.Prelude.{◌≡◌, ℕ, suc, ◌+◌, ◌<◌, ◌≤◌, Bool, true, false, leb, List, [], ◌∷◌, Some, None, nat_le, nat_lt}
use Rattle.std.proofs.Common.{inl, inr, sym, ap, ◌∙◌, zero-add, arith}
use Rattle.frames.specs.Places.{marks}
use Rattle.std.proofs.lemmas.Bool.{cases_Bool, ltb-true, ltb-false, le-leb, lt-leb}
use Rattle.rules.specs.Cap.{cap_turn, cap_own}
use Rattle.rules.specs.Layer.{Closed, Keeps, passes}
use Rattle.std.proofs.lemmas.Option.{cond_some}

module _ (most : ℕ) where
  cap_low : (q : ℕ) (b : Bool) (r : ℕ) → q < most + 1 → cap_turn most q b ≡ Some r → r < most + 1
  cap_low q true r h e = let g = cond_some (nat_lt q most) (q + 1) r e in omega (arith, ltb-true q most g.0, g.1)
  cap_low q false r h e = let g : q ≡ r = cc in omega arith

  cap_closed : Closed (cap_own most)
  cap_closed = record { begins = omega arith; turns = λ i q b r h e. cap_low q b r h e }

  cap_passes : (bs : List Bool) (i q : ℕ) → q ≤ most → passes (cap_own most) i q bs ≡ nat_le (q + marks bs) most
  cap_passes [] i q h = sym (le-leb (q + 0) most (omega arith))
  cap_passes (false ∷ bs) i q h = cap_passes bs (suc i) q h ∙ ap (λ n. leb (q + n) most) (sym (zero-add (marks bs)))
  cap_passes (true ∷ bs) i q h = elim (cases_Bool (nat_lt q most)) [
    | inl e ↦ rw e (cap_passes bs (suc i) (q + 1) (omega (arith, ltb-true q most e)) ∙ ap (λ n. leb n most) (let z : q + 1 + marks bs ≡ q + (1 + marks bs) = omega arith in z))
    | inr e ↦ rw e (sym (lt-leb (q + (1 + marks bs)) most (omega (arith, ltb-false q most e))))
  ]

  pub cap_keeps : Keeps None (cap_own most) (λ bs. nat_le (marks bs) most)
  cap_keeps = record { closed = cap_closed; means = λ bs _. cap_passes bs 0 0 (omega arith) ∙ ap (λ n. nat_le n most) (zero-add (marks bs)) }
