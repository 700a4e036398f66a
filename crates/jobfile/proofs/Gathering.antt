-- A loop that reads one thing after another, up to the first fault.
use Rattle.std.proofs.Common.{◌≡◌, ℕ, zero, suc, ◌+◌, ◌-◌, ◌<◌, true, List, [], ◌∷◌, ◌++◌, is_ok, Ok, Err, Result, sym, refl, ap, ◌∙◌, ap₂, add-zero, add-suc, add-one, arith}
use Rattle.std.proofs.lemmas.Bool.{false≢true}
use Rattle.jobfile.specs.Gathered.{with_next, gathered}

module _ {X E : Type 0} (f : ℕ → Result X E) where
  pub gathered_more : (i : ℕ) (xs : List X) (x : X) → gathered f i ≡ Ok xs → f i ≡ Ok x → gathered f (i + 1) ≡ Ok (xs ++ x ∷ [])
  gathered_more i xs x g e = ap (gathered f) (add-one i) ∙ ap₂ with_next g e

  fault_next : (r : Result (List X) E) (e : E) → is_ok r ≡ true → with_next r (Err e) ≡ Err e
  fault_next (Ok xs) e h = refl
  fault_next (Err d) e h = absurd (false≢true h)

  fault_stays : (i k : ℕ) (e : E) → gathered f i ≡ Err e → gathered f (i + k) ≡ Err e
  fault_stays i zero e g = ap (gathered f) (add-zero i) ∙ g
  fault_stays i (suc k) e g = ap (gathered f) (add-suc i k) ∙ ap (λ (r : Result (List X) E). with_next r (f (i + k))) (fault_stays i k e g)

  -- the first fault is the answer
  pub gathered_fault : (i n : ℕ) (e : E) → is_ok (gathered f i) ≡ true → f i ≡ Err e → i < n → gathered f n ≡ Err e
  gathered_fault i n e g p h =
      let s : gathered f (suc i) ≡ Err e = ap (with_next (gathered f i)) p ∙ fault_next (gathered f i) e g in
      ap (gathered f) (let q : n ≡ suc i + (n - suc i) = omega arith in q) ∙ fault_stays (suc i) (n - suc i) e s

  -- a value more, and none of the faults so far
  pub still_ok : (i : ℕ) (x : X) → is_ok (gathered f i) ≡ true → f i ≡ Ok x → is_ok (gathered f (i + 1)) ≡ true
  still_ok i x g e = ap (λ (n : ℕ). is_ok (gathered f n)) (add-one i) ∙ ap (λ (r : Result X E). is_ok (with_next (gathered f i) r)) e ∙ go (gathered f i) g
    where
      go : (r : Result (List X) E) → is_ok r ≡ true → is_ok (with_next r (Ok x)) ≡ true
      go (Ok xs) h = refl
      go (Err d) h = h

  -- where none is at fault, this one is not
  pub no_fault : (i n : ℕ) (xs : List X) (e : E) → is_ok (gathered f n) ≡ true → gathered f i ≡ Ok xs → f i ≡ Err e → i < n → ⊥
  no_fault i n xs e g p q h = false≢true (sym (ap is_ok (gathered_fault i n e (ap is_ok p) q h)) ∙ g)
