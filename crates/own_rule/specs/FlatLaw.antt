-- One price for every flip keeps the law.
use Rattle.std.specs.Prelude.{◌≡◌, ℕ, ◌<◌, Bool, true, false, List, ◌∷◌, ◌++◌, replicate, refl}
use Rattle.std.proofs.Common.{sym, ap, zero-add, one-add, arith}
use Rattle.frames.specs.Places.{marks}
use Rattle.weights.specs.declared.price.Price.TheVariants.{Flip}
use Rattle.rules.specs.Free.{free_move}
use Rattle.rules.specs.FreeLaw.{free_cheap, free_range}
use Rattle.rules.specs.Meaning.{Lawful}
use Rattle.rules.specs.UnbarredLemmas.{unbarred_lawful}
use Rattle.own_rule.specs.Flat.{flat_trellis}

-- one place more
flat_more : (p : ℕ) (b : Bool) (bs : List Bool) → (free_move p b).fees ++ replicate (marks bs) (Flip p) ≡ replicate (marks (b ∷ bs)) (Flip p)
flat_more p true bs = ap (λ j. replicate j (Flip p)) (sym (one-add (marks bs)))
flat_more p false bs = ap (λ j. replicate j (Flip p)) (sym (zero-add (marks bs)))

pub flat_lawful : (n p : ℕ) → p < 65536 → Lawful (flat_trellis n p) (λ bs. true) (λ bs. replicate (marks bs) (Flip p))
flat_lawful n p low =
    unbarred_lawful n 1 (λ i s b. free_move p b) (λ i s b. omega arith) (λ i s bs. replicate (marks bs) (Flip p)) (λ i s. refl) (λ i s b bs h. flat_more p b bs)
    (omega arith) (λ i s b. free_cheap p b) (λ i s b. free_range p b low)
