-- Lemmas, and nothing to believe: what a test accepts has the test's length.
use Rattle.std.specs.Prelude.{◌≡◌, ◌==◌, ℕ, Bool, true, ◌&&◌, if◌then◌else◌, nat_eq}
use Rattle.std.proofs.Common.{sym, ◌∙◌, rules}
use Rattle.std.proofs.lemmas.Bool.{cond-true, eq-eqb, eqb-true}

-- two tests that both pass
pub both_pass : (a b : Bool) → (a && b) ≡ true → (a ≡ true) × (b ≡ true)
both_pass a b e = search rules

-- a length that is tested first
pub tested_length : (n m : ℕ) (rest : Bool) → (n == m && rest) ≡ true → n ≡ m
tested_length n m rest e = eqb-true n m (both_pass (n == m) rest e).0

-- one length of two that are the same
pub shared_length : (n a b : ℕ) → n ≡ a → n ≡ b → n ≡ (if nat_eq a b then a else 0)
shared_length n a b l r = l ∙ sym (cond-true (nat_eq a b) a 0 (eq-eqb a b (sym l ∙ r)))
