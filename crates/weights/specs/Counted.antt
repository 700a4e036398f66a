-- Flips first: a count of flips, then a whole number.
use Rattle.std.specs.Prelude.{ℕ, ◌+◌, Bool, cond, ◌==◌, nat_le, nat_lt}
use Rattle.weights.specs.Model.{Model}

-- How many flips, and what all prices come to.
pub record Counted : Type 0 where
  pub flips : ℕ
  pub number : ℕ

-- Fewer flips, or as many with a number that is no greater.
abbrev pub no_more : Counted → Counted → Bool
no_more a b = cond (a.flips == b.flips) (nat_le a.number b.number) (nat_lt a.flips b.flips)

-- Added part by part; a flip asked with w costs (1, w), and a surcharge asked with p costs (0, p).
abbrev pub flips_first_model : Model Counted
flips_first_model = record {
  zero = record { flips = 0; number = 0 };
  plus = λ a b. record { flips = a.flips + b.flips; number = a.number + b.number };
  at_most = no_more;
  flip = λ w. record { flips = 1; number = w };
  surcharge = λ p. record { flips = 0; number = p };
}
