-- What every kind of weight shows of its promised values.
use Rattle.std.specs.Prelude.{◌≡◌, ℕ, ◌+◌, ◌≤◌, true, false}
use Rattle.weights.specs.Grade.{Graded, Promised, Addable}
use Rattle.weights.specs.Model.{Model}

-- The laws. That a is less than b is that b is not at most a.
pub record Laws {V : Type 0} (m : Model V) : Type 0 where
  -- the sum is associative
  pub associative : {g h k : ℕ} {a b c : V} → Graded m g a → Graded m h b → Graded m k c → g + h + k ≤ 256 → m.plus (m.plus a b) c ≡ m.plus a (m.plus b c)
  -- zero is neutral on both sides
  pub zero_left : {a : V} → Promised m a → m.plus m.zero a ≡ a
  pub zero_right : {a : V} → Promised m a → m.plus a m.zero ≡ a
  -- the order is total and transitive
  pub total : {a b : V} → Promised m a → Promised m b → m.at_most b a ≡ false → m.at_most a b ≡ true
  pub transitive : {a b c : V} → Promised m a → Promised m b → Promised m c → m.at_most a b ≡ true → m.at_most b c ≡ true → m.at_most a c ≡ true
  -- each at most the other: the same value
  pub same : {a b : V} → Promised m a → Promised m b → m.at_most a b ≡ true → m.at_most b a ≡ true → a ≡ b
  -- where a is less than b, so are their sums with c, on both sides
  pub less_left : {a b c : V} → Addable m c a → Addable m c b → m.at_most b a ≡ false → m.at_most (m.plus c b) (m.plus c a) ≡ false
  pub less_right : {a b c : V} → Addable m a c → Addable m b c → m.at_most b a ≡ false → m.at_most (m.plus b c) (m.plus a c) ≡ false
