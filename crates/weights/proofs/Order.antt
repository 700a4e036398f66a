-- The order of promised values, and of what lists of prices are worth.
use Rattle.std.proofs.Common.{◌≡◌, ◌+◌, ◌≤◌, true, false, ◌⊎◌, List, ◌++◌, length, arith}
use Rattle.weights.specs.Grade.{Promised}
use Rattle.weights.specs.Laws.{Laws}
use Rattle.weights.specs.Model.{Model}
use Rattle.weights.specs.Price.{InRange, worth}
use Rattle.weights.specs.declared.price.Price.{Price}
use Rattle.weights.proofs.Worth.{worth_addable, worth-++}

module _ {V : Type 0} (m : Model V) (laws : Laws m) where
  pub at_most_refl : {a : V} → Promised m a → m.at_most a a ≡ true
  at_most_refl p = grind (arith, laws.total p p)

  -- no heavier is lighter, or the same
  pub at_most_cases : {a b : V} → Promised m a → Promised m b → m.at_most a b ≡ true → (m.at_most b a ≡ false) ⊎ (a ≡ b)
  at_most_cases p q h = grind (arith, laws.same p q h)

  -- lighter than b, which is no heavier than c
  pub less_then_at_most : {a b c : V} → Promised m a → Promised m b → Promised m c → m.at_most b a ≡ false → m.at_most b c ≡ true → m.at_most c a ≡ false
  less_then_at_most p q r h k = grind (arith, laws.transitive q r p k)

  -- no heavier than b, which is lighter than c
  pub at_most_then_less : {a b c : V} → Promised m a → Promised m b → Promised m c → m.at_most a b ≡ true → m.at_most c b ≡ false → m.at_most c a ≡ false
  at_most_then_less p q r h k = grind (arith, laws.transitive r p q)

  -- a common start keeps the lighter list lighter
  pub worth_less_before : (cs ps qs : List Price) → InRange cs → InRange ps → InRange qs → length cs + length ps ≤ 256 → length cs + length qs ≤ 256
      → m.at_most (worth m qs) (worth m ps) ≡ false → m.at_most (worth m (cs ++ qs)) (worth m (cs ++ ps)) ≡ false
  worth_less_before cs ps qs hc hp hq lp lq h =
      rw (worth-++ m laws cs ps hc hp lp, worth-++ m laws cs qs hc hq lq) (laws.less_left (worth_addable m cs ps hc hp lp) (worth_addable m cs qs hc hq lq) h)

  -- and so does a common end
  pub worth_less_after : (ps qs cs : List Price) → InRange ps → InRange qs → InRange cs → length ps + length cs ≤ 256 → length qs + length cs ≤ 256
      → m.at_most (worth m qs) (worth m ps) ≡ false → m.at_most (worth m (qs ++ cs)) (worth m (ps ++ cs)) ≡ false
  worth_less_after ps qs cs hp hq hc lp lq h =
      rw (worth-++ m laws ps cs hp hc lp, worth-++ m laws qs cs hq hc lq) (laws.less_right (worth_addable m ps cs hp hc lp) (worth_addable m qs cs hq hc lq) h)
