-- What lists of prices are worth.
use Rattle.std.proofs.Common.{◌≡◌, ℕ, ◌+◌, ◌<◌, ◌≤◌, List, [], ◌∷◌, ◌++◌, length, get_or, take, sym, ap, ◌∙◌, ap₂, one-add, length-append, arith}
use Rattle.std.proofs.ByRecursion.{All-append}
use Rattle.std.proofs.lemmas.List.{take_more}
use Rattle.weights.specs.Grade.{Graded, nothing, flipped, charged, sum, Promised, Addable}
use Rattle.weights.specs.Kept.{Joins}
use Rattle.weights.specs.Laws.{Laws}
use Rattle.weights.specs.Model.{Model}
use Rattle.weights.specs.Price.{asked, InRange, price_of, worth}
use Rattle.weights.specs.declared.price.Price.{Price}
use Rattle.weights.specs.declared.price.Price.TheVariants.{Flip, Surcharge}

-- joined lists stay in range
pub range-++ : (ps qs : List Price) → InRange ps → InRange qs → InRange (ps ++ qs)
range-++ = All-append (λ p. asked p < 65536)

-- the prices are in range, and v is what they are worth
pub record Sums {V : Type 0} (m : Model V) (ps : List Price) (v : V) : Type 0 where
  pub range : InRange ps
  pub value : length ps ≤ 256 → v ≡ worth m ps

module _ {V : Type 0} (m : Model V) where
  -- a price in range has grade 1
  pub price_graded : (p : Price) → asked p < 65536 → Graded m 1 (price_of m p)
  price_graded (Flip w) h = flipped w h
  price_graded (Surcharge p) h = charged p h

  -- a list of n prices in range has grade n
  pub worth_graded : (ps : List Price) → InRange ps → Graded m (length ps) (worth m ps)
  worth_graded [] h = nothing
  worth_graded (p ∷ ps) h = rw (← one-add (length ps)) (sum (price_graded p h.0) (worth_graded ps h.1))

  -- at most 256 prices: promised
  pub worth_promised : (ps : List Price) → InRange ps → length ps ≤ 256 → Promised m (worth m ps)
  worth_promised ps h l = record { grade = length ps; graded = worth_graded ps h; small = l }

  -- at most 256 prices together: a promised sum
  pub worth_addable : (ps qs : List Price) → InRange ps → InRange qs → length ps + length qs ≤ 256 → Addable m (worth m ps) (worth m qs)
  worth_addable ps qs h k l = record { left_grade = length ps; right_grade = length qs; left = worth_graded ps h; right = worth_graded qs k; small = l }

  module _ (laws : Laws m) where
    -- one price alone
    pub worth_one : (p : Price) → asked p < 65536 → worth m (p ∷ []) ≡ price_of m p
    worth_one p h = laws.zero_right (record { grade = 1; graded = price_graded p h; small = omega arith })

    -- joined lists are worth the sum
    pub worth-++ : Joins m
    worth-++ [] qs h k l = sym (laws.zero_left (worth_promised qs k (omega arith)))
    worth-++ (p ∷ ps) qs h k l =
        ap (m.plus (price_of m p)) (worth-++ ps qs h.1 k (omega arith))
        ∙ sym (laws.associative (price_graded p h.0) (worth_graded ps h.1) (worth_graded qs k) (omega arith))

    -- so is whatever answers the sum of their worths where that is promised
    pub worth_sum : (ps qs : List Price) {a b s : V} → InRange ps → InRange qs → length ps + length qs ≤ 256 → a ≡ worth m ps → b ≡ worth m qs
        → (Addable m a b → s ≡ m.plus a b) → s ≡ worth m (ps ++ qs)
    worth_sum ps qs h k l e f sums = sums (rw (e, f) (worth_addable ps qs h k l)) ∙ ap₂ m.plus e f ∙ sym (worth-++ ps qs h k l)

    -- one price more, as at a step of a loop
    pub sums_more : (ps : List Price) (i : ℕ) (d : Price) {a b s : V} → i < length ps → Sums m (take i ps) a → asked (get_or ps i d) < 65536 → b ≡ price_of m (get_or ps i d)
        → (Addable m a b → s ≡ m.plus a b) → Sums m (take (i + 1) ps) s
    sums_more ps i d within h low one sums =
        let qs = take i ps in
        let p = get_or ps i d in
        rw (take_more ps i d within) (record {
          range = range-++ qs (p ∷ []) h.range (low, tt);
          value = λ short. let l = length-append qs (p ∷ []) in worth_sum qs (p ∷ []) h.range (low, tt) (omega arith) (h.value (omega arith)) (one ∙ sym (worth_one p low)) sums;
        })
