-- A walk through a rule's steps, place by place.
use Rattle.std.proofs.Common.{◌≡◌, ℕ, suc, ◌+◌, ◌*◌, ◌≤◌, Bool, true, false, cond, ◌&&◌, List, [], ◌∷◌, ◌++◌, length, Some, None, Option, sym, refl, ap, ◌∙◌, append_assoc, append-nil, add-one, arith, length-append}
use Rattle.std.proofs.lemmas.Bool.{eq-eqb}
use Rattle.std.proofs.lemmas.Option.{none-some}
use Rattle.std.specs.Bool.{then_some}
use Rattle.std.specs.Option.{option_map}
use Rattle.weights.proofs.Worth.{range-++, worth_sum}
use Rattle.weights.specs.Grade.{Addable}
use Rattle.weights.specs.Laws.{Laws}
use Rattle.weights.specs.Model.{Model}
use Rattle.weights.specs.Price.{InRange, worth}
use Rattle.weights.specs.declared.price.Price.{Price}
use Rattle.rules.specs.Answers.{due, weighed}
use Rattle.rules.specs.Meaning.{HasMeaning, Lawful}
use Rattle.rules.specs.Trellis.{Move, Trellis, then, walk, walked}

-- the first i places of a pattern lead to the state s for prices worth v, and some are left
pub record Walked {V : Type 0} (model : Model V) (t : Trellis) (bs : List Bool) (i s : ℕ) (v : V) (left : List Bool) : Type 0 where
  pub paid : List Price
  pub worthy : v ≡ worth model paid
  pub range : InRange paid
  pub short : length paid ≤ 2 * i
  pub rest : walked t bs ≡ option_map (λ ps. paid ++ ps) (walk t i s left)

mapped_nil : (o : Option (List Price)) → o ≡ option_map (λ ps. [] ++ ps) o
mapped_nil None = refl
mapped_nil (Some ps) = refl

mapped_twice : (ps qs : List Price) (o : Option (List Price)) → option_map (λ x. ps ++ x) (option_map (λ x. qs ++ x) o) ≡ option_map (λ x. (ps ++ qs) ++ x) o
mapped_twice ps qs None = refl
mapped_twice ps qs (Some x) = ap Some (sym (append_assoc ps qs x))

worth_cond : {V : Type 0} (model : Model V) (a : Bool) (ps : List Price) → option_map (worth model) (cond a (Some ps) None) ≡ cond a (Some (worth model ps)) None
worth_cond model true ps = refl
worth_cond model false ps = refl

module _ {V : Type 0} (model : Model V) (t : Trellis) (bs : List Bool) where
  module _ (adm : List Bool → Bool) (prices : List Bool → List Price) (law : Lawful t adm prices) where
    -- what the whole walk is worth is what the pattern weighs
    walk_weighs : length bs ≡ t.places → option_map (worth model) (walked t bs) ≡ weighed model t.places adm prices bs
    walk_weighs e = ap (option_map (worth model)) (law.means bs e) ∙ worth_cond model (adm bs) (prices bs) ∙ ap (λ c. cond (c && adm bs) (Some (worth model (prices bs))) None) (sym (eq-eqb (length bs) t.places e))

    module _ (i s : ℕ) (v : V) (b : Bool) (left : List Bool) (w : Walked model t bs i s v (b ∷ left)) where
      -- what is left, by the move at this place
      at_move : (o : Option Move) → t.moves i s b ≡ o → walked t bs ≡ option_map (λ ps. w.paid ++ ps) (then o (λ m. option_map (λ ps. m.fees ++ ps) (walk t (suc i) m.target left)))
      at_move o f = w.rest ∙ ap (λ x. option_map (λ ps. w.paid ++ ps) (then x (λ m. option_map (λ ps. m.fees ++ ps) (walk t (suc i) m.target left)))) f

      -- a barred step: it weighs nothing
      pub walked_barred : length bs ≡ t.places → None ≡ due model (t.moves i s b) → None ≡ weighed model t.places adm prices bs
      walked_barred k a = go (t.moves i s b) refl a
        where
          go : (o : Option Move) → t.moves i s b ≡ o → None ≡ due model o → None ≡ weighed model t.places adm prices bs
          go None f a = ap (option_map (worth model)) (sym (at_move None f)) ∙ walk_weighs k
          go (Some m) f a = absurd (none-some (m.target, worth model m.fees) a)

      pub walked_more : Laws model → HasMeaning t → (next : ℕ) (u sum : V) → Some (next, u) ≡ due model (t.moves i s b) → (Addable model v u → sum ≡ model.plus v u) → Walked model t bs (i + 1) next sum left
      walked_more laws has next u sum a adds = go (t.moves i s b) refl a
        where
          go : (o : Option Move) → t.moves i s b ≡ o → Some (next, u) ≡ due model o → Walked model t bs (i + 1) next sum left
          go None f a = absurd (none-some (next, u) (sym a))
          go (Some m) f a =
              let p : ◌≡◌ {A = ℕ × V} (next, u) (m.target, worth model m.fees) = cc in
              let fair = law.fair i s b m f in
              let l : length w.paid + length m.fees ≤ 256 = omega (arith, w.short, fair.cheap, has.short, fair.inside) in
              record {
                paid = w.paid ++ m.fees;
                worthy = worth_sum model laws w.paid m.fees w.range fair.range l w.worthy (ap (λ x. x.1) p) adds;
                range = range-++ w.paid m.fees w.range fair.range;
                short = rw length-append (omega (arith, w.short, fair.cheap));
                rest = rw (add-one i) (at_move (Some m) f ∙ mapped_twice w.paid m.fees (walk t (suc i) m.target left)
                    ∙ ap (λ x. option_map (λ ps. (w.paid ++ m.fees) ++ ps) (walk t (suc i) x left)) (sym (ap (λ x. x.0) p)));
              }

    -- past the last place: the sum, if the state is an end
    pub walked_end : {C : Type 0} (value : C → V) (i s : ℕ) (sum : C) (b : Bool) → Walked model t bs i s (value sum) [] → b ≡ t.ends s → length bs ≡ t.places
        → option_map value (then_some b sum) ≡ weighed model t.places adm prices bs
    walked_end value i s sum b w e k = go b ∙ ap (option_map (worth model)) (sym (w.rest ∙ ap (λ c. option_map (λ ps. w.paid ++ ps) (cond c (Some []) None)) (sym e))) ∙ walk_weighs k
      where
        go : (b : Bool) → option_map value (then_some b sum) ≡ option_map (worth model) (option_map (λ ps. w.paid ++ ps) (cond b (Some []) None))
        go true = ap Some (w.worthy ∙ ap (worth model) (sym (append-nil w.paid)))
        go false = refl
