-- A layer keeps the law, if its own part stays within its states and the rule below keeps it.
use Rattle.std.specs.Prelude.{◌≡◌, ℕ, suc, ◌+◌, ◌*◌, ◌/◌, ◌%◌, ◌^◌, ◌<◌, ◌≤◌, Bool, true, false, cond, ◌&&◌, List, [], ◌∷◌, ◌++◌, length, IfSome, Some, None, Option, ◌==◌, nat_lt, refl}
use Rattle.std.proofs.Common.{inl, inr, sym, ap, ap₂, subst, ◌∙◌, mul_comm, mul-one, arith}
use Rattle.std.proofs.lemmas.Nat.{mul-add-lt, div-mul-add, mod-mul-add, mod_below, div-add-mod', mul-le}
use Rattle.std.proofs.lemmas.Bool.{cases_Bool, eqb-true, lt-ltb}
use Rattle.std.proofs.lemmas.Option.{IfSome_then}
use Rattle.std.specs.Option.{option_map, unwrap_or}
use Rattle.weights.specs.Model.{Model}
use Rattle.weights.specs.Price.{worth}
use Rattle.weights.specs.declared.price.Price.{Price}
use Rattle.rules.specs.Answers.{answered, due}
use Rattle.rules.specs.Layer.{Own, Closed, Keeps, passes, agreed, layer_length, joint, layered, overlaid}
use Rattle.rules.specs.Meaning.{HasMeaning, Fair, Lawful}
use Rattle.rules.specs.Trellis.{Move, Trellis, then, walk}
use Rattle.rules.specs.declared.step.Step.{Step}

-- a layer that has meaning has the length of the rule below
pub agreed_both : (n k : ℕ) → 1 ≤ agreed n k → (agreed n k ≡ k) × (n ≡ k)
agreed_both n k h = elim (cases_Bool (n == k)) [
  | inl e ↦ (ap (λ c. cond c n 0) e ∙ eqb-true n k e, eqb-true n k e)
  | inr e ↦ absurd (let z : agreed n k ≡ 0 = ap (λ c. cond c n 0) e in omega arith)
]

-- so it has its own length too, if it has one
both_lengths : (n : Option ℕ) (k : ℕ) → 1 ≤ layer_length n k → (layer_length n k ≡ k) × IfSome n (λ m. m ≡ k)
both_lengths None k h = (refl, tt)
both_lengths (Some m) k h = agreed_both m k h

and_cond : {X : Type 0} (a b : Bool) (x : X) → cond (a && b) (Some x) None ≡ cond b (cond a (Some x) None) None
and_cond true true x = refl
and_cond true false x = refl
and_cond false true x = refl
and_cond false false x = refl

none_cond : {X : Type 0} (a : Bool) → ◌≡◌ {A = Option X} None (cond a None None)
none_cond true = refl
none_cond false = refl

mapped_cond : {X Y : Type 0} (f : X → Y) (a : Bool) (o : Option X) → option_map f (cond a o None) ≡ cond a (option_map f o) None
mapped_cond f true o = refl
mapped_cond f false o = refl

-- both parts of a move
both_parts : (f : ℕ) (o : Option Move) (q : Option ℕ) (m : Move) → then o (λ u. then q (λ r. Some (joint f u r))) ≡ Some m → (u : Move) × (r : ℕ) × (o ≡ Some u) × (q ≡ Some r) × (joint f u r ≡ m)
both_parts f None q m e = absurd (let z : ◌≡◌ {A = ℕ} 0 1 = cc in omega arith)
both_parts f (Some u) None m e = absurd (let z : ◌≡◌ {A = ℕ} 0 1 = cc in omega arith)
both_parts f (Some u) (Some r) m e = (u, r, refl, refl, cc)

module _ (n : ℕ) (o : Own) (t : Trellis) (closed : Closed o) where
  layer_walk : (bs : List Bool) (i s q : ℕ) → q < o.factor → walk (layered n o t) i (s * o.factor + q) bs ≡ cond (passes o i q bs) (walk t i s bs) None
  layer_walk [] i s q h = rw (div-mul-add s o.factor q h, mod-mul-add s o.factor q h) (and_cond (t.ends s) (o.ends q) [])
  layer_walk (b ∷ bs) i s q h =
      rw (div-mul-add s o.factor q h, mod-mul-add s o.factor q h)
      (go (t.moves i s b) (o.turn i q b) (λ r e u. layer_walk bs (suc i) u.target r (closed.turns i q b r h e)))
    where
      go : (m : Option Move) (r : Option ℕ) → ((k : ℕ) → r ≡ Some k → (u : Move) → walk (layered n o t) (suc i) (u.target * o.factor + k) bs ≡ cond (passes o (suc i) k bs) (walk t (suc i) u.target bs) None)
          → then (then m (λ u. then r (λ k. Some (joint o.factor u k)))) (λ u. option_map (λ ps. u.fees ++ ps) (walk (layered n o t) (suc i) u.target bs))
          ≡ cond (unwrap_or (option_map (λ k. passes o (suc i) k bs) r) false) (then m (λ u. option_map (λ ps. u.fees ++ ps) (walk t (suc i) u.target bs))) None
      go None r ih = none_cond (unwrap_or (option_map (λ k. passes o (suc i) k bs) r) false)
      go (Some u) None ih = refl
      go (Some u) (Some k) ih = ap (option_map (λ ps. u.fees ++ ps)) (ih k refl u) ∙ mapped_cond (λ ps. u.fees ++ ps) (passes o (suc i) k bs) (walk t (suc i) u.target bs)

  module _ (same : n ≡ t.places) (has : HasMeaning (layered n o t)) where
    few : t.states * o.factor ≤ 1024
    few = omega (arith, has.few)

    pub below_has : HasMeaning t
    below_has = record {
      some = omega (arith, has.some);
      short = omega (arith, has.short);
      few = omega (arith, few, mul-le t.states 1 t.states o.factor (omega arith) (omega (arith, closed.begins)), mul-one t.states);
    }

    module _ (adm : List Bool → Bool) (prices : List Bool → List Price) (below : Lawful t adm prices) where
      within : (s q : ℕ) → s < t.states → q < o.factor → s * o.factor + q < t.states * o.factor
      within s q h k = omega (arith, mul-add-lt s o.factor q t.states h k, mul_comm t.states o.factor)

      layer_fair : (i s : ℕ) (b : Bool) (m : Move) → (layered n o t).moves i s b ≡ Some m → Fair (layered n o t) i s m
      layer_fair i s b m e =
          let p = both_parts o.factor (t.moves i (s / o.factor) b) (o.turn i (s % o.factor) b) m e in
          let f = below.fair i (s / o.factor) b p.0 p.2 in
          let l = mod_below s o.factor (omega (arith, closed.begins)) in
          subst (Fair (layered n o t) i s) p.4 (record {
            inside = omega (arith, f.inside);
            known = omega (arith, div-add-mod' s o.factor, within (s / o.factor) (s % o.factor) f.known l, few);
            lands = omega (arith, within p.0.target p.1 f.lands (closed.turns i (s % o.factor) b p.1 l p.3), few);
            cheap = f.cheap;
            range = f.range;
          })

      -- it admits what the rule below admits and its own part lets pass
      pub layer_lawful : (own : List Bool → Bool) → ((bs : List Bool) → length bs ≡ n → passes o 0 o.start bs ≡ own bs) → Lawful (layered n o t) (λ bs. adm bs && own bs) prices
      layer_lawful own says = record {
        begins = omega (arith, within t.start o.start below.begins closed.begins, few);
        fair = layer_fair;
        means = λ bs e.
            layer_walk bs 0 t.start o.start closed.begins
            ∙ ap₂ (λ a w. cond a w None) (says bs e) (below.means bs (e ∙ same))
            ∙ sym (and_cond (adm bs) (own bs) (prices bs));
      }

      -- what the code makes of a step below and a turn is the layer's step
      layer_answers : {V C : Type 0} (model : Model V) (value : C → V) (i s : ℕ) (b : Bool) (r : Option (Step C)) (q : Option ℕ)
          → answered value r ≡ due model (t.moves i (s / o.factor) b) → (i < n → q ≡ o.turn i (s % o.factor) b)
          → answered value (overlaid o.factor r q) ≡ due model ((layered n o t).moves i s b)
      layer_answers {V} {C} model value i s b r q a w = go (t.moves i (s / o.factor) b) refl r a
        where
          last : (u : Move) (p : Step C) (k : Option ℕ) → t.moves i (s / o.factor) b ≡ Some u → ◌≡◌ {A = ℕ × V} (p.next, value p.cost) (u.target, worth model u.fees) → o.turn i (s % o.factor) b ≡ k
              → answered value (overlaid o.factor (Some p) k) ≡ due model (then k (λ x. Some (joint o.factor u x)))
          last u p None m g h = refl
          last u p (Some k) m g h =
              let l = within u.target k (below.fair i (s / o.factor) b u m).lands (closed.turns i (s % o.factor) b k (mod_below s o.factor (omega (arith, closed.begins))) h) in
              let c : u.target ≡ p.next = sym (ap (λ x. x.0) g) in
              let y : nat_lt (p.next * o.factor + k) (2 ^ 64) ≡ true = rw (← c) (lt-ltb (u.target * o.factor + k) (2 ^ 64) (omega (arith, few))) in
              rw y (ap (λ x. Some (x.0 * o.factor + k, x.1)) g)

          go : (m : Option Move) → t.moves i (s / o.factor) b ≡ m → (r : Option (Step C)) → answered value r ≡ due model m
              → answered value (overlaid o.factor r q) ≡ due model (then m (λ u. then (o.turn i (s % o.factor) b) (λ x. Some (joint o.factor u x))))
          go None m None a = refl
          go None m (Some p) a = absurd (let z : ◌≡◌ {A = ℕ} 0 1 = cc in omega arith)
          go (Some u) m None a = absurd (let z : ◌≡◌ {A = ℕ} 0 1 = cc in omega arith)
          go (Some u) m (Some p) a =
              let g : ◌≡◌ {A = ℕ × V} (p.next, value p.cost) (u.target, worth model u.fees) = cc in
              rw (w (omega (arith, (below.fair i (s / o.factor) b u m).inside))) (last u p (o.turn i (s % o.factor) b) m g refl)

-- the same of a layer that keeps its law, with a length of its own or none
module _ (n : Option ℕ) (o : Own) (own : List Bool → Bool) (keeps : Keeps n o own) (t : Trellis) (has : HasMeaning (layered (layer_length n t.places) o t)) where
  both : (layer_length n t.places ≡ t.places) × IfSome n (λ m. m ≡ t.places)
  both = both_lengths n t.places has.some

  pub layered_below : HasMeaning t
  layered_below = below_has (layer_length n t.places) o t keeps.closed both.0 has

  module _ (adm : List Bool → Bool) (prices : List Bool → List Price) (below : Lawful t adm prices) where
    pub layered_lawful : Lawful (layered (layer_length n t.places) o t) (λ bs. adm bs && own bs) prices
    layered_lawful = layer_lawful (layer_length n t.places) o t keeps.closed both.0 has adm prices below own (λ bs e. keeps.means bs (IfSome_then n both.1 (λ m h. e ∙ both.0 ∙ sym h)))

    pub layered_answers : {V C : Type 0} (model : Model V) (value : C → V) (i s : ℕ) (b : Bool) (r : Option (Step C)) (q : Option ℕ)
        → answered value r ≡ due model (t.moves i (s / o.factor) b) → (IfSome n (λ m. i < m) → q ≡ o.turn i (s % o.factor) b)
        → answered value (overlaid o.factor r q) ≡ due model ((layered (layer_length n t.places) o t).moves i s b)
    layered_answers model value i s b r q a w = layer_answers (layer_length n t.places) o t keeps.closed both.0 has adm prices below model value i s b r q a (λ h. w (IfSome_then n both.1 (λ m e. omega (arith, h, both.0, e))))
