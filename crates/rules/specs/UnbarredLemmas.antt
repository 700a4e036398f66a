-- Trellises that bar no step inside their length and states.
use Rattle.std.specs.Prelude.{◌≡◌, ℕ, suc, ◌+◌, ◌<◌, ◌≤◌, Bool, true, cond, ◌&&◌, List, [], ◌∷◌, ◌++◌, length, Some, None, nat_lt}
use Rattle.std.proofs.Common.{ap, subst, ◌∙◌, arith}
use Rattle.std.proofs.lemmas.Bool.{and_from, and_parts, lt-ltb, ltb-true}
use Rattle.std.proofs.lemmas.Option.{cond_some}
use Rattle.std.specs.Option.{option_map}
use Rattle.weights.specs.Price.{InRange}
use Rattle.weights.specs.declared.price.Price.{Price}
use Rattle.rules.specs.Meaning.{Fair, Lawful}
use Rattle.rules.specs.Trellis.{Move, Trellis, then, walk}
use Rattle.rules.specs.Unbarred.{unbarred}

pub walk_step : (t : Trellis) (i s : ℕ) (b : Bool) (m : Move) (bs : List Bool) → t.moves i s b ≡ Some m → walk t i s (b ∷ bs) ≡ option_map (λ ps. m.fees ++ ps) (walk t (suc i) m.target bs)
walk_step t i s b m bs e = ap (λ o. then o (λ u. option_map (λ ps. u.fees ++ ps) (walk t (suc i) u.target bs))) e

module _ (n k : ℕ) (move : ℕ → ℕ → Bool → Move) where
  pub unbarred_step : (i s : ℕ) (b : Bool) → i < n → s < k → (unbarred n k move).moves i s b ≡ Some (move i s b)
  unbarred_step i s b h l = ap (λ c. cond c (Some (move i s b)) None) (and_from (nat_lt i n) (nat_lt s k) (lt-ltb i n h) (lt-ltb s k l))

  -- its moves are fair if they lead to its states, for two prices in range
  pub unbarred_fair : ((i s : ℕ) (b : Bool) → (move i s b).target < k) → ((i s : ℕ) (b : Bool) → length (move i s b).fees ≤ 2) → ((i s : ℕ) (b : Bool) → InRange (move i s b).fees)
      → (i s : ℕ) (b : Bool) (m : Move) → (unbarred n k move).moves i s b ≡ Some m → Fair (unbarred n k move) i s m
  unbarred_fair lands cheap range i s b m e =
      let g = cond_some (nat_lt i n && nat_lt s k) (move i s b) m e in
      let h = and_parts (nat_lt i n) (nat_lt s k) g.0 in
      subst (Fair (unbarred n k move) i s) g.1
      (record { inside = ltb-true i n h.0; known = ltb-true s k h.1; lands = lands i s b; cheap = cheap i s b; range = range i s b })

  -- what a walk from a place and a state costs, told place by place
  module _ (lands : (i s : ℕ) (b : Bool) → (move i s b).target < k) (prices : ℕ → ℕ → List Bool → List Price) (none : (i s : ℕ) → [] ≡ prices i s [])
      (more : (i s : ℕ) (b : Bool) (bs : List Bool) → i < n → (move i s b).fees ++ prices (suc i) (move i s b).target bs ≡ prices i s (b ∷ bs)) where
    unbarred_walk : (bs : List Bool) (i s : ℕ) → i + length bs ≡ n → s < k → walk (unbarred n k move) i s bs ≡ Some (prices i s bs)
    unbarred_walk [] i s e l = ap (λ c. cond c (Some []) None) (lt-ltb s k l) ∙ ap Some (none i s)
    unbarred_walk (b ∷ bs) i s e l =
        let h : i < n = omega arith in
        walk_step (unbarred n k move) i s b (move i s b) bs (unbarred_step i s b h l)
        ∙ ap (option_map (λ ps. (move i s b).fees ++ ps)) (unbarred_walk bs (suc i) (move i s b).target (omega arith) (lands i s b))
        ∙ ap Some (more i s b bs h)

    -- they keep the law
    pub unbarred_lawful : 0 < k → ((i s : ℕ) (b : Bool) → length (move i s b).fees ≤ 2) → ((i s : ℕ) (b : Bool) → InRange (move i s b).fees) → Lawful (unbarred n k move) (λ bs. true) (prices 0 0)
    unbarred_lawful some cheap range = record {
      begins = some;
      fair = unbarred_fair lands cheap range;
      means = λ bs e. unbarred_walk bs 0 0 (omega arith) some;
    }
