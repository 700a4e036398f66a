-- A layer: states of its own, kept beside those of the rule below.
use Rattle.std.specs.Prelude.{◌≡◌, ℕ, suc, ◌+◌, ◌*◌, ◌/◌, ◌%◌, ◌^◌, ◌<◌, min, Bool, false, cond, ◌&&◌, List, [], ◌∷◌, length, IfSome, Some, None, Option, ◌==◌, nat_lt}
use Rattle.std.specs.Option.{option_map, unwrap_or}
use Rattle.rules.specs.Trellis.{Move, Trellis, then}
use Rattle.rules.specs.declared.step.Step.{Step}

-- A layer's own part: how many states, the one at the start, which are ends, and the next from each place and state, with a flip or without.
pub record Own : Type 0 where
  pub factor : ℕ
  pub start : ℕ
  pub ends : ℕ → Bool
  pub turn : ℕ → ℕ → Bool → Option ℕ

-- Own states stay below the factor.
pub record Closed (o : Own) : Type 0 where
  pub begins : o.start < o.factor
  pub turns : (i q : ℕ) (b : Bool) (r : ℕ) → q < o.factor → o.turn i q b ≡ Some r → r < o.factor

-- Whether the own part lets flips pass, from a place and an own state on.
abbrev pub passes : Own → ℕ → ℕ → List Bool → Bool
passes o i q [] = o.ends q
passes o i q (b ∷ bs) = unwrap_or (option_map (λ r. passes o (suc i) r bs) (o.turn i q b)) false

-- The law of a layer with the length n of its own, or none: its states stay below their number, and the patterns that it admits are those that its turns let pass.
pub record Keeps (n : Option ℕ) (o : Own) (admits : List Bool → Bool) : Type 0 where
  pub closed : Closed o
  pub means : (bs : List Bool) → IfSome n (λ k. length bs ≡ k) → passes o 0 o.start bs ≡ admits bs

-- The number of states told: the product, or 65,535 where that is larger.
abbrev pub product : ℕ → ℕ → ℕ
product s f = min 65535 (s * f)

-- The length of a layer: its own, or 0 where the one below has another.
abbrev pub agreed : ℕ → ℕ → ℕ
agreed own other = cond (own == other) own 0

-- The same where the layer has no length of its own: the one below.
abbrev pub layer_length : Option ℕ → ℕ → ℕ
layer_length None other = other
layer_length (Some own) other = agreed own other

-- A move below and a turn of the layer's own, as one.
abbrev pub joint : ℕ → Move → ℕ → Move
joint f m q = record { target = m.target * f + q; fees = m.fees }

-- A layer of n places over a trellis: its state is the one below times the factor, plus its own.
abbrev pub layered : ℕ → Own → Trellis → Trellis
layered n o t = record {
  places = n;
  states = product t.states o.factor;
  start = t.start * o.factor + o.start;
  ends = λ s. t.ends (s / o.factor) && o.ends (s % o.factor);
  moves = λ i s b. then (t.moves i (s / o.factor) b) (λ m. then (o.turn i (s % o.factor) b) (λ q. Some (joint o.factor m q)));
}

-- The same of answered steps; barred where the state is no number of 64 bits.
abbrev pub overlaid : {C : Type 0} → ℕ → Option (Step C) → Option ℕ → Option (Step C)
overlaid f None q = None
overlaid f (Some s) None = None
overlaid f (Some s) (Some q) = cond (nat_lt (s.next * f + q) (2 ^ 64)) (Some (record { next = s.next * f + q; cost = s.cost })) None
