-- Cap: no more flips than a number t, which is 0 to 7.
use Rattle.std.specs.Prelude.{ℕ, ◌+◌, Bool, true, false, cond, Some, None, Ok, Err, Option, Result, nat_le, nat_lt}
use Rattle.frames.specs.Faults.{Refusal, plain}
use Rattle.rules.specs.Layer.{Own}

-- The numbers that a cap may be; others are refused.
abbrev pub cap_from : ℕ → Result ℕ Refusal
cap_from t = cond (nat_le t 7) (Ok t) (Err (plain 9))

-- One more flip, or as many as before; barred where they are more than t.
abbrev pub cap_turn : ℕ → ℕ → Bool → Option ℕ
cap_turn t q true = cond (nat_lt q t) (Some (q + 1)) None
cap_turn t q false = Some q

-- The cap's own part counts the flips.
abbrev pub cap_own : ℕ → Own
cap_own t = record { factor = t + 1; start = 0; ends = λ q. true; turn = λ i q b. cap_turn t q b }
