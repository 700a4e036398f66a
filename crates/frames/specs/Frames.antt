-- The hard word and the weights that readings give.
use Rattle.std.specs.Prelude.{ℕ, Bool, cond, List, [], ◌∷◌, map, length, Some, None, Ok, Err, vec_items, Option, Result}
use Rattle.frames.specs.Cells.{is_good, cell_for}
use Rattle.frames.specs.Faults.{Refusal, plain, telling}
use Rattle.frames.specs.Firsts.{first_failing}
use Rattle.frames.specs.Halves.{is_length}
use Rattle.frames.specs.Near.{NearFor}
use Rattle.frames.specs.Words.{places}
use Rattle.frames.specs.declared.framing.Frame.{Frame}
use Rattle.frames.specs.declared.readings.Reading.{Reading}

-- the hard decision of a reading
abbrev pub bit_for : Reading → Bool
bit_for r = (cell_for r).bit

-- the weight of a reading
abbrev pub weight_for : Reading → ℕ
weight_for r = (cell_for r).weight

-- the hard word and the weights, or the first place that is refused
abbrev pub frame_unless : Option ℕ → List Reading → Result (List Bool × List ℕ) Refusal
frame_unless None rs = Ok (map bit_for rs, map weight_for rs)
frame_unless (Some k) rs = Err (telling 2 k)

-- what readings give: a hard word and weights, or why they give none
abbrev pub frame_of : List Reading → Result (List Bool × List ℕ) Refusal
frame_of rs = cond (is_length (length rs)) (frame_unless (first_failing is_good rs) rs) (Err (plain 1))

-- what a frame holds: the places of its hard word, and the weights
abbrev pub held : Frame → List Bool × List ℕ
held f = (places f.hard.bits, vec_items f.weights)

-- each reading has a weight, and each pair's is near 256 times the exact sum
abbrev pub AllNear : List Reading → List ℕ → Type 0
AllNear [] [] = Unit {0}
AllNear [] (w ∷ ws) = ⊥
AllNear (r ∷ rs) [] = ⊥
AllNear (r ∷ rs) (w ∷ ws) = NearFor r w × AllNear rs ws
