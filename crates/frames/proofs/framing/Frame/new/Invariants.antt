use Rattle.std.proofs.Common.{◌≡◌, ◌^◌, ◌<◌, map, take, vec_items}
use Rattle.frames.specs.Frames.{bit_for, weight_for, AllNear}
use Rattle.frames.specs.Halves.{digits_of}
use Rattle.frames.proofs.framing.Frame.new.Given as goal

abbrev pub invariant-loop-reading : goal.invariant-loop-reading
invariant-loop-reading l =
    (l.value < 2 ^ l.reading-index)
    × (digits_of l.reading-index l.value ≡ map bit_for (take l.reading-index l.readings))
    × (vec_items l.weights ≡ map weight_for (take l.reading-index l.readings))
    × AllNear (take l.reading-index l.readings) (vec_items l.weights)
