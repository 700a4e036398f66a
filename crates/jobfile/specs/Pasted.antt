-- Bytes that are put into a buffer.
use Rattle.std.specs.Prelude.{ℕ, ◌+◌, List, ◌++◌, length, take, drop}

-- a buffer with bytes put at a place
abbrev pub pasted : ℕ → List ℕ → List ℕ → List ℕ
pasted place bytes before = take place before ++ (bytes ++ drop (place + length bytes) before)
