-- Places of a word, a pattern or a row, as a list of Booleans, place 0 first.
use Rattle.std.specs.Prelude.{ℕ, ◌+◌, Bool, false, cond, not, ◌&&◌, ◌||◌, List, [], ◌∷◌, length, Some, None, Option, ◌==◌}
use Rattle.std.specs.Bool.{beq}

-- place by place, whether the two differ
abbrev pub differences : List Bool → List Bool → List Bool
differences [] ys = []
differences (x ∷ xs) [] = []
differences (x ∷ xs) (y ∷ ys) = not (beq x y) ∷ differences xs ys

-- a word with a pattern's flips made, and the pattern between two words; none where the lengths differ
abbrev pub flipped_by : List Bool → List Bool → Option (List Bool)
flipped_by xs ys = cond (length xs == length ys) (Some (differences xs ys)) None

-- how many places are marked
abbrev pub marks : List Bool → ℕ
marks [] = 0
marks (x ∷ xs) = cond x 1 0 + marks xs

-- how many places are marked in both
abbrev pub overlap : List Bool → List Bool → ℕ
overlap [] ys = 0
overlap (x ∷ xs) [] = 0
overlap (x ∷ xs) (y ∷ ys) = cond (x && y) 1 0 + overlap xs ys

-- the tie order: at the first place where they differ the first has no mark; past its end a list has none
abbrev pub precedes : List Bool → List Bool → Bool
precedes [] [] = false
precedes [] (y ∷ ys) = y || precedes [] ys
precedes (x ∷ xs) [] = false
precedes (x ∷ xs) (y ∷ ys) = cond (beq x y) (precedes xs ys) y
