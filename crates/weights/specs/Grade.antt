-- How many prices a value is the sum of, and which values and sums are promised.
use Rattle.std.specs.Prelude.{ℕ, ◌+◌, ◌<◌, ◌≤◌}
use Rattle.weights.specs.Model.{Model}

-- Zero has grade 0, a price grade 1, and a sum the grades of its parts added. A value may have several grades.
pub data Graded {V : Type 0} (m : Model V) : ℕ → V → Type 0 where
  nothing : Graded m 0 m.zero
  flipped : (w : ℕ) → w < 65536 → Graded m 1 (m.flip w)
  charged : (p : ℕ) → p < 65536 → Graded m 1 (m.surcharge p)
  sum : {g h : ℕ} {a b : V} → Graded m g a → Graded m h b → Graded m (g + h) (m.plus a b)

-- A promised value: it has a grade of at most 256.
pub record Promised {V : Type 0} (m : Model V) (a : V) : Type 0 where
  pub grade : ℕ
  pub graded : Graded m grade a
  pub small : grade ≤ 256

-- A promised sum: its parts have grades of at most 256 together.
pub record Addable {V : Type 0} (m : Model V) (a b : V) : Type 0 where
  pub left_grade : ℕ
  pub right_grade : ℕ
  pub left : Graded m left_grade a
  pub right : Graded m right_grade b
  pub small : left_grade + right_grade ≤ 256
