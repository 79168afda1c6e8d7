-- As many numbers as the arrays hold. Assumes nothing: this is a definition.
use Rattle.std.specs.Prelude.{ℕ, ◌≤◌}

pub record CountsFit (points triangles kept inner table : ℕ) : Type 0 where
  pub points_fit : points ≤ 51
  pub triangles_fit : triangles ≤ 1683
  pub kept_fit : kept ≤ 242
  pub inner_fit : inner ≤ 1683
  pub table_fit : table ≤ 1820
