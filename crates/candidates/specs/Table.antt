-- A table of candidates, read as what the theory of fillings speaks of. Assumes nothing: these are definitions.
use Rattle.std.specs.Prelude.{◌≡◌, List, ℕ, ◌/◌, length, take}
use Rattle.geometry.specs.declared.tetrahedron.Four.{Four}
use Rattle.laws.specs.Laws.{fours_in}
use Rattle.laws.specs.Lists.{Lists}
use Rattle.fillings.specs.Tables.{Filed, Whole}
use Rattle.trail.specs.declared.pool.Lists.{Lists as LentLists}
use Rattle.trail.specs.declared.pool.Pool.{Pool}
use Rattle.candidates.specs.declared.boundary.Faces.{Faces}
use Rattle.candidates.specs.declared.table.Candidates.{Candidates}

abbrev pub candidates_of : Candidates → List Four
candidates_of c = fours_in c.m c.fours

abbrev pub FiledIn : Lists → Candidates → Type 0
FiledIn l c = Filed l c.fours c.codes c.qualities c.m

abbrev pub FiledPool : Lists → Pool → Type 0
FiledPool l p = Filed l p.fours.now p.codes.now p.qualities.now p.m

abbrev pub WholeIn : Lists → (q : ℕ) → Candidates → Type 0
WholeIn l q c = Whole l q c.fours c.codes c.qualities c.m

abbrev pub WholePool : Lists → (q : ℕ) → Pool → Type 0
WholePool l q p = Whole l q p.fours.now p.codes.now p.qualities.now p.m

-- the table lent to a search, with what stands by face code
pub record PoolOf (l : LentLists) (f : Faces) (c : Candidates) (p : Pool) : Type 0 where
  pub count : p.m ≡ c.m
  pub fours : p.fours.now ≡ c.fours
  pub codes : p.codes.now ≡ c.codes
  pub qualities : p.qualities.now ≡ c.qualities
  pub boundary : p.boundary.now ≡ take (length l.triangles.now / 3) f.boundary
  pub bound : p.bound.now ≡ f.bound
  pub bound_long : length p.bound.now ≡ 4096
