-- What stands by face code for a job. Assumes nothing: this is a definition.
use Rattle.std.specs.Prelude.{◌≡◌, length}
use Rattle.geometry.specs.Space.{points_in}
use Rattle.laws.specs.Lists.{Lists}
use Rattle.laws.specs.Check.{job}
use Rattle.fillings.specs.Codes.{BoundFlags}
use Rattle.fillings.specs.Tables.{BoundaryCodes}
use Rattle.signs.specs.Rows.{Rows}
use Rattle.candidates.specs.declared.boundary.Faces.{Faces}

pub record FacesOf (l : Lists) (f : Faces) : Type 0 where
  pub signs : Rows (points_in l.points) f.rows
  pub boundary_codes : BoundaryCodes l.triangles f.boundary
  pub bounds : BoundFlags (job l).triangles f.bound
  pub bound_long : length f.bound ≡ 4096
